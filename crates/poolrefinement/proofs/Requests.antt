-- A request on the words is the model's: pop, push, a block back to the heap, a free that is refused.
use Rattle.facts.proofs.Prelude.{ℕ, zero, suc, ◌+◌, ◌-◌, ◌*◌, ◌≤◌, ◌<◌, arith, Bool, true, false, cond, true≢false, List, [], ◌∷◌, none, ◌≡◌, refl, sym, ap, ◌∙◌, subst, eqb, ltb}
use Rattle.facts.proofs.Prelude.{length, get_or, ltb-true, eq-eqb, ne_eqb, eqb-true, eqb-false, le-leb, leb-true, not-false, elem, update, total, by_cases, and_left}
use Rattle.words.specs.Host.{bad_host}
use Rattle.words.specs.Word.{block_word, granule_of, kind_of}
use Rattle.classes.specs.declared.Shape.{Shape}
use Rattle.classes.specs.Shape.{shape_of, class_count, pool_id}
use Rattle.classes.proofs.Shapes.{shape-sound}
use Rattle.fields.specs.Ranges.{max_pages}
use Rattle.fields.specs.Field.{words}
use Rattle.fields.proofs.Changes.{changes_trans}
use Rattle.model.specs.Calls as Calls
use Rattle.model.specs.Calls.{Answer, is_refused, give_back, pooled_release}
use Rattle.model.specs.Class.{Class}
use Rattle.model.specs.Release.{of_kind, out_here}
use Rattle.model.specs.Heap.{Heap, Outcome, step}
use Rattle.model.specs.Entries.{Entry}
use Rattle.model.specs.Yields.{Listed}
use Rattle.model.proofs.EntryCounts.{is}
use Rattle.model.proofs.Counts.{elem-count, count-not}
use Rattle.calls.specs.Out.{out_at}
use Rattle.calls.specs.Release.{Released, release_blocks}
use Rattle.refinement.proofs.ArenaHolders.{pooled_class}
use Rattle.refinement.specs.way.Represents.{Represents}
use Rattle.refinement.specs.Direct.{Agrees}
use Rattle.refinement.specs.Releases.{list_reply}
use Rattle.refinement.proofs.ArenaReached.{Reached}
use Rattle.refinement.proofs.Book.{setting_of}
use Rattle.refinement.proofs.Found.{out-here}
use Rattle.refinement.proofs.ReleaseWhole.{release-whole}
use Rattle.pool.specs.Stock.{count_max, stock_most}
use Rattle.pool.specs.Pool.{Pool, alloc, free, trim, stays, goes, carry, ends, first_of, is_granted, plan_free, refused, granted, no_block, freed}
use Rattle.pool.proofs.Most.{most-count}
use Rattle.pool.proofs.Apart.{out-apart, out-inside, out-word}
use Rattle.pool.proofs.Kept.{PoolInv, grant-one}
use Rattle.pool.proofs.HeapCalls.{step-give}
use Rattle.pool.proofs.Frees.{gives}
use Rattle.poolcalls.specs.Stock.{count_at, count_in, entry_in, block_in, stock_from, stocked, put, put_count, pushed}
use Rattle.poolcalls.specs.Calls.{pool_reply, count_valid, top_valid, alloc_on, released_on, freed_on, free_on, trim_on}
use Rattle.poolcalls.proofs.Laws.{in_stock}
use Rattle.poolrefinement.specs.way.Represents.{StockRep, PoolRep, PoolAgrees}
use Rattle.poolcalls.specs.way.HeapWords.{heap_word}
use Rattle.poolrefinement.proofs.Frame.{class-frame, represents-still}
use Rattle.poolrefinement.proofs.Stocks.{stocked-is, stock-still, count_word, changes-count, changes-put, counted-other, Top, top_of, pop-own, push-own, push-other}

pub kind-word : (q w : ℕ) → of_kind q w ≡ true → w ≡ block_word q (granule_of w)
unfolding of_kind
kind-word q w e = let z = eqb-true (kind_of w) q e in omega arith

-- an entry's word has its granule; c is the class's number
pub granule_of_lem : (n c x : ℕ) → n ≤ max_pages → x + (shape_of (pool_id c)).block ≤ 4096 * n → granule_of (block_word (shape_of (pool_id c)).kind x) ≡ x
granule_of_lem n c x hn h = omega (arith, (shape-sound (pool_id c)).wide)

pub same_number : (c d : ℕ) → pool_id c ≡ pool_id d → c ≡ d
same_number c d e = omega arith

in_stock_if : (sh : Shape) (s : Class) (st : List ℕ) (w : ℕ) → is_granted sh s st w ≡ false → out_here sh s w ≡ true → elem w st ≡ true
unfolding is_granted
in_stock_if sh s st w g o = not-false (elem w st) (rw o at g)

pub stocks-with : (n : ℕ) (b : List ℕ) (f : ℕ → List ℕ) (c : ℕ) (st : List ℕ) → StockRep n b c st → ((d : ℕ) → ltb d class_count ≡ true → eqb d c ≡ false → StockRep n b d (f d))
    → (d : ℕ) → ltb d class_count ≡ true → StockRep n b d (update f c st d)
stocks-with n b f c st own others d hd =
    by_cases (eqb d c) (λ e. rw e (subst (λ j. StockRep n b j st) (sym (eqb-true d c e)) own)) (λ e. rw e (others d hd e))

pub code-zero : (j : ℕ) (x a : Answer) → cond (eqb j 0) x (Calls.refused j) ≡ a → is_refused a ≡ false → eqb j 0 ≡ true
code-zero j x a e u = by_cases (eqb j 0) (λ t. t) (λ t. let z : Calls.refused j ≡ a = rw t at e in absurd (true≢false (ap is_refused z ∙ u)))

count_same : (b b' : List ℕ) (c : ℕ) → ltb c class_count ≡ true → ((i : ℕ) → heap_word i ≡ false → get_or b' i 0 ≡ get_or b i 0) → count_in b' c ≡ count_in b c
unfolding count_in
count_same b b' c hc h = h (count_at c) (count_word c hc)

module _ (n : ℕ) (hn : n ≤ max_pages) (P : Pool) (b : List ℕ) (R : PoolRep n b P) (ok : Reached n P.heap) (listed : (c : ℕ) → Listed (shape_of c) (P.heap.classes c))
    (m k : ℕ) (es gs : List Entry) (f : ℕ → Bool) (l : ℕ → ℕ) (K : PoolInv n m k P es gs f l) (c : ℕ) (hc : ltb c class_count ≡ true) where
  abbrev H : Heap
  H = P.heap

  abbrev st : List ℕ
  st = P.stock c

  long : words n ≤ length b
  long = leb-true (words n) (length b) R.heap.arena.long

  rep : StockRep n b c st
  rep = R.stocks c hc

  count-valid : count_valid b c ≡ true
  unfolding count_valid
  count-valid = le-leb (count_in b c) count_max rep.few

  -- ---- the top
  module _ (w : ℕ) (ws : List ℕ) (e : st ≡ w ∷ ws) where
    top : Top b c w ws
    top = top_of n b c w ws (subst (StockRep n b c) e rep)

    top-valid : top_valid n b c ≡ true
    unfolding top_valid
    top-valid =
        let t = top in
        let z : count_in b c - 1 ≡ t.left = omega (arith, t.count) in
        rw (R.heap.arena.format, count-valid, z) (le-leb (entry_in b c t.left + (shape_of (pool_id c)).block) (4096 * n) (rep.low t.left (omega (arith, t.count))))

    some-count : eqb (count_in b c) 0 ≡ false
    some-count = ne_eqb (count_in b c) 0 (λ z. omega (arith, top.count))

    top-word : block_in b c (count_in b c - 1) ≡ w
    top-word = let t = top in ap (block_in b c) (omega (arith, t.count)) ∙ t.top

    pub popped-agrees : (h : ℕ) → PoolAgrees n (alloc_on n b c h) (carry n P c (alloc h) (stays (granted w) ws))
    unfolding alloc_on carry
    popped-agrees h =
        let b' = put_count b c (count_in b c - 1) in
        rw (some-count, top-valid)
        (record {
          answer = ap granted top-word;
          pool = record {
            heap = represents-still n b H R.heap ok b' (changes-count b c (count_in b c - 1) hc);
            stocks = stocks-with n b' P.stock c ws (pop-own n b long c hc w ws (subst (StockRep n b c) e rep)) (λ d hd ne. counted-other n b c hc (count_in b c - 1) d (P.stock d) ne (R.stocks d hd));
          };
        })

  -- ---- a grant
  module _ (h w : ℕ) (kd : of_kind (shape_of (pool_id c)).kind w ≡ true) (g : is_granted (shape_of (pool_id c)) (H.classes (pool_id c)) st w ≡ true) where
    one : total (is (pool_id c) w) es ≡ 1
    one = (grant-one n m k P es gs f l K c hc w g).0

    low : granule_of w + (shape_of (pool_id c)).block ≤ 4096 * n
    low = out-inside n hn m k P es gs f l K (pool_id c) w (omega (arith, one))

    word : w ≡ block_word (shape_of (pool_id c)).kind (granule_of w)
    word = out-word n hn m k P es gs f l K (pool_id c) w (omega (arith, one))

    not_in : elem (block_word (shape_of (pool_id c)).kind (granule_of w)) st ≡ false
    not_in = subst (λ v. elem v st ≡ false) word (count-not w st (grant-one n m k P es gs f l K c hc w g).2)

    pub not-stocked : stocked b c (granule_of w) ≡ false
    not-stocked = stocked-is n b c (granule_of w) st rep ∙ not_in

    pub out_test : out_at n b (pool_id c) (shape_of (pool_id c)) w ≡ true
    unfolding is_granted
    out_test = out-here (setting_of n b H R.heap (pool_id c) (pooled_class c hc)) hn (H.classes (pool_id c)) (R.heap.classes (pool_id c) (pooled_class c hc)) w kd ∙ and_left (out_here (shape_of (pool_id c)) (H.classes (pool_id c)) w) _ g

    -- no other class has a block at this granule
    far : (d : ℕ) → ltb d class_count ≡ true → eqb d c ≡ false → (j : ℕ) → j < count_in b d → entry_in b d j ≡ granule_of w → ⊥
    far d hd ne j lt e =
        let r = R.stocks d hd in
        let v = block_in b d j in
        let x : elem v (P.stock d) ≡ true = subst (λ s. elem v s ≡ true) r.same (in_stock b d (entry_in b d j) (count_in b d) j lt refl) in
        let here = elem-count v (P.stock d) x in
        eqb-false d c ne
        (same_number d c
        (sym (out-apart n hn m k P es gs f l K (pool_id c) w (pool_id d) v (omega (arith, one)) (omega (arith, K.split d v)) (sym e ∙ sym (granule_of_lem n d (entry_in b d j) hn (r.low j lt)))).0))

    pub put-agrees : ltb (count_in b c) (stock_most c) ≡ true → PoolAgrees n (free_on n b c h w) (carry n P c (free h w) (stays freed (w ∷ st)))
    unfolding free_on freed_on carry
    put-agrees less =
        let hk : count_in b c < count_max = omega (arith, ltb-true (count_in b c) (stock_most c) less, most-count c) in
        let b₁ = put b c (count_in b c) (granule_of w) in
        let b₂ = pushed b c (granule_of w) in
        rw (kd, out_test, not-stocked, less, R.heap.arena.format)
        (record {
          answer = refl;
          pool = record {
            heap = represents-still n b H R.heap ok b₂ (changes_trans (λ f. false) b b₁ b₂ (changes-put b c (count_in b c) (granule_of w) hc (omega arith)) (changes-count b₁ c (suc (count_in b c)) hc));
            stocks = stocks-with n b₂ P.stock c (w ∷ st) (subst (λ v. StockRep n b₂ c (v ∷ st)) (sym word) (push-own n b long c hc (granule_of w) low hk st rep not_in))
                (λ d hd ne. push-other n b long c hc (granule_of w) low hk d hd ne (P.stock d) (R.stocks d hd) (far d hd ne));
          };
        })

  -- ---- a block back to the heap
  module _ (h w : ℕ) (fine : bad_host h ≡ false) (out : 1 ≤ total (is (pool_id c) w) es) where
    abbrev z : Released
    z = release_blocks n b (pool_id c) (shape_of (pool_id c)) h (w ∷ [])

    abbrev o : Outcome
    o = step n H (pooled_release c h (w ∷ []))

    agrees : Agrees (Represents n) (list_reply z) o
    agrees = rw (step-give n H c h (w ∷ []) fine hc) (release-whole n hn b H R.heap ok (pool_id c) (pooled_class c hc) h (w ∷ []))

    fine-answer : is_refused o.answer ≡ false
    fine-answer = gives n hn m k P es gs f l K c w h fine hc out

    zero-code : eqb z.code 0 ≡ true
    zero-code = code-zero z.code _ o.answer agrees.answer fine-answer

    frame : (i : ℕ) → heap_word i ≡ false → get_or z.book i 0 ≡ get_or b i 0
    frame i e = class-frame n hn b H R.heap ok (pool_id c) (listed (pool_id c)) (give_back h (w ∷ [])) (pooled_class c hc) i e

    beside : (d : ℕ) → ltb d class_count ≡ true → StockRep n z.book d (P.stock d)
    beside d hd = stock-still n b z.book d (P.stock d) hd frame (R.stocks d hd)

    pub given-agrees : of_kind (shape_of (pool_id c)).kind w ≡ true → is_granted (shape_of (pool_id c)) (H.classes (pool_id c)) st w ≡ true → ltb (count_in b c) (stock_most c) ≡ false
        → PoolAgrees n (free_on n b c h w) (carry n P c (free h w) (goes (pooled_release c h (w ∷ [])) st))
    unfolding free_on freed_on carry released_on ends
    given-agrees kd g full =
        rw (kd, out_test h w kd g, not-stocked h w kd g, full, count-valid, zero-code, fine-answer)
        (record { answer = refl; pool = record { heap = agrees.heap; stocks = stocks-with n z.book P.stock c st (beside c hc) (λ d hd ne. beside d hd) } })

    pub trimmed-agrees : Reached n o.heap → (ws : List ℕ) → st ≡ w ∷ ws → PoolAgrees n (trim_on n b c h) (carry n P c (trim h) (goes (pooled_release c h (w ∷ [])) ws))
    unfolding trim_on carry released_on ends
    trimmed-agrees reach ws e =
        let d₀ = z.book in
        let b' = put_count d₀ c (count_in b c - 1) in
        let cnt = count_same b d₀ c hc frame in
        let long' : words n ≤ length d₀ = leb-true (words n) (length d₀) agrees.heap.arena.long in
        rw (some-count w ws e, top-valid w ws e, top-word w ws e, zero-code, fine-answer)
        (record {
          answer = sym (ap first_of e);
          pool = record {
            heap = represents-still n d₀ o.heap agrees.heap reach b' (changes-count d₀ c (count_in b c - 1) hc);
            stocks = stocks-with n b' P.stock c ws
                (subst (λ j. StockRep n (put_count d₀ c (j - 1)) c ws) cnt (pop-own n d₀ long' c hc w ws (subst (StockRep n d₀ c) e (beside c hc))))
                (λ d hd ne. counted-other n d₀ c hc (count_in b c - 1) d (P.stock d) ne (beside d hd));
          };
        })

  -- ---- an empty stock
  pub none-count : st ≡ [] → count_in b c ≡ 0
  none-count e = go (count_in b c) refl (rep.same ∙ e)
    where
      go : (j : ℕ) → count_in b c ≡ j → stock_from b c j ≡ [] → count_in b c ≡ 0
      go zero p q = p
      go (suc j) p q = let z : ◌≡◌ {A = ℕ} 0 1 = cc in absurd (omega arith)

  pub bare-agrees : (h : ℕ) → st ≡ [] → PoolAgrees n (trim_on n b c h) (carry n P c (trim h) (stays no_block []))
  unfolding trim_on carry
  bare-agrees h e =
      rw (eq-eqb (count_in b c) 0 (none-count e), R.heap.arena.format)
      (record { answer = refl; pool = record { heap = R.heap; stocks = stocks-with n b P.stock c [] (subst (StockRep n b c) e rep) (λ d hd ne. R.stocks d hd) } })

  -- ---- a free that is refused
  abbrev Refuses : ℕ → ℕ → Type 0
  Refuses h w = PoolAgrees n (free_on n b c h w) (carry n P c (free h w) (plan_free c (H.classes (pool_id c)) st h w))

  still : (j : ℕ) → PoolAgrees n (pool_reply (refused j) b) (record { pool = P; answer = refused j; calls = []; run = none })
  still j = record { answer = refl; pool = R }

  pub kind-refused : (h w : ℕ) → of_kind (shape_of (pool_id c)).kind w ≡ false → Refuses h w
  unfolding free_on carry plan_free
  kind-refused h w kd = rw kd (still 9)

  in_it : (w : ℕ) → of_kind (shape_of (pool_id c)).kind w ≡ true → is_granted (shape_of (pool_id c)) (H.classes (pool_id c)) st w ≡ false → out_at n b (pool_id c) (shape_of (pool_id c)) w ≡ true → stocked b c (granule_of w) ≡ true
  in_it w kd g o =
      stocked-is n b c (granule_of w) st rep ∙ subst (λ v. elem v st ≡ true) (kind-word (shape_of (pool_id c)).kind w kd)
      (in_stock_if (shape_of (pool_id c)) (H.classes (pool_id c)) st w g (sym (out-here (setting_of n b H R.heap (pool_id c) (pooled_class c hc)) hn (H.classes (pool_id c)) (R.heap.classes (pool_id c) (pooled_class c hc)) w kd) ∙ o))

  pub grant-refused : (h w : ℕ) → of_kind (shape_of (pool_id c)).kind w ≡ true → is_granted (shape_of (pool_id c)) (H.classes (pool_id c)) st w ≡ false → Refuses h w
  unfolding free_on carry plan_free
  grant-refused h w kd g =
      rw (kd, g)
      (by_cases (out_at n b (pool_id c) (shape_of (pool_id c)) w)
      (λ o. rw (o, in_it w kd g o) (still 10))
      (λ o. rw o (still 10)))
