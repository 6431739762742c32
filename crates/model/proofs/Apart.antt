-- Entries not yet released share no byte, with each other or with a page held by the direct calls.
use Rattle.facts.proofs.Prelude.{ℕ, zero, suc, ◌+◌, ◌-◌, ◌*◌, ◌/◌, ◌≤◌, ◌<◌, arith, zero-add, mul-le-mul_right, Bool, List, [], ◌∷◌, ◌++◌, ◌⊎◌, inl, inr, ◌≡◌}
use Rattle.facts.proofs.Prelude.{refl, sym, ap, ◌∙◌, subst, eqb, leb, ltb, leb-true, leb-false, ltb-true, ltb-false, eqb-true, eq-eqb, All, total, count, by_cases}
use Rattle.words.specs.Limits.{max_pages}
use Rattle.words.specs.Word.{granule_of, kind_of}
use Rattle.classes.specs.declared.Shape.{Shape}
use Rattle.classes.specs.Shape.{shape_of}
use Rattle.classes.specs.Sizes.{granule_bytes, page_bytes}
use Rattle.classes.specs.way.Sound.{Sound}
use Rattle.classes.proofs.Shapes.{shape-sound}
use Rattle.rules.specs.Rules.{Rules}
use Rattle.model.specs.Calls.{Call}
use Rattle.model.specs.Page.{Page, word_of, words_from, page_granules, carved_words}
use Rattle.model.specs.Heap.{Heap}
use Rattle.model.specs.History.{events, heap_after}
use Rattle.model.specs.Entries.{Entry, HasByte, In, Live, first_byte, block_bytes}
use Rattle.model.specs.Ledger.{held_by}
use Rattle.model.specs.Demands.{Disjoint, IsoDisjoint}
use Rattle.model.proofs.Counts.{total-append}
use Rattle.model.proofs.ArenaLaws.{above_at, covers_in}
use Rattle.model.proofs.Pages.{all_append, out_of, on, GoodPage, words-once}
use Rattle.model.proofs.Fold.{live_from, live_in}
use Rattle.model.proofs.EntryCounts.{is, at, is_self, in_total}
use Rattle.model.proofs.Accounts.{held-le, held_two, not-direct}
use Rattle.model.proofs.HeapLaws.{Inv, kept}

-- a counted word is the word of a block below
pub which : (sh : Shape) (q k w : ℕ) → 1 ≤ count w (words_from sh q 0 k) → (i : ℕ) × (i < k) × (w ≡ word_of sh q i)
which sh q zero w h = absurd (omega arith)
which sh q (suc k) w h =
    by_cases (eqb w (word_of sh q (0 + k)))
    (λ e. (k, omega arith, rw zero-add at (eqb-true w (word_of sh q (0 + k)) e)))
    (λ e. let z : 1 ≤ 0 + count w (words_from sh q 0 k) = rw e at h in
    let r = which sh q k w (omega arith) in (r.0, omega (arith, r.1), r.2))

module _ (sh : Shape) (ok : Sound sh) where
  -- the block with word w stands on page p; byte b is one of the block's
  record Sits (p : Page) (w : ℕ) : Type 0 where
    index : ℕ
    inside : index < sh.capacity
    names : w ≡ word_of sh p.first index

  record Bytes (w b : ℕ) : Type 0 where
    from : granule_of w * granule_bytes ≤ b
    to : b < granule_of w * granule_bytes + sh.block * granule_bytes

  out_sits : (p : Page) (w : ℕ) → GoodPage sh p → 1 ≤ out_of sh w p → Sits p w
  unfolding carved_words
  out_sits p w good h =
      let r = which sh p.first p.carved w (omega arith) in
      record { index = r.0; inside = omega (arith, r.1, good.within); names = r.2 }

  module _ (p : Page) (w : ℕ) (low : p.first + sh.pages ≤ max_pages) (s : Sits p w) where
    ends : sh.header + (s.index * sh.block + sh.block) ≤ sh.pages * page_granules
    ends = omega (arith, mul-le-mul_right sh.block s.inside, ok.fits)

    granule : granule_of w ≡ p.first * page_granules + (sh.header + s.index * sh.block)
    unfolding word_of
    granule = omega (arith, s.names, ends, ok.wide)

    kind : kind_of w ≡ sh.kind
    unfolding word_of
    kind = omega (arith, s.names, ends, ok.wide)

    on-page : (b : ℕ) → Bytes w b → on sh (b / page_bytes) p ≡ 1
    on-page b h = covers_in sh.pages p.first (b / page_bytes) (omega (arith, granule, h.from)) (omega (arith, granule, ends, h.to))

  one_word : (p : Page) (w v b : ℕ) → p.first + sh.pages ≤ max_pages → Sits p w → Sits p v → Bytes w b → Bytes v b → w ≡ v
  one_word p w v b low s t hw hv =
      let gw = granule p w low s in
      let gv = granule p v low t in
      let same : s.index ≡ t.index =
      by_cases (ltb s.index t.index)
      (λ e. absurd (omega (arith, mul-le-mul_right sh.block (ltb-true s.index t.index e), hw.from, hw.to, hv.from, hv.to)))
      (λ e. by_cases (ltb t.index s.index)
      (λ d. absurd (omega (arith, mul-le-mul_right sh.block (ltb-true t.index s.index d), hw.from, hw.to, hv.from, hv.to)))
      (λ d. omega (arith, ltb-false s.index t.index e, ltb-false t.index s.index d))) in
      s.names ∙ ap (word_of sh p.first) same ∙ sym t.names

  -- over all pages with blocks out
  abbrev InPages : List Page → ℕ → Type 0
  InPages [] w = ⊥
  InPages (p ∷ ps) w = Sits p w ⊎ InPages ps w

  outs_sit : (ps : List Page) (w : ℕ) → All (GoodPage sh) ps → 1 ≤ total (out_of sh w) ps → InPages ps w
  outs_sit [] w good h = absurd (omega arith)
  outs_sit (p ∷ ps) w good h =
      by_cases (leb 1 (out_of sh w p))
      (λ e. inl (out_sits p w good.0 (leb-true 1 (out_of sh w p) e)))
      (λ e. inr (outs_sit ps w good.1 (omega (arith, leb-false 1 (out_of sh w p) e))))

  -- the pages stand in an arena of this length
  module _ (size : ℕ) (small : size ≤ max_pages) where
    abbrev Low : List Page → Type 0
    Low ps = (y : ℕ) → 1 ≤ total (on sh y) ps → y < size

    low-page : (p : Page) (ps : List Page) → Low (p ∷ ps) → p.first + sh.pages ≤ size
    low-page p ps low =
        let y = p.first + sh.pages - 1 in
        omega (arith, ok.paged, low y (omega (arith, ok.paged, covers_in sh.pages p.first y (omega (arith, ok.paged)) (omega (arith, ok.paged)))))

    low-rest : (p : Page) (ps : List Page) → Low (p ∷ ps) → Low ps
    low-rest p ps low y h = low y (omega arith)

    abbrev low : (p : Page) (ps : List Page) → Low (p ∷ ps) → p.first + sh.pages ≤ max_pages
    low p ps k = omega (arith, low-page p ps k)

    covered : (ps : List Page) (w b : ℕ) → Low ps → InPages ps w → Bytes w b → 1 ≤ total (on sh (b / page_bytes)) ps
    covered [] w b k s h = absurd s
    covered (p ∷ ps) w b k (inl s) h = omega (arith, on-page p w (low p ps k) s b h)
    covered (p ∷ ps) w b k (inr s) h = omega (arith, covered ps w b (low-rest p ps k) s h)

    -- a block's last byte too
    inside : (ps : List Page) (w : ℕ) → Low ps → InPages ps w → granule_of w * granule_bytes + sh.block * granule_bytes ≤ size * page_bytes
    inside [] w k s = absurd s
    inside (p ∷ ps) w k (inl s) = omega (arith, low-page p ps k, granule p w (low p ps k) s, ends p w (low p ps k) s)
    inside (p ∷ ps) w k (inr s) = inside ps w (low-rest p ps k) s

    kinds : (ps : List Page) (w : ℕ) → Low ps → InPages ps w → kind_of w ≡ sh.kind
    kinds [] w k s = absurd s
    kinds (p ∷ ps) w k (inl s) = kind p w (low p ps k) s
    kinds (p ∷ ps) w k (inr s) = kinds ps w (low-rest p ps k) s

    same_word : (ps : List Page) (w v b : ℕ) → Low ps → total (on sh (b / page_bytes)) ps ≤ 1 → InPages ps w → InPages ps v → Bytes w b → Bytes v b → w ≡ v
    same_word [] w v b k one s t hw hv = absurd s
    same_word (p ∷ ps) w v b k one (inl s) (inl t) hw hv = one_word p w v b (low p ps k) s t hw hv
    same_word (p ∷ ps) w v b k one (inl s) (inr t) hw hv = absurd (omega (arith, on-page p w (low p ps k) s b hw, covered ps v b (low-rest p ps k) t hv))
    same_word (p ∷ ps) w v b k one (inr s) (inl t) hw hv = absurd (omega (arith, on-page p v (low p ps k) t b hv, covered ps w b (low-rest p ps k) s hw))
    same_word (p ∷ ps) w v b k one (inr s) (inr t) hw hv = same_word ps w v b (low-rest p ps k) (omega arith) s t hw hv

    first_byte_lem : (w : ℕ) → Bytes w (granule_of w * granule_bytes)
    first_byte_lem w = record { from = omega arith; to = omega (arith, ok.wide) }

    out_once : (ps : List Page) (w : ℕ) → All (GoodPage sh) ps → Low ps → ((x : ℕ) → total (on sh x) ps ≤ 1) → total (out_of sh w) ps ≤ 1
    unfolding carved_words
    out_once [] w good k one = omega arith
    out_once (p ∷ ps) w good k one =
        let ih = out_once ps w good.1 (low-rest p ps k) (λ x. omega (arith, one x)) in
        let b = granule_of w * granule_bytes in
        by_cases (leb 1 (out_of sh w p))
        (λ e. by_cases (leb 1 (total (out_of sh w) ps))
        (λ d. absurd (omega (
          arith,
          one (b / page_bytes),
          on-page p w (low p ps k) (out_sits p w good.0 (leb-true 1 (out_of sh w p) e)) b (first_byte_lem w),
          covered ps w b (low-rest p ps k) (outs_sit ps w good.1 (leb-true 1 (total (out_of sh w) ps) d)) (first_byte_lem w),
        )))
        (λ d. omega (arith, leb-false 1 (total (out_of sh w) ps) d, words-once sh ok p.first p.carved w)))
        (λ e. omega (arith, leb-false 1 (out_of sh w p) e))

-- one element of a measure's total of at most one
module _ (f : Entry → ℕ) where
  pub in_one : (a b : Entry) (l : List Entry) → In a l → In b l → total f l ≤ 1 → 1 ≤ f a → 1 ≤ f b → a ≡ b
  in_one a b [] m k one p q = absurd m
  in_one a b (x ∷ l) (inl m) (inl k) one p q = m ∙ sym k
  in_one a b (x ∷ l) (inl m) (inr k) one p q = absurd (omega (arith, ap f m, in_total f b l k))
  in_one a b (x ∷ l) (inr m) (inl k) one p q = absurd (omega (arith, ap f k, in_total f a l m))
  in_one a b (x ∷ l) (inr m) (inr k) one p q = in_one a b l m k (omega arith) p q

pub at_self : (e : Entry) → at e.call e.place e ≡ 1
at_self e = rw (eq-eqb e.call e.call refl, eq-eqb e.place e.place refl)

module _ (size n : ℕ) (H : Heap) (es : List Entry) (f : ℕ → Bool) (l : ℕ → ℕ) (inv : Inv size n H es f l) (small : size ≤ max_pages) where
  -- the pages of class c with blocks out
  abbrev pages_of : ℕ → List Page
  pages_of c = (H.classes c).partial ++ (H.classes c).full

  held-runs : (c x : ℕ) → total (on (shape_of c) x) (pages_of c) ≤ held_by c (H.holder x)
  held-runs c x = rw total-append (omega (arith, inv.mine c x))

  one-run : (c x : ℕ) → total (on (shape_of c) x) (pages_of c) ≤ 1
  one-run c x = omega (arith, held-runs c x, held-le c (H.holder x), inv.one x)

  all-low : (c : ℕ) → Low (shape_of c) (shape-sound c) size small (pages_of c)
  all-low c y h =
      by_cases (ltb y H.arena.frontier)
      (λ e. omega (arith, ltb-true y H.arena.frontier e, inv.bound))
      (λ e. absurd (omega (arith, held-runs c y, held-le c (H.holder y), inv.one y, above_at H.arena.frontier y (ltb-false y H.arena.frontier e))))

  all-good : (c : ℕ) → All (GoodPage (shape_of c)) (pages_of c)
  all-good c = all_append (GoodPage (shape_of c)) (H.classes c).partial (H.classes c).full (inv.good c).partial (inv.good c).full

  entry_sits : (e : Entry) → In e es → InPages (shape_of e.class) (shape-sound e.class) (pages_of e.class) e.word
  entry_sits e m =
      outs_sit (shape_of e.class) (shape-sound e.class) (pages_of e.class) e.word (all-good e.class)
      (rw total-append (omega (arith, inv.outs e.class e.word, in_total (is e.class e.word) e es m, is_self e)))

  bytes : (e : Entry) (b : ℕ) → HasByte e b → Bytes (shape_of e.class) (shape-sound e.class) e.word b
  bytes e b h = record { from = omega (arith, h.from); to = omega (arith, h.to) }

  pub entry-held : (e : Entry) → In e es → (b : ℕ) → HasByte e b → 1 ≤ held_by e.class (H.holder (b / page_bytes))
  entry-held e m b h =
      omega (
        arith,
        held-runs e.class (b / page_bytes),
        covered (shape_of e.class) (shape-sound e.class) size small (pages_of e.class) e.word b (all-low e.class) (entry_sits e m) (bytes e b h),
      )

  pub entry-inside : (e : Entry) → In e es → first_byte e + block_bytes e ≤ size * page_bytes
  entry-inside e m = inside (shape_of e.class) (shape-sound e.class) size small (pages_of e.class) e.word (all-low e.class) (entry_sits e m)

  pub entry-kind : (e : Entry) → In e es → kind_of e.word ≡ (shape_of e.class).kind
  entry-kind e m = kinds (shape_of e.class) (shape-sound e.class) size small (pages_of e.class) e.word (all-low e.class) (entry_sits e m)

  pub class_same : (e e' : Entry) → In e es → In e' es → (b : ℕ) → HasByte e b → HasByte e' b → e.class ≡ e'.class
  class_same e e' m m' b h h' =
      by_cases (eqb e.class e'.class)
      (λ d. eqb-true e.class e'.class d)
      (λ d. absurd (omega (arith, entry-held e m b h, entry-held e' m' b h', held_two e'.class e.class (H.holder (b / page_bytes)) d, inv.one (b / page_bytes))))

  pub word_same : (e e' : Entry) → In e es → In e' es → (b : ℕ) → HasByte e b → HasByte e' b → e.word ≡ e'.word
  word_same e e' m m' b h h' =
      let k = class_same e e' m m' b h h' in
      same_word (shape_of e.class) (shape-sound e.class) size small (pages_of e.class) e.word e'.word b (all-low e.class) (one-run e.class (b / page_bytes))
      (entry_sits e m)
      (subst (λ c. InPages (shape_of c) (shape-sound c) (pages_of c) e'.word) (sym k) (entry_sits e' m'))
      (bytes e b h)
      (subst (λ c. Bytes (shape_of c) (shape-sound c) e'.word b) (sym k) (bytes e' b h'))

  entry-same : (e e' : Entry) → In e es → In e' es → (b : ℕ) → HasByte e b → HasByte e' b → e ≡ e'
  entry-same e e' m m' b h h' =
      let once = out_once (shape_of e.class) (shape-sound e.class) size small (pages_of e.class) e.word (all-good e.class) (all-low e.class) (one-run e.class) in
      in_one (is e.class e.word) e e' es m m'
      (omega (arith, inv.outs e.class e.word, rw total-append at once))
      (omega (arith, is_self e))
      (let y : is e.class e.word e' ≡ 1 = rw (class_same e e' m m' b h h', word_same e e' m m' b h h') (is_self e') in omega arith)

  entry_shares : (e e' : Entry) → In e es → In e' es → (e.call ≡ e'.call) × (e.place ≡ e'.place) → (b : ℕ) × HasByte e b × HasByte e' b
  entry_shares e e' m m' p =
      let y : at e.call e.place e' ≡ 1 = rw (p.0, p.1) (at_self e') in
      let same : e ≡ e' = in_one (at e.call e.place) e e' es m m' (inv.once e.call e.place) (omega (arith, at_self e)) (omega arith) in
      let h : HasByte e (first_byte e) = record { from = omega arith; to = omega (arith, (shape-sound e.class).wide) } in
      (first_byte e, h, subst (λ z. HasByte z (first_byte e)) same h)

module _ (size : ℕ) (small : size ≤ max_pages) (rules : Rules) (xs : List Call) where
  live : (e : Entry) → Live 0 (events size rules xs) e → In e (live_from 0 [] (events size rules xs))
  live e o = live_in 0 e [] (events size rules xs) o

  same : (e e' : Entry) → Live 0 (events size rules xs) e → Live 0 (events size rules xs) e' → (b : ℕ) → HasByte e b → HasByte e' b → e ≡ e'
  same e e' o o' = let k = kept size rules xs in entry-same size k.number _ _ _ _ k.inv small e e' (live e o) (live e' o')

  pub disjoint : Disjoint (events size rules xs)
  disjoint =
      let k = kept size rules xs in
      record {
        apart = λ e e' o o'. (
          (λ s. let p = same e e' o o' s.0 s.1 s.2 in (ap (λ z. z.call) p, ap (λ z. z.place) p)),
          (λ p. entry_shares size k.number _ _ _ _ k.inv small e e' (live e o) (live e' o') p),
        );
        off_direct = λ e o b h. k.inv.directs (b / page_bytes) ∙ not-direct e.class ((heap_after size rules xs).holder (b / page_bytes)) (entry-held size k.number _ _ _ _ k.inv small e (live e o) b h);
      }

  pub iso-disjoint : IsoDisjoint size (events size rules xs)
  iso-disjoint =
      let k = kept size rules xs in
      record {
        in_arena = λ e o. entry-inside size k.number _ _ _ _ k.inv small e (live e o);
        no_common = λ e e' o o' other i j h h' p.
            let q = same e e' o o' (first_byte e + i) (record { from = omega arith; to = omega arith }) (record { from = omega arith; to = omega arith }) in
            other (ap (λ z. z.call) q, ap (λ z. z.place) q);
      }
