-- A stock as the words have it: left alone, popped, pushed, filled from a take.
--     stocked-is     PLACE's test is membership
--     stock-still    a book with the same words of the pool has the same stock
--     PartRep        the first m places are these blocks; one more by part-put, and with COUNT m they are the stock
use Rattle.facts.proofs.Prelude.{ℕ, zero, suc, ◌+◌, ◌-◌, ◌*◌, ◌/◌, ◌%◌, ◌≤◌, ◌<◌, arith, true, false, true≢false, List, [], ◌∷◌, reverse, reverse_aux}
use Rattle.facts.proofs.Prelude.{head-eq_of_cons-eq, tail-eq_of_cons-eq, ◌≡◌, refl, sym, ap, ap₂, ◌∙◌, subst, eqb, ltb, length, get_or, length-set}
use Rattle.facts.proofs.Prelude.{lt-ltb, le-ltb, ltb-true, ltb-false, eq-eqb, eqb-true, eqb-false, le-leb, elem, by_cases, bool_eq, and_left, and_right}
use Rattle.words.specs.Word.{block_word, granule_of}
use Rattle.classes.specs.Shape.{shape_of, class_count, pool_id}
use Rattle.classes.proofs.Shapes.{shape-sound}
use Rattle.fields.specs.Field.{words, read}
use Rattle.fields.proofs.Changes.{Changes, changes-none, changes_trans}
use Rattle.pool.specs.Stock.{count_max}
use Rattle.poolcalls.specs.Stock.{count_at, entry_at, place_at, place_bits, count_in, entry_in, place_in, block_in, stock_from, stocked, put_entry, put_place, put_count, put, pushed, put_all, filled}
use Rattle.poolcalls.proofs.Laws.{in_stock, stock_in_lem, place-bound, count-count, count-other, entry-count, place-count, count-entry, entry-entry, entry-same, entry_other, place-entry, count-place, entry_place, place-place, place_other}
use Rattle.poolrefinement.specs.way.Represents.{StockRep}
use Rattle.poolcalls.specs.way.HeapWords.{of_places, heap_word}
use Rattle.poolrefinement.proofs.Frame.{set-changes}

pub stocked-is : (n : ℕ) (b : List ℕ) (c g : ℕ) (st : List ℕ) → StockRep n b c st → stocked b c g ≡ elem (block_word (shape_of (pool_id c)).kind g) st
unfolding stocked
stocked-is n b c g st r =
    rw (sym r.same)
    (bool_eq _ _
    (λ e. in_stock b c g (count_in b c) (place_in b g) (ltb-true (place_in b g) (count_in b c) (and_left _ _ e)) (eqb-true (entry_in b c (place_in b g)) g (and_right (ltb (place_in b g) (count_in b c)) _ e)))
    (λ e. let a = stock_in_lem b c g (count_in b c) e in
    let p : place_in b g ≡ a.index = ap (place_in b) (sym a.is) ∙ r.placed a.index a.under in
    rw (p, lt-ltb a.index (count_in b c) a.under, eq-eqb (entry_in b c a.index) g a.is)))

-- ---- left alone
from-kept : (b b' : List ℕ) (c m : ℕ) → ((k : ℕ) → k < m → entry_in b' c k ≡ entry_in b c k) → stock_from b' c m ≡ stock_from b c m
from-kept b b' c zero h = refl
from-kept b b' c (suc m) h = ap₂ ◌∷◌ (ap (block_word (shape_of (pool_id c)).kind) (h m (omega arith))) (from-kept b b' c m (λ k l. h k (omega arith)))

stock-kept : (n : ℕ) (b b' : List ℕ) (c : ℕ) (st : List ℕ) → StockRep n b c st → count_in b' c ≡ count_in b c
    → ((k : ℕ) → k < count_in b c → entry_in b' c k ≡ entry_in b c k) → ((k : ℕ) → k < count_in b c → place_in b' (entry_in b c k) ≡ place_in b (entry_in b c k)) → StockRep n b' c st
stock-kept n b b' c st r p e l = record {
  same = ap (stock_from b' c) p ∙ from-kept b b' c (count_in b c) e ∙ r.same;
  few = omega (arith, r.few);
  low = λ k h. let h' : k < count_in b c = omega arith in omega (arith, e k h', r.low k h');
  placed = λ k h. let h' : k < count_in b c = omega arith in ap (place_in b') (e k h') ∙ l k h' ∙ r.placed k h';
}

-- the pool's words are not the heap's
pub count_word : (c : ℕ) → ltb c class_count ≡ true → heap_word (count_at c) ≡ false
unfolding heap_word
count_word c hc =
    let lo = ltb-true c class_count hc in
    rw (lt-ltb (count_at c) 40000 (omega arith), lt-ltb (count_at c) 10240 (omega arith), le-leb 160 (count_at c) (omega arith), lt-ltb (count_at c) 1376 (omega arith), eq-eqb (count_at c % 8) 7 (omega arith))

pub entry-word : (c k : ℕ) → ltb c class_count ≡ true → k < 256 → heap_word (entry_at c k) ≡ false
unfolding heap_word
entry-word c k hc l = let lo = ltb-true c class_count hc in rw (lt-ltb (entry_at c k) 40000 (omega arith), le-ltb (entry_at c k) 10240 (omega arith))

places-at : (a u : ℕ) → u < 1024 → of_places ((42320 + 4112 * a + u - 40000) % 4112) ≡ true
places-at a u l =
    let r = (42320 + 4112 * a + u - 40000) % 4112 in
    let lo : 2320 ≤ r = omega arith in
    let hi : r < 3344 = omega arith in
    rw (le-leb 2320 r lo, lt-ltb r 3344 hi)

pub place-word : (g : ℕ) → heap_word (place_at g) ≡ false
unfolding heap_word
place-word g = rw (le-ltb (place_at g) 40000 (omega arith), places-at (g / 4096) (g % 4096 / 4) (omega arith))

pub changes-count : (b : List ℕ) (c k : ℕ) → ltb c class_count ≡ true → Changes (λ f. false) b (put_count b c k)
unfolding put_count
changes-count b c k hc = set-changes b (count_at c) k (count_word c hc)

pub changes-put : (b : List ℕ) (c k g : ℕ) → ltb c class_count ≡ true → k < 256 → Changes (λ f. false) b (put b c k g)
unfolding put_entry put_place
changes-put b c k g hc l = changes_trans (λ f. false) b (put_entry b c k g) (put b c k g) (set-changes b (entry_at c k) g (entry-word c k hc l)) (set-changes (put_entry b c k g) (place_at g) _ (place-word g))

pub stock-still : (n : ℕ) (b b' : List ℕ) (c : ℕ) (st : List ℕ) → ltb c class_count ≡ true → ((i : ℕ) → heap_word i ≡ false → get_or b' i 0 ≡ get_or b i 0) → StockRep n b c st → StockRep n b' c st
unfolding count_in entry_in place_in
stock-still n b b' c st hc h r =
    stock-kept n b b' c st r (h (count_at c) (count_word c hc))
    (λ k l. let f = r.few in h (entry_at c k) (entry-word c k hc (omega arith)))
    (λ k l. ap (read (place_bits (entry_in b c k))) (h (place_at (entry_in b c k)) (place-word (entry_in b c k))))

-- ---- the first m places
pub record PartRep (n : ℕ) (b : List ℕ) (c m : ℕ) (st : List ℕ) : Type 0 where
  pub same : stock_from b c m ≡ st
  pub low : (k : ℕ) → k < m → entry_in b c k + (shape_of (pool_id c)).block ≤ 4096 * n
  pub placed : (k : ℕ) → k < m → place_in b (entry_in b c k) ≡ k

whole_part : (n : ℕ) (b : List ℕ) (c : ℕ) (st : List ℕ) → StockRep n b c st → PartRep n b c (count_in b c) st
whole_part n b c st r = record { same = r.same; low = r.low; placed = r.placed }

-- COUNT is m
module _ (n : ℕ) (b : List ℕ) (c : ℕ) (hc : ltb c class_count ≡ true) (m : ℕ) where
  pub counted-own : 40000 ≤ length b → m ≤ count_max → (st : List ℕ) → PartRep n b c m st → StockRep n (put_count b c m) c st
  counted-own long few st r =
      let b' = put_count b c m in
      let p : count_in b' c ≡ m = count-count b c hc m long in
      record {
        same = ap (stock_from b' c) p ∙ from-kept b b' c m (λ k h. entry-count b c hc m c k) ∙ r.same;
        few = omega arith;
        low = λ k h. omega (arith, entry-count b c hc m c k, r.low k (omega arith));
        placed = λ k h. ap (place_in b') (entry-count b c hc m c k) ∙ place-count b c hc m (entry_in b c k) ∙ r.placed k (omega arith);
      }

  pub counted-other : (d : ℕ) (st : List ℕ) → eqb d c ≡ false → StockRep n b d st → StockRep n (put_count b c m) d st
  counted-other d st e r = stock-kept n b (put_count b c m) d st r (count-other b c hc m d e) (λ k l. entry-count b c hc m d k) (λ k l. place-count b c hc m (entry_in b d k))

below_of : (j m : ℕ) → j < suc m → (j ≡ m → ⊥) → j < m
below_of j m h ne = by_cases (ltb j m) (λ t. ltb-true j m t) (λ t. absurd (ne (let u = ltb-false j m t in omega arith)))

-- one more block
module _ (n : ℕ) (b : List ℕ) (long : words n ≤ length b) (c : ℕ) (hc : ltb c class_count ≡ true) (m : ℕ) (hm : m < count_max) (g : ℕ) (lg : g + (shape_of (pool_id c)).block ≤ 4096 * n) where
  abbrev b₁ : List ℕ
  b₁ = put_entry b c m g

  hm' : m < 256
  hm' = omega arith

  long₁ : length b₁ ≡ length b
  unfolding put_entry
  long₁ = length-set b (entry_at c m) g

  pub long-put : length (put b c m g) ≡ length b
  unfolding put_place
  long-put = length-set b₁ (place_at g) _ ∙ long₁

  place-far : (x : ℕ) → (x ≡ g → ⊥) → place_in (put b c m g) x ≡ place_in b x
  place-far x ne = place_other b₁ g m x ne ∙ place-entry b c hc m hm' g x

  pub part-put : (st : List ℕ) → PartRep n b c m st → elem (block_word (shape_of (pool_id c)).kind g) st ≡ false → PartRep n (put b c m g) c (suc m) (block_word (shape_of (pool_id c)).kind g ∷ st)
  part-put st r out =
      let new : entry_in (put b c m g) c m ≡ g = entry_place b₁ g m c m hc hm' ∙ entry-entry b c hc m hm' g (omega arith) in
      let old : (j : ℕ) → j < m → entry_in (put b c m g) c j ≡ entry_in b c j = λ j h. entry_place b₁ g m c j hc (omega arith) ∙ entry-same b c hc m hm' g j h in
      let far : (j : ℕ) → j < m → entry_in b c j ≡ g → ⊥ = λ j h e. true≢false (sym (in_stock b c g m j h e) ∙ ap (elem (block_word (shape_of (pool_id c)).kind g)) r.same ∙ out) in
      let here : place_in (put b c m g) g ≡ m = place-place b₁ g m (omega (arith, long₁, place-bound n g (omega (arith, (shape-sound (pool_id c)).wide)))) (omega arith) in
      record {
        same = ap₂ ◌∷◌ (ap (block_word (shape_of (pool_id c)).kind) new) (from-kept b (put b c m g) c m old ∙ r.same);
        low = λ j h. by_cases (eqb j m)
            (λ e. let z = ap (entry_in (put b c m g) c) (eqb-true j m e) in omega arith)
            (λ e. let l = below_of j m h (eqb-false j m e) in omega (arith, old j l, r.low j l));
        placed = λ j h. by_cases (eqb j m)
            (λ e. let z = eqb-true j m e in ap (λ i. place_in (put b c m g) (entry_in (put b c m g) c i)) z ∙ ap (place_in (put b c m g)) new ∙ here ∙ sym z)
            (λ e. let l = below_of j m h (eqb-false j m e) in ap (place_in (put b c m g)) (old j l) ∙ place-far (entry_in b c j) (far j l) ∙ r.placed j l);
      }

  -- another class's stock, which has no block there
  module _ (d : ℕ) (hd : ltb d class_count ≡ true) (e : eqb d c ≡ false) where
    pub put_count_lem : count_in (put b c m g) d ≡ count_in b d
    put_count_lem = count-place b₁ g m d hd ∙ count-entry b c hc m hm' g d hd

    pub put_entries : (j : ℕ) → j < 256 → entry_in (put b c m g) d j ≡ entry_in b d j
    put_entries j h = entry_place b₁ g m d j hd h ∙ entry_other b c hc m hm' g d j e h

    pub put_other : (st : List ℕ) → StockRep n b d st → ((j : ℕ) → j < count_in b d → entry_in b d j ≡ g → ⊥) → StockRep n (put b c m g) d st
    put_other st r far =
        stock-kept n b (put b c m g) d st r put_count_lem
        (λ j l. let f = r.few in put_entries j (omega arith))
        (λ j l. place-far (entry_in b d j) (far j l))

-- ---- the top
pub record Top (b : List ℕ) (c w : ℕ) (ws : List ℕ) : Type 0 where
  pub left : ℕ
  pub count : count_in b c ≡ suc left
  pub top : block_in b c left ≡ w
  pub rest : stock_from b c left ≡ ws

pub top_of : (n : ℕ) (b : List ℕ) (c w : ℕ) (ws : List ℕ) → StockRep n b c (w ∷ ws) → Top b c w ws
top_of n b c w ws r = go (count_in b c) refl r.same
  where
    go : (m : ℕ) → count_in b c ≡ m → stock_from b c m ≡ w ∷ ws → Top b c w ws
    go zero e s = let z : ◌≡◌ {A = ℕ} 0 1 = cc in absurd (omega arith)
    go (suc m) e s = record { left = m; count = e; top = head-eq_of_cons-eq s; rest = tail-eq_of_cons-eq s }

module _ (n : ℕ) (b : List ℕ) (long : words n ≤ length b) (c : ℕ) (hc : ltb c class_count ≡ true) where
  pub pop-own : (w : ℕ) (ws : List ℕ) → StockRep n b c (w ∷ ws) → StockRep n (put_count b c (count_in b c - 1)) c ws
  pop-own w ws r =
      let t = top_of n b c w ws r in
      let m : count_in b c - 1 ≡ t.left = omega (arith, t.count) in
      rw m
      (counted-own n b c hc t.left (omega arith) (omega (arith, r.few, t.count)) ws
      (record { same = t.rest; low = λ k h. r.low k (omega (arith, t.count)); placed = λ k h. r.placed k (omega (arith, t.count)) }))

  module _ (g : ℕ) (lg : g + (shape_of (pool_id c)).block ≤ 4096 * n) (hk : count_in b c < count_max) where
    pub push-own : (st : List ℕ) → StockRep n b c st → elem (block_word (shape_of (pool_id c)).kind g) st ≡ false → StockRep n (pushed b c g) c (block_word (shape_of (pool_id c)).kind g ∷ st)
    push-own st r out =
        counted-own n (put b c (count_in b c) g) c hc (suc (count_in b c)) (omega (arith, long-put n b long c hc (count_in b c) hk g lg)) (omega arith) (block_word (shape_of (pool_id c)).kind g ∷ st)
        (part-put n b long c hc (count_in b c) hk g lg st (whole_part n b c st r) out)

    pub push-other : (d : ℕ) → ltb d class_count ≡ true → eqb d c ≡ false → (st : List ℕ) → StockRep n b d st → ((j : ℕ) → j < count_in b d → entry_in b d j ≡ g → ⊥) → StockRep n (pushed b c g) d st
    push-other d hd e st r far = counted-other n (put b c (count_in b c) g) c hc (suc (count_in b c)) d st e (put_other n b long c hc (count_in b c) hk g lg d hd e st r far)

-- ---- a take's blocks: the class's, in the arena, and none of them twice or in the stock so far
abbrev pub Fresh : ℕ → ℕ → List ℕ → List ℕ → Type 0
Fresh n c st [] = Unit {0}
Fresh n c st (w ∷ ws) = (w ≡ block_word (shape_of (pool_id c)).kind (granule_of w)) × (granule_of w + (shape_of (pool_id c)).block ≤ 4096 * n) × (elem w st ≡ false) × Fresh n c (w ∷ st) ws

module _ (n c : ℕ) (hc : ltb c class_count ≡ true) where
  all-put : (ws : List ℕ) (b : List ℕ) (m : ℕ) (st : List ℕ) → words n ≤ length b → m + length ws ≤ count_max → PartRep n b c m st → Fresh n c st ws
      → (length (put_all b c m ws) ≡ length b) × PartRep n (put_all b c m ws) c (m + length ws) (reverse_aux ws st)
  all-put [] b m st l f r z = (refl, subst (λ j. PartRep n b c j st) (omega arith) r)
  all-put (w ∷ ws) b m st l f r z =
      let g = granule_of w in
      let lp = long-put n b l c hc m (omega arith) g z.1 in
      let p = part-put n b l c hc m (omega arith) g z.1 st r (subst (λ v. elem v st ≡ false) z.0 z.2) in
      let p' : PartRep n (put b c m g) c (suc m) (w ∷ st) = subst (λ v. PartRep n (put b c m g) c (suc m) (v ∷ st)) (sym z.0) p in
      let t = all-put ws (put b c m g) (suc m) (w ∷ st) (omega arith) (omega arith) p' z.3 in
      (t.0 ∙ lp, subst (λ j. PartRep n (put_all (put b c m g) c (suc m) ws) c j (reverse_aux ws (w ∷ st))) (omega arith) t.1)

  all-changes : (ws : List ℕ) (b : List ℕ) (m : ℕ) → m + length ws ≤ count_max → Changes (λ f. false) b (put_all b c m ws)
  all-changes [] b m h = changes-none (λ f. false) b
  all-changes (w ∷ ws) b m h =
      changes_trans (λ f. false) b (put b c m (granule_of w)) (put_all b c m (w ∷ ws)) (changes-put b c m (granule_of w) hc (omega arith)) (all-changes ws (put b c m (granule_of w)) (suc m) (omega arith))

  pub filled-changes : (ws : List ℕ) (b : List ℕ) → length ws ≤ count_max → Changes (λ f. false) b (filled b c ws)
  filled-changes ws b h = changes_trans (λ f. false) b (put_all b c 0 ws) (filled b c ws) (all-changes ws b 0 (omega arith)) (changes-count (put_all b c 0 ws) c (length ws) hc)

  pub filled-own : (ws : List ℕ) (b : List ℕ) → words n ≤ length b → length ws ≤ count_max → Fresh n c [] ws → StockRep n (filled b c ws) c (reverse ws)
  filled-own ws b l f z =
      let t = all-put ws b 0 [] l (omega arith) (record { same = refl; low = λ k h. absurd (omega arith); placed = λ k h. absurd (omega arith) }) z in
      counted-own n (put_all b c 0 ws) c hc (length ws) (omega (arith, t.0)) f (reverse ws) (subst (λ j. PartRep n (put_all b c 0 ws) c j (reverse ws)) (omega arith) t.1)

  -- the stock of another class, which has none of the blocks
  module _ (d : ℕ) (hd : ltb d class_count ≡ true) (e : eqb d c ≡ false) (sd : List ℕ) where
    abbrev pub Off : List ℕ → List ℕ → Type 0
    Off b [] = Unit {0}
    Off b (w ∷ ws) = ((j : ℕ) → j < count_in b d → entry_in b d j ≡ granule_of w → ⊥) × Off b ws

    off-kept : (b b' : List ℕ) → count_in b' d ≡ count_in b d → ((j : ℕ) → j < count_in b d → entry_in b' d j ≡ entry_in b d j) → (ws : List ℕ) → Off b ws → Off b' ws
    off-kept b b' p q [] o = tt
    off-kept b b' p q (w ∷ ws) o = ((λ j l z. let h : j < count_in b d = omega arith in o.0 j h (sym (q j h) ∙ z)), off-kept b b' p q ws o.1)

    all-other : (ws : List ℕ) (b : List ℕ) (m : ℕ) (st : List ℕ) → words n ≤ length b → m + length ws ≤ count_max → Fresh n c st ws → Off b ws → StockRep n b d sd → StockRep n (put_all b c m ws) d sd
    all-other [] b m st l f z o r = r
    all-other (w ∷ ws) b m st l f z o r =
        let g = granule_of w in
        let hm : m < count_max = omega arith in
        let few = r.few in
        let lp = long-put n b l c hc m hm g z.1 in
        let ent : (j : ℕ) → j < count_in b d → entry_in (put b c m g) d j ≡ entry_in b d j = λ j h. put_entries n b l c hc m hm g z.1 d hd e j (omega arith) in
        all-other ws (put b c m g) (suc m) (w ∷ st) (omega arith) (omega arith) z.3 (off-kept b (put b c m g) (put_count_lem n b l c hc m hm g z.1 d hd e) ent ws o.1) (put_other n b l c hc m hm g z.1 d hd e sd r o.0)

    pub filled-other : (ws : List ℕ) (b : List ℕ) → words n ≤ length b → length ws ≤ count_max → Fresh n c [] ws → Off b ws → StockRep n b d sd → StockRep n (filled b c ws) d sd
    filled-other ws b l f z o r = counted-other n (put_all b c 0 ws) c hc (length ws) d sd e (all-other ws b 0 [] l (omega arith) z o r)
