-- How many runs the chunks' placing leaves for the arena: as many as number 13 was tested for (`runs_given`: calls, specs/Chunks).
--     Adds           what placing one page adds to the two stores and to the runs for the arena
--     place-adds     it goes by the page's words and the stores' counts
--     gives-count    all chunks
--     gives-in       the runs are the pages whose fate says so
--     all-changes    what placing all may change: nothing of the arena's record
use Rattle.facts.proofs.Prelude.{ℕ, suc, ◌+◌, arith, Bool, true, false, cond, not, ◌&&◌, ◌||◌, true≢false, List, [], ◌∷◌, ◌++◌, map, ◌≡◌, refl, sym, ap, ◌∙◌}
use Rattle.facts.proofs.Prelude.{eqb, ltb, leb, length, length-append, ltb-true, ne_eqb, eqb-false, not-true, All, elem, distinct, by_cases, and_left, and_right}
use Rattle.words.specs.Limits.{class_rows}
use Rattle.words.specs.Word.{page_of}
use Rattle.classes.specs.declared.Shape.{Shape}
use Rattle.classes.specs.way.Sound.{Sound}
use Rattle.fields.specs.Field.{Field, arena, mark, class, hole, page, out, slot, region, off, empty_count, cold_count, next, free, carved, virgin, get, put, words, ClassField, empty_limit, cold_limit}
use Rattle.rules.specs.declared.Limits.{Limits}
use Rattle.fields.proofs.Laws.{get_put_same, get-put_other, length-put}
use Rattle.fields.proofs.Changes.{Changes, changes-none, changes_trans, changes_mono}
use Rattle.model.specs.Page.{is_medium}
use Rattle.pages.specs.Valid.{limits_at}
use Rattle.pages.specs.declared.Park.{Park}
use Rattle.pages.specs.declared.Park.TheVariants.{Empty, Cold}
use Rattle.words.specs.Host.{digit}
use Rattle.pages.specs.Links.{top, stored, park_run}
use Rattle.pages.specs.Carve.{carve_anew}
use Rattle.pages.proofs.Frames.{changes-park_run}
use Rattle.model.specs.declared.Destination.{Destination}
use Rattle.model.specs.declared.Destination.TheVariants.{ToEmpty, ToCold, ToArena}
use Rattle.model.specs.Destination.{is_empty, is_cold, is_arena, fate_of, retired}
use Rattle.calls.specs.Release.{Released, released, unlisted, relisted, destination_at, park_as, park_at, emptied, set_retired}
use Rattle.calls.specs.Chunks.{gives_of, returns_all, runs_given}
use Rattle.release.specs.way.Act.{cold_virgin}
use Rattle.release.proofs.ParkSteps.{unlisted-changes, relisted-changes, carve-changes}
use Rattle.chunks.specs.way.Pass.{place_at, place_all, gives_in}
use Rattle.chunks.proofs.GatherPlace.{writes, place-changes}

-- where t tells whether the page has no block out, and k is its destination then
pub record Adds (c q e k : ℕ) (t : Bool) (destination : Destination) (r : Released) : Type 0 where
  pub empty : get r.book (class empty_count c) ≡ cond t (e + digit (is_empty destination)) e
  pub cold : get r.book (class cold_count c) ≡ cond t (k + digit (is_cold destination)) k
  pub gives : length (gives_of q r.fate) ≡ cond t (digit (is_arena destination)) 0

abbrev not_empties : Field → Bool
not_empties f = not (eqb (region f) 2 && eqb (off f) 2)

abbrev not_colds : Field → Bool
not_colds f = not (eqb (region f) 2 && eqb (off f) 4)

cold-stays : (sh : Shape) (q : ℕ) → length (gives_of q (retired (fate_of sh ToCold))) ≡ 0
cold-stays sh q = by (is_medium sh)
  where
    by : (t : Bool) → length (gives_of q (retired (cond t 0 1))) ≡ 0
    by true = refl
    by false = refl

module _ (n c q : ℕ) (hc : ltb c class_rows ≡ true) where
  park_run-counts : (b : List ℕ) (p : Park) → leb (words n) (length b) ≡ true → get (park_run b c p q) (class (stored p) c) ≡ get b (class (stored p) c) + 1
  unfolding park_run
  park_run-counts b p hb =
      let b₁ = put b (page next q) (get b (class (top p) c)) in
      get_put_same n (put b₁ (class (top p) c) (q + 1)) (class (stored p) c) _ (rw (length-put b₁ (class (top p) c) (q + 1), length-put b (page next q) (get b (class (top p) c))) hb) hc refl

  module _ (sh : Shape) (s : Sound sh) (h : ℕ) where
    as_adds : (b : List ℕ) → leb (words n) (length b) ≡ true → (destination : Destination)
        → Adds c q (get b (class empty_count c)) (get b (class cold_count c)) true destination (set_retired (park_as b c sh h q destination))
    as_adds b hb ToEmpty = record {
      empty = park_run-counts b Empty hb;
      cold = (changes-park_run not_colds b c q hc Empty refl refl refl).kept (class cold_count c) hc refl ∙ omega arith;
      gives = refl;
    }
    as_adds b hb ToCold =
        let d = carve_anew b sh q (cold_virgin sh h) in
        let z = carve-changes b c sh h q (cold_virgin sh h) s in
        record {
          empty = (changes-park_run not_empties d c q hc Cold refl refl refl).kept (class empty_count c) hc refl ∙ z.kept (class empty_count c) hc refl ∙ omega arith;
          cold = park_run-counts d Cold (rw z.long hb) ∙ ap (λ x. x + 1) (z.kept (class cold_count c) hc refl);
          gives = cold-stays sh q;
        }
    as_adds b hb ToArena = record { empty = omega arith; cold = omega arith; gives = refl }

    pub place-adds : (b : List ℕ) → leb (words n) (length b) ≡ true
        → Adds c q (get b (class empty_count c)) (get b (class cold_count c)) (eqb (get b (page carved q)) (get b (page free q))) (destination_at b c sh) (place_at b c sh h q)
    unfolding place_at park_at emptied
    place-adds b hb =
        let d = put b (page virgin q) 0 in
        rw (get-put_other b (page virgin q) (page carved q) 0 refl refl refl, get-put_other b (page virgin q) (page free q) 0 refl refl refl)
        (by (eqb (get b (page carved q)) (get b (page free q))))
      where
        d₀ : List ℕ
        d₀ = put b (page virgin q) 0

        d₁ : List ℕ
        d₁ = put (put d₀ (page carved q) 0) (page free q) 0

        same : (k : ClassField) → get d₁ (class k c) ≡ get b (class k c)
        same k =
            get-put_other (put d₀ (page carved q) 0) (page free q) (class k c) 0 refl hc refl
            ∙ get-put_other d₀ (page carved q) (class k c) 0 refl hc refl
            ∙ get-put_other b (page virgin q) (class k c) 0 refl hc refl

        by : (t : Bool) → Adds c q (get b (class empty_count c)) (get b (class cold_count c)) t (destination_at b c sh) (cond t (set_retired (park_as (unlisted d₁ c q) c sh h q (destination_at d₁ c sh))) (released (relisted d₀ c q) 0))
        by true =
            let u = unlisted d₁ c q in
            let z = unlisted-changes d₁ c q (ltb-true c class_rows hc) in
            let e : get (unlisted d₁ c q) (class empty_count c) ≡ get b (class empty_count c) = z.kept (class empty_count c) hc refl ∙ same (stored Empty) in
            let k : get (unlisted d₁ c q) (class cold_count c) ≡ get b (class cold_count c) = z.kept (class cold_count c) hc refl ∙ same (stored Cold) in
            let l : length (unlisted d₁ c q) ≡ length b
            = z.long ∙ length-put (put d₀ (page carved q) 0) (page free q) 0 ∙ length-put d₀ (page carved q) 0 ∙ length-put b (page virgin q) 0 in
            let x : destination_at d₁ c sh ≡ destination_at b c sh = rw (same (stored Empty), same (stored Cold), same empty_limit, same cold_limit) in
            rw x (rw (e, k) at (as_adds u (rw l hb) (destination_at b c sh)))
        by false =
            let z = relisted-changes d₀ c q (ltb-true c class_rows hc) in
            record {
              empty = z.kept (class empty_count c) hc refl ∙ get-put_other b (page virgin q) (class empty_count c) 0 refl hc refl;
              cold = z.kept (class cold_count c) hc refl ∙ get-put_other b (page virgin q) (class cold_count c) 0 refl hc refl;
              gives = refl;
            }

-- ---- all chunks
abbrev pub idle : List ℕ → ℕ → Bool
idle b q = eqb (get b (page carved q)) (get b (page free q))

abbrev pub of_class : Field → Bool
of_class f = eqb (region f) 2 || leb 4 (region f)

module _ (c : ℕ) (hc : ltb c class_rows ≡ true) (sh : Shape) (s : Sound sh) (h : ℕ) where
  idle-kept : (b₀ : List ℕ) (q : ℕ) (b b' : List ℕ) → Changes (writes q) b b' → (gs : List ℕ) → elem q (map page_of gs) ≡ false
      → All (λ g. idle b (page_of g) ≡ returns_all b₀ g) gs → All (λ g. idle b' (page_of g) ≡ returns_all b₀ g) gs
  idle-kept b₀ q b b' z [] e a = tt
  idle-kept b₀ q b b' z (g ∷ gs) e a =
      by_cases (eqb q (page_of g))
      (λ d. absurd (true≢false (rw d at e)))
      (λ d.
      let p = page_of g in
      let x : eqb (page_of g) q ≡ false = ne_eqb p q (λ y. eqb-false q p d (sym y)) in
      let i : idle b' (page_of g) ≡ idle b (page_of g) = rw (z.kept (page carved p) refl (rw x), z.kept (page free p) refl (rw x)) in
      (i ∙ a.0, idle-kept b₀ q b b' z gs (rw d at e) a.1))

  pub gives-count : (n : ℕ) (b₀ : List ℕ) (lim : Limits) (gs : List ℕ) → distinct (map page_of gs) ≡ true → (b : List ℕ) → leb (words n) (length b) ≡ true → limits_at b c ≡ lim → All (λ g. idle b (page_of g) ≡ returns_all b₀ g) gs
      → length (place_all b c sh h gs).gives ≡ runs_given b₀ sh lim gs (get b (class empty_count c)) (get b (class cold_count c))
  unfolding place_all runs_given
  gives-count n b₀ lim [] u b hb e i = refl
  gives-count n b₀ lim (g ∷ gs) u b hb e i =
      let q = page_of g in
      let qs = map page_of gs in
      let new = not-true (elem q qs) (and_left (not (elem q qs)) (distinct qs) u) in
      let r = place_at b c sh h q in
      let z = place-changes c q hc sh s.few h b in
      let a = rw e at (place-adds n c q hc sh s h b hb) in
      let ih = gives-count n b₀ lim gs (and_right (not (elem q qs)) (distinct qs) u) r.book (rw z.long hb) (rw (z.kept (class empty_limit c) hc refl, z.kept (class cold_limit c) hc refl) e) (idle-kept b₀ q b r.book z gs new i.1) in
      let l = length-append (gives_of q r.fate) (place_all r.book c sh h gs).gives in
      by_cases (returns_all b₀ g)
      (λ t. let a₁ = rw (i.0 ∙ t) at a in rw t (l ∙ rw (a₁.gives, ih, a₁.empty, a₁.cold)))
      (λ t. let a₁ = rw (i.0 ∙ t) at a in rw t (l ∙ rw (a₁.gives, ih, a₁.empty, a₁.cold) (omega arith)))

  pub gives_in_lem : (b gs fs : List ℕ) → (place_all b c sh h gs).gives ≡ gives_in gs ((place_all b c sh h gs).fates ++ fs)
  unfolding place_all gives_in
  gives_in_lem b [] fs = refl
  gives_in_lem b (g ∷ gs) fs =
      let r = place_at b c sh h (page_of g) in
      ap (λ l. gives_of (page_of g) r.fate ++ l) (gives_in_lem r.book gs fs)

  pub fates-length : (b gs : List ℕ) → length (place_all b c sh h gs).fates ≡ length gs
  unfolding place_all
  fates-length b [] = refl
  fates-length b (g ∷ gs) = ap suc (fates-length (place_at b c sh h (page_of g)).book gs)

  writes-class : (q : ℕ) (f : Field) → writes q f ≡ true → of_class f ≡ true
  writes-class q (arena k) e = e
  writes-class q (mark p j) e = e
  writes-class q (class k d) e = refl
  writes-class q (hole k i) e = e
  writes-class q (page k p) e = refl
  writes-class q (out p i) e = refl
  writes-class q (slot p i) e = refl

  pub all-changes : (b gs : List ℕ) → Changes of_class b (place_all b c sh h gs).book
  unfolding place_all
  all-changes b [] = changes-none of_class b
  all-changes b (g ∷ gs) =
      let q = page_of g in
      let r = place_at b c sh h q in
      changes_trans of_class b r.book _ (changes_mono (writes q) of_class b r.book (writes-class q) (place-changes c q hc sh s.few h b)) (all-changes r.book gs)
