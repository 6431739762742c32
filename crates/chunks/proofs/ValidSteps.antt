-- Number 13's tests of a group release: the loops over the chunks, and the ways out.
use Rattle.facts.proofs.Prelude.{ℕ, suc, ◌+◌, ◌-◌, ◌*◌, ◌^◌, ◌≤◌, ◌<◌, arith, add-zero, mul-le-mul, add-one, Bool, true, false, ◌&&◌, List, [], ◌∷◌, ◌≡◌, sym, ◌∙◌}
use Rattle.facts.proofs.Prelude.{eqb, ltb, length, get_or, drop, drop-cons, ltb-true, eq-eqb, ne_eqb, eqb-true, eqb-false, every, by_cases, and_left, and_right, drop_past, every_get}
use Rattle.chunks.proofs.Chains.{every-item}
use mir.Val.{Fits}
use mir.Syntax.{w32}
use Rattle.words.specs.Word.{count_of, page_of}
use Rattle.classes.specs.declared.Shape.{Shape}
use Rattle.rules.specs.declared.Limits.{Limits}
use Rattle.fields.specs.Field.{class, page, empty_count, cold_count, free, carved, get}
use Rattle.fields.specs.Ranges.{max_parked, head_valid}
use Rattle.arena.specs.Valid.{give_valid}
use Rattle.pages.specs.declared.Park.TheVariants.{Empty, Cold}
use Rattle.words.specs.Host.{digit}
use Rattle.model.specs.declared.Destination.{Destination}
use Rattle.model.specs.declared.Destination.TheVariants.{ToEmpty, ToCold, ToArena}
use Rattle.model.specs.Destination.{destination_of, is_empty, is_cold, is_arena}
use Rattle.pages.proofs.Descending.{digit-le}
use Rattle.calls.specs.Release.{page_valid, row_valid}
use Rattle.calls.specs.Chunks.{returns_all, runs_given, pages_given, chunks_valid}
use Rattle.pages.specs.way.Pre.{PagePre}
use Rattle.pages.specs.Valid.{limits_at}
use Rattle.release.proofs.ValidSteps.{page-room, count_low, limits-low}
use Rattle.release.proofs.Destinations.{empty-room}
use Rattle.chunks.specs.declared.valid.Stores.{Stores}
use Rattle.chunks.specs.way.GivePre.{gives_valid}
use Rattle.chunks.specs.way.ValidPre.{chunk_valid, with_destination, counted, PagesPre, ReturnsPre, WithDestinationPre, CountPre, RunsPre, PagesGivenPre, ChunksValidPre}

-- ---- a chunk's page
pub chunk-is : (b : List ℕ) (sh : Shape) (g v m q : ℕ) → v ≡ g → m ≡ count_of v → q ≡ page_of g → (r : Bool) → r ≡ page_valid b sh m q → r ≡ chunk_valid b sh g
chunk-is b sh g v m q e₁ e₂ e₃ r e = e ∙ rw (e₂, e₁, e₃)

module _ (n : ℕ) (b : List ℕ) (gs : List ℕ) (a : PagesPre n b gs) (i : ℕ) (l : i < length gs) where
  page-below : page_of (get_or gs i 0) < n
  page-below = ltb-true (page_of (get_or gs i 0)) n (every_get (λ g. ltb (page_of g) n) gs i a.below l)

  pub page-there : PagePre b (page_of (get_or gs i 0))
  page-there = record { there = omega (arith, a.long, page-below) }

  pub page-fits : page_of (get_or gs i 0) < 2 ^ 32
  page-fits = omega (arith, a.few, page-below)

pub chunk-there : (n : ℕ) (b : List ℕ) (gs : List ℕ) → PagesPre n b gs → (k g : ℕ) → k < length gs → g ≡ get_or gs k g → PagePre b (page_of g) × (page_of g < 2 ^ 32)
chunk-there n b gs a k g l e =
    let z = ltb-true (page_of g) n (every-item (λ g. ltb (page_of g) n) gs k g a.below l e) in
    (record { there = omega (arith, a.long, z) }, omega (arith, a.few, z))

-- ---- does a chunk return all
same_test : (m x y : ℕ) → y + m ≤ x → eqb (x - y) m ≡ eqb (y + m) x
same_test m x y h =
    by_cases (eqb (y + m) x)
    (λ t. let z : x - y ≡ m = omega (arith, eqb-true (y + m) x t) in rw t (eq-eqb (x - y) m z))
    (λ t. rw t (ne_eqb (x - y) m (λ z. eqb-false (y + m) x t (omega arith))))

pub returns-page : (b : List ℕ) (g : ℕ) → ReturnsPre b g → page_of g < 2 ^ 32
returns-page b g a = omega (arith, a.below)

module _ (b : List ℕ) (g q x y : ℕ) (a : ReturnsPre b g) (e₂ : q ≡ page_of g) (e₃ : x ≡ get b (page carved q)) (e₄ : y ≡ get b (page free q)) where
  room : y + count_of g ≤ x
  room = rw (e₃, e₄, e₂) a.room

  pub out-fits : y ≤ x
  out-fits = omega (arith, room)

  pub returns_is : (w m : ℕ) → w ≡ g → m ≡ count_of w → eqb (x - y) m ≡ returns_all b g
  returns_is w m e₅ e₆ =
      let f : get b (page free (page_of g)) ≡ y = sym (rw e₂ at e₄) in
      let c : get b (page carved (page_of g)) ≡ x = sym (rw e₂ at e₃) in
      rw (e₆, e₅, f, c) (same_test (count_of g) x y room)

-- ---- the counts
module _ (s : Stores) (k : Destination) where
  pub destination-empty : k ≡ ToEmpty → record { empties = s.empties + 1; colds = s.colds; runs = s.runs } ≡ with_destination s k
  destination-empty h = rw h (simp add-zero)

  pub destination-cold : k ≡ ToCold → record { empties = s.empties; colds = s.colds + 1; runs = s.runs } ≡ with_destination s k
  destination-cold h = rw h (simp add-zero)

  pub destination-arena : k ≡ ToArena → record { empties = s.empties; colds = s.colds; runs = s.runs + 1 } ≡ with_destination s k
  destination-arena h = rw h (simp add-zero)

module _ (b : List ℕ) (sh : Shape) (lim : Limits) (g : ℕ) (s : Stores) where
  pub with_destination-pre : CountPre b sh g s → WithDestinationPre s
  with_destination-pre a = record { empties = omega (arith, a.empties); colds = a.colds; runs = a.runs }

  module _ (r : Bool) (e : r ≡ returns_all b g) where
    pub count_none : r ≡ false → s ≡ counted b sh lim g s
    unfolding counted
    count_none h = rw (← e, h)

    pub count-one : r ≡ true → (k : Destination) → k ≡ destination_of sh lim s.empties s.colds → (t : Stores) → t ≡ with_destination s k → t ≡ counted b sh lim g s
    unfolding counted
    count-one h k j t z = z ∙ rw (← e, h, j)

  counted-empties : lim.empty ≤ max_parked → s.empties ≤ max_parked → (counted b sh lim g s).empties ≤ max_parked
  unfolding counted
  counted-empties l h =
      let k = destination_of sh lim s.empties s.colds in
      by_cases (returns_all b g)
      (λ t. rw t (by_cases (is_empty k) (λ u. rw u (omega (arith, empty-room sh lim s.empties s.colds u))) (λ u. rw u (omega arith))))
      (λ t. rw t h)

  counted-colds : (counted b sh lim g s).colds ≤ s.colds + 1
  unfolding counted
  counted-colds = by_cases (returns_all b g) (λ t. rw t (omega (arith, digit-le (is_cold (destination_of sh lim s.empties s.colds))))) (λ t. rw t (omega arith))

  counted-runs : (counted b sh lim g s).runs ≤ s.runs + 1
  unfolding counted
  counted-runs = by_cases (returns_all b g) (λ t. rw t (omega (arith, digit-le (is_arena (destination_of sh lim s.empties s.colds))))) (λ t. rw t (omega arith))

  counted-rest : (gs : List ℕ) → (counted b sh lim g s).runs + runs_given b sh lim gs (counted b sh lim g s).empties (counted b sh lim g s).colds ≡ s.runs + runs_given b sh lim (g ∷ gs) s.empties s.colds
  unfolding counted runs_given
  counted-rest gs = by_cases (returns_all b g) (λ t. rw t (omega arith)) (λ t. rw t)

-- ---- the runs given
pub record Counting (b : List ℕ) (sh : Shape) (lim : Limits) (gs : List ℕ) (e k : ℕ) (s : Stores) (i : ℕ) : Type 0 where
  pub within : i ≤ length gs
  pub empties : s.empties ≤ max_parked
  pub colds : s.colds ≤ max_parked + i
  pub runs : s.runs ≤ i
  pub rest : s.runs + runs_given b sh lim (drop i gs) s.empties s.colds ≡ runs_given b sh lim gs e k

module _ (n : ℕ) (b : List ℕ) (sh : Shape) (lim : Limits) (gs : List ℕ) (e k : ℕ) where
  module _ (a : RunsPre n b sh lim gs e k) where
    pub counting_none : Counting b sh lim gs e k (record { empties = e; colds = k; runs = 0 }) 0
    counting_none = record { within = omega arith; empties = a.empties; colds = omega (arith, a.colds); runs = omega arith; rest = omega arith }

    module _ (s : Stores) (i : ℕ) (v : Counting b sh lim gs e k s i) (l : i < length gs) where
      pub counting_pre : CountPre b sh (get_or gs i 0) s
      counting_pre =
          let g = get_or gs i 0 in
          record {
            sound = a.sound;
            chunk = record {
              below = omega (arith, a.pages.few, page-below n b gs a.pages i l);
              there = (page-there n b gs a.pages i l).there;
              room = page-room b sh (count_of g) (page_of g) (every_get (chunk_valid b sh) gs i a.valid l);
            };
            empties = v.empties;
            colds = omega (arith, v.colds, a.chunks);
            runs = omega (arith, v.runs, a.chunks);
          }

      pub counting_more : (s' : Stores) → s' ≡ counted b sh lim (get_or gs i 0) s → Counting b sh lim gs e k s' (i + 1)
      counting_more s' z =
          let g = get_or gs i 0 in
          rw z (record {
            within = omega arith;
            empties = counted-empties b sh lim g s a.limit v.empties;
            colds = omega (arith, counted-colds b sh lim g s, v.colds);
            runs = omega (arith, counted-runs b sh lim g s, v.runs);
            rest = rw add-one (counted-rest b sh lim g s (drop (suc i) gs) ∙ (rw (drop-cons gs i 0 l) at v.rest));
          })

  pub counting_done : (s : Stores) (i : ℕ) → Counting b sh lim gs e k s i → length gs ≤ i → s.runs ≡ runs_given b sh lim gs e k
  unfolding runs_given
  counting_done s i v l = omega (arith, rw (drop_past gs i l) at v.rest)

runs-few : (b : List ℕ) (sh : Shape) (lim : Limits) (gs : List ℕ) (e k : ℕ) → runs_given b sh lim gs e k ≤ length gs
unfolding runs_given
runs-few b sh lim [] e k = omega arith
runs-few b sh lim (g ∷ gs) e k =
    let s = destination_of sh lim e k in
    by_cases (returns_all b g)
    (λ t. rw t (omega (arith, digit-le (is_arena s), runs-few b sh lim gs (e + digit (is_empty s)) (k + digit (is_cold s)))))
    (λ t. rw t (omega (arith, runs-few b sh lim gs e k)))

-- ---- the give
module _ (n : ℕ) (b : List ℕ) (c : ℕ) (sh : Shape) (gs : List ℕ) (x y : ℕ) (j : x ≡ get b (class empty_count c)) (h : y ≡ get b (class cold_count c)) (lim : Limits) (i : lim ≡ limits_at b c) where
  pub runs-pre : PagesGivenPre n b c sh gs → RunsPre n b sh lim gs x y
  runs-pre a = record {
    sound = a.all.class.sound;
    pages = record { few = a.all.class.few; long = a.all.class.long; below = a.all.below };
    valid = a.pages;
    chunks = a.all.chunks;
    limit = rw i (limits-low b c a.row).empty;
    empties = rw j (count_low b c Empty a.row);
    colds = rw h (count_low b c Cold a.row);
  }

  module _ (r : ℕ) (e : r ≡ runs_given b sh lim gs x y) where
    pub given-fits : PagesGivenPre n b c sh gs → Fits w32 (r * sh.pages)
    given-fits a =
        let l : r ≤ 2056 = rw e (omega (arith, runs-few b sh lim gs x y, a.all.chunks)) in
        let m : r * sh.pages ≤ 2056 * 8 = mul-le-mul {n₁ = r} {n₂ = 2056} l a.all.class.sound.short in
        record { fits = omega arith }

    given_is : pages_given b c sh gs ≡ r * sh.pages
    given_is = rw (← j, ← h, ← i, ← e)

    pub none-given : r * sh.pages ≡ 0 → eqb (r * sh.pages) 0 ≡ gives_valid n b (pages_given b c sh gs)
    unfolding gives_valid
    none-given z = rw given_is (rw (eq-eqb (r * sh.pages) 0 z))

    pub some-given : (r * sh.pages ≡ 0 → ⊥) → (t : Bool) → t ≡ give_valid n b (r * sh.pages) → t ≡ gives_valid n b (pages_given b c sh gs)
    unfolding gives_valid
    some-given z t g = rw given_is (rw (ne_eqb (r * sh.pages) 0 z) g)

-- ---- all tests: those before the give
module _ (n : ℕ) (b : List ℕ) (c : ℕ) (sh : Shape) (gs : List ℕ) where
  abbrev pub passes : Bool
  passes = (head_valid n b && every (chunk_valid b sh) gs) && row_valid b c

  pub valid-is : chunks_valid n b c sh gs ≡ (passes && gives_valid n b (pages_given b c sh gs))
  unfolding chunks_valid gives_valid
  valid-is =
      by_cases (head_valid n b)
      (λ e. by_cases (every (chunk_valid b sh) gs) (λ f. by_cases (row_valid b c) (λ g. rw (e, f, g)) (λ g. rw (e, f, g))) (λ f. rw (e, f)))
      (λ e. rw e)

  module _ (r : Bool) (e : r ≡ passes) where
    pub gives-pre : ChunksValidPre n b c sh gs → r ≡ true → PagesGivenPre n b c sh gs
    gives-pre a h =
        let x : passes ≡ true = sym e ∙ h in
        record { all = a; pages = and_right (head_valid n b) _ (and_left (head_valid n b && every (chunk_valid b sh) gs) _ x); row = and_right (head_valid n b && every (chunk_valid b sh) gs) _ x }

    pub gives-last : r ≡ true → (t : Bool) → t ≡ gives_valid n b (pages_given b c sh gs) → t ≡ chunks_valid n b c sh gs
    gives-last h t g = rw (valid-is, ← e, h) g

    pub not-passed : r ≡ false → r ≡ chunks_valid n b c sh gs
    not-passed h = rw (valid-is, ← e, h)
