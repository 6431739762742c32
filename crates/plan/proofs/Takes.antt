-- A class from which nothing was released: at most one partial page, no empty or cold one; how a take moves it.
use Rattle.facts.proofs.Prelude.{ℕ, zero, suc, ◌+◌, ◌-◌, ◌*◌, ◌≤◌, ◌<◌, arith, Bool, true, false, not, ◌||◌, false≢true, List, [], ◌∷◌}
use Rattle.facts.proofs.Prelude.{Option, none, some, ◌≡◌, refl, subst, ltb, length, length-drop, ne_eqb, lt-ltb, le-ltb, All, is_nil}
use Rattle.classes.specs.declared.Shape.{Shape}
use Rattle.classes.specs.way.Sound.{Sound}
use Rattle.rules.specs.declared.Limits.{Limits}
use Rattle.model.specs.Calls as Calls
use Rattle.model.specs.Calls.{blocks_of}
use Rattle.model.specs.Page.{Page, is_medium, carve, carve_as, has_more, carved_now, pop, reused}
use Rattle.model.specs.Class.{Class, Cold, Result, Ask, done, asks, after, fill_from_list, served, on_run, take_from}
use Rattle.model.specs.Chunks.{answer}
use Rattle.model.specs.Yields.{TakeYields, refuses, yields, asks-first}
use Rattle.model.proofs.NewRun.{length-words}
use Rattle.model.proofs.Yields.{answer-yields}
use Rattle.plan.proofs.Rounding.{per, per-low, per-high, per-some}

module _ (sh : Shape) where
  -- the blocks that a page can still yield
  abbrev pub left : Page → ℕ
  left p = length p.free + (sh.capacity - p.carved)

  -- after t takes: every run is used up, or one has v + 1 takes left
  pub data Stands (t : ℕ) : List Page → List Page → List Cold → Type 0 where
    spent : (r : ℕ) → t + 0 ≡ r * per sh → Stands t [] [] []
    partly : (p : Page) (r v : ℕ) → t + suc v ≡ r * per sh → suc v < per sh → v * sh.batch < left p → left p ≤ v * sh.batch + sh.batch → Stands t (p ∷ []) [] []

  abbrev pub At : ℕ → Class → Type 0
  At t s = Stands t s.partial s.empty s.cold

  more_left : (p : Page) → 0 < left p → has_more sh p ≡ true
  unfolding has_more
  more_left p h = go p.free h
    where
      go : (fs : List ℕ) → 0 < length fs + (sh.capacity - p.carved) → (not (is_nil fs) || ltb p.carved sh.capacity) ≡ true
      go [] h = lt-ltb p.carved sh.capacity (omega arith)
      go (x ∷ fs) h = refl

  none_left : (p : Page) → left p ≡ 0 → has_more sh p ≡ false
  unfolding has_more
  none_left p h = go p.free h
    where
      go : (fs : List ℕ) → length fs + (sh.capacity - p.carved) ≡ 0 → (not (is_nil fs) || ltb p.carved sh.capacity) ≡ false
      go [] h = le-ltb p.carved sh.capacity (omega arith)
      go (x ∷ fs) h = absurd (omega arith)

  pop-left : (n : ℕ) (p : Page) → left (pop sh n p).page ≡ left p - n
  unfolding pop carved_now
  pop-left n p = rw length-drop (omega arith)

  new-left : (q : ℕ) (v : Bool) → left (carve sh q v) ≡ sh.capacity
  unfolding carve_as
  new-left q v = go (is_medium sh)
    where
      go : (b : Bool) → left (carve_as sh b q v) ≡ sh.capacity
      go true = omega (arith, length-words sh q 0 sh.capacity)
      go false = omega arith

  module _ (ok : Sound sh) where
    -- a take from a page with v + 1 takes left leaves it v of them
    page-after : (l : List ℕ) (p : Page) (fs : List Page) (t r v : ℕ) → t + suc v ≡ r * per sh → suc v ≤ per sh → v * sh.batch < left p → left p ≤ v * sh.batch + sh.batch
        → At (suc t) (served l (fill_from_list sh sh.batch (p ∷ [])) [] [] fs).class
    unfolding served fill_from_list after
    page-after l p fs t r zero e k a b = rw (ne_eqb sh.batch 0 (omega (arith, ok.gives)), none_left (pop sh sh.batch p).page (omega (arith, pop-left sh.batch p))) (spent r (omega arith))
    page-after l p fs t r (suc v) e k a b =
        rw (ne_eqb sh.batch 0 (omega (arith, ok.gives)), more_left (pop sh sh.batch p).page (omega (arith, pop-left sh.batch p)))
        (partly (pop sh sh.batch p).page r v (omega arith) (omega arith) (omega (arith, pop-left sh.batch p)) (omega (arith, pop-left sh.batch p)))

    -- and so does a take from a new run
    run-after : (l : List ℕ) (q : ℕ) (fs : List Page) (t r : ℕ) → t + 0 ≡ r * per sh → (d : ℕ) → per sh ≡ d → At (suc t) (served l (fill_from_list sh sh.batch (carve sh q true ∷ [])) [] [] fs).class
    run-after l q fs t r e zero d = absurd (omega (arith, per-some sh ok))
    run-after l q fs t r e (suc v) d =
        let b = sh.batch in
        let c = sh.capacity in
        let low : c ≤ suc v * b = subst (λ x. c ≤ x * b) d (per-low b c ok.gives) in
        let high : suc v * b < c + b = subst (λ x. x * b < c + b) d (per-high b c ok.gives) in
        page-after l (carve sh q true) fs t (suc r) v (omega arith) (omega arith) (omega (arith, new-left q true)) (omega (arith, new-left q true))

    -- a take on a class that stands so, t takes done: it is served, or asks for a run of which t + 1 takes have need
    pub data Takes (t : ℕ) : Ask → Type 0 where
      serves : {s : Result} (r u : ℕ) → t + suc u ≡ r * per sh → suc u < per sh → is_nil (blocks_of s.answer) ≡ false → s.gives ≡ [] → At (suc t) s.class → Takes t (done s)
      wants : {k : Option ℕ → Result} (r : ℕ) → t + 0 ≡ r * per sh → is_nil (blocks_of (k none).answer) ≡ true
          → ((q : ℕ) → is_nil (blocks_of (k (some q)).answer) ≡ false) → ((q : ℕ) → (k (some q)).gives ≡ []) → ((q : ℕ) → At (suc t) (k (some q)).class) → Takes t (asks sh.pages k)

    stands-listed : (t : ℕ) (ps es : List Page) (cs : List Cold) → Stands t ps es cs → All (λ p. has_more sh p ≡ true) ps × All (λ p. has_more sh (reused sh p) ≡ true) es
    stands-listed t ps es cs (spent r e) = (tt, tt)
    stands-listed t ps es cs (partly p r v e k a b) = ((more_left p (omega arith), tt), tt)

    from-lists : (l : List ℕ) (t : ℕ) (ps es : List Page) (cs : List Cold) (fs : List Page) → Stands t ps es cs → TakeYields (take_from sh l ps es cs fs) → Takes t (take_from sh l ps es cs fs)
    unfolding take_from on_run served
    from-lists l t ps es cs fs (spent r e) (asks-first g) =
        wants r e refl g (λ q. refl) (λ q. run-after l q fs t r e (per sh) refl)
    from-lists l t ps es cs fs (partly p r v e k a b) (refuses x) = absurd (false≢true x)
    from-lists l t ps es cs fs (partly p r v e k a b) (yields x) = serves r v e k x refl (page-after l p fs t r v e (omega arith) a b)

    pub take-stands : (lim : Limits) (t h : ℕ) (l : List ℕ) (s : Class) → sh.batch ≤ length l → At t s → Takes t (answer sh lim s (Calls.take h l))
    unfolding answer
    take-stands lim t h l s long a =
        let y = stands-listed t s.partial s.empty s.cold a in
        let g = answer-yields sh ok lim s h l y.0 y.1 in
        rw (le-ltb (length l) sh.batch long) (from-lists l t s.partial s.empty s.cold s.full a (rw (le-ltb (length l) sh.batch long) at g))
