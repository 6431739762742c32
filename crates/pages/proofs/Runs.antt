-- A run that is whole, page by page.
--     Whole                                 what `whole` says; whole_says, whole_of: from the test, and back
--     whole-owner, whole_in, whole_below    of its first page
use Rattle.facts.proofs.Prelude.{ℕ, suc, ◌+◌, ◌-◌, ◌≤◌, ◌<◌, arith, true, ◌&&◌, List, ◌≡◌, refl, eqb, ltb, leb, eq-eqb}
use Rattle.facts.proofs.Prelude.{eqb-true, leb-true, le-leb, lt-ltb, every, below, and_left, and_right, every-at, every_of}
use Rattle.classes.specs.declared.Shape.{Shape}
use Rattle.classes.specs.way.Sound.{Sound}
use Rattle.fields.specs.Field.{arena, page, owner, first, frontier, get}
use Rattle.pages.specs.Runs.{of_run, whole}

pub record Whole (n : ℕ) (b : List ℕ) (sh : Shape) (c q : ℕ) : Type 0 where
  pub inside : q + sh.pages ≤ n
  pub below : q + sh.pages ≤ get b (arena frontier)
  pub owner : (x : ℕ) → q ≤ x → x < q + sh.pages → get b (page owner x) ≡ suc c
  pub first : (x : ℕ) → q ≤ x → x < q + sh.pages → get b (page first x) ≡ q

module _ (n : ℕ) (b : List ℕ) (sh : Shape) (c q : ℕ) where
  pub whole_says : whole n b sh c q ≡ true → Whole n b sh c q
  unfolding whole
  whole_says e =
      let fits = leb (q + sh.pages) n in
      let under = leb (q + sh.pages) (get b (arena frontier)) in
      let pages = every (of_run b c q) (below sh.pages) in
      let rest = and_right fits (under && pages) e in
      let each : (x : ℕ) → q ≤ x → x < q + sh.pages → (eqb (get b (page owner x)) (suc c) && eqb (get b (page first x)) q) ≡ true
      = λ x l u. let z : q + (x - q) ≡ x = omega arith in rw z at (every-at (of_run b c q) sh.pages (x - q) (and_right under pages rest) (omega arith)) in
      record {
        inside = leb-true (q + sh.pages) n (and_left fits (under && pages) e);
        below = leb-true (q + sh.pages) (get b (arena frontier)) (and_left under pages rest);
        owner = λ x l u. eqb-true _ _ (and_left (eqb (get b (page owner x)) (suc c)) (eqb (get b (page first x)) q) (each x l u));
        first = λ x l u. eqb-true _ _ (and_right (eqb (get b (page owner x)) (suc c)) (eqb (get b (page first x)) q) (each x l u));
      }

  pub whole_of : Whole n b sh c q → whole n b sh c q ≡ true
  unfolding whole
  whole_of w =
      rw (le-leb (q + sh.pages) n w.inside, le-leb (q + sh.pages) (get b (arena frontier)) w.below)
      (every_of (of_run b c q) sh.pages (λ k l. rw (w.owner (q + k) (omega arith) (omega arith), w.first (q + k) (omega arith) (omega arith), eq-eqb (suc c) (suc c) refl, eq-eqb q q refl)))

module _ (n : ℕ) (b : List ℕ) {sh : Shape} (ok : Sound sh) (c q : ℕ) (e : whole n b sh c q ≡ true) where
  pub whole-owner : get b (page owner q) ≡ suc c
  whole-owner = (whole_says n b sh c q e).owner q (omega arith) (omega (arith, ok.paged))

  pub whole_in : ltb q n ≡ true
  whole_in = lt-ltb q n (omega (arith, (whole_says n b sh c q e).inside, ok.paged))

  pub whole_below : suc q ≤ get b (arena frontier)
  whole_below = omega (arith, (whole_says n b sh c q e).below, ok.paged)
