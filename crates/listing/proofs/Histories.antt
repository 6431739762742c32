-- The histories of each length, computed over the model's arena, are just those of specs/History; on any arena, whatever its rules.
use Rattle.facts.proofs.Prelude.{ℕ, zero, suc, ◌+◌, ◌≤◌, ◌<◌, arith, List, [], ◌∷◌, ◌++◌, map, List-as-Memᴰ, List·Memᴰ·head}
use Rattle.facts.proofs.Prelude.{List·Memᴰ·not-nil, List·Memᴰ·append-cases, List·Memᴰ·eq-of-singleton, Memᴰ·append-left, Memᴰ·append-right}
use Rattle.facts.proofs.Prelude.{Memᴰ·map, Memᴰ·of-map, ⊎_elim, Option, none, some, ◌≡◌, refl, sym, ap, subst, length}
use Rattle.listing.specs.History.{Call, commit, release, Run, State, committed, released, History, over, commits, releases}
use Rattle.listing.specs.Listing.{gather}
use Rattle.listing.proofs.Gather.{gather_in, gather_of, Found}

abbrev pub first : Call → List (List Call) → List (List Call)
first c = map (λ h. c ∷ h)

-- those that begin with a commit; with the release of the i-th call's run, if it is held
abbrev pub committing : (State → List (List Call)) → ℕ → State → ℕ → List (List Call)
committing f n s p = first (commit p) (f (committed n p s))

abbrev pub releasing : (State → List (List Call)) → State → ℕ → Option Run → List (List Call)
releasing f s i none = []
releasing f s i (some r) = first (release i) (f (released i r s))

unfoldable pub histories : ℕ → ℕ → State → List (List Call)
histories n zero s = [] ∷ []
histories n (suc k) s = gather (committing (histories n k) n s) 1 n ++ gather (λ i. releasing (histories n k) s i (s.runs i)) 1 s.calls

-- every history of the length is there
pub histories-all : (n : ℕ) {s : State} {h : List Call} → History n s h → List-as-Memᴰ h (histories n (length h) s)
unfolding histories
histories-all n over = List·Memᴰ·head refl
histories-all n (commits {s} {cs} p l h t) =
    Memᴰ·append-left _ (gather_in (committing (histories n (length cs)) n s) 1 n p l (omega arith) (Memᴰ·map (λ g. commit p ∷ g) (histories-all n t)))
histories-all n (releases {s} {cs} i r l h e t) =
    Memᴰ·append-right (gather (committing (histories n (length cs)) n s) 1 n)
    (gather_in (λ j. releasing (histories n (length cs)) s j (s.runs j)) 1 s.calls i l (omega arith) (rw e (Memᴰ·map (λ g. release i ∷ g) (histories-all n t))))

-- and nothing else
abbrev pub Whole : ℕ → ℕ → State → List Call → Type 0
Whole n k s h = History n s h × (length h ≡ k)

module _ (n k : ℕ) (s : State) (below : (t : State) (h : List Call) → List-as-Memᴰ h (histories n k t) → Whole n k t h) where
  of_commits : (h : List Call) → Found (committing (histories n k) n s) 1 n h → Whole n (suc k) s h
  of_commits h x =
      let m = Memᴰ·of-map (λ g. commit x.at ∷ g) (histories n k (committed n x.at s)) x.there in
      let w = below _ _ m.1 in
      subst (Whole n (suc k) s) m.2 (commits x.at x.from (omega (arith, x.below)) w.0, ap suc w.1)

  of_run_lem : (h : List Call) (i : ℕ) (o : Option Run) → s.runs i ≡ o → 1 ≤ i → i < 1 + s.calls → List-as-Memᴰ h (releasing (histories n k) s i o) → Whole n (suc k) s h
  of_run_lem h i none e l b m = absurd (List·Memᴰ·not-nil m)
  of_run_lem h i (some r) e l b t =
      let m = Memᴰ·of-map (λ g. release i ∷ g) (histories n k (released i r s)) t in
      let w = below _ _ m.1 in
      subst (Whole n (suc k) s) m.2 (releases i r l (omega arith) e w.0, ap suc w.1)

  of_releases : (h : List Call) → Found (λ i. releasing (histories n k) s i (s.runs i)) 1 s.calls h → Whole n (suc k) s h
  of_releases h x = of_run_lem h x.at (s.runs x.at) refl x.from x.below x.there

pub histories-are : (n k : ℕ) (s : State) (h : List Call) → List-as-Memᴰ h (histories n k s) → Whole n k s h
unfolding histories
histories-are n zero s h m = subst (Whole n 0 s) (sym (List·Memᴰ·eq-of-singleton m)) (over, refl)
histories-are n (suc k) s h m =
    ⊎_elim
    (λ a. of_commits n k s (histories-are n k) h (gather_of (committing (histories n k) n s) 1 n a))
    (λ b. of_releases n k s (histories-are n k) h (gather_of (λ i. releasing (histories n k) s i (s.runs i)) 1 s.calls b))
    (List·Memᴰ·append-cases (gather (committing (histories n k) n s) 1 n) m)
