-- The computed histories stand in the order, on any arena.
use Rattle.facts.proofs.Prelude.{ℕ, zero, suc, ◌<◌, arith, List, [], ◌∷◌, ◌++◌, List-as-Memᴰ, List·Memᴰ·head, List·Memᴰ·tail}
use Rattle.facts.proofs.Prelude.{List·Memᴰ·not-nil, List·Memᴰ·append-cases, Memᴰ·of-map, ⊎_elim, Option, none, some, ◌≡◌, refl, subst}
use Rattle.listing.specs.History.{Call, commit, release, Run, State, committed, released, First, kinds, pages, runs, Before, here, there, Ordered}
use Rattle.listing.specs.Listing.{gather}
use Rattle.listing.proofs.Gather.{gather_of}
use Rattle.listing.proofs.Histories.{first, committing, releasing, histories}

-- ---- none stands before itself
first-not : {c d : Call} → First c d → c ≡ d → ⊥
first-not kinds e = let z : ◌≡◌ {A = ℕ} 0 1 = cc in omega arith
first-not (pages {p} {q} l) e = let z : p ≡ q = cc in omega arith
first-not (runs {i} {j} l) e = let z : i ≡ j = cc in omega arith

before-not : {g h : List Call} → Before g h → g ≡ h → ⊥
before-not (here {c} {d} f) e = let z : c ≡ d = cc in first-not f z
before-not (there {c} {cs} {ds} b) e = let z : cs ≡ ds = cc in before-not b z

-- ---- lists of histories, one before the other
Apart : List (List Call) → List (List Call) → Type 0
Apart xs ys = (g h : List Call) → List-as-Memᴰ g xs → List-as-Memᴰ h ys → Before g h

ordered_append : (xs ys : List (List Call)) → Ordered xs → Ordered ys → Apart xs ys → Ordered (xs ++ ys)
unfolding Apart
ordered_append [] ys o v a = v
ordered_append (x ∷ xs) ys o v a =
    (λ g m. ⊎_elim (o.0 g) (a x g (List·Memᴰ·head refl)) (List·Memᴰ·append-cases xs m), ordered_append xs ys o.1 v (λ g h m. a g h (List·Memᴰ·tail m)))

ordered_gather : (f : ℕ → List (List Call)) → ((j : ℕ) → Ordered (f j)) → ((i j : ℕ) → i < j → Apart (f i) (f j)) → (i m : ℕ) → Ordered (gather f i m)
unfolding gather Apart
ordered_gather f o a i zero = tt
ordered_gather f o a i (suc m) =
    ordered_append (f i) (gather f (suc i) m) (o i) (ordered_gather f o a (suc i) m)
    (λ g h x y. let r = gather_of f (suc i) m y in a i r.at (omega (arith, r.from)) g h x r.there)

ordered_first : (c : Call) (hs : List (List Call)) → Ordered hs → Ordered (first c hs)
ordered_first c [] o = tt
ordered_first c (h ∷ hs) o =
    (λ g m. let r = Memᴰ·of-map (λ t. c ∷ t) hs m in subst (Before (c ∷ h)) r.2 (there (o.0 r.0 r.1)), ordered_first c hs o.1)

apart-first : (c d : Call) (xs ys : List (List Call)) → First c d → Apart (first c xs) (first d ys)
unfolding Apart
apart-first c d xs ys f g h x y =
    let r = Memᴰ·of-map (λ t. c ∷ t) xs x in
    let s = Memᴰ·of-map (λ t. d ∷ t) ys y in
    rw (← r.2, ← s.2) (here f)

module _ (f : State → List (List Call)) (s : State) where
  ordered_releasing : ((t : State) → Ordered (f t)) → (i : ℕ) (r : Option Run) → Ordered (releasing f s i r)
  ordered_releasing o i none = tt
  ordered_releasing o i (some r) = ordered_first (release i) (f (released i r s)) (o (released i r s))

  apart-releasing : (c : Call) (xs : List (List Call)) (j : ℕ) (q : Option Run) → First c (release j) → Apart (first c xs) (releasing f s j q)
  unfolding Apart
  apart-releasing c xs j none l g h x y = absurd (List·Memᴰ·not-nil y)
  apart-releasing c xs j (some q) l g h x y = apart-first c (release j) xs (f (released j q s)) l g h x y

  apart-releases : (i j : ℕ) (r q : Option Run) → i < j → Apart (releasing f s i r) (releasing f s j q)
  unfolding Apart
  apart-releases i j none q l g h x y = absurd (List·Memᴰ·not-nil x)
  apart-releases i j (some r) q l g h x y = apart-releasing (release i) (f (released i r s)) j q (runs l) g h x y

pub histories_ordered : (n k : ℕ) (s : State) → Ordered (histories n k s)
unfolding histories Apart
histories_ordered n zero s = (λ g m. absurd (List·Memᴰ·not-nil m), tt)
histories_ordered n (suc k) s =
    let f : State → List (List Call) = histories n k in
    let g : ℕ → List (List Call) = λ i. releasing f s i (s.runs i) in
    ordered_append (gather (committing f n s) 1 n) (gather g 1 s.calls)
    (ordered_gather (committing f n s) (λ p. ordered_first (commit p) (f (committed n p s)) (histories_ordered n k (committed n p s))) (λ p q l. apart-first (commit p) (commit q) (f (committed n p s)) (f (committed n q s)) (pages l)) 1 n)
    (ordered_gather g (λ i. ordered_releasing f s (histories_ordered n k) i (s.runs i)) (λ i j. apart-releases f s i j (s.runs i) (s.runs j)) 1 s.calls)
    (λ a b x y.
    let p = gather_of (committing f n s) 1 n x in
    let i = gather_of g 1 s.calls y in
    apart-releasing f s (commit p.at) (f (committed n p.at s)) i.at (s.runs i.at) kinds a b p.there i.there)

pub never_before_itself : (h : List Call) → Before h h → ⊥
never_before_itself h b = before-not b refl
