-- A stack of runs against the order of the releases: the one on top was released to last.
--     Ordered     each run of a list was released to after those behind it, as o tells
--     next_at      what a release to the run at r makes of the telling; next_all, releases in turn
use Rattle.facts.proofs.Prelude.{ℕ, ◌+◌, ◌≤◌, arith, Bool, true, false, cond, not, ◌&&◌, ◌||◌, List, [], ◌∷◌, map, ◌⊎◌, inl, inr, ◌≡◌, refl, ap}
use Rattle.facts.proofs.Prelude.{eqb, eqb-true, eq-eqb, not-true, All, total, elem, count, by_cases, and_left, and_right, or_right, eqb-turned}
use Rattle.words.specs.Word.{page_of}
use Rattle.model.specs.Page.{Page}
use Rattle.model.specs.Class.{Cold}
use Rattle.model.specs.Chunks.{starts_at}
use Rattle.model.specs.Sources.{behind}

-- the pages at which runs begin
abbrev pub firsts : List Page → List ℕ
firsts ps = map (λ (p : Page). p.first) ps

abbrev pub cold_firsts : List Cold → List ℕ
cold_firsts cs = map (λ (c : Cold). c.first) cs

pub firsts-count : (q : ℕ) (ps : List Page) → count q (firsts ps) ≡ total (λ p. cond (starts_at q p) 1 0) ps
firsts-count q [] = refl
firsts-count q (p ∷ ps) = rw (eqb-turned q p.first) (omega (arith, firsts-count q ps))

pub cold-count : (q : ℕ) (cs : List Cold) → count q (cold_firsts cs) ≡ total (λ (c : Cold). cond (eqb c.first q) 1 0) cs
cold-count q [] = refl
cold-count q (c ∷ cs) = rw (eqb-turned q c.first) (omega (arith, cold-count q cs))

abbrev pub Ordered : (ℕ → ℕ → Bool) → List ℕ → Type 0
Ordered o [] = Unit {0}
Ordered o (r ∷ l) = All (λ q. o r q ≡ true) l × Ordered o l

all_map : (P Q : ℕ → Type 0) (l : List ℕ) → ((q : ℕ) → 1 ≤ count q l → P q → Q q) → All P l → All Q l
all_map P Q [] f k = tt
all_map P Q (x ∷ l) f k = (f x (rw (eq-eqb x x refl) (omega arith)) k.0, all_map P Q l (λ q n. f q (omega arith)) k.1)

pub all-count : (P : ℕ → Type 0) (q : ℕ) (l : List ℕ) → 1 ≤ count q l → All P l → P q
all-count P q [] n k = absurd (omega arith)
all-count P q (x ∷ l) n k =
    by_cases (eqb q x)
    (λ e. rw (eqb-true q x e) k.0)
    (λ e. let m : 1 ≤ 0 + count q l = rw e at n in all-count P q l (omega arith) k.1)

all_of : (P : ℕ → Type 0) (l : List ℕ) → ((q : ℕ) → P q) → All P l
all_of P [] f = tt
all_of P (x ∷ l) f = (f x, all_of P l f)

pub ordered_map : (o o' : ℕ → ℕ → Bool) (l : List ℕ) → ((i j : ℕ) → 1 ≤ count j l → o i j ≡ true → o' i j ≡ true) → Ordered o l → Ordered o' l
ordered_map o o' [] f k = tt
ordered_map o o' (r ∷ l) f k = (all_map (λ q. o r q ≡ true) (λ q. o' r q ≡ true) l (λ q n. f r q (omega arith)) k.0, ordered_map o o' l (λ i j n. f i j (omega arith)) k.1)

-- ---- a release to the run at r
abbrev pub next_at : ℕ → (ℕ → ℕ → Bool) → ℕ → ℕ → Bool
next_at r o i j = eqb i r || (o i j && not (eqb j r))

-- it leaves the order of the other runs
pub ordered_beside : (r : ℕ) (o : ℕ → ℕ → Bool) (l : List ℕ) → count r l ≡ 0 → Ordered o l → Ordered (next_at r o) l
ordered_beside r o l z k =
    ordered_map o (next_at r o) l (λ i j n e.
    by_cases (eqb j r)
    (λ a. absurd (omega (arith, ap (λ m. count m l) (eqb-true j r a))))
    (λ a. rw (e, a) (or_right (eqb i r) true refl))) k

-- and puts its own on top
pub ordered_top : (r : ℕ) (o : ℕ → ℕ → Bool) (l : List ℕ) → count r l ≡ 0 → Ordered o l → Ordered (next_at r o) (r ∷ l)
ordered_top r o l z k = (all_of (λ q. next_at r o r q ≡ true) l (λ q. rw (eq-eqb r r refl)), ordered_beside r o l z k)

-- ---- groups in turn
abbrev pub next_all : List ℕ → (ℕ → ℕ → Bool) → ℕ → ℕ → Bool
next_all [] o = o
next_all (g ∷ gs) o = next_all gs (next_at (page_of g) o)

pub all-observed : (gs : List ℕ) (o : ℕ → ℕ → Bool) (i j : ℕ) → next_all gs o i j ≡ true → (behind i j gs ≡ true) ⊎ ((o i j ≡ true) × (elem j (map page_of gs) ≡ false))
all-observed [] o i j e = inr (e, refl)
all-observed (g ∷ gs) o i j e = elim (all-observed gs (next_at (page_of g) o) i j e) [
  | inl b ↦ inl (or_right (eqb i (page_of g) && not (elem j (map page_of gs))) (behind i j gs) b)
  | inr k ↦ here k
]
  where
    here : (next_at (page_of g) o i j ≡ true) × (elem j (map page_of gs) ≡ false) → (behind i j (g ∷ gs) ≡ true) ⊎ ((o i j ≡ true) × (elem j (map page_of (g ∷ gs)) ≡ false))
    here k =
        by_cases (eqb i (page_of g))
        (λ a. inl (rw (a, k.1)))
        (λ a. let y : (o i j && not (eqb j (page_of g))) ≡ true = rw a at k.0 in
        inr (and_left (o i j) (not (eqb j (page_of g))) y, rw (not-true (eqb j (page_of g)) (and_right (o i j) (not (eqb j (page_of g))) y), k.1)))
