-- A class's lists of pages, linked through the words. A page is stored as its code, page + 1, and 0 is none.
--     Segment b y h xs e   the pages xs are linked from a place whose first page has code h and whose page before has code y, and the
--                          last is followed by code e
--     Chain                the partial list, doubly linked
--     Stack                a store of parked pages, singly linked, with its count
use Rattle.std.specs.Prelude.{ℕ, suc, ◌≤◌, ◌<◌, List, [], ◌∷◌, ◌⊎◌, ◌≡◌, length}
use Rattle.fields.specs.Field.{class, page, partial, next, prev, get}
use Rattle.pages.specs.declared.Park.{Park}
use Rattle.pages.specs.Links.{top, stored}

abbrev pub In : ℕ → List ℕ → Type 0
In x [] = ⊥
In x (y ∷ ys) = (x ≡ y) ⊎ In x ys

abbrev pub Distinct : List ℕ → Type 0
Distinct [] = Unit {0}
Distinct (x ∷ xs) = (In x xs → ⊥) × Distinct xs

abbrev pub Segment : List ℕ → ℕ → ℕ → List ℕ → ℕ → Type 0
Segment b y h [] e = h ≡ e
Segment b y h (x ∷ xs) e = (h ≡ suc x) × (get b (page prev x) ≡ y) × Segment b (suc x) (get b (page next x)) xs e

pub record Chain (n : ℕ) (b : List ℕ) (c : ℕ) (xs : List ℕ) : Type 0 where
  pub links : Segment b 0 (get b (class partial c)) xs 0
  pub distinct : Distinct xs
  pub below : (x : ℕ) → In x xs → x < n

abbrev pub Line : List ℕ → ℕ → List ℕ → Type 0
Line b h [] = h ≡ 0
Line b h (x ∷ xs) = (h ≡ suc x) × Line b (get b (page next x)) xs

pub record Stack (b : List ℕ) (c : ℕ) (k : Park) (xs : List ℕ) : Type 0 where
  pub line : Line b (get b (class (top k) c)) xs
  pub number : get b (class (stored k) c) ≡ length xs
  pub few : length xs ≤ 256
