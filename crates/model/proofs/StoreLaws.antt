-- The hole store: a choice is the least hole that suffices, and taking keeps account of pages.
use Rattle.facts.proofs.Prelude.{ℕ, suc, ◌+◌, ◌-◌, ◌≤◌, ◌<◌, arith, Bool, true, false, cond, ◌&&◌, true≢false, List, [], ◌∷◌, Option, none, some, ◌≡◌, refl, eqb}
use Rattle.facts.proofs.Prelude.{leb, ltb, length, leb-true, leb-false, le-leb, ltb-true, ltb-false, eqb-true, eq-eqb, All, total, by_cases, and_left, and_right}
use Rattle.model.specs.Cover.{covers}
use Rattle.model.specs.declared.Hole.{Hole}
use Rattle.model.specs.HoleStore.{HoleStore, hole, goes_before, Fit, fit_at, nearer, least_fit, index_of, hole_at, choose, cut_from, take_at}
use Rattle.model.specs.BestFit.{LeastAt, Which, NoneFits}
use Rattle.model.proofs.Runs.{covers-cut}
use Rattle.model.proofs.HoleLists.{all_map, set-total, remove_total}

-- the order of holes: shorter, or as long with a lower first page
pub record Ahead (h g : Hole) : Type 0 where
  pub shorter : h.pages ≤ g.pages
  pub lower : g.pages ≡ h.pages → h.first ≤ g.first

ahead : (h g : Hole) → goes_before h g ≡ true → Ahead h g
ahead h g e =
    by_cases (ltb h.pages g.pages)
    (λ d. let l = ltb-true h.pages g.pages d in record { shorter = omega arith; lower = λ s. omega arith })
    (λ d. let b = rw d at e in
    let s = eqb-true h.pages g.pages (and_left (eqb h.pages g.pages) (leb h.first g.first) b) in
    let f = leb-true h.first g.first (and_right (eqb h.pages g.pages) (leb h.first g.first) b) in
    record { shorter = omega arith; lower = λ _. f })

behind : (h g : Hole) → goes_before h g ≡ false → Ahead g h
behind h g e =
    by_cases (ltb h.pages g.pages)
    (λ d. absurd (true≢false (rw d at e)))
    (λ d. let l = ltb-false h.pages g.pages d in
    record { shorter = l; lower = λ s. omega (arith, leb-false h.first g.first (rw (d, eq-eqb h.pages g.pages s) at e)) })

-- the hole that goes before all others that suffice; or none suffices
abbrev pub First : ℕ → Hole → Hole → Type 0
First n f h = n ≤ h.pages → Ahead f h

pub record IsLeast (n : ℕ) (hs : List Hole) (f : Fit) : Type 0 where
  pub inside : f.index < length hs
  pub there : hole_at f.index hs ≡ f.hole
  pub enough : n ≤ f.hole.pages
  pub first : All (First n f.hole) hs

pub data Fits (n : ℕ) (hs : List Hole) : Option Fit → Type 0 where
  fits : (f : Fit) → IsLeast n hs f → Fits n hs (some f)
  none-fits : NoneFits n hs → Fits n hs none

fits-cond : (n : ℕ) (hs : List Hole) (b : Bool) (x y : Option Fit) → (b ≡ true → Fits n hs x) → (b ≡ false → Fits n hs y) → Fits n hs (cond b x y)
fits-cond n hs true x y p q = p refl
fits-cond n hs false x y p q = q refl

-- one hole more: it goes first, or the fit stays, one place on
ahead_self : (h : Hole) → Ahead h h
ahead_self h = record { shorter = omega arith; lower = λ _. omega arith }

ahead_trans : (h f g : Hole) → Ahead h f → Ahead f g → Ahead h g
ahead_trans h f g a b = record { shorter = omega (arith, a.shorter, b.shorter); lower = λ e. omega (arith, a.lower (omega (arith, a.shorter, b.shorter)), b.lower (omega (arith, a.shorter, b.shorter))) }

module _ (n : ℕ) (h : Hole) (hs : List Hole) where
  goes_first : n ≤ h.pages → All (First n h) hs → Fits n (h ∷ hs) (some (fit_at 0 h))
  goes_first e k = fits (fit_at 0 h) (record { inside = omega arith; there = refl; enough = e; first = (λ _. ahead_self h, k) })

  alone-fits : NoneFits n hs → n ≤ h.pages → Fits n (h ∷ hs) (some (fit_at 0 h))
  alone-fits k e = goes_first e (all_map (λ g. g.pages < n) (First n h) (λ g p q. absurd (omega arith)) hs k)

  still-none : NoneFits n hs → h.pages < n → Fits n (h ∷ hs) none
  still-none k e = none-fits (e, k)

  module _ (f : Fit) (k : IsLeast n hs f) where
    closer_fits : n ≤ h.pages → goes_before h f.hole ≡ true → Fits n (h ∷ hs) (some (fit_at 0 h))
    closer_fits e b = goes_first e (all_map (First n f.hole) (First n h) (λ g p q. ahead_trans h f.hole g (ahead h f.hole b) (p q)) hs k.first)

    stays_fit : First n f.hole h → Fits n (h ∷ hs) (some (fit_at (suc f.index) f.hole))
    stays_fit b = fits (fit_at (suc f.index) f.hole) (record { inside = omega (arith, k.inside); there = k.there; enough = k.enough; first = (b, k.first) })

  not_closer : (g : Hole) → (leb n h.pages && goes_before h g) ≡ false → First n g h
  not_closer g e l = behind h g (rw (le-leb n h.pages l) at e)

  nearer-fits : {o : Option Fit} → Fits n hs o → Fits n (h ∷ hs) (nearer n h o)
  nearer-fits (none-fits k) = search (fits-cond, alone-fits, still-none, leb-true, leb-false)
  nearer-fits (fits f k) =
      fits-cond n (h ∷ hs) (leb n h.pages && goes_before h f.hole) _ _
      (λ e. closer_fits f k (leb-true n h.pages (and_left (leb n h.pages) (goes_before h f.hole) e)) (and_right (leb n h.pages) (goes_before h f.hole) e))
      (λ e. stays_fit f k (not_closer f.hole e))

pub least_fits : (n : ℕ) (hs : List Hole) → Fits n hs (least_fit n hs)
unfolding least_fit
least_fits n [] = none-fits tt
least_fits n (h ∷ hs) = nearer-fits n h hs (least_fits n hs)

-- the choice, with its reason
pub data Chosen (n : ℕ) (hs : List Hole) : Option ℕ → Type 0 where
  at-hole : (i : ℕ) → LeastAt n hs i → Which hs i → Chosen n hs (some i)
  no-hole : NoneFits n hs → Chosen n hs none

chosen-fit : (n : ℕ) (hs : List Hole) {o : Option Fit} → Fits n hs o → Chosen n hs (index_of o)
chosen-fit n hs (none-fits k) = no-hole k
chosen-fit n hs (fits f k) =
    at-hole f.index
    (record {
      inside = k.inside;
      enough = rw k.there k.enough;
      least = rw k.there (all_map (First n f.hole) (λ h. n ≤ h.pages → f.hole.pages ≤ h.pages) (λ h p q. (p q).shorter) hs k.first);
    })
    (rw k.there (all_map (First n f.hole) (λ h. h.pages ≡ f.hole.pages → f.hole.first ≤ h.first) (λ h p e. (p (omega (arith, k.enough))).lower e) hs k.first))

pub chosen : (n : ℕ) (hs : List Hole) → Chosen n hs (choose n hs)
chosen n hs = chosen-fit n hs (least_fits n hs)

-- the pages of a store, at page x
abbrev pub holes_with : ℕ → List Hole → ℕ
holes_with x hs = total (λ h. covers h.pages h.first x) hs

pub take-law : (n i x : ℕ) (s : HoleStore) → i < length s.holes → n ≤ (hole_at i s.holes).pages
    → holes_with x (take_at n i s).holes + covers n (hole_at i s.holes).first x ≡ holes_with x s.holes
unfolding cut_from
take-law n i x s h k =
    let b = hole_at i s.holes in
    by_cases (ltb n b.pages)
    (λ e. rw e (omega (arith, set-total (λ g. covers g.pages g.first x) i (hole (b.first + n) (b.pages - n)) s.holes h, covers-cut n b.pages b.first x k)))
    (λ e. rw e (let s' : n ≡ b.pages = omega (arith, ltb-false n b.pages e) in rw s' (omega (arith, remove_total (λ g. covers g.pages g.first x) i s.holes h))))
