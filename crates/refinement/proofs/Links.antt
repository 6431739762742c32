-- Which fields a page's move into a list and out of it writes.
--     is_link           linking q and unlinking it between pages of the codes x behind it and y before it: their links, its own, the
--                      head of the list, and whether q is listed
--     is_park_run        a store's row, and NEXT of q
--     LetsLink, LetsParkRun    what a test must let pass for these moves to be changes of that test
use Rattle.facts.proofs.Prelude.{ℕ, suc, Bool, true, false, ◌&&◌, ◌||◌, List, ◌≡◌, refl, eqb, ltb, eq-eqb, ne_eqb, or_right}
use Rattle.words.specs.Limits.{class_rows}
use Rattle.fields.specs.Field.{Field, arena, class, hole, page, mark, slot, out, partial, owner, next, prev, listed, class_off, page_off, get}
use Rattle.fields.proofs.Changes.{Changes}
use Rattle.pages.specs.declared.Park.{Park}
use Rattle.pages.specs.declared.Park.TheVariants.{Empty, Cold}
use Rattle.pages.specs.Links.{link, unlink, top, stored, other, park_run, pop_store}
use Rattle.pages.proofs.Frames.{changes-link, changes-unlink, changes-park_run, changes-pop_store}
use Rattle.pages.proofs.Kept.{Owns, Body, changes-owns, changes-body}
use Rattle.refinement.proofs.Frames.{of_class}
use Rattle.refinement.proofs.Kept.{Ties}

-- ---- the partial list
abbrev pub is_link : ℕ → ℕ → ℕ → ℕ → Field → Bool
is_link c q x y (arena k) = false
is_link c q x y (mark p j) = false
is_link c q x y (class k d) = eqb (class_off k) 0 && (eqb y 0 && eqb d c)
is_link c q x y (hole k i) = false
is_link c q x y (page k z) =
    (eqb (page_off k) 2 && (eqb z q || eqb y (suc z))) || ((eqb (page_off k) 3 && (eqb z q || eqb x (suc z))) || (eqb (page_off k) 6 && eqb z q))
is_link c q x y (slot p i) = false
is_link c q x y (out p i) = false

pub record LetsLink (t : Field → Bool) (c q x y : ℕ) : Type 0 where
  pub head : y ≡ 0 → t (class partial c) ≡ true
  pub before : (z : ℕ) → y ≡ suc z → t (page next z) ≡ true
  pub behind : (z : ℕ) → x ≡ suc z → t (page prev z) ≡ true
  pub fore : t (page next q) ≡ true
  pub back : t (page prev q) ≡ true
  pub listing : t (page listed q) ≡ true

pub link_lets : (c q x y : ℕ) → LetsLink (is_link c q x y) c q x y
link_lets c q x y = record {
  head = λ e. rw (e, eq-eqb c c refl);
  before = λ z e. rw (e, eq-eqb (suc z) (suc z) refl, or_right (eqb z q) true refl);
  behind = λ z e. rw (e, eq-eqb (suc z) (suc z) refl, or_right (eqb z q) true refl);
  fore = rw (eq-eqb q q refl);
  back = rw (eq-eqb q q refl);
  listing = eq-eqb q q refl;
}

-- every page that is written is class c's
pub class_lets : (b : List ℕ) (c q x y : ℕ) → get b (page owner q) ≡ suc c → ((z : ℕ) → x ≡ suc z → get b (page owner z) ≡ suc c)
    → ((z : ℕ) → y ≡ suc z → get b (page owner z) ≡ suc c) → LetsLink (of_class b c) c q x y
class_lets b c q x y o behind before =
    let mine : of_class b c (page next q) ≡ true = eq-eqb _ _ o in
    record {
      head = λ e. eq-eqb (suc c) (suc c) refl;
      before = λ z e. eq-eqb _ _ (before z e);
      behind = λ z e. eq-eqb _ _ (behind z e);
      fore = mine;
      back = mine;
      listing = mine;
    }

module _ (t : Field → Bool) (b : List ℕ) (c q : ℕ) (row : ltb c class_rows ≡ true) where
  pub link-changes : LetsLink t c q (get b (class partial c)) 0 → Changes t b (link b c q)
  link-changes l = changes-link t b c q row (l.head refl) l.fore l.back l.listing l.behind

  pub unlink-changes : LetsLink t c q (get b (page next q)) (get b (page prev q)) → Changes t b (unlink b c q)
  unlink-changes l = changes-unlink t b c q row l.head l.before l.behind l.fore l.back l.listing

-- what linking leaves alone
module _ {b b' : List ℕ} (c q x y : ℕ) (h : Changes (is_link c q x y) b b') where
  pub link-owns : Owns b b'
  link-owns = changes-owns h (λ z. refl) (λ z. refl) refl

  pub link-body : (z : ℕ) → Body z b b'
  link-body z = changes-body h z refl refl refl (λ i. refl) (λ i. refl) (λ j. refl)

  pub link-listing : (z : ℕ) → (z ≡ q → ⊥) → get b' (page listed z) ≡ get b (page listed z)
  link-listing z d = h.kept (page listed z) refl (ne_eqb z q d)

  pub link-next : (z : ℕ) → (z ≡ q → ⊥) → (y ≡ suc z → ⊥) → get b' (page next z) ≡ get b (page next z)
  link-next z d e = h.kept (page next z) refl (rw (ne_eqb z q d, ne_eqb y (suc z) e))

  pub link-prev : (z : ℕ) → (z ≡ q → ⊥) → (x ≡ suc z → ⊥) → get b' (page prev z) ≡ get b (page prev z)
  link-prev z d e = h.kept (page prev z) refl (rw (ne_eqb z q d, ne_eqb x (suc z) e))

  pub link-top : ltb c class_rows ≡ true → (k : Park) → get b' (class (top k) c) ≡ get b (class (top k) c)
  link-top row Empty = h.kept (class (top Empty) c) row refl
  link-top row Cold = h.kept (class (top Cold) c) row refl

  pub link-stored : ltb c class_rows ≡ true → (k : Park) → get b' (class (stored k) c) ≡ get b (class (stored k) c)
  link-stored row Empty = h.kept (class (stored Empty) c) row refl
  link-stored row Cold = h.kept (class (stored Cold) c) row refl

-- ---- the stores
abbrev pub is_park_run : Park → ℕ → ℕ → Field → Bool
is_park_run k c q (arena l) = false
is_park_run k c q (mark p j) = false
is_park_run k c q (class l d) = (eqb (class_off l) (class_off (top k)) || eqb (class_off l) (class_off (stored k))) && eqb d c
is_park_run k c q (hole l i) = false
is_park_run k c q (page l p) = eqb (page_off l) 2 && eqb p q
is_park_run k c q (slot p i) = false
is_park_run k c q (out p i) = false

pub record LetsParkRun (t : Field → Bool) (k : Park) (c q : ℕ) : Type 0 where
  pub newest : t (class (top k) c) ≡ true
  pub number : t (class (stored k) c) ≡ true
  pub fore : t (page next q) ≡ true

pub park_run_lets : (k : Park) (c q : ℕ) → LetsParkRun (is_park_run k c q) k c q
park_run_lets Empty c q = record { newest = eq-eqb c c refl; number = eq-eqb c c refl; fore = eq-eqb q q refl }
park_run_lets Cold c q = record { newest = eq-eqb c c refl; number = eq-eqb c c refl; fore = eq-eqb q q refl }

pub class_lets_park_run : (b : List ℕ) (k : Park) (c q : ℕ) → get b (page owner q) ≡ suc c → LetsParkRun (of_class b c) k c q
class_lets_park_run b Empty c q o = record { newest = eq-eqb (suc c) (suc c) refl; number = eq-eqb (suc c) (suc c) refl; fore = eq-eqb _ _ o }
class_lets_park_run b Cold c q o = record { newest = eq-eqb (suc c) (suc c) refl; number = eq-eqb (suc c) (suc c) refl; fore = eq-eqb _ _ o }

module _ (t : Field → Bool) (b : List ℕ) (c q : ℕ) (row : ltb c class_rows ≡ true) (k : Park) (l : LetsParkRun t k c q) where
  pub park_run-changes : Changes t b (park_run b c k q)
  park_run-changes = changes-park_run t b c q row k l.newest l.number l.fore

  pub pop_store-changes : Changes t b (pop_store b c k q)
  pop_store-changes = changes-pop_store t b c q row k l.newest l.number

module _ {b b' : List ℕ} (k : Park) (c q : ℕ) (h : Changes (is_park_run k c q) b b') where
  pub park_run-owns : Owns b b'
  park_run-owns = changes-owns h (λ z. refl) (λ z. refl) refl

  pub park_run-body : (z : ℕ) → Body z b b'
  park_run-body z = changes-body h z refl refl refl (λ i. refl) (λ i. refl) (λ j. refl)

  pub park_run-listing : (z : ℕ) → get b' (page listed z) ≡ get b (page listed z)
  park_run-listing z = h.kept (page listed z) refl refl

  pub park_run-ties : (z : ℕ) → (z ≡ q → ⊥) → Ties z b b'
  park_run-ties z d = record { fore = h.kept (page next z) refl (ne_eqb z q d); back = h.kept (page prev z) refl refl }

  partial-row : (k : Park) → is_park_run k c q (class partial c) ≡ false
  partial-row Empty = refl
  partial-row Cold = refl

  top-row : (k : Park) → is_park_run k c q (class (top (other k)) c) ≡ false
  top-row Empty = refl
  top-row Cold = refl

  stored_row : (k : Park) → is_park_run k c q (class (stored (other k)) c) ≡ false
  stored_row Empty = refl
  stored_row Cold = refl

  module _ (row : ltb c class_rows ≡ true) where
    pub park_run-partial : get b' (class partial c) ≡ get b (class partial c)
    park_run-partial = h.kept (class partial c) row (partial-row k)

    pub park_run-top : get b' (class (top (other k)) c) ≡ get b (class (top (other k)) c)
    park_run-top = h.kept (class (top (other k)) c) row (top-row k)

    pub park_run-stored : get b' (class (stored (other k)) c) ≡ get b (class (stored (other k)) c)
    park_run-stored = h.kept (class (stored (other k)) c) row (stored_row k)
