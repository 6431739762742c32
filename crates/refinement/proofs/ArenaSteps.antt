-- The arena's part of the representation along the writes of a step: storing an arena, giving pages an owner, counting them as held.
--     rep-kept              a book with the same words of the arena and OWNERs stands for the same
--     Stands n b a w f k    the words stand for the arena a and for the holders w of the pages below f, and HELD is k
use Rattle.facts.proofs.Prelude.{ℕ, ◌+◌, ◌-◌, ◌≤◌, ◌<◌, arith, Bool, true, false, not, false≢true, List, ◌≡◌, refl, sym}
use Rattle.facts.proofs.Prelude.{ap, ◌∙◌, eqb, ltb, leb, length, ltb-true, ltb-false, le-leb, lt-ltb, lt-leb, by_cases}
use Rattle.rules.specs.Rules.{Rules}
use Rattle.model.specs.Cover.{in_run, covers}
use Rattle.words.specs.Limits.{hole_slots}
use Rattle.fields.specs.Field.{Field, arena, class, hole, page, mark, out, slot, owner, size, format, state, held, holes, page_off, get, put, ok, words}
use Rattle.fields.specs.Ranges.{format_valid}
use Rattle.fields.proofs.Laws.{get_put_same, get-put_other, length-put}
use Rattle.fields.proofs.Sound.{format-kept}
use Rattle.fields.proofs.Changes.{differ}
use Rattle.model.specs.Arena.{Arena}
use Rattle.model.specs.Heap.{Heap, Holder, nobody, pass_to, held_pages}
use Rattle.model.specs.Class.{Class}
use Rattle.arena.specs.Load.{status_code, load_arena}
use Rattle.arena.specs.Owners.{owner_code, own}
use Rattle.arena.specs.way.Represents.{ArenaRep}
use Rattle.arena.proofs.Frames.{is_stored}
use Rattle.refinement.proofs.ArenaStore.{long_kept, load_kept, load_written}
use Rattle.refinement.proofs.ArenaStored.{Stored, stored-changes, stored-written}
use Rattle.refinement.proofs.ArenaFrames.{is_owner, own-changes, own_in}
use Rattle.refinement.proofs.ArenaReached.{heap_of}
use Rattle.refinement.proofs.ArenaValid.{loads-number}
use Rattle.refinement.proofs.ArenaHeld.{held_of}

pub record Stands (n : ℕ) (b : List ℕ) (a : Arena) (w : ℕ → Holder) (f k : ℕ) : Type 0 where
  pub long : leb (words n) (length b) ≡ true
  pub length : get b (arena size) ≡ n
  pub format : format_valid b ≡ true
  pub loads : load_arena b ≡ a
  pub state : get b (arena state) ≡ status_code a.status
  pub held : get b (arena held) ≡ k
  pub owners : (x : ℕ) → x < f → get b (page owner x) ≡ owner_code (w x)

-- the representation is such, and does not look at the classes
pub rep-stands : (n : ℕ) (b : List ℕ) (H : Heap) → ArenaRep n b H → Stands n b H.arena H.holder H.arena.frontier (held_pages n H)
rep-stands n b H r = record { long = r.long; length = r.length; format = r.format; loads = r.loads; state = r.state; held = r.held; owners = r.owners }

pub stands-rep : {rules : Rules} (n : ℕ) (b : List ℕ) (a : Arena) (w : ℕ → Holder) (k : ℕ) (cs : ℕ → Class) → k ≡ held_of n w → Stands n b a w a.frontier k → ArenaRep n b (heap_of rules a w cs)
stands-rep n b a w k cs e s = record { long = s.long; length = s.length; format = s.format; loads = s.loads; state = s.state; held = s.held ∙ e; owners = s.owners }

pub rep-classes : (n : ℕ) (b : List ℕ) (H : Heap) (cs : ℕ → Class) → ArenaRep n b H → ArenaRep n b (heap_of H.rules H.arena H.holder cs)
rep-classes n b H cs r = stands-rep n b H.arena H.holder (held_pages n H) cs refl (rep-stands n b H r)

-- the words that the arena's part reads: what keeps them keeps it
abbrev pub is_arenas : Field → Bool
is_arenas (arena k) = true
is_arenas (mark p j) = false
is_arenas (class k c) = false
is_arenas (hole k i) = true
is_arenas (page k p) = eqb (page_off k) 0
is_arenas (out p i) = false
is_arenas (slot p i) = false

stored-arenas : (g : Field) → is_stored g ≡ true → is_arenas g ≡ true
stored-arenas (arena k) e = refl
stored-arenas (mark p j) e = e
stored-arenas (class k c) e = e
stored-arenas (hole k i) e = refl
stored-arenas (page k p) e = absurd (false≢true e)
stored-arenas (out p i) e = e
stored-arenas (slot p i) e = e

pub rep-kept : (n : ℕ) (b b' : List ℕ) (H : Heap) → length H.arena.store.holes ≤ hole_slots → length b' ≡ length b
    → ((g : Field) → ok g ≡ true → is_arenas g ≡ true → get b' g ≡ get b g)
    → ArenaRep n b H → ArenaRep n b' H
rep-kept n b b' H few long k r = record {
  long = long_kept n b b' long r.long;
  length = k (arena size) refl refl ∙ r.length;
  format = rw (format-kept b b' (k (arena format) refl refl)) r.format;
  loads = load_kept b b' (rw (loads-number b H.arena r.loads) few) (λ g o e. k g o (stored-arenas g e)) ∙ r.loads;
  state = k (arena state) refl refl ∙ r.state;
  held = k (arena held) refl refl ∙ r.held;
  owners = λ x l. k (page owner x) refl refl ∙ r.owners x l;
}

owner-apart : (t : ℕ → Bool) (g : Field) → is_stored g ≡ true → is_owner t g ≡ false
owner-apart t (arena k) e = refl
owner-apart t (mark p j) e = refl
owner-apart t (class k c) e = refl
owner-apart t (hole k i) e = refl
owner-apart t (page k p) e = absurd (false≢true e)
owner-apart t (out p i) e = refl
owner-apart t (slot p i) e = refl

module _ (n : ℕ) (b : List ℕ) (a : Arena) (w : ℕ → Holder) (f k : ℕ) (s : Stands n b a w f k) where
  -- another arena is stored
  pub store-stands : (a' : Arena) (x : List ℕ) → Stored b a' x → Stands n x a' w f k
  store-stands a' x t =
      let h = stored-changes b t in
      let z = stored-written b n s.long t in
      record {
        long = long_kept n b x h.long s.long;
        length = h.kept (arena size) refl refl ∙ s.length;
        format = rw (format-kept b x (h.kept (arena format) refl refl)) s.format;
        loads = load_written x a' z;
        state = z.status;
        held = h.kept (arena held) refl refl ∙ s.held;
        owners = λ y l. h.kept (page owner y) refl refl ∙ s.owners y l;
      }

  module _ (few : length a.store.holes ≤ hole_slots) where
    few_words : get b (arena holes) ≤ 4096
    few_words = rw (loads-number b a s.loads) few

    -- m pages from q on pass to a holder
    pub own-stands : (q m : ℕ) → q + m ≤ n → (who : Holder) → Stands n (own b q m (owner_code who)) a (pass_to who (covers m q) w) f k
    own-stands q m l who =
        let v = owner_code who in
        let h = own-changes b q m v in
        record {
          long = long_kept n b (own b q m v) h.long s.long;
          length = h.kept (arena size) refl refl ∙ s.length;
          format = rw (format-kept b (own b q m v) (h.kept (arena format) refl refl)) s.format;
          loads = load_kept b (own b q m v) few_words (λ g o e. h.kept g o (owner-apart (in_run m q) g e)) ∙ s.loads;
          state = h.kept (arena state) refl refl ∙ s.state;
          held = h.kept (arena held) refl refl ∙ s.held;
          owners = λ x u. by_cases (in_run m q x)
              (λ e. rw e (own_in n b q m v x s.long l e))
              (λ e. rw e (h.kept (page owner x) refl e ∙ s.owners x u));
        }

    -- the frontier moves on from f, over pages that are nobody's
    pub fresh-stands : (f' : ℕ) → f ≤ f' → f' ≤ n → ((x : ℕ) → f ≤ x → w x ≡ nobody) → Stands n (own b f (f' - f) 0) a w f' k
    fresh-stands f' l u h =
        let t = own-stands f (f' - f) (omega arith) nobody in
        record {
          long = t.long;
          length = t.length;
          format = t.format;
          loads = t.loads;
          state = t.state;
          held = t.held;
          owners = λ x v. by_cases (ltb x f)
              (λ e. let z = ltb-true x f e in rw (lt-leb f x z) at (t.owners x z))
              (λ e. let z = ltb-false x f e in
              own_in n b f (f' - f) 0 x s.long (omega arith) (rw (le-leb f x z, lt-ltb x (f + (f' - f)) (omega arith))) ∙ sym (ap owner_code (h x z)));
        }

    pub held-stands : (j : ℕ) → Stands n (put b (arena held) j) a w f j
    held-stands j =
        let c = put b (arena held) j in
        record {
          long = rw length-put s.long;
          length = get-put_other b (arena held) (arena size) j refl refl refl ∙ s.length;
          format = rw (format-kept b c (get-put_other b (arena held) (arena format) j refl refl refl)) s.format;
          loads = load_kept b c few_words (λ g o e. get-put_other b (arena held) g j refl o (differ (λ y. not (is_stored y)) (arena held) g refl (rw e))) ∙ s.loads;
          state = get-put_other b (arena held) (arena state) j refl refl refl ∙ s.state;
          held = get_put_same n b (arena held) j s.long refl refl;
          owners = λ x l. get-put_other b (arena held) (page owner x) j refl refl refl ∙ s.owners x l;
        }
