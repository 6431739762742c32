-- The ways out of the functions, over plain values.
use Rattle.facts.proofs.Prelude.{ℕ, zero, suc, ◌+◌, ◌-◌, ◌≤◌, ◌<◌, arith, add-one, Bool, true, false, List, Option, ◌≡◌, refl, sym}
use Rattle.facts.proofs.Prelude.{ap, ◌∙◌, subst, leb, length, lt-ltb, le-ltb, le-leb, lt-leb, eq-eqb, ne_eqb, every, and_no}
use Rattle.words.specs.Limits.{hole_slots, hole_pages_max}
use Rattle.fields.specs.Field as Field
use Rattle.fields.specs.Field.{arena, page, owner, state, frontier, holes, hole_pages, held, pages, get, put}
use Rattle.fields.proofs.Laws.{length-put}
use Rattle.fields.specs.Ranges.{head_valid}
use Rattle.runs.specs.declared.Arena.{Arena}
use Rattle.runs.specs.declared.holes.Neighbours.{Neighbours}
use Rattle.runs.specs.declared.record.Gain.{Gain}
use Rattle.runs.specs.way.Change.{gained_by, gains, lost}
use Rattle.runs.specs.way.Record.{abandoning}
use Rattle.runs.specs.way.Plan.{index_code, neighbours_of}
use Rattle.arena.specs.Valid.{record_valid, hole_ends_valid, holes_end_valid}
use Rattle.arena.specs.Owners.{own}
use Rattle.arena.specs.Load.{load_hole, load_holes}
use Rattle.arena.specs.Store.{store_hole}
use Rattle.arena.proofs.Frames.{loaded_length}
use Rattle.model.specs.declared.Hole.{Hole}
use Rattle.model.specs.HoleStore.{hole, hole_at, ends_at, starts_at, hole_before, hole_after, with_before, with_after, with_both}
use Rattle.model.proofs.Placing.{Found, found, not_found, finds}
use Rattle.runs.specs.way.Act.{both_words, place_words, place_record, Places, edges, touching, give_words, give_record, Gives}
use Rattle.runs.proofs.StoreLaws.{loaded_at}
use Rattle.runs.proofs.EndsValid.{ends_at_lem}
use Rattle.runs.specs.way.Pre.{StoreIn, SlotIn, StoredIn, TouchIn}

-- ---- the record's test: one failing word is enough
module _ (n : ℕ) (b : List ℕ) where
  pub no-state : (s : ℕ) → s ≡ get b (arena state) → 2 < s → false ≡ record_valid n b
  unfolding record_valid
  no-state s e l = rw (← e, lt-leb s 2 l)

  pub no-head : (t : Bool) → t ≡ head_valid n b → t ≡ false → false ≡ record_valid n b
  unfolding record_valid
  no-head t e f = let z : head_valid n b ≡ false = sym e ∙ f in simp (z, and_no)

  pub no_holes : (k : ℕ) → k ≡ get b (arena holes) → hole_slots < k → false ≡ record_valid n b
  unfolding record_valid
  no_holes k e l = simp (← e, lt-leb k hole_slots l, and_no)

  pub no-pages : (t : ℕ) → t ≡ get b (arena hole_pages) → hole_pages_max < t → false ≡ record_valid n b
  unfolding record_valid
  no-pages t e l = simp (← e, lt-leb t hole_pages_max l, and_no)

  pub all_valid : (s k t d : ℕ) (h : Bool) → s ≡ get b (arena state) → s ≤ 2 → k ≡ get b (arena holes) → k ≤ hole_slots
      → t ≡ get b (arena hole_pages) → t ≤ hole_pages_max → h ≡ head_valid n b → h ≡ true → d ≡ get b (arena held) → leb d n ≡ record_valid n b
  unfolding record_valid
  all_valid s k t d h e₁ l₁ e₂ l₂ e₃ l₃ e₄ l₄ e₅ =
      let z : head_valid n b ≡ true = sym e₄ ∙ l₄ in
      rw (← e₁, ← e₂, ← e₃, ← e₅, le-leb s 2 l₁, z, le-leb k hole_slots l₂, le-leb t hole_pages_max l₃)

-- ---- owners: what is left to write comes to what was asked
pub record Owning (b₀ : List ℕ) (first pages w : ℕ) (b : List ℕ) (p left : ℕ) : Type 0 where
  pub end : p + left ≡ first + pages
  pub long : length b ≡ length b₀
  pub rest : own b p left w ≡ own b₀ first pages w

module _ (w : ℕ) where
  step : (b : List ℕ) (p left : ℕ) → own (put b (page owner p) w) (suc p) left w ≡ own b p (suc left) w
  unfolding own
  step b p left = refl

  none : (b : List ℕ) (p left : ℕ) → left ≡ 0 → b ≡ own b p left w
  unfolding own
  none b p left e = rw e

module _ (b₀ : List ℕ) (first pages w : ℕ) where
  pub owns-start : Owning b₀ first pages w b₀ first pages
  owns-start = record { end = refl; long = refl; rest = refl }

  pub owns-again : (b b' : List ℕ) (p left : ℕ) → Owning b₀ first pages w b p left → 0 < left → b' ≡ put b (page owner p) w
      → Owning b₀ first pages w b' (p + 1) (left - 1)
  owns-again b b' p zero k l e = absurd (omega arith)
  owns-again b b' p (suc left) k l e =
      let z : suc left - 1 ≡ left = omega arith in
      rw (e, z, add-one) (record { end = let y = k.end in omega arith; long = length-put b (page owner p) w ∙ k.long; rest = turn })
    where
      turn : own (put b (page owner p) w) (suc p) left w ≡ own b₀ first pages w
      turn = step w b p left ∙ k.rest

  pub owns-done : (b : List ℕ) (p left : ℕ) → Owning b₀ first pages w b p left → left ≤ 0 → b ≡ own b₀ first pages w
  owns-done b p left k l = let z : left ≡ 0 = omega arith in none w b p left z ∙ k.rest

  -- the pages below p have the owner
  abbrev pub OwningTo : List ℕ → ℕ → Type 0
  OwningTo b p = Owning b₀ first pages w b p (first + pages - p)

  pub own-start : OwningTo b₀ first
  own-start = let z : first + pages - first ≡ pages = omega arith in rw z owns-start

  pub own-again : (b b' : List ℕ) (p : ℕ) → OwningTo b p → p < first + pages → b' ≡ put b (page owner p) w → OwningTo b' (p + 1)
  own-again b b' p k l e = let z : first + pages - (p + 1) ≡ first + pages - p - 1 = omega arith in rw z (owns-again b b' p (first + pages - p) k (omega arith) e)

  pub own-done : (b : List ℕ) (p : ℕ) → OwningTo b p → first + pages ≤ p → b ≡ own b₀ first pages w
  own-done b p k l = owns-done b p (first + pages - p) k (omega arith)

-- ---- the holes' test
pub told-valid : (b : List ℕ) (f count : ℕ) → f ≡ get b (arena frontier) → count ≡ get b (arena holes) → (t : Bool) → t ≡ every (hole_ends_valid f) (load_holes b 0 count) → t ≡ holes_end_valid b
unfolding holes_end_valid
told-valid b f count e d t g = rw (← e, ← d) g

-- ---- a run placed among the holes, by the codes c and d of those that it touches
module _ (b : List ℕ) (a : Arena) (m q : ℕ) where
  lost-is : gained_by (lost a.count) a ≡ abandoning a
  lost-is = let z : a.total + 0 ≡ a.total = omega arith in cc

  pub appends-not : (g : Gain) → hole_slots ≤ a.count → g ≡ lost a.count → Places b a m q 0 0 b g
  unfolding place_words place_record
  appends-not g l e =
      let z = le-ltb a.count hole_slots l in
      let y = ap (λ v. v.pages) e in
      record { book = rw z; top = rw z (ap (λ v. gained_by v a) e ∙ lost-is); few = omega arith }

  pub appends : (x : List ℕ) (g : Gain) → a.count < hole_slots → x ≡ store_hole b a.count (hole q m) → g ≡ gains (a.count + 1) m → Places b a m q 0 0 x g
  unfolding place_words place_record
  appends x g l e f =
      let z = lt-ltb a.count hole_slots l in
      let y = ap (λ v. v.pages) f in
      record { book = rw z e; top = rw z (ap (λ v. gained_by v a) f); few = omega arith }

  module _ (x : List ℕ) (g : Gain) where
    gains-few : (k : ℕ) → g ≡ gains k m → g.pages ≤ m
    gains-few k e = let y = ap (λ v. v.pages) e in omega arith

    pub places-none : (c d : ℕ) → c ≡ 0 → d ≡ 0 → Places b a m q 0 0 x g → Places b a m q c d x g
    places-none c d e f k = rw (e, f) k

    pub places-before : (c d : ℕ) → (c ≡ 0 → ⊥) → d ≡ 0 → (x ≡ store_hole b (c - 1) (with_before m (load_hole b (c - 1)))) × (g ≡ gains a.count m) → Places b a m q c d x g
    unfolding place_words place_record
    places-before zero d ne e k = absurd (ne refl)
    places-before (suc i) d ne e k = let z : suc i - 1 ≡ i = omega arith in rw e (record { book = rw z at k.0; top = ap (λ v. gained_by v a) k.1; few = gains-few a.count k.1 })

    pub places-after : (c d : ℕ) → c ≡ 0 → (d ≡ 0 → ⊥) → (x ≡ store_hole b (d - 1) (with_after m q (load_hole b (d - 1)))) × (g ≡ gains a.count m) → Places b a m q c d x g
    unfolding place_words place_record
    places-after c zero e ne k = absurd (ne refl)
    places-after c (suc j) e ne k = let z : suc j - 1 ≡ j = omega arith in rw e (record { book = rw z at k.0; top = ap (λ v. gained_by v a) k.1; few = gains-few a.count k.1 })

    pub places-both : (c d : ℕ) → (c ≡ 0 → ⊥) → (d ≡ 0 → ⊥) → (x ≡ both_words b a (c - 1) (d - 1) (with_both m (load_hole b (c - 1)) (load_hole b (d - 1)))) × (g ≡ gains (a.count - 1) m) → Places b a m q c d x g
    unfolding place_words place_record
    places-both zero d ne nd k = absurd (ne refl)
    places-both (suc i) zero ne nd k = absurd (nd refl)
    places-both (suc i) (suc j) ne nd k =
        let z : suc i - 1 ≡ i = omega arith in
        let y : suc j - 1 ≡ j = omega arith in
        record { book = rw (z, y) at k.0; top = ap (λ v. gained_by v a) k.1; few = gains-few (a.count - 1) k.1 }

pub touched : (b : List ℕ) (a : Arena) (c : ℕ) → TouchIn b a c → (c ≡ 0 → ⊥) → StoredIn b a (c - 1)
touched b a c k d = k d

-- where the last hole is the joined one, or not
module _ (b : List ℕ) (a : Arena) (i j : ℕ) (v : Hole) where
  pub both-last : (x : List ℕ) → i + 1 ≡ a.count → x ≡ store_hole b j v → x ≡ both_words b a i j v
  unfolding both_words
  both-last x e f = rw (eq-eqb (i + 1) a.count e) f

  pub both-moved : (x : List ℕ) → (i + 1 ≡ a.count → ⊥) → x ≡ store_hole (store_hole b i v) j (load_hole b (a.count - 1)) → x ≡ both_words b a i j v
  unfolding both_words
  both-moved x e f = rw (ne_eqb (i + 1) a.count e) f

-- ---- giving
module _ (b : List ℕ) (a : Arena) (m q : ℕ) where
  pub gives-over : (g : Gain) → hole_pages_max < a.total + m → g ≡ lost a.count → Gives b a m q b g
  unfolding give_words give_record
  gives-over g l e =
      let z = lt-leb (a.total + m) hole_pages_max l in
      let y = ap (λ v. v.pages) e in
      record { book = rw z; top = rw z (ap (λ v. gained_by v a) e ∙ lost-is b a m q); few = omega arith }

  pub slot_in : StoreIn b a q m → SlotIn b a m
  slot_in s = record { long = s.long; few = s.few; short = s.short; near = let z = s.near in omega arith }

  module _ (t : Neighbours) (e : t ≡ neighbours_of (load_holes b 0 a.count) (edges m q)) where
    pub gives-placed : (x : List ℕ) (g : Gain) → a.total + m ≤ hole_pages_max → Places b a m q t.before t.after x g → Gives b a m q x g
    unfolding give_words give_record touching
    gives-placed x g l k =
        let y = le-leb (a.total + m) hole_pages_max l in
        record { book = rw (y, ← e) k.book; top = rw (y, ← e) k.top; few = k.few }

    module _ (s : StoreIn b a q m) where
      HS : List Hole
      HS = load_holes b 0 a.count

      stored_at : (i : ℕ) → i < length HS → StoredIn b a i
      unfolding HS
      stored_at i l =
          let long = loaded_length b 0 a.count in
          let z : 0 + i ≡ i = omega arith in
          let y = ends_at_lem a.frontier HS s.ends i l in
          let x : hole_at i HS ≡ load_hole b i = loaded_at b 0 a.count i (omega arith) ∙ ap (load_hole b) z in
          let p : (hole_at i HS).pages ≡ get b (Field.hole pages i) = ap (λ h. h.pages) x in
          record { stored = omega arith; small = omega (arith, y.low, s.low) }

      found_in : (u : Hole → Bool) {o : Option ℕ} → Found u HS o → TouchIn b a (index_code o)
      found_in u (not_found z) d = absurd (d refl)
      found_in u (found i l h) d = let z : suc i - 1 ≡ i = omega arith in rw z (stored_at i l)

      pub before_in : TouchIn b a t.before
      unfolding neighbours_of HS
      before_in = let z : t.before ≡ index_code (hole_before q HS) = ap (λ y. y.before) e in subst (TouchIn b a) (sym z) (found_in (ends_at q) (finds (ends_at q) HS))

      pub after_in : TouchIn b a t.after
      unfolding neighbours_of HS
      after_in = let z : t.after ≡ index_code (hole_after (q + m) HS) = ap (λ y. y.after) e in subst (TouchIn b a) (sym z) (found_in (starts_at (q + m)) (finds (starts_at (q + m)) HS))
