-- What a commit that answers a run leaves, on any words: the run lies below the frontier and the arena's end, its pages are the
-- owner's, and no class's row is changed.
--     Granted           that
--     commit-granted    a commit's
use Rattle.facts.proofs.Prelude.{ℕ, zero, suc, ◌+◌, ◌-◌, ◌≤◌, ◌<◌, arith, add-zero, Bool, true, false, cond, List, Option, none, some}
use Rattle.facts.proofs.Prelude.{◌≡◌, refl, ap, ◌∙◌, subst, eqb, ltb, leb, length, lt-ltb, leb-true, eqb-false, ne_eqb, by_cases}
use Rattle.words.specs.Host.{commit_granted}
use Rattle.words.specs.Limits.{class_rows}
use Rattle.fields.specs.Field.{arena, class, hole, page, frontier, held, partial, owner, start, pages, get, put, words}
use Rattle.fields.proofs.Laws.{get_put_same, get-put_other, length-put}
use Rattle.fields.proofs.Changes.{Changes, changes-none, changes-put}
use Rattle.model.specs.declared.Hole.{Hole}
use Rattle.runs.specs.declared.Arena.{Arena}
use Rattle.arena.specs.Load.{load_hole}
use Rattle.arena.specs.Store.{store_hole, store_counts, store_top}
use Rattle.runs.specs.way.Record.{record_of, store_record, advanced, counted}
use Rattle.arena.specs.Valid.{record_valid}
use Rattle.arena.specs.Owners.{own}
use Rattle.arena.specs.Calls.{Committed, commit_refused, commit_for}
use Rattle.runs.specs.way.Act.{with_state, draw_words, draw_record, end_none, end_run, end_given, settle, from_frontier, hole_drawn, commit_drawn, next_state, commit_planned, planned, commit_read, commit_acts}
use Rattle.arena.proofs.Frames.{is_stored, is_owner, record_changes, own-changes}
use Rattle.runs.proofs.Acts.{ValidRecord, valid_record, commit-acts}
use Rattle.runs.proofs.PlanLaws.{plan-fits}

pub record Granted (n : ℕ) (b b' : List ℕ) (m q w : ℕ) : Type 0 where
  pub ends : q + m ≤ n
  pub below : q + m ≤ get b' (arena frontier)
  pub bound : get b' (arena frontier) ≤ n
  pub owners : (i : ℕ) → i < m → get b' (page owner (q + i)) ≡ w
  pub rows : (c : ℕ) → ltb c class_rows ≡ true → get b' (class partial c) ≡ get b (class partial c)
  pub long : length b' ≡ length b

-- ---- owners
own-before : (b : List ℕ) (p q m w : ℕ) → p < q → get (own b q m w) (page owner p) ≡ get b (page owner p)
unfolding own
own-before b p q zero w h = refl
own-before b p q (suc m) w h =
    own-before (put b (page owner q) w) p (suc q) m w (omega arith)
    ∙ get-put_other b (page owner q) (page owner p) w refl refl (rw (ne_eqb q p (λ e. omega arith)))

own_at : (n : ℕ) (b : List ℕ) → leb (words n) (length b) ≡ true → (q m w i : ℕ) → q + m ≤ n → i < m → get (own b q m w) (page owner (q + i)) ≡ w
unfolding own
own_at n b hb q zero w i h l = absurd (omega arith)
own_at n b hb q (suc m) w zero h l =
    rw add-zero (own-before (put b (page owner q) w) q (suc q) m w (omega arith) ∙ get_put_same n b (page owner q) w hb (lt-ltb q n (omega arith)) refl)
own_at n b hb q (suc m) w (suc i) h l =
    ap (λ z. get (own (put b (page owner q) w) (suc q) m w) (page owner z)) (omega arith)
    ∙ own_at n (put b (page owner q) w) (rw length-put hb) (suc q) m w i (omega arith) (omega arith)

-- ---- the record
record_frontier : (n : ℕ) (x : List ℕ) → leb (words n) (length x) ≡ true → (r : Arena) → get (store_record x r) (arena frontier) ≡ r.frontier
unfolding store_top store_counts
record_frontier n x hx r = simp (get-put_other, get_put_same n, length-put, hx)

-- ---- the ends
module _ (n : ℕ) (b : List ℕ) (hb : leb (words n) (length b) ≡ true) (m w : ℕ) where
  abbrev Grants : Committed → Type 0
  Grants o = (q : ℕ) → o.run ≡ some q → Granted n b o.book m q w

  no_run : (o : Committed) → o.run ≡ none → Grants o
  no_run o e q h = let z : ◌≡◌ {A = ℕ} 0 1 = cc in absurd (omega arith)

  either : (t : Bool) (x y : Committed) → (t ≡ true → Grants x) → Grants y → Grants (cond t x y)
  either true x y f g = f refl
  either false x y f g = g

  same-run : (x y : ℕ) → ◌≡◌ {A = Option ℕ} (some x) (some y) → x ≡ y
  same-run x y e = cc

  run-granted : (x : List ℕ) (r : Arena) (f : Bool) (d q : ℕ) → Changes is_stored b x → q + m ≤ r.frontier → r.frontier ≤ n
      → Granted n b (put (own (store_record x (counted f r)) q m w) (arena held) (d + m)) m q w
  run-granted x r f d q ch l u =
      let y = store_record x (counted f r) in
      let z = own y q m w in
      let hx : leb (words n) (length x) ≡ true = rw ch.long hb in
      let ry : Changes is_stored b y = record_changes b x (counted f r).commits (counted f r).reuses (counted f r).abandoned r.state r.frontier r.count r.total ch in
      let hy : leb (words n) (length y) ≡ true = rw ry.long hb in
      let oz = own-changes y y q m w (changes-none is_owner y) in
      let fr : get (put z (arena held) (d + m)) (arena frontier) ≡ r.frontier = get-put_other z (arena held) (arena frontier) (d + m) refl refl refl ∙ oz.kept (arena frontier) refl refl ∙ record_frontier n x hx (counted f r) in
      record {
        ends = omega arith;
        below = rw fr l;
        bound = rw fr u;
        owners = λ i h. get-put_other z (arena held) (page owner (q + i)) (d + m) refl refl refl ∙ own_at n y hy q m w i (omega arith) h;
        rows = λ c hc. get-put_other z (arena held) (class partial c) (d + m) refl hc refl ∙ oz.kept (class partial c) hc refl ∙ ry.kept (class partial c) hc refl;
        long = length-put z (arena held) (d + m) ∙ oz.long ∙ ry.long;
      }

  module _ (h d : ℕ) where
    settle-granted : (x : List ℕ) (r : Arena) (q : ℕ) (f : Bool) → Changes is_stored b x → q + m ≤ r.frontier → r.frontier ≤ n → Grants (settle x r m q f h w d)
    unfolding settle end_run end_given
    settle-granted x r q f ch l u =
        by_cases (commit_granted h)
        (λ t. rw t (λ p e. subst (λ z. Granted n b (put (own (store_record x (counted f r)) q m w) (arena held) (d + m)) m z w) (same-run q p e) (run-granted x r f d q ch l u)))
        (λ t. rw t (no_run (end_given x r m q f) refl))

    draw-changes : (a : Arena) (i : ℕ) → i < 4096 → Changes is_stored b (draw_words b a m i)
    unfolding draw_words
    draw-changes a i l =
        let o : ltb i 4096 ≡ true = lt-ltb i 4096 l in
        let holed : (y : Hole) → Changes is_stored b (store_hole b i y) = λ y. changes-put is_stored b _ (hole pages i) y.pages o refl (changes-put is_stored b b (hole start i) y.first o refl (changes-none is_stored b)) in
        by_cases (ltb m (load_hole b i).pages) (λ t. rw t (holed _)) (λ t. rw t (holed _))

    frontier-granted : (a : Arena) → Grants (from_frontier n b a m h w d)
    unfolding from_frontier end_none
    frontier-granted a =
        by_cases (leb (a.frontier + m) n)
        (λ t. rw t (settle-granted b (advanced m a) a.frontier true (changes-none is_stored b) (omega arith) (leb-true (a.frontier + m) n t)))
        (λ t. rw t (no_run (end_none b a) refl))

    -- the hole with this code, where it is one, is stored and ends below the frontier
    abbrev Fits : Arena → ℕ → Type 0
    Fits a c = (c ≡ 0 → ⊥) → (c ≤ 4096) × ((load_hole b (c - 1)).first + m ≤ a.frontier)

    drawn-granted : (a : Arena) (c : ℕ) → a.frontier ≤ n → Fits a c → Grants (commit_drawn n b a c m h w d)
    unfolding commit_drawn hole_drawn draw_record
    drawn-granted a c u fits =
        by_cases (eqb c 0)
        (λ t. rw t (frontier-granted a))
        (λ t.
        let k = fits (eqb-false c 0 t) in
        rw t (settle-granted (draw_words b a m (c - 1)) (draw_record b a m (c - 1)) (load_hole b (c - 1)).first false (draw-changes a (c - 1) (omega (arith, k.0))) k.1 u))

    planned-granted : (a : Arena) (c : ℕ) → a.frontier ≤ n → Fits a c → Grants (commit_planned n b a c m h w d)
    unfolding commit_planned end_none
    planned-granted a c u fits =
        by_cases (eqb (next_state a.state h) 2)
        (λ t. rw t (no_run (end_none b (with_state (next_state a.state h) a)) refl))
        (λ t. rw t (drawn-granted (with_state (next_state a.state h) a) c u fits))

    read-granted : ValidRecord n b → Grants (commit_read n b h m w d)
    unfolding commit_read
    read-granted k =
        either (planned b m).valid (commit_planned n b (record_of b) (planned b m).code m h w d) (commit_refused b 13)
        (λ t. planned-granted (record_of b) (planned b m).code k.frontier (λ z. let f = plan-fits b m (planned b m) refl t z in (omega (arith, f.stored, k.holes), omega (arith, f.enough, f.ends))))
        (no_run (commit_refused b 13) refl)

  acts-granted : (h : ℕ) → Grants (commit_acts n b h m w)
  unfolding commit_acts
  acts-granted h = by_cases (record_valid n b) (λ t. rw t (read-granted h (get b (arena held)) (valid_record n b t))) (λ t. rw t (no_run (commit_refused b 13) refl))

  pub commit-granted : (h q : ℕ) → (commit_for n b h m w).run ≡ some q → Granted n b (commit_for n b h m w).book m q w
  commit-granted h q e =
      let a = commit-acts n b hb h m w in
      subst (λ o. Granted n b o.book m q w) a (acts-granted h q (ap (λ o. o.run) a ∙ e))
