-- The ways out of a commit for an owner and of a growth, and what they ask of the steps.
use Rattle.facts.proofs.Prelude.{ℕ, zero, suc, ◌+◌, ◌-◌, ◌≤◌, arith, Bool, true, false, cond, not, true≢false, List, ◌≡◌, refl}
use Rattle.facts.proofs.Prelude.{sym, ap, ◌∙◌, subst, eqb, leb, length, le-leb, eq-eqb, ne_eqb, not-true, not-false, by_cases}
use Rattle.std.proofs.Common.{w32, Fits}
use Rattle.words.specs.Limits.{max_pages, hole_slots}
use Rattle.words.specs.Host.{commit_granted}
use Rattle.fields.specs.Field.{arena, held, get, words}
use Rattle.runs.specs.declared.Arena.{Arena}
use Rattle.arena.specs.Load.{load_hole, load_holes}
use Rattle.runs.specs.way.Record.{record_of, store_record}
use Rattle.arena.specs.Valid.{record_valid}
use Rattle.runs.specs.way.Plan.{Choice, chosen, hole_of, hole_code, plan_as, plan_of}
use Rattle.arena.specs.Calls.{commit_refused, commit_for}
use Rattle.runs.specs.way.Act.{with_state, end_none, end_run, settle, from_frontier, hole_drawn, commit_drawn, next_state, commit_planned, planned, commit_read, commit_acts, grow_with}
use Rattle.runs.specs.way.Pre.{RecordIn, HoleIn, PlanIn, EndsIn, RequestIn, BookIn}
use Rattle.runs.specs.way.Found.{found, has_run, Finds}
use Rattle.runs.specs.Answer.{Commit, Refused, Nothing, Answers}
use Rattle.runs.proofs.Acts.{valid_record, planned-is, ends_of, commit-acts}
use Rattle.runs.proofs.PlanLaws.{plan-fits}
use Rattle.runs.proofs.Planning as Planning
use Rattle.runs.proofs.Planning.{coded, code-none, code-some, found-not}
use Rattle.std.specs.Prelude as Code
use Rattle.std.specs.Prelude.{Result, Ok, Err, is_some}
use Rattle.words.specs.declared.refusal.Refusal.{Refusal}
use Rattle.words.specs.declared.refusal.Refusal.TheVariants.{BookWord}
use Rattle.words.specs.Refusal.{number_of}

-- ---- the record that was loaded
pub loaded_record : (n : ℕ) (b : List ℕ) (a : Arena) → record_valid n b ≡ true → a ≡ record_of b → RecordIn n a
loaded_record n b a t f =
    let z = valid_record n b t in
    subst (λ y. RecordIn n y) (sym f) (record { moved = z.frontier; few = z.holes; short = z.hole_pages })

pub request_in : (n : ℕ) (b : List ℕ) (h m d w : ℕ) → BookIn b n → record_valid n b ≡ true → m ≤ max_pages + 1 → d ≡ get b (arena held)
    → RequestIn b (record { size = n; pages = m; host = h; owner = w; held = d })
request_in n b h m d w k t l f =
    let z = (valid_record n b t).held in
    let y = k.small in
    record { long = k.long; small = k.small; fits = l; owned = omega arith }

-- ---- growth
module _ (n : ℕ) (b : List ℕ) (a : Arena) (h e m w d : ℕ) where
  pub grows-not : (x : List ℕ) → (a.frontier ≡ e → ⊥) → x ≡ store_record b a → Answers Nothing x (grow_with n b a h e m w d)
  unfolding grow_with end_none
  grows-not x z f = rw (ne_eqb a.frontier e z) (record { answer = refl; book = f })

  pub grow-ends : (commit_granted h ≡ false → a.frontier ≡ e → a.frontier + m ≤ n → EndsIn b a) → a.frontier ≡ e → commit_granted h ≡ false → a.frontier + m ≤ n → EndsIn b a
  grow-ends k z g l = k g z l

  pub grows-there : (s : Commit) (x : List ℕ) → a.frontier ≡ e → Answers s x (from_frontier n b (with_state a.state a) m h w d) → Answers s x (grow_with n b a h e m w d)
  unfolding grow_with
  grows-there s x z k = rw (eq-eqb a.frontier e z) k

-- ---- a commit that is granted answers a run where it finds one
next-off : (s : ℕ) → eqb (next_state s 15) 2 ≡ eqb s 2
next-off zero = refl
next-off (suc s) = refl

planned-runs : (n : ℕ) (b : List ℕ) (a : Arena) (code m w d : ℕ) → has_run (commit_planned n b a code m 15 w d) ≡ cond (eqb a.state 2) false (cond (eqb code 0) (leb (a.frontier + m) n) true)
unfolding commit_planned commit_drawn from_frontier hole_drawn settle end_run end_none
planned-runs n b a code m w d =
    by_cases (eqb a.state 2)
    (λ e. rw (next-off a.state, e))
    (λ e. by_cases (eqb code 0)
    (λ u. by_cases (leb (a.frontier + m) n) (λ v. rw (next-off a.state, e, u, v)) (λ v. rw (next-off a.state, e, u, v)))
    (λ u. rw (next-off a.state, e, u)))

-- ---- what a commit finds
module _ (n : ℕ) (b : List ℕ) (m : ℕ) where
  module _ (t : Bool) (e : t ≡ record_valid n b) where
    pub find-few : (a : Arena) → t ≡ true → a ≡ record_of b → a.count ≤ hole_slots
    find-few a v f = (loaded_record n b a (sym e ∙ v) f).few

    pub find-on : (a : Arena) (p : Choice) → t ≡ true → a ≡ record_of b → p ≡ plan_of (load_holes b 0 a.count) a.total a.frontier m → p ≡ found n b m
    unfolding found planned
    find-on a p v f g = g ∙ ap (λ y. plan_of (load_holes b 0 y.count) y.total y.frontier m) f ∙ rw (← e, v)

    pub find-off : t ≡ false → plan_as false 0 ≡ found n b m
    unfolding found
    find-off v = rw (← e, v)

  module _ (t : Bool) (e : t ≡ record_valid n b) where
    pub finds : (a : Arena) (r : Result (Code.Option ℕ) Refusal) → t ≡ true → a ≡ record_of b → r ≡ chosen (plan_of (load_holes b 0 a.count) a.total a.frontier m) → r ≡ chosen (found n b m)
    finds a r v f g = g ∙ ap chosen (find-on t e a (plan_of (load_holes b 0 a.count) a.total a.frontier m) v f refl)

    pub finds-not : t ≡ false → Err BookWord ≡ chosen (found n b m)
    finds-not v = ap chosen (find-off t e v)

  -- the commit goes by it
  found-commits : BookIn b n → (h w : ℕ) → commit_for n b h m w ≡ cond (found n b m).valid (commit_planned n b (record_of b) (found n b m).code m h w (get b (arena held))) (commit_refused b 13)
  unfolding commit_acts commit_read found
  found-commits k h w = sym (commit-acts n b (le-leb (words n) (length b) k.long) h m w) ∙ by_cases (record_valid n b) (λ v. rw v) (λ v. rw v)

  module _ (p : Choice) (e : p ≡ found n b m) where
    pub commits-off : (h w : ℕ) → BookIn b n → not p.valid ≡ true → Answers (Refused 13) b (commit_for n b h m w)
    commits-off h w k t = rw (found-commits k h w, ← e, not-true p.valid t) (record { answer = refl; book = refl })

    would-not : BookIn b n → not p.valid ≡ true → Finds false n b m
    would-not k t w = rw (found-commits k 15 w, ← e, not-true p.valid t)

    module _ (t : not p.valid ≡ false) (a : Arena) (f : a ≡ record_of b) where
      valid : p.valid ≡ true
      valid = not-false p.valid t

      found-valid : (record_valid n b ≡ true) × (p ≡ planned b m)
      unfolding found
      found-valid =
          by_cases (record_valid n b)
          (λ v. (v, rw v at e))
          (λ v. absurd (true≢false (sym valid ∙ ap (λ z. z.valid) (rw v at e))))

      pub found_record : RecordIn n a
      found_record = loaded_record n b a found-valid.0 f

      found-sum : BookIn b n → m ≤ max_pages + 1 → Fits w32 (a.frontier + m)
      found-sum k l = let z = found_record.moved in let y = k.small in record { fits = omega arith }

      pub found-request : (h d w : ℕ) → BookIn b n → m ≤ max_pages + 1 → d ≡ get b (arena held) → RequestIn b (record { size = n; pages = m; host = h; owner = w; held = d })
      found-request h d w k l g = request_in n b h m d w k found-valid.0 l g

      pub found_in : PlanIn b a p.code m
      found_in z =
          let k = plan-fits b m p found-valid.1 valid z in
          subst (λ y. HoleIn y (p.code - 1) (load_hole b (p.code - 1)) m) (sym f) (record { stored = k.stored; enough = k.enough; within = k.within; ends = k.ends })

      pub found-ends : EndsIn b a
      found-ends = subst (λ y. EndsIn b y) (sym f) (ends_of b (sym (ap (λ z. z.valid) (found-valid.1 ∙ planned-is b m)) ∙ valid))

      pub commits-on : (h w d : ℕ) (s : Commit) (x : List ℕ) → BookIn b n → d ≡ get b (arena held) → Answers s x (commit_planned n b a p.code m h w d) → Answers s x (commit_for n b h m w)
      commits-on h w d s x k g y = rw (found-commits k h w, ← e, valid, ← f, ← g) y

      -- it answers a run where the arena is not disabled, and there is a hole, or room at the frontier
      would : BookIn b n → (w : ℕ) → has_run (commit_for n b 15 m w) ≡ cond (eqb a.state 2) false (cond (eqb p.code 0) (leb (a.frontier + m) n) true)
      would k w = rw (found-commits k 15 w, ← e, valid, ← f) (planned-runs n b a p.code m w (get b (arena held)))

      would-off : BookIn b n → a.state ≡ 2 → Finds false n b m
      would-off k u w = sym (would k w ∙ rw u)

      would-fresh : BookIn b n → (a.state ≡ 2 → ⊥) → p.code ≡ 0 → Finds (leb (a.frontier + m) n) n b m
      would-fresh k u v w = sym (would k w ∙ rw (ne_eqb a.state 2 u, v))

      would_reuse : BookIn b n → (a.state ≡ 2 → ⊥) → (p.code ≡ 0 → ⊥) → Finds true n b m
      would_reuse k u v w = sym (would k w ∙ rw (ne_eqb a.state 2 u, ne_eqb p.code 0 v))

  -- the same by what the search for a hole answered
  module _ (r : Result (Code.Option ℕ) Refusal) (s : r ≡ chosen (found n b m)) where
    pub refuses : (e : Refusal) → r ≡ Err e → (h w : ℕ) → BookIn b n → Answers (Refused (number_of e)) b (commit_for n b h m w)
    refuses e z h w k = let y = found-not (found n b m) r s e z in rw y.1 (commits-off (found n b m) refl h w k (ap not y.0))

    module _ (o : Code.Option ℕ) (d : r ≡ Ok o) (a : Arena) (f : a ≡ record_of b) where
      p-valid : not (found n b m).valid ≡ false
      p-valid = ap not (Planning.found-valid (found n b m) r s o d).0

      code-is : (found n b m).code ≡ hole_code o
      code-is = sym (ap hole_code (Planning.found-valid (found n b m) r s o d).1 ∙ coded (found n b m).code)

      pub told_record : RecordIn n a
      told_record = found_record (found n b m) refl p-valid a f

      pub told-request : (h e w : ℕ) → BookIn b n → m ≤ max_pages + 1 → e ≡ get b (arena held) → RequestIn b (record { size = n; pages = m; host = h; owner = w; held = e })
      told-request = found-request (found n b m) refl p-valid a f

      pub told_in : PlanIn b a (hole_code o) m
      told_in = subst (λ c. PlanIn b a c m) code-is (found_in (found n b m) refl p-valid a f)

      pub told-ends : EndsIn b a
      told-ends = found-ends (found n b m) refl p-valid a f

      pub goes-on : (h w e : ℕ) (g : Commit) (x : List ℕ) → BookIn b n → e ≡ get b (arena held) → Answers g x (commit_planned n b a (hole_code o) m h w e) → Answers g x (commit_for n b h m w)
      goes-on h w e g x k z y = commits-on (found n b m) refl p-valid a f h w e g x k z (subst (λ c. Answers g x (commit_planned n b a c m h w e)) (sym code-is) y)

  -- and a trace's question
  module _ (t : Bool) (e : t ≡ record_valid n b) where
    pub search_refused : BookIn b n → t ≡ false → Finds false n b m
    search_refused k v = would-not (plan_as false 0) (find-off t e v) k refl

    module _ (v : t ≡ true) (a : Arena) (f : a ≡ record_of b) (r : Result (Code.Option ℕ) Refusal) (s : r ≡ chosen (plan_of (load_holes b 0 a.count) a.total a.frontier m)) where
      abbrev choice : Choice
      choice = plan_of (load_holes b 0 a.count) a.total a.frontier m

      is_found : choice ≡ found n b m
      is_found = find-on t e a choice v f refl

      pub search_not : (e : Refusal) → BookIn b n → r ≡ Err e → Finds false n b m
      search_not e k z = would-not choice is_found k (ap not (found-not choice r s e z).0)

      module _ (o : Code.Option ℕ) (d : r ≡ Ok o) where
        sound : not choice.valid ≡ false
        sound = ap not (Planning.found-valid choice r s o d).0

        hole-is : o ≡ hole_of choice.code
        hole-is = (Planning.found-valid choice r s o d).1

        pub search_sum : BookIn b n → m ≤ max_pages + 1 → Fits w32 (a.frontier + m)
        search_sum = found-sum choice is_found sound a f

        pub search_off : BookIn b n → a.state ≡ 2 → Finds false n b m
        search_off = would-off choice is_found sound a f

        pub search_fresh : BookIn b n → (a.state ≡ 2 → ⊥) → (x : Bool) → x ≡ is_some o → x ≡ false → Finds (leb (a.frontier + m) n) n b m
        search_fresh k u x y z = would-fresh choice is_found sound a f k u (code-none choice.code (rw hole-is at (sym y ∙ z)))

        pub search_reuse : BookIn b n → (a.state ≡ 2 → ⊥) → (x : Bool) → x ≡ is_some o → x ≡ true → Finds x n b m
        search_reuse k u x y z = rw z (would_reuse choice is_found sound a f k u (code-some choice.code (rw hole-is at (sym y ∙ z))))
