-- The ways out of the direct calls, and what they ask of the steps.
use Rattle.facts.proofs.Prelude.{ℕ, zero, suc, ◌+◌, ◌-◌, ◌*◌, ◌^◌, ◌≤◌, ◌<◌, arith, add-one, Bool, true, false, not, ◌||◌, List, Option}
use Rattle.std.proofs.Common.{min}
use Rattle.facts.proofs.Prelude.{none, some, ◌≡◌, refl, sym, ap, ◌∙◌, subst, eqb, leb, length, set, length-set, lt-ltb, le-leb, lt-leb}
use Rattle.facts.proofs.Prelude.{leb-true, leb-false, eq-eqb, ne_eqb, not-true, not-false, is_some, by_cases, and_left, and_right, and_no}
use mir.Val.{Fits}
use mir.Syntax.{w32, w64}
use Rattle.words.specs.Limits.{max_pages, class_rows}
use Rattle.classes.specs.Shape.{class_count, pool_id}
use Rattle.words.specs.Host.{commit_granted}
use Rattle.fields.specs.Field.{arena, frontier, state, held, get}
use Rattle.rules.specs.declared.Limits.{Limits}
use Rattle.rules.specs.Rules.{rules_of}
use Rattle.fields.proofs.Laws.{length-put}
use Rattle.fields.specs.Ranges.{format_valid}
use Rattle.model.specs.Heap.{bad_run, bad_growth, direct}
use Rattle.model.specs.Arena as Model
use Rattle.runs.specs.declared.Arena.{Arena}
use Rattle.arena.specs.Load.{status_of, load_arena}
use Rattle.arena.specs.Owners.{owner_code}
use Rattle.runs.specs.way.Record.{record_of}
use Rattle.arena.specs.Valid.{record_valid, holes_end_valid, give_valid, grow_gives, grow_valid}
use Rattle.arena.specs.Open.{cleared, head_words, limited, ruled}
use Rattle.arena.specs.Calls.{commit_for, commit_call, given, held_direct, release_call, grow_call, contains_call}
use Rattle.runs.specs.way.Act.{end_none, end_run, end_given, settle, from_frontier, grow_with, grow_acts, clamped}
use Rattle.runs.specs.way.Pre.{GiveIn, BookIn, EndsIn}
use Rattle.runs.specs.Answer.{Commit, Refused, answer_of, Answers}
use Rattle.direct.specs.Answer.{Grow, grown_as, Releases}
use Rattle.direct.specs.way.Acts.{grow_commit, Grew, Grows, valid_grow, held_release}
use Rattle.runs.proofs.Acts.{valid_record, grow-acts}
use Rattle.runs.proofs.PlanLaws.{clamp_commit, clamp_growth, clamp_grow, clamped-le}

-- ---- numbers
pub bad-long : (m : ℕ) → (m ≡ 0 → ⊥) → leb (2 ^ 48) m ≡ bad_run m
unfolding bad_run
bad-long m d = rw (ne_eqb m 0 d)

or_true : (a : Bool) → (a || true) ≡ true
or_true true = refl
or_true false = refl

pub clamp_is : (m r : ℕ) → r ≡ min m (max_pages + 1) → r ≡ clamped m
unfolding clamped
clamp_is m r e =
    e ∙ by_cases (leb m max_pages)
    (λ t. rw t (let l = leb-true m max_pages t in omega arith))
    (λ t. rw t (let l = leb-false m max_pages t in omega arith))

pub clamped-fits : (m r : ℕ) → r ≡ clamped m → r ≤ (max_pages + 1)
clamped-fits m r e = rw e (clamped-le m)

pub growth-more : (old new : ℕ) (t : Bool) → t ≡ bad_growth old new → t ≡ false → old ≤ new
growth-more old new t e v = by_cases (leb new old) (λ z. absurd (bad (simp (z, or_true) at (sym e ∙ v)))) (λ z. let y = leb-false new old z in omega arith)
  where
    bad : true ≡ false → ⊥
    bad i = let z : ◌≡◌ {A = ℕ} 0 1 = cc in omega arith

-- ---- opening
pub record Clearing (b₀ b : List ℕ) (i : ℕ) : Type 0 where
  pub within : i ≤ 1376
  pub long : length b ≡ length b₀
  pub rest : b ≡ cleared b₀ i

pub clear-start : (b : List ℕ) → Clearing b b 0
unfolding cleared
clear-start b = record { within = omega arith; long = refl; rest = refl }

pub clear-again : (b₀ b : List ℕ) (i : ℕ) → Clearing b₀ b i → i < 1376 → Clearing b₀ (set b i 0) (i + 1)
unfolding cleared
clear-again b₀ b i k l =
    let z : i + 1 ≡ suc i = omega arith in
    rw z (record { within = omega arith; long = length-set b i 0 ∙ k.long; rest = ap (λ x. set x i 0) k.rest })

pub clear-done : (b₀ b : List ℕ) (i : ℕ) → Clearing b₀ b i → 1376 ≤ i → b ≡ cleared b₀ head_words
unfolding head_words
clear-done b₀ b i k l = let z : i ≡ 1376 = (let y = k.within in omega arith) in rw z at k.rest

-- ---- the limits of the heap's classes, the first c of them; and then of the pool's, the first j, on the book b₁ that those before left
module _ (rows : List ℕ) where
  pub record Ruling (b₀ b : List ℕ) (c : ℕ) : Type 0 where
    pub within : c ≤ class_count
    pub long : length b ≡ length b₀
    pub rest : b ≡ ruled b₀ (rules_of rows) c

  pub record Pooling (b₁ b : List ℕ) (j : ℕ) : Type 0 where
    pub within : j ≤ class_count
    pub long : length b ≡ length b₁
    pub rest : (b₀ : List ℕ) → b₁ ≡ ruled b₀ (rules_of rows) class_count → b ≡ ruled b₀ (rules_of rows) (pool_id j)

  limited-long : (b : List ℕ) (c : ℕ) (lim : Limits) → length (limited b c lim) ≡ length b
  limited-long b c lim = length-put _ _ _ ∙ length-put _ _ _

  pub rule_start : (b₀ : List ℕ) → Ruling b₀ b₀ 0
  unfolding ruled
  rule_start b₀ = record { within = omega arith; long = refl; rest = refl }

  pub rule_again : (b₀ b : List ℕ) (c : ℕ) → Ruling b₀ b c → c < class_count → (b' : List ℕ) → b' ≡ limited b c (rules_of rows c) → Ruling b₀ b' (c + 1)
  unfolding ruled
  rule_again b₀ b c k l b' e = record {
    within = omega arith;
    long = rw e (limited-long b c _ ∙ k.long);
    rest = rw add-one (e ∙ ap (λ x. limited x c (rules_of rows c)) k.rest);
  }

  pub pool-start : (b₁ : List ℕ) → Pooling b₁ b₁ 0
  pool-start b₁ = record { within = omega arith; long = refl; rest = λ b₀ e. e }

  pub pool-again : (b₁ b : List ℕ) (j : ℕ) → Pooling b₁ b j → j < class_count → (i : ℕ) → i ≡ pool_id j → (b' : List ℕ) → b' ≡ limited b i (rules_of rows i) → Pooling b₁ b' (j + 1)
  unfolding ruled
  pool-again b₁ b j k l i e b' y =
      let z : pool_id (j + 1) ≡ suc (pool_id j) = omega arith in
      let w : b' ≡ limited b (pool_id j) (rules_of rows (pool_id j)) = subst (λ (x : ℕ). b' ≡ limited b x (rules_of rows x)) e y in
      record {
        within = omega arith;
        long = rw w (limited-long b (pool_id j) _ ∙ k.long);
        rest = λ b₀ f. w ∙ ap (λ x. limited x (pool_id j) (rules_of rows (pool_id j))) (k.rest b₀ f) ∙ ap (ruled b₀ (rules_of rows)) (sym z);
      }

  pub rule_done : (b₀ b₁ : List ℕ) (c : ℕ) → Ruling b₀ b₁ c → class_count ≤ c → (b : List ℕ) (j : ℕ) → Pooling b₁ b j → class_count ≤ j → b ≡ ruled b₀ (rules_of rows) class_rows
  rule_done b₀ b₁ c k l b j p m =
      let z : c ≡ class_count = (let y = k.within in omega arith) in
      let w : pool_id j ≡ class_rows = (let y = p.within in omega arith) in
      p.rest b₀ (k.rest ∙ ap (ruled b₀ (rules_of rows)) z) ∙ ap (ruled b₀ (rules_of rows)) w

-- ---- contains
module _ (n : ℕ) (b : List ℕ) (o k : ℕ) where
  not-ready : (s : ℕ) → (s ≡ 1 → ⊥) → Model.is_ready (status_of s) ≡ false
  not-ready zero d = refl
  not-ready (suc zero) d = absurd (d refl)
  not-ready (suc (suc s)) d = refl

  pub contains_strange : (t : Bool) → t ≡ format_valid b → not t ≡ true → false ≡ contains_call n b o k
  unfolding contains_call
  contains_strange t e d = rw (← e, not-true t d)

  pub contains-off : (s : ℕ) → s ≡ get b (arena state) → (s ≡ 1 → ⊥) → false ≡ contains_call n b o k
  unfolding contains_call Model.contains load_arena
  contains-off s e d = rw (← e, not-ready s d) (simp and_no)

  -- j is n, in 64 bits
  pub contains-past : (s j : ℕ) → s ≡ get b (arena state) → s ≡ 1 → j ≡ n → j * 65536 < o → leb o (j * 65536) ≡ contains_call n b o k
  unfolding contains_call Model.contains load_arena
  contains-past s j e v i l =
      let m : n * 65536 < o = rw i at l in
      rw (lt-leb o (j * 65536) l, ← e, v) (simp (lt-leb (o + k) (n * 65536) (omega arith), and_no))

  pub contains-is : (t : Bool) (s j : ℕ) → t ≡ format_valid b → not t ≡ false → BookIn b n → s ≡ get b (arena state) → s ≡ 1 → j ≡ n → o ≤ j * 65536 → leb k (j * 65536 - o) ≡ contains_call n b o k
  unfolding contains_call Model.contains load_arena
  contains-is t s j g f r e v i l' =
      let z = r.small in
      let l : o ≤ n * 65536 = rw i at l' in
      rw (i, ← g, not-false t f, ← e, v)
      (by_cases (leb k (n * 65536 - o))
      (λ t. let y = leb-true k (n * 65536 - o) t in rw (t, lt-ltb (o + k) (2 ^ 64) (omega arith), le-leb (o + k) (n * 65536) (omega arith)))
      (λ t. let y = leb-false k (n * 65536 - o) t in rw t (simp (lt-leb (o + k) (n * 65536) (omega arith), and_no))))

-- ---- what number 12's test says
pub direct-inside : (n : ℕ) (b : List ℕ) (q m : ℕ) (t : Bool) → t ≡ held_direct n b q m → t ≡ true → q + m ≤ n
unfolding held_direct
direct-inside n b q m t e v = leb-true (q + m) n (and_left _ _ (sym e ∙ v))

module _ (n : ℕ) (b : List ℕ) (q m : ℕ) (t : Bool) (k : BookIn b n) (e : t ≡ held_direct n b q m) (v : t ≡ true) where
  pub direct-first : Fits w32 q
  direct-first = record { fits = let z = direct-inside n b q m t e v in let y = k.small in omega arith }

  pub direct-pages : Fits w32 m
  direct-pages = record { fits = let z = direct-inside n b q m t e v in let y = k.small in omega arith }

  pub direct-end : Fits w64 (q + m)
  direct-end = record { fits = let z = direct-inside n b q m t e v in let y = k.small in omega arith }

  pub direct-low : q + m ≤ max_pages
  direct-low = let z = direct-inside n b q m t e v in let y = k.small in omega arith

  pub direct-near : Fits w32 (q + m)
  direct-near = record { fits = let z = direct-inside n b q m t e v in let y = k.small in omega arith }

-- ---- release
module _ (n : ℕ) (b : List ℕ) (q m : ℕ) where
  module _ (t : Bool) (e : t ≡ give_valid n b m) where
    pub give_in : BookIn b n → q + m ≤ n → t ≡ true → GiveIn b n q m
    give_in k l v = record { long = k.long; small = k.small; inside = l; valid = sym e ∙ v }

    pub released : (x : List ℕ) → t ≡ true → x ≡ given b q m → Releases 0 x (held_release n b q m)
    unfolding held_release
    released x v g = rw (← e, v) (record { code = refl; book = g })

    pub released-not : t ≡ false → Releases 13 b (held_release n b q m)
    unfolding held_release
    released-not v = rw (← e, v) (record { code = refl; book = refl })

  pub release-bad : (t : Bool) → t ≡ bad_run m → t ≡ true → Releases 6 b (release_call n b q m)
  unfolding release_call
  release-bad t e v = rw (← e, v) (record { code = refl; book = refl })

  pub release-not : (t u : Bool) → t ≡ bad_run m → t ≡ false → u ≡ held_direct n b q m → u ≡ false → Releases 12 b (release_call n b q m)
  unfolding release_call
  release-not t u e v f w = rw (← e, v, ← f, w) (record { code = refl; book = refl })

  pub release-held : (t u : Bool) (r : ℕ) (x : List ℕ) → t ≡ bad_run m → t ≡ false → u ≡ held_direct n b q m → u ≡ true → Releases r x (held_release n b q m) → Releases r x (release_call n b q m)
  unfolding release_call held_release
  release-held t u r x e v f w k = rw (← e, v, ← f, w) k

-- ---- growth
module _ (n : ℕ) (b : List ℕ) (h e m : ℕ) where
  grow_as : (c : ℕ) (r : Option ℕ) (f : Bool) → grow_commit (answer_of c r f) ≡ grown_as c (is_some r)
  grow_as zero none f = refl
  grow_as zero (some q) f = refl
  grow_as (suc c) r f = refl

  growth_record : grow_valid n b h e m ≡ true → record_valid n b ≡ true
  unfolding grow_valid
  growth_record f = and_left (record_valid n b) _ f

  growth-holes : grow_valid n b h e m ≡ true → commit_granted h ≡ false → get b (arena frontier) ≡ e → e + m ≤ n → holes_end_valid b ≡ true
  unfolding grow_valid grow_gives load_arena
  growth-holes f g z l = rw (g, eq-eqb (get b (arena frontier)) e z, le-leb (e + m) n l) at (and_right (record_valid n b) _ f)

  -- number 13's test
  module _ (t : Bool) (f : t ≡ grow_valid n b h e m) where
    pub grows-invalid : not t ≡ true → Grows (Grow.Refused 13) b (valid_grow n b h e m)
    unfolding valid_grow
    grows-invalid v = rw (← f, not-true t v) (record { answer = refl; book = refl })

    module _ (v : not t ≡ false) where
      growth-told : grow_valid n b h e m ≡ true
      growth-told = sym f ∙ not-false t v

      pub growth-loads : record_valid n b ≡ true
      growth-loads = growth_record growth-told

      module _ (a : Arena) (i : a ≡ record_of b) where
        pub growth-ends : commit_granted h ≡ false → a.frontier ≡ e → a.frontier + m ≤ n → EndsIn b a
        unfolding holes_end_valid
        growth-ends g z l =
            let y : a.frontier ≡ get b (arena frontier) = ap (λ x. x.frontier) i in
            subst (λ x. EndsIn b x) (sym i) (growth-holes growth-told g (sym y ∙ z) (omega arith))

        module _ (d : ℕ) (c : Commit) (x : List ℕ) (g : d ≡ get b (arena held)) (k : Answers c x (grow_with n b a h e m (owner_code direct) d)) where
          pub grows : (y : Grow) → y ≡ grow_commit c → Grows y x (valid_grow n b h e m)
          unfolding valid_grow grow_acts
          grows y z =
              let o = grow_with n b a h e m (owner_code direct) d in
              rw (growth-told, ← i, ← g) (record { answer = z ∙ ap grow_commit k.answer ∙ grow_as o.code o.run o.fresh; book = k.book })

  grow-code : (grow_acts n b h e m (owner_code direct)).code ≡ 0
  unfolding grow_acts grow_with from_frontier end_none settle end_run end_given
  grow-code =
      by_cases (eqb (record_of b).frontier e)
      (λ t. by_cases (leb ((record_of b).frontier + m) n)
      (λ u. by_cases (commit_granted h) (λ v. rw (t, u, v)) (λ v. rw (t, u, v)))
      (λ u. rw (t, u)))
      (λ t. rw t)

module _ (n : ℕ) (b : List ℕ) (h q old new : ℕ) where
  pub grow-bad : (t : Bool) → t ≡ bad_growth old new → t ≡ true → Grew (Grow.Refused 6) b (grow_call n b h q old new)
  unfolding grow_call
  grow-bad t e v = rw (← e, v) (record { answer = refl; book = refl })

  pub grow-not : (t u : Bool) → t ≡ bad_growth old new → t ≡ false → u ≡ held_direct n b q old → u ≡ false → Grew (Grow.Refused 12) b (grow_call n b h q old new)
  unfolding grow_call
  grow-not t u e v f w = rw (← e, v, ← f, w) (record { answer = refl; book = refl })

  pub grow-held : (t u : Bool) (m : ℕ) (r : Grow) (x : List ℕ) → BookIn b n → t ≡ bad_growth old new → t ≡ false → u ≡ held_direct n b q old → u ≡ true → m ≡ clamped (new - old)
      → Grows r x (valid_grow n b h (q + old) m) → Grew r x (grow_call n b h q old new)
  unfolding grow_call valid_grow
  grow-held t u m r x k e v f w g y =
      let m' = new - old in
      by_cases (grow_valid n b h (q + old) m')
      (λ z. let i = rw (g, clamp_growth n b k.small h (q + old) m', z, clamp_grow n b k.small h (q + old) (owner_code direct) m') at y in
      let j = grow-acts n b (le-leb _ _ k.long) (valid_record n b (growth_record n b h (q + old) m' z)) h m' (q + old) (growth-holes n b h (q + old) m' z) in
      rw (← e, v, ← f, w, z) (record { answer = i.answer ∙ rw (grow-code n b h (q + old) m', j.yes); book = i.book ∙ sym j.book }))
      (λ z. let i = rw (g, clamp_growth n b k.small h (q + old) m', z) at y in
      rw (← e, v, ← f, w, z) (record { answer = i.answer; book = i.book }))

-- ---- a commit
module _ (n : ℕ) (b : List ℕ) (h m : ℕ) where
  pub commit-bad : (t : Bool) → t ≡ bad_run m → t ≡ true → Answers (Refused 6) b (commit_call n b h m)
  unfolding commit_call
  commit-bad t e v = rw (← e, v) (record { answer = refl; book = refl })

  pub commit-goes : (t : Bool) (r : ℕ) (s : Commit) (x : List ℕ) → BookIn b n → t ≡ bad_run m → t ≡ false → r ≡ clamped m → Answers s x (commit_for n b h r (owner_code direct)) → Answers s x (commit_call n b h m)
  unfolding commit_call
  commit-goes t r s x k e v f a = rw (← e, v) (rw (f, clamp_commit n b (le-leb _ _ k.long) k.small h (owner_code direct) m) at a)
