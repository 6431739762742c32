-- An opened book stands for the new heap with the opening's rules, whatever its words were before.
--     opened-rep           the arena's part
--     opened-class         the part of every class
--     opened-represents    the whole
use Rattle.facts.proofs.Prelude.{ℕ, zero, suc, ◌+◌, ◌≤◌, ◌<◌, arith, Bool, true, false, ◌&&◌, List, ◌≡◌, refl, sym, ap, ◌∙◌, eqb, ltb, leb, length, get_or}
use Rattle.facts.proofs.Prelude.{length-set, get_or-set_same, get_or-set_other, eqb-true, eqb-false, leb-true, lt-leb, ltb-true, lt-ltb, total, below, by_cases, and_no}
use Rattle.words.specs.Limits.{class_rows, book_format}
use Rattle.classes.specs.Shape.{shape_of}
use Rattle.classes.proofs.Shapes.{shape-sound}
use Rattle.rules.specs.declared.Limits.{Limits}
use Rattle.rules.specs.Rules.{Rules, Fit}
use Rattle.fields.specs.Field.{Field, arena, class, ClassField, partial, empty, empty_count, cold, cold_count, empty_limit, cold_limit, size, format, state, frontier, holes, hole_pages, commits, commits_high, reuses, reuses_high, abandoned, abandoned_high, held, class_off, region, off, word, part, read, get, put, same, ok, words}
use Rattle.fields.proofs.Laws.{get_put_same, get-put_other, length-put}
use Rattle.fields.proofs.Changes.{Changes, changes-none, changes-put}
use Rattle.fields.specs.Ranges.{format_valid}
use Rattle.pages.specs.Valid.{limits_at}
use Rattle.model.specs.Arena.{new_arena}
use Rattle.model.specs.Class.{new_class}
use Rattle.model.specs.Heap.{new_heap}
use Rattle.pages.specs.Runs as Runs
use Rattle.arena.specs.Load.{load_holes}
use Rattle.arena.specs.Open.{cleared, head_words, limited, ruled, opened}
use Rattle.arena.specs.way.Represents.{ArenaRep}
use Rattle.refinement.specs.way.Represents.{StateRep, Represents}
use Rattle.refinement.proofs.ArenaStore.{load_written}

-- ---- the first words are 0
cleared-length : (b : List ℕ) (k : ℕ) → length (cleared b k) ≡ length b
unfolding cleared
cleared-length b zero = refl
cleared-length b (suc k) = length-set (cleared b k) k 0 ∙ cleared-length b k

pub cleared_at : (b : List ℕ) (k i : ℕ) → k ≤ length b → i < k → get_or (cleared b k) i 0 ≡ 0
unfolding cleared
cleared_at b zero i l u = absurd (omega arith)
cleared_at b (suc k) i l u =
    by_cases (eqb i k)
    (λ e. rw (eqb-true i k e) (get_or-set_same (cleared b k) k 0 0 (rw (cleared-length b k) (omega arith))))
    (λ e. let z : i ≡ k → ⊥ = eqb-false i k e in get_or-set_other (cleared b k) k i 0 0 z ∙ cleared_at b k i (omega arith) (omega (arith, z)))

-- ---- the limits
abbrev is_rule : Field → Bool
is_rule g = eqb (region g) 2 && leb 5 (off g)

pub ruled-changes : (b : List ℕ) (rules : Rules) (k : ℕ) → k ≤ class_rows → Changes is_rule b (ruled b rules k)
unfolding ruled
ruled-changes b rules zero l = changes-none is_rule b
ruled-changes b rules (suc k) l =
    let o = lt-ltb k class_rows (omega arith) in
    let b₁ = ruled b rules k in
    changes-put is_rule b (put b₁ (class empty_limit k) (rules k).empty) (class cold_limit k) (rules k).cold o refl
    (changes-put is_rule b b₁ (class empty_limit k) (rules k).empty o refl (ruled-changes b rules k (omega arith)))

limited-here : (n : ℕ) (b : List ℕ) → leb (words n) (length b) ≡ true → (c : ℕ) (lim : Limits) → ltb c class_rows ≡ true → limits_at (limited b c lim) c ≡ lim
limited-here n b hb c lim hc =
    let b₁ = put b (class empty_limit c) lim.empty in
    rw (
      get-put_other b₁ (class cold_limit c) (class empty_limit c) lim.cold hc hc refl,
      get_put_same n b (class empty_limit c) lim.empty hb hc refl,
      get_put_same n b₁ (class cold_limit c) lim.cold (rw (length-put b (class empty_limit c) lim.empty) hb) hc refl,
    )

limited-there : (b : List ℕ) (k c : ℕ) (lim : Limits) → ltb k class_rows ≡ true → ltb c class_rows ≡ true → eqb k c ≡ false → limits_at (limited b k lim) c ≡ limits_at b c
limited-there b k c lim hk hc ne =
    let b₁ = put b (class empty_limit k) lim.empty in
    rw (
      get-put_other b₁ (class cold_limit k) (class empty_limit c) lim.cold hk hc refl,
      get-put_other b (class empty_limit k) (class empty_limit c) lim.empty hk hc ne,
      get-put_other b₁ (class cold_limit k) (class cold_limit c) lim.cold hk hc ne,
      get-put_other b (class empty_limit k) (class cold_limit c) lim.empty hk hc refl,
    )

ruled-at : (n : ℕ) (b : List ℕ) → leb (words n) (length b) ≡ true → (rules : Rules) (k c : ℕ) → k ≤ class_rows → c < k → limits_at (ruled b rules k) c ≡ rules c
unfolding ruled
ruled-at n b hb rules zero c l u = absurd (omega arith)
ruled-at n b hb rules (suc k) c l u =
    let b₁ = ruled b rules k in
    let hk = lt-ltb k class_rows (omega arith) in
    by_cases (eqb k c)
    (λ e. let z : k ≡ c = eqb-true k c e in
    rw (← z) (limited-here n b₁ (rw (ruled-changes b rules k (omega arith)).long hb) k (rules k) hk))
    (λ e. let z : k ≡ c → ⊥ = eqb-false k c e in
    limited-there b₁ k c (rules k) hk (lt-ltb c class_rows (omega arith)) e ∙ ruled-at n b hb rules k c (omega arith) (omega (arith, z)))

module _ (n : ℕ) (rules : Rules) (b : List ℕ) (long : leb (words n) (length b) ≡ true) where
  enough : head_words ≤ length b
  unfolding head_words
  enough = omega (arith, leb-true (words n) (length b) long)

  head : List ℕ
  head = put (put (cleared b head_words) (arena size) n) (arena format) book_format

  head-long : leb (words n) (length head) ≡ true
  unfolding head
  head-long = simp (length-put, cleared-length b head_words) long

  limiting : Changes is_rule head (opened n rules b)
  unfolding opened head
  limiting = ruled-changes head rules class_rows (omega arith)

  -- every field before the holes but LENGTH, FORMAT and the limits
  opened-zero : (g : Field) → ok g ≡ true → is_rule g ≡ false → same (arena size) g ≡ false → same (arena format) g ≡ false → word g < 1376
      → get (opened n rules b) g ≡ read (part g) 0
  unfolding head head_words get
  opened-zero g o r d f l =
      limiting.kept g o r ∙ get-put_other (put (cleared b 1376) (arena size) n) (arena format) g book_format refl o f
      ∙ get-put_other (cleared b 1376) (arena size) g n refl o d ∙ ap (read (part g)) (cleared_at b 1376 (word g) enough l)

  opened-row : (k : ClassField) (c : ℕ) → ltb c class_rows ≡ true → is_rule (class k c) ≡ false → class_off k < 8 → get (opened n rules b) (class k c) ≡ 0
  opened-row k c o r l = opened-zero (class k c) o r refl refl (omega (arith, ltb-true c class_rows o))

  opened-long : leb (words n) (length (opened n rules b)) ≡ true
  opened-long = rw limiting.long head-long

  opened-size : get (opened n rules b) (arena size) ≡ n
  unfolding head
  opened-size =
      limiting.kept (arena size) refl refl ∙ get-put_other (put (cleared b head_words) (arena size) n) (arena format) (arena size) book_format refl refl refl
      ∙ get_put_same n (cleared b head_words) (arena size) n (rw (cleared-length b head_words) long) refl refl

  opened-format : format_valid (opened n rules b) ≡ true
  unfolding format_valid head
  opened-format =
      let c = put (cleared b head_words) (arena size) n in
      rw (limiting.kept (arena format) refl refl, get_put_same n c (arena format) book_format (simp (length-put, cleared-length b head_words) long) refl refl)

  none-held : (k : ℕ) → total (λ (x : ℕ). 0) (below k) ≡ 0
  none-held zero = refl
  none-held (suc k) = omega (arith, none-held k)

  pub opened-rep : ArenaRep n (opened n rules b) (new_heap rules)
  unfolding new_heap load_holes
  opened-rep = record {
    long = opened-long;
    length = opened-size;
    format = opened-format;
    loads = load_written (opened n rules b) new_arena (record {
      status = opened-zero (arena state) refl refl refl refl (omega arith);
      frontier = opened-zero (arena frontier) refl refl refl refl (omega arith);
      number = opened-zero (arena holes) refl refl refl refl (omega arith);
      total = opened-zero (arena hole_pages) refl refl refl refl (omega arith);
      holes = refl;
      commits = rw (opened-zero (arena commits) refl refl refl refl (omega arith), opened-zero (arena commits_high) refl refl refl refl (omega arith));
      reuses = rw (opened-zero (arena reuses) refl refl refl refl (omega arith), opened-zero (arena reuses_high) refl refl refl refl (omega arith));
      abandoned = rw (opened-zero (arena abandoned) refl refl refl refl (omega arith), opened-zero (arena abandoned_high) refl refl refl refl (omega arith));
    });
    state = opened-zero (arena state) refl refl refl refl (omega arith);
    held = opened-zero (arena held) refl refl refl refl (omega arith) ∙ sym (none-held n);
    owners = λ x l. absurd (omega arith);
  }

  -- the frontier is 0, so no run is whole
  none-whole : (c q : ℕ) → Runs.whole n (opened n rules b) (shape_of c) c q ≡ false
  unfolding Runs.whole
  none-whole c q =
      rw (opened-zero (arena frontier) refl refl refl refl (omega arith), lt-leb (q + (shape_of c).pages) 0 (omega (arith, (shape-sound c).paged))) (and_no (leb (q + (shape_of c).pages) n))

  pub opened-class : (c : ℕ) → ltb c class_rows ≡ true → StateRep n (opened n rules b) c (shape_of c) new_class
  opened-class c hc = record {
    chain = record { links = opened-row partial c hc refl (omega arith); distinct = tt; below = λ x i. absurd i };
    store = record { line = opened-row empty c hc refl (omega arith); number = opened-row empty_count c hc refl (omega arith); few = omega arith };
    beside = record { line = opened-row cold c hc refl (omega arith); number = opened-row cold_count c hc refl (omega arith); few = omega arith };
    partials = tt;
    parked = tt;
    parkeds = tt;
    fulls = tt;
    runs = λ q. rw (none-whole c q);
  }

  opened_rule : (c : ℕ) → ltb c class_rows ≡ true → limits_at (opened n rules b) c ≡ rules c
  unfolding opened head
  opened_rule c hc = ruled-at n head head-long rules class_rows c (omega arith) (ltb-true c class_rows hc)

  pub opened-represents : ((c : ℕ) → Fit (rules c)) → Represents n (opened n rules b) (new_heap rules)
  unfolding new_heap
  opened-represents fit = record { arena = opened-rep; classes = opened-class; rules = λ c hc. record { same = opened_rule c hc; fit = fit c } }
