-- The ways out of a release.
--     valid-kept        number 13's last test reads no out bit and no mark
--     all-ready         what marking at once tells: none of numbers 9, 13 for a mark, 15, 10 and 11 applies
--     finished          13's last test, and the act
use Rattle.facts.proofs.Prelude.{ℕ, zero, suc, ◌+◌, ◌*◌, ◌^◌, ◌≤◌, ◌<◌, arith, Bool, true, false, cond, List, [], ◌∷◌, map, ◌≡◌, refl, sym, ap, ◌∙◌, eqb}
use Rattle.facts.proofs.Prelude.{ltb, length, get_or, eqb-true, le-leb, lt-ltb, ltb-true, eq-eqb, ne_eqb, is_nil, every, and_left, and_right, every_made}
use Rattle.std.specs.Prelude.{Option, Some, None, Result, Ok, Err}
use Rattle.words.specs.Limits.{class_rows}
use Rattle.words.specs.declared.refusal.Refusal.{Refusal}
use Rattle.words.specs.declared.refusal.Refusal.TheVariants.{WrongKind, OtherPage}
use Rattle.words.specs.Refusal.{number_of}
use Rattle.words.proofs.Refusals.{positive}
use Rattle.classes.specs.declared.Shape.{Shape}
use Rattle.classes.specs.way.Sound.{Sound}
use Rattle.fields.specs.Field.{arena, class, page, format, frontier, partial, empty, empty_count, cold, cold_count, first, next, prev, free, carved, listed, virgin, get, words, Has, hole, empty_limit, cold_limit}
use Rattle.fields.specs.Clear.{clear_marks}
use Rattle.pages.specs.Carve.{out_words}
use Rattle.fields.proofs.Changes.{Changes}
use Rattle.fields.proofs.Sound.{head-kept}
use Rattle.model.specs.Release.{of_kind}
use Rattle.arena.proofs.Frames.{give_kept}
use Rattle.arena.specs.Calls.{given}
use Rattle.pages.specs.way.Pre.{ClearPre}
use Rattle.pages.specs.Valid.{header_valid}
use Rattle.pages.specs.Stack.{set_outs, pushed, index_of, is_block, page_at, back}
use Rattle.pages.proofs.Descending.{small, every_mono}
use Rattle.pages.proofs.SetOuts.{set_outs-changes}
use Rattle.calls.specs.Out.{start_of, in_run_of, out_in, out_at, out_fault}
use Rattle.calls.proofs.Out.{passed}
use Rattle.calls.specs.Release as Heap
use Rattle.calls.specs.Release.{first_of, page_valid, row_valid, destination_valid, release_valid, relisted, released, park_as, park_at, destination_at, unlisted, give_back_at, last_step, release_blocks}
use Rattle.release.specs.Answer.{Released, Refused, Fate}
use Rattle.release.specs.declared.Marked.{Marked}
use Rattle.release.specs.way.Pre.{ClassPre, StartPre, TakePre}
use Rattle.release.specs.way.Blocks.{run_at}
use Rattle.release.specs.way.Valid.{ValidPre}
use Rattle.pages.specs.Runs.{whole}
use Rattle.release.specs.way.Marks.{fresh_count, fresh_book, no_marks, all_fresh, take_marks}
use Rattle.release.specs.way.MarkPre.{FieldPre, MarkedIn, MarkedAll, FaultPre, Faulted}
use Rattle.release.specs.way.Act.{settle_at, taken_by, tried, SettlePre, ListPre, RunPre, MarkedPre, PassedPre, Parked, Answered, PreparedAt, Prepared, Attempted, Finished}
use Rattle.release.specs.Answer.{answer_as}
use Rattle.release.proofs.Bits.{is_bit, out_in_lem}
use Rattle.release.proofs.BlockSteps.{none_found, found_at}
use Rattle.release.proofs.RunSteps.{run-whole}
use Rattle.pages.proofs.Runs.{whole_says}
use Rattle.release.proofs.OutLaws.{page_of-out, run_within_out}
use Rattle.release.proofs.RunLaws.{out-here, in_low}
use Rattle.release.proofs.MarkLaws.{mark-bits}
use Rattle.release.proofs.Testing.{fault-none}
use Rattle.release.proofs.RunMarks.{fresh-changes, takes_all, clears_run, AllFresh, all-fresh, not-repeated, not-marked}

-- ---- number 13's last test reads no out bit and no mark
module _ (b b' : List ℕ) (h : Changes is_bit b b') where
  valid-kept : (n c : ℕ) (sh : Shape) (m q : ℕ) → c < class_rows → release_valid n b' c sh m q ≡ release_valid n b c sh m q
  unfolding release_valid page_valid row_valid destination_valid header_valid
  valid-kept n c sh m q hc =
      let k = h.kept in
      let o = lt-ltb c class_rows hc in
      rw (
        head-kept b b' (k (arena format) refl refl) n (k (arena frontier) refl refl),
        k (arena frontier) refl refl,
        give_kept n b b' (λ f. k (arena f) refl refl) (λ f j o. k (hole f j) o refl) sh.pages,
        k (page carved q) refl refl,
        k (page free q) refl refl,
        k (page listed q) refl refl,
        k (page virgin q) refl refl,
        k (page next q) refl refl,
        k (page prev q) refl refl,
        k (class partial c) o refl,
        k (class empty c) o refl,
        k (class empty_count c) o refl,
        k (class cold c) o refl,
        k (class cold_count c) o refl,
        k (class empty_limit c) o refl,
        k (class cold_limit c) o refl,
      )

-- ---- what a release answers
module _ (n : ℕ) (b : List ℕ) (c : ℕ) (sh : Shape) (h : ℕ) (ws : List ℕ) (z : is_nil ws ≡ false) where
  wrong-kind : every (of_kind sh.kind) ws ≡ false → Answered (Refused 9) b (release_blocks n b c sh h ws)
  unfolding release_blocks
  wrong-kind e = rw (z, e) (record { answer = refl; left = refl })

  module _ (k : every (of_kind sh.kind) ws ≡ true) where
    at-fault : (r : ℕ) (b' : List ℕ) → r ≡ out_fault n b c sh ws → (r ≡ 0 → ⊥) → b' ≡ b → Answered (Refused r) b' (release_blocks n b c sh h ws)
    unfolding release_blocks
    at-fault r b' e d x = rw (z, k, ← e, ne_eqb r 0 d) (record { answer = by r d; left = x })
      where
        by : (r : ℕ) → (r ≡ 0 → ⊥) → Refused r ≡ answer_as r 0
        by zero d = absurd (d refl)
        by (suc r) d = refl

    module _ (o : out_fault n b c sh ws ≡ 0) (q : ℕ) (y : start_of b (first_of ws) ≡ q) where
      two_runs : every (λ w. eqb (start_of b w) q) ws ≡ false → Answered (Refused 11) b (release_blocks n b c sh h ws)
      unfolding release_blocks
      two_runs e = rw (z, k, o, y, e) (record { answer = refl; left = refl })

      module _ (u : every (λ w. eqb (start_of b w) q) ws ≡ true) where
        not_valid : release_valid n b c sh (length ws) q ≡ false → Answered (Refused 13) b (release_blocks n b c sh h ws)
        unfolding release_blocks
        not_valid e = rw (z, k, o, y, u, e) (record { answer = refl; left = refl })

        carried-out : (r : ℕ) (b' : List ℕ) → release_valid n b c sh (length ws) q ≡ true → (last_step sh q (give_back_at b c sh h q (map (index_of sh q) ws))).code ≡ 0
            → Parked r b' (last_step sh q (give_back_at b c sh h q (map (index_of sh q) ws))) → Answered (Fate r) b' (release_blocks n b c sh h ws)
        unfolding release_blocks
        carried-out r b' e v p = rw (z, k, o, y, u, e) (record { answer = rw v (ap Fate p.fate); left = p.left })

-- ---- an act refuses nothing
last_code : (sh : Shape) (q : ℕ) (o : Heap.Released) → o.code ≡ 0 → (last_step sh q o).code ≡ 0
last_code sh q o e = by (eqb o.fate 2) (given o.book q sh.pages)
  where
    by : (t : Bool) (d : List ℕ) → (cond t (record { code = o.code; book = d; fate = o.fate }) o).code ≡ 0
    by true d = e
    by false d = e

settle-code : (b : List ℕ) (c : ℕ) (sh : Shape) (h q : ℕ) (is : List ℕ) → (settle_at b c sh h q is).code ≡ 0
unfolding settle_at park_at
settle-code b c sh h q is = by (pushed b q is) (eqb (get (pushed b q is) (page carved q)) (get (pushed b q is) (page free q)))
  where
    by : (d : List ℕ) (t : Bool) → (cond t (park_as (unlisted d c q) c sh h q (destination_at d c sh)) (released (relisted d c q) 0)).code ≡ 0
    by d true = refl
    by d false = refl

give_back-settles : (b : List ℕ) (c : ℕ) (sh : Shape) (h q : ℕ) (is : List ℕ) → give_back_at b c sh h q is ≡ settle_at (set_outs b q 0 is) c sh h q is
unfolding give_back_at settle_at back
give_back-settles b c sh h q is = refl

give_back-code : (b : List ℕ) (c : ℕ) (sh : Shape) (h q : ℕ) (is : List ℕ) → (last_step sh q (give_back_at b c sh h q is)).code ≡ 0
give_back-code b c sh h q is = last_code sh q (give_back_at b c sh h q is) (rw (give_back-settles b c sh h q is) (settle-code (set_outs b q 0 is) c sh h q is))

-- ---- the act: all words are out in the run at q
lows : (sh : Shape) (s : Sound sh) (q : ℕ) (b : List ℕ) (ws : List ℕ) → every (out_in b sh q) ws ≡ true → every (λ w. ltb (index_of sh q w) 4096) ws ≡ true
lows sh s q b [] e = refl
lows sh s q b (w ∷ ws) e = rw (lt-ltb (index_of sh q w) 4096 (in_low sh s q b w (and_left (out_in b sh q w) _ e))) (lows sh s q b ws (and_right (out_in b sh q w) _ e))

smalls : (sh : Shape) (q : ℕ) (ws : List ℕ) → every (λ w. ltb (index_of sh q w) 4096) ws ≡ true → every small (map (index_of sh q) ws) ≡ true
smalls sh q [] e = refl
smalls sh q (w ∷ ws) e = rw (and_left (ltb (index_of sh q w) 4096) _ e) (smalls sh q ws (and_right (ltb (index_of sh q w) 4096) _ e))

-- all words are out in the run at q: its blocks' bits, and that 13's last test does not see them taken
module _ (n : ℕ) (b : List ℕ) (c : ℕ) (sh : Shape) (s : Sound sh) (q : ℕ) (ws : List ℕ) (o : every (out_in b sh q) ws ≡ true) where
  bits-low : every (λ w. ltb (index_of sh q w) 4096) ws ≡ true
  bits-low = lows sh s q b ws o

  taken-changes : Changes is_bit b (set_outs b q 0 (map (index_of sh q) ws))
  taken-changes = set_outs-changes b q 0 is_bit (λ i. refl) (map (index_of sh q) ws) (smalls sh q ws bits-low)

-- ---- a list that no number before 11 refuses
first-is : (ws : List ℕ) → is_nil ws ≡ false → first_of ws ≡ get_or ws 0 0
first-is [] z = let e : ◌≡◌ {A = Bool} true false = z in let y : ◌≡◌ {A = ℕ} 0 1 = cc in absurd (omega arith)
first-is (w ∷ ws) z = refl

pub some-listed : (ws : List ℕ) → is_nil ws ≡ false → 0 < length ws
some-listed [] z = let e : ◌≡◌ {A = Bool} true false = z in let y : ◌≡◌ {A = ℕ} 0 1 = cc in absurd (omega arith)
some-listed (w ∷ ws) z = omega arith

pub not_marked_at : (n : ℕ) (b : List ℕ) (c : ℕ) (sh : Shape) (ws : List ℕ) → PassedPre n b c sh ws → (q : ℕ) → start_of b (first_of ws) ≡ q → every (λ w. eqb (start_of b w) q) ws ≡ true
    → PreparedAt q 0 b n b c sh ws
unfolding clear_marks
not_marked_at n b c sh ws a q e u = record { passed = a; start = e; alone = u; few = omega arith; long = refl; same = refl; taken = refl; cleared = refl }

module _ (n : ℕ) (b : List ℕ) (c : ℕ) (sh : Shape) (ws : List ℕ) (a : PassedPre n b c sh ws) where
  out : every (out_at n b c sh) ws ≡ true
  out = (passed n b c sh ws a.passed).out

  pub start-pre : StartPre n b ws
  start-pre = record { long = a.class.long; pages = by ws out }
    where
      by : (vs : List ℕ) → every (out_at n b c sh) vs ≡ true → every (λ w. ltb (page_at w) n) vs ≡ true
      by [] e = refl
      by (v ∷ vs) e = rw (lt-ltb (page_at v) n (page_of-out n c sh a.class.sound b v (and_left (out_at n b c sh v) _ e))) (by vs (and_right (out_at n b c sh v) _ e))

  first_below : page_at (get_or ws 0 0) < n
  first_below = ltb-true (page_at (get_or ws 0 0)) n (by ws start-pre.pages a.some)
    where
      by : (vs : List ℕ) → every (λ w. ltb (page_at w) n) vs ≡ true → is_nil vs ≡ false → ltb (page_at (get_or vs 0 0)) n ≡ true
      by [] x y = let e : ◌≡◌ {A = Bool} true false = y in let y : ◌≡◌ {A = ℕ} 0 1 = cc in absurd (omega arith)
      by (v ∷ vs) x y = and_left (ltb (page_at v) n) _ x

  pub first_fits : page_at (get_or ws 0 0) < 2 ^ 32
  first_fits = omega (arith, first_below, a.class.few)

  pub first-pre : (p : ℕ) → p ≡ page_at (get_or ws 0 0) → Has b (page first p)
  first-pre p e = omega (arith, a.class.long, first_below)

  module _ (p q : ℕ) (e : p ≡ page_at (get_or ws 0 0)) (y : q ≡ get b (page first p)) where
    start_is : start_of b (first_of ws) ≡ q
    unfolding start_of
    start_is = rw (first-is ws a.some, ← e) (sym y)

    module _ (t : Bool) (x : t ≡ every (λ w. eqb (start_of b w) q) ws) where
      pub other-run : t ≡ false → Prepared (Err OtherPage) b n b c sh ws
      unfolding Prepared
      other-run d h = two_runs n b c sh h ws a.some a.kinds a.passed q start_is (sym x ∙ d)

      pub this_run : t ≡ true → Prepared (Ok (record { run = q; marks = 0 })) b n b c sh ws
      unfolding Prepared
      this_run d = not_marked_at n b c sh ws a q start_is (sym x ∙ d)

-- ---- the run at q has all listed blocks, in a book where they are marked or not
module _ (n : ℕ) (b : List ℕ) (c : ℕ) (sh : Shape) (ws : List ℕ) (q m : ℕ) (b' : List ℕ) (p : PreparedAt q m b' n b c sh ws) where
  out-all : every (out_at n b c sh) ws ≡ true
  out-all = (passed n b c sh ws p.passed.passed).out

  sound_of : Sound sh
  sound_of = p.passed.class.sound

  within : q + sh.pages ≤ n
  within = by ws out-all p.passed.some p.start
    where
      by : (vs : List ℕ) → every (out_at n b c sh) vs ≡ true → is_nil vs ≡ false → start_of b (first_of vs) ≡ q → q + sh.pages ≤ n
      by [] x y z = let e : ◌≡◌ {A = Bool} true false = y in let y : ◌≡◌ {A = ℕ} 0 1 = cc in absurd (omega arith)
      by (v ∷ vs) x y z = rw (← z) (run_within_out n c sh sound_of b v (and_left (out_at n b c sh v) _ x))

  here : every (out_in b sh q) ws ≡ true
  here = by ws p.alone out-all
    where
      by : (vs : List ℕ) → every (λ w. eqb (start_of b w) q) vs ≡ true → every (out_at n b c sh) vs ≡ true → every (out_in b sh q) vs ≡ true
      by [] i j = refl
      by (v ∷ vs) i j =
          rw (out-here n c sh sound_of q b v (eqb-true (start_of b v) q (and_left (eqb (start_of b v) q) _ i)) (and_left (out_at n b c sh v) _ j))
          (by vs (and_right (eqb (start_of b v) q) _ i) (and_right (out_at n b c sh v) _ j))

  finish-pre : MarkedPre n b' c sh q m ws
  finish-pre = record {
    class = record { known = p.passed.class.known; sound = sound_of; few = p.passed.class.few; long = omega (arith, p.long, p.passed.class.long) };
    inside = within;
    few = p.few;
    bits = bits-low n b c sh sound_of q ws here;
    blocks = every_mono (out_in b sh q) (is_block sh q) (λ w o. and_left (is_block sh q w) _ (sym (out_in_lem b sh q w) ∙ o)) ws here;
    same = rw p.taken (valid-kept b _ (taken-changes n b c sh sound_of q ws here) n c sh (length ws) q p.passed.class.known ∙ sym p.same);
  }

  pub finished : (h : ℕ) (r : Released) (b'' : List ℕ) → Finished r b'' n b' c sh h q m ws → Answered r b'' (release_blocks n b c sh h ws)
  unfolding Finished
  finished h (Fate f) b'' z =
      let is = map (index_of sh q) ws in
      let u : settle_at (taken_by b' sh q m ws) c sh h q is ≡ give_back_at b c sh h q is = rw p.taken (sym (give_back-settles b c sh h q is)) in
      carried-out n b c sh h ws p.passed.some p.passed.kinds p.passed.passed q p.start p.alone f b'' (sym p.same ∙ z.valid) (give_back-code b c sh h q is) (rw u at z.act)
  finished h (Refused k) b'' z =
      rw (z.left, p.cleared, z.number) (not_valid n b c sh h ws p.passed.some p.passed.kinds p.passed.passed q p.start p.alone (sym p.same ∙ z.invalid))

-- ---- numbers 7, 9, and what `out_fault` says
module _ (n : ℕ) (b : List ℕ) (c : ℕ) (sh : Shape) (h : ℕ) where
  pub none-listed : (ws : List ℕ) → length ws ≡ 0 → Answered (Refused 7) b (release_blocks n b c sh h ws)
  unfolding release_blocks
  none-listed [] e = record { answer = refl; left = refl }
  none-listed (w ∷ ws) e = absurd (omega arith)

  pub list-pre : (ws : List ℕ) → ClassPre n b c sh → (length ws ≡ 0 → ⊥) → ListPre n b c sh ws
  list-pre [] a d = absurd (d refl)
  list-pre (w ∷ ws) a d = record { class = a; some = refl }

module _ (n : ℕ) (b : List ℕ) (c : ℕ) (sh : Shape) where
  module _ (ws : List ℕ) (a : ListPre n b c sh ws) (t : Bool) (k : t ≡ every (of_kind sh.kind) ws) where
    pub bad_kind : t ≡ false → Prepared (Err WrongKind) b n b c sh ws
    unfolding Prepared
    bad_kind x h = wrong-kind n b c sh h ws a.some (sym k ∙ x)

    module _ (x : t ≡ true) where
      pub fault-pre : FaultPre n b c sh ws
      fault-pre = record { class = a.class; kinds = sym k ∙ x }

      pub faulted : (e : Refusal) (b' : List ℕ) → Faulted (number_of e) b' n b c sh ws → Prepared (Err e) b' n b c sh ws
      unfolding Prepared
      faulted e b' f h = at-fault n b c sh h ws a.some (sym k ∙ x) (number_of e) b' f.answer (λ z. omega (arith, z, positive e)) f.left

      module _ (b' : List ℕ) (f : Faulted 0 b' n b c sh ws) where
        pub passed-pre : PassedPre n b' c sh ws
        passed-pre = rw f.left (record { class = a.class; some = a.some; kinds = sym k ∙ x; passed = sym f.answer })

        pub passed_on : (o : Result Marked Refusal) → Prepared o b' n b' c sh ws → Prepared o b' n b c sh ws
        passed_on o i = rw f.left (rw f.left at i)

  pub told-no : (h : ℕ) (ws : List ℕ) (e : Refusal) (b' : List ℕ) → Prepared (Err e) b' n b c sh ws → Answered (Refused (number_of e)) b' (release_blocks n b c sh h ws)
  unfolding Prepared
  told-no h ws e b' p = p h

  module _ (ws : List ℕ) (r : Marked) (b' : List ℕ) (p : Prepared (Ok r) b' n b c sh ws) where
    prepared_in : PreparedAt r.run r.marks b' n b c sh ws
    unfolding Prepared
    prepared_in = p

    pub finish-told : MarkedPre n b' c sh r.run r.marks ws
    finish-told = finish-pre n b c sh ws r.run r.marks b' prepared_in

    pub finished-told : (h : ℕ) (s : Released) (b'' : List ℕ) → Finished s b'' n b' c sh h r.run r.marks ws → Answered s b'' (release_blocks n b c sh h ws)
    finished-told = finished n b c sh ws r.run r.marks b' prepared_in

  first_pre_run : (ws : List ℕ) (q : ℕ) → ListPre n b c sh ws → in_run_of n b sh c (get_or ws 0 0) ≡ true → q ≡ start_of b (get_or ws 0 0) → RunPre n b c sh q ws
  first_pre_run ws q a i e =
      record { class = a.class; some = a.some; run = rw e (run-whole n b c sh (get_or ws 0 0) i); start = ap (start_of b) (first-is ws a.some) ∙ sym e }

  pub run-pre : (ws : List ℕ) (q : ℕ) → ListPre n b c sh ws → Some q ≡ run_at n b sh c (get_or ws 0 0) → RunPre n b c sh q ws
  run-pre ws q a y = let z = found_at (in_run_of n b sh c (get_or ws 0 0)) (start_of b (get_or ws 0 0)) q y in first_pre_run ws q a z.0 z.1

pub only_one : (ws : List ℕ) → length ws ≡ 1 → ws ≡ get_or ws 0 0 ∷ []
only_one [] l = absurd (omega arith)
only_one (w ∷ []) l = refl
only_one (w ∷ (v ∷ ws)) l = absurd (omega arith)

-- ---- a list that is marked at once
marks-few : (sh : Shape) → Sound sh → out_words sh ≤ 128
marks-few sh s = omega (arith, s.few)

marks-all_of : (sh : Shape) → sh.capacity ≤ 32 * out_words sh
marks-all_of sh = omega arith

module _ (b : List ℕ) (sh : Shape) (q : ℕ) (ws : List ℕ) (a : FieldPre b sh q) (m : ℕ) (e : m ≡ out_words sh) where
  pub marks-pre : ClearPre b q m
  marks-pre = record { few = omega (arith, e, marks-few sh a.sound); there = a.there }

  module _ (t : Bool) (k : t ≡ no_marks b q m) where
    pub some-set : t ≡ false → MarkedAll false b b sh q ws
    unfolding all_fresh
    some-set x = let z : no_marks b q (out_words sh) ≡ false = rw (← e) (sym k ∙ x) in record { answer = rw z; left = rw z }

    module _ (x : t ≡ true) (r : ℕ) (b' : List ℕ) (s : MarkedIn r b' b sh q ws 0) where
      none-set : no_marks b q (out_words sh) ≡ true
      none-set = rw (← e) (sym k ∙ x)

      pub clear-pre : ClearPre b' q m
      clear-pre = rw s.left (record { few = marks-pre.few; there = omega (arith, (fresh-changes sh a.sound (λ w. q) b ws).long, a.there) })

      pub all_set : r ≡ length ws → MarkedAll true b' b sh q ws
      unfolding all_fresh
      all_set y =
          let z : eqb (fresh_count b sh q ws) (length ws) ≡ true = eq-eqb (fresh_count b sh q ws) (length ws) (omega (arith, s.answer)) in
          record { answer = rw (none-set, z); left = rw (none-set, z) s.left }

      pub not-all_set : (r ≡ length ws → ⊥) → (b'' : List ℕ) → b'' ≡ clear_marks b' q m → MarkedAll false b'' b sh q ws
      unfolding all_fresh
      not-all_set d b'' l =
          let z : eqb (fresh_count b sh q ws) (length ws) ≡ false = ne_eqb (fresh_count b sh q ws) (length ws) (λ y. d (omega (arith, s.answer, y))) in
          record {
            answer = rw (none-set, z);
            left = rw (none-set, z) (l ∙ rw (s.left, e) (clears_run sh a.sound q (out_words sh) (marks-few sh a.sound) (marks-all_of sh) b ws none-set));
          }

-- ---- the run of the first word
module _ (n : ℕ) (b : List ℕ) (c : ℕ) (sh : Shape) (q : ℕ) (ws : List ℕ) (a : RunPre n b c sh q ws) where
  sound : Sound sh
  sound = a.class.sound

  below-n : q + sh.pages ≤ n
  below-n = (whole_says n b sh c q a.run).inside

  field_pre : FieldPre b sh q
  field_pre = record { sound = sound; below = omega (arith, below-n, a.class.few); there = omega (arith, below-n, sound.paged, a.class.long) }

  module _ (m : ℕ) (e : m ≡ out_words sh) (u : all_fresh b sh q ws ≡ true) where
    no-marks : no_marks b q m ≡ true
    unfolding all_fresh
    no-marks = rw e (and_left (no_marks b q (out_words sh)) _ u)

    all-marked : fresh_count b sh q ws ≡ length ws
    unfolding all_fresh
    all-marked = eqb-true (fresh_count b sh q ws) (length ws) (and_right (no_marks b q (out_words sh)) _ u)

    few : m ≤ 128
    few = omega (arith, e, marks-few sh sound)

    all : sh.capacity ≤ 32 * m
    all = rw e (marks-all_of sh)

    marked-changes : Changes is_bit b (fresh_book b sh q ws)
    marked-changes = mark-bits b _ (fresh-changes sh sound (λ w. q) b ws)

    fresh : AllFresh sh sound (λ w. q) n c b ws
    fresh = all-fresh sh sound (λ w. q) n c b ws (every_made (λ w. whole n b sh c q) ws (λ k l. a.run)) all-marked

    all-ready : PreparedAt q m (fresh_book b sh q ws) n b c sh ws
    all-ready = record {
      passed = record {
        class = a.class;
        some = a.some;
        kinds = fresh.kinds;
        passed = fault-none n b c sh ws (not-marked sh sound (λ w. q) n c m all b ws (every_made (λ w. no_marks b q m) ws (λ k l. no-marks)) fresh) (not-repeated sh sound (λ w. q) n c b ws fresh (le-leb (words n) (length b) a.class.long)) fresh.out;
      };
      start = a.start;
      alone = fresh.start;
      few = few;
      long = marked-changes.long;
      same = valid-kept b _ marked-changes n c sh (length ws) q a.class.known;
      taken = rw (ne_eqb m 0 (λ z. omega (arith, e, sound.blocks))) (takes_all sh sound q m few all b ws field_pre.there no-marks all-marked);
      cleared = clears_run sh sound q m few all b ws no-marks;
    }

-- ---- `try_list`, and what was tried
module _ (n : ℕ) (b : List ℕ) (c : ℕ) (sh : Shape) (ws : List ℕ) where
  pub try_no_run : None ≡ run_at n b sh c (get_or ws 0 0) → Attempted None b n b c sh ws
  try_no_run h = let z = none_found (in_run_of n b sh c (get_or ws 0 0)) (start_of b (get_or ws 0 0)) h in record { answer = rw z; left = rw z }

  module _ (q : ℕ) (h : Some q ≡ run_at n b sh c (get_or ws 0 0)) where
    first_run : (in_run_of n b sh c (get_or ws 0 0) ≡ true) × (q ≡ start_of b (get_or ws 0 0))
    first_run = found_at (in_run_of n b sh c (get_or ws 0 0)) (start_of b (get_or ws 0 0)) q h

    pub try_pre : ListPre n b c sh ws → FieldPre b sh q
    try_pre a = field_pre n b c sh q ws (run-pre n b c sh ws q a h)

    module _ (r : Bool) (b' : List ℕ) (m : MarkedAll r b' b sh q ws) where
      pub try_all : r ≡ true → Attempted (Some q) b' n b c sh ws
      try_all t = record { answer = rw (first_run.0, ← first_run.1, sym m.answer ∙ t); left = rw (first_run.0, ← first_run.1) m.left }

      pub try_not : r ≡ false → Attempted None b' n b c sh ws
      try_not t = record { answer = rw (first_run.0, ← first_run.1, sym m.answer ∙ t); left = rw (first_run.0, ← first_run.1) m.left }

  module _ (b' : List ℕ) where
    left_as : (f : Option ℕ) → Attempted f b' n b c sh ws → (u : Bool) → tried n b c sh ws ≡ u → b' ≡ cond u (fresh_book b sh (start_of b (get_or ws 0 0)) ws) b
    left_as f t u z = t.left ∙ ap (λ y. cond y (fresh_book b sh (start_of b (get_or ws 0 0)) ws) b) z

    as_it_was : Attempted None b' n b c sh ws → b' ≡ b
    as_it_was t = left_as None t false (none_found (tried n b c sh ws) (start_of b (get_or ws 0 0)) t.answer)

    pub test_pre : Attempted None b' n b c sh ws → ListPre n b c sh ws → ListPre n b' c sh ws
    test_pre t a = rw (as_it_was t) a

    pub tested : Attempted None b' n b c sh ws → (r : Result Marked Refusal) (b'' : List ℕ) → Prepared r b'' n b' c sh ws → Prepared r b'' n b c sh ws
    tested t r b'' i = rw (as_it_was t) at i

    pub ready_at-once : (q m : ℕ) → Attempted (Some q) b' n b c sh ws → m ≡ out_words sh → ListPre n b c sh ws → Prepared (Ok (record { run = q; marks = m })) b' n b c sh ws
    unfolding Prepared
    ready_at-once q m t k a =
        let z = found_at (tried n b c sh ws) (start_of b (get_or ws 0 0)) q t.answer in
        let i = and_left (in_run_of n b sh c (get_or ws 0 0)) _ z.0 in
        let u : all_fresh b sh q ws ≡ true = rw z.1 (and_right (in_run_of n b sh c (get_or ws 0 0)) _ z.0) in
        let l : b' ≡ fresh_book b sh q ws = left_as (Some q) t true z.0 ∙ ap (λ p. fresh_book b sh p ws) (sym z.1) in
        rw l (all-ready n b c sh q ws (first_pre_run n b c sh ws q a i z.1) m k u)

-- ---- from the marked book on
module _ (b : List ℕ) (sh : Shape) (q m : ℕ) (ws b' : List ℕ) where
  pub by-list : m ≡ 0 → b' ≡ set_outs b q 0 (map (index_of sh q) ws) → b' ≡ taken_by b sh q m ws
  by-list z e = rw z e

  pub by-words : (m ≡ 0 → ⊥) → b' ≡ take_marks b q m → b' ≡ taken_by b sh q m ws
  by-words z e = rw (ne_eqb m 0 z) e

pub sweep-pre : (b : List ℕ) (sh : Shape) (q m : ℕ) (ws : List ℕ) → TakePre b sh q ws → m ≤ 128 → ClearPre b q m
sweep-pre b sh q m ws a l = record { few = l; there = a.run.there }

module _ (n : ℕ) (b : List ℕ) (c : ℕ) (sh : Shape) (q m : ℕ) (ws : List ℕ) (a : MarkedPre n b c sh q m ws) where
  pub marked-there : ClearPre b q m
  marked-there = record { few = a.few; there = omega (arith, a.inside, a.class.sound.paged, a.class.long) }

  pub marked-valid : ValidPre b c sh q
  marked-valid = record { known = a.class.known; sound = a.class.sound; there = marked-there.there }

  pub marked-takes : TakePre b sh q ws
  marked-takes = record {
    run = record { sound = a.class.sound; below = omega (arith, a.inside, a.class.sound.paged, a.class.few); there = marked-there.there };
    bits = a.bits;
    blocks = a.blocks;
  }

  module _ (t : Bool) (f : t ≡ release_valid n b c sh (length ws) q) where
    module _ (x : t ≡ true) (b' : List ℕ) (l : length b' ≡ length b) (e : b' ≡ taken_by b sh q m ws) where
      pub marked-settles : SettlePre n b' c sh q ws
      marked-settles = record {
        class = record { known = a.class.known; sound = a.class.sound; few = a.class.few; long = omega (arith, a.class.long) };
        inside = a.inside;
        valid = rw e a.same ∙ sym f ∙ x;
        bits = a.bits;
        blocks = a.blocks;
      }

      pub marked-taken : (h r : ℕ) (b'' : List ℕ) → Parked r b'' (last_step sh q (settle_at b' c sh h q (map (index_of sh q) ws))) → Finished (Fate r) b'' n b c sh h q m ws
      unfolding Finished
      marked-taken h r b'' p = record { valid = sym f ∙ x; act = rw e at p }

    pub marked-cleared : t ≡ false → (h : ℕ) (b' : List ℕ) → b' ≡ clear_marks b q m → Finished (Refused 13) b' n b c sh h q m ws
    unfolding Finished
    marked-cleared x h b' e = record { number = refl; invalid = sym f ∙ x; left = e }
