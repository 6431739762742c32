-- The ways through a group release.
--     faulted .. tested          the numbers of the taking, each over the whole list or at once
--     refused, settled           what the call answers
--     no-list .. wrong-chunks    numbers 7, 8 and 9
--     small-pre                  what the call asks holds of every small class
use Rattle.facts.proofs.Prelude.{ℕ, ◌≤◌, ◌<◌, arith, Bool, true, false, cond, not, ◌&&◌, ◌||◌, List, [], ◌∷◌, ◌≡◌, refl, sym, eqb}
use Rattle.facts.proofs.Prelude.{ltb, leb, length, lt-ltb, le-ltb, le-leb, ne_eqb, eqb-true, eqb-false, is_nil, every, by_cases, and_left}
use Rattle.words.specs.Limits.{class_rows}
use Rattle.words.specs.Word.{chunk_kind}
use Rattle.words.specs.declared.refusal.Refusal.{Refusal}
use Rattle.words.specs.Refusal.{number_of}
use Rattle.words.proofs.Refusals.{positive}
use Rattle.classes.specs.declared.Shape.{Shape}
use Rattle.classes.specs.Shape.{small_shape, shape_of, class_count}
use Rattle.classes.specs.way.Sound.{Sound}
use Rattle.classes.proofs.Shapes.{shape-sound}
use Rattle.fields.specs.Field.{words}
use Rattle.fields.specs.Ranges.{max_pages}
use Rattle.model.specs.Release.{of_kind}
use Rattle.model.specs.Chunks.{chunks_max}
use Rattle.calls.specs.Out.{out_at, out_fault}
use Rattle.calls.proofs.Out.{passed}
use Rattle.calls.specs.Chunks.{chunks_match, chunks_valid, settle_chunks, chunks_none, release_chunks}
use Rattle.release.specs.way.MarkPre.{FaultPre, Faulted}
use Rattle.chunks.specs.way.Pass.{cleared}
use Rattle.chunks.specs.way.CallPre.{all_placed, settled_to, pass_fault, test_fault, CallPre, ListedPre, TestPre, PassPre, SettlePre, TakenBy, ChunksAnswered}
use Rattle.chunks.specs.way.MarkPre.{TryPre, Tried}
use Rattle.chunks.proofs.Gather.{gathered}
use Rattle.chunks.proofs.CallTests.{valid-pages}
use Rattle.chunks.proofs.CallPasses.{settle-next}

-- ---- the numbers of the taking
module _ (n : ℕ) (b : List ℕ) (c : ℕ) (sh : Shape) (ws gs : List ℕ) where
  -- none applies
  record NoFault : Type 0 where
    fault : out_fault n b c sh ws ≡ 0
    matches : chunks_match b ws gs ≡ true
    valid : chunks_valid n b c sh gs ≡ true

  no-fault : test_fault n b c sh ws gs ≡ 0 → NoFault
  unfolding test_fault pass_fault
  no-fault e =
      by_cases (eqb (out_fault n b c sh ws) 0)
      (λ o. by_cases (chunks_match b ws gs)
      (λ m. by_cases (chunks_valid n b c sh gs)
      (λ f. record { fault = eqb-true (out_fault n b c sh ws) 0 o; matches = m; valid = f })
      (λ f. absurd (none 13 (λ z. omega arith) (rw (o, m, f) at e))))
      (λ m. absurd (none 11 (λ z. omega arith) (rw (o, m) at e))))
      (λ o. absurd (eqb-false (out_fault n b c sh ws) 0 o (rw o at e)))
    where
      none : (k : ℕ) → (k ≡ 0 → ⊥) → k ≡ 0 → ⊥
      none k f e = f e

  module _ (h : ℕ) (fs : List ℕ) where
    pub by-fault : cond (not (eqb (out_fault n b c sh ws) 0)) (chunks_none b fs (out_fault n b c sh ws))
        (cond (not (chunks_match b ws gs)) (chunks_none b fs 11) (cond (not (chunks_valid n b c sh gs)) (chunks_none b fs 13) (settled_to (settle_chunks b c sh h ws gs) sh gs fs)))
        ≡ cond (not (eqb (test_fault n b c sh ws gs) 0)) (chunks_none b fs (test_fault n b c sh ws gs)) (settled_to (settle_chunks b c sh h ws gs) sh gs fs)
    unfolding test_fault pass_fault
    by-fault =
        by_cases (eqb (out_fault n b c sh ws) 0)
        (λ o. by_cases (chunks_match b ws gs)
        (λ m. by_cases (chunks_valid n b c sh gs) (λ f. rw (o, m, f)) (λ f. rw (o, m, f)))
        (λ m. rw (o, m)))
        (λ o. rw (o, o))

module _ (n : ℕ) (b : List ℕ) (c : ℕ) (sh : Shape) (ws gs : List ℕ) (a : ListedPre n b c sh ws gs) where
  sound : Sound sh
  sound = a.call.class.sound

  hb : leb (words n) (length b) ≡ true
  hb = le-leb (words n) (length b) a.call.class.long

  hc : ltb c class_rows ≡ true
  hc = lt-ltb c class_rows a.call.class.known

  pub fault-pre : FaultPre n b c sh ws
  fault-pre = record { class = a.call.class; kinds = and_left (every (of_kind sh.kind) ws) (every (of_kind chunk_kind) gs) a.kinds }

  -- ---- each number over the whole list
  pub faulted : (e : Refusal) (d : List ℕ) → Faulted (number_of e) d n b c sh ws → TakenBy (number_of e) d (test_fault n b c sh ws gs) b sh ws
  unfolding test_fault
  faulted e d z =
      let o : eqb (out_fault n b c sh ws) 0 ≡ false = ne_eqb (out_fault n b c sh ws) 0 (λ y. omega (arith, positive e, z.answer, y)) in
      rw o (record { answer = z.answer; left = rw o z.left })

  module _ (d : List ℕ) (z : Faulted 0 d n b c sh ws) where
    pub pass-pre : PassPre n d c sh ws gs
    pass-pre = rw z.left (record { call = a.call; out = (passed n b c sh ws (sym z.answer)).out; chunks = a.chunks })

    pub passed_on : (r : ℕ) (b' : List ℕ) → TakenBy r b' (pass_fault n d c sh ws gs) d sh ws → TakenBy r b' (test_fault n b c sh ws gs) b sh ws
    unfolding test_fault
    passed_on r b' p = rw (← z.answer) (rw z.left at p)

  -- ---- at once
  pub try_pre : TryPre n b c sh gs
  try_pre = record { call = a.call; chunks = a.chunks }

  module _ (t : Bool) (b' : List ℕ) (z : Tried t b' n b c sh ws gs) where
    pub at_once : t ≡ true → TakenBy 0 b' (test_fault n b c sh ws gs) b sh ws
    at_once e = rw (z.passed e) (record { answer = refl; left = rw e at z.left })

    module _ (e : t ≡ false) where
      as_it_was : b' ≡ b
      as_it_was = rw e at z.left

      pub test_pre : ListedPre n b' c sh ws gs
      test_pre = rw as_it_was a

      pub tested : (r : ℕ) (b'' : List ℕ) → TakenBy r b'' (test_fault n b' c sh ws gs) b' sh ws → TakenBy r b'' (test_fault n b c sh ws gs) b sh ws
      tested r b'' p = rw as_it_was at p

  -- ---- what the call answers
  module _ (fs : List ℕ) (v : length gs ≤ length fs) (h : ℕ) where
    lengths : (ltb chunks_max (length gs) || ltb (length fs) (length gs)) ≡ false
    lengths = rw (le-ltb chunks_max (length gs) a.chunks, le-ltb (length fs) (length gs) v)

    answers : release_chunks n b c sh h ws gs fs ≡ cond (not (eqb (test_fault n b c sh ws gs) 0)) (chunks_none b fs (test_fault n b c sh ws gs)) (settled_to (settle_chunks b c sh h ws gs) sh gs fs)
    unfolding release_chunks
    answers = rw (a.some, lengths, a.kinds) (by-fault n b c sh ws gs h fs)

  module _ (fs : List ℕ) (v : length gs ≤ length fs) (h : ℕ) where
    pub refused : (e : Refusal) (d : List ℕ) → TakenBy (number_of e) d (test_fault n b c sh ws gs) b sh ws → ChunksAnswered (number_of e) d fs (release_chunks n b c sh h ws gs fs)
    refused e d z =
        let o : eqb (test_fault n b c sh ws gs) 0 ≡ false = ne_eqb (test_fault n b c sh ws gs) 0 (λ y. omega (arith, positive e, z.answer, y)) in
        rw (answers fs v h, o) (record { answer = z.answer; left = rw o at z.left; fates = refl })

    module _ (d : List ℕ) (z : TakenBy 0 d (test_fault n b c sh ws gs) b sh ws) where
      nothing : test_fault n b c sh ws gs ≡ 0
      nothing = sym z.answer

      clear : NoFault n b c sh ws gs
      clear = no-fault n b c sh ws gs nothing

      cleared-is : d ≡ cleared b sh ws
      cleared-is = rw nothing at z.left

      every-out : every (out_at n b c sh) ws ≡ true
      every-out = (passed n b c sh ws clear.fault).out

      pub settle-pre : SettlePre n d c sh h ws gs fs
      settle-pre = rw cleared-is (settle-next n b c sh ws gs (record { call = a.call; out = every-out; chunks = a.chunks }) clear.matches clear.valid fs v h)

      placed-is : all_placed (cleared b sh ws) c sh h ws gs ≡ settle_chunks b c sh h ws gs
      placed-is = gathered n b c sh ws sound a.call.single hb every-out h gs hc clear.matches (valid-pages n b c sh gs clear.valid)

      pub settled : (b' fs' : List ℕ) → ChunksAnswered 0 b' fs' (settled_to (all_placed d c sh h ws gs) sh gs fs) → ChunksAnswered 0 b' fs' (release_chunks n b c sh h ws gs fs)
      settled b' fs' p = rw (answers fs v h, nothing) (rw (cleared-is, placed-is) at p)

-- ---- numbers 3, 7, 8 and 9
module _ (n : ℕ) (b : List ℕ) (c : ℕ) (sh : Shape) (h : ℕ) where
  pub no-list : (ws gs fs : List ℕ) → length ws ≡ 0 → ChunksAnswered 7 b fs (release_chunks n b c sh h ws gs fs)
  unfolding release_chunks
  no-list [] gs fs e = record { answer = refl; left = refl; fates = refl }
  no-list (w ∷ ws) gs fs e = absurd (omega arith)

  pub no_chunks : (ws gs fs : List ℕ) → (length ws ≡ 0 → ⊥) → length gs ≡ 0 → ChunksAnswered 7 b fs (release_chunks n b c sh h ws gs fs)
  unfolding release_chunks
  no_chunks [] gs fs x e = absurd (x refl)
  no_chunks (w ∷ ws) [] fs x e = record { answer = refl; left = refl; fates = refl }
  no_chunks (w ∷ ws) (g ∷ gs) fs x e = absurd (omega arith)

  module _ (ws gs fs : List ℕ) where
    both_some : (length ws ≡ 0 → ⊥) → (length gs ≡ 0 → ⊥) → (is_nil ws || is_nil gs) ≡ false
    both_some x y = by ws gs x y
      where
        by : (ws gs : List ℕ) → (length ws ≡ 0 → ⊥) → (length gs ≡ 0 → ⊥) → (is_nil ws || is_nil gs) ≡ false
        by [] gs x y = absurd (x refl)
        by (w ∷ ws) [] x y = absurd (y refl)
        by (w ∷ ws) (g ∷ gs) x y = refl

    module _ (x : length ws ≡ 0 → ⊥) (y : length gs ≡ 0 → ⊥) where
      pub many-chunks : 2056 < length gs → ChunksAnswered 8 b fs (release_chunks n b c sh h ws gs fs)
      unfolding release_chunks
      many-chunks l = rw (both_some x y, lt-ltb chunks_max (length gs) l) (record { answer = refl; left = refl; fates = refl })

      module _ (u : length gs ≤ 2056) where
        pub few-fates : length fs < length gs → ChunksAnswered 8 b fs (release_chunks n b c sh h ws gs fs)
        unfolding release_chunks
        few-fates l = rw (both_some x y, le-ltb chunks_max (length gs) u, lt-ltb (length fs) (length gs) l) (record { answer = refl; left = refl; fates = refl })

        module _ (v : length gs ≤ length fs) where
          wrong : (every (of_kind sh.kind) ws && every (of_kind chunk_kind) gs) ≡ false → ChunksAnswered 9 b fs (release_chunks n b c sh h ws gs fs)
          unfolding release_chunks
          wrong e = rw (both_some x y, le-ltb chunks_max (length gs) u, le-ltb (length fs) (length gs) v, e) (record { answer = refl; left = refl; fates = refl })

          module _ (s : Bool) (i : s ≡ every (of_kind sh.kind) ws) where
            pub wrong-blocks : s ≡ false → ChunksAnswered 9 b fs (release_chunks n b c sh h ws gs fs)
            wrong-blocks e = wrong (rw (← i, e))

            module _ (t : Bool) (p : s ≡ true) (j : t ≡ every (of_kind chunk_kind) gs) where
              pub wrong-chunks : t ≡ false → ChunksAnswered 9 b fs (release_chunks n b c sh h ws gs fs)
              wrong-chunks e = wrong (rw (← i, p, ← j, e))

              pub listed-pre : t ≡ true → CallPre n b c sh → TestPre n b c sh ws gs fs
              listed-pre e a = record { listed = record { call = a; some = both_some x y; chunks = u; kinds = rw (← i, p, ← j, e) }; fates = v }

-- ---- the classes that have group releases
pub small-pre : (n : ℕ) (b : List ℕ) (c : ℕ) → c < 64 → n ≤ max_pages → words n ≤ length b → CallPre n b c (shape_of c)
unfolding shape_of small_shape
small-pre n b c l few long =
    let e : (shape_of c).pages ≡ 1 = rw (lt-ltb c class_count (omega arith), lt-ltb c 64 l) in
    record { class = record { known = omega arith; sound = shape-sound c; few = few; long = long }; single = e }
