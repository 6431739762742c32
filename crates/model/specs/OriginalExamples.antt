-- Examples of document 01's own hole store: its P11 and P12 as they stand there, what it says beside them of the two limits, and rules where one
-- that is a little different, document 02's too, would answer something else. One table; proofs/OriginalExamples proves it.
use Rattle.std.specs.Prelude.{ℕ, ◌*◌, List, [], ◌∷◌, ◌++◌, map, Bool, true, false, replicate}
use Rattle.model.specs.declared.Hole.{Hole}
use Rattle.model.specs.Calls.{Call, take_blocks, commit, release, Answer, taken, run, no_run, released}
use Rattle.model.specs.HoleStore.{HoleStore, hole, store, take_at}
use Rattle.model.specs.Remembered.{has_slot}
use Rattle.model.specs.Original.{original_answers, original_heap}
use Rattle.model.specs.Examples.{Example, history, stored, smalls, lent}

-- on an arena of 300 pages some are committed, and runs of them given in turn; what is answered to the calls then, and the holes after them
unfoldable pub on_holes : ℕ → List Hole → List Call → List Answer → List Hole → Example
on_holes pages runs xs zs hs =
    let ys = commit 15 pages ∷ map (λ h. release 15 h.first h.pages) runs ++ xs in
    record { found = history (original_answers 300 ys) (original_heap 300 ys).arena.store.holes; expected = history (run 0 true ∷ map (λ h. released) runs ++ zs) hs }

abbrev commits : List ℕ → List Call
commits lengths = map (commit 15) lengths

abbrev reused : List ℕ → List Answer
reused pages = map (λ q. run q false) pages

-- is a run of n pages stored
unfoldable pub on_slot : ℕ → HoleStore → Bool → Example
on_slot n s b = record { found = stored (has_slot n s); expected = stored b }

abbrev of2 : ℕ → HoleStore
of2 holes = store (replicate holes (hole 4 2)) (holes * 2)

unfoldable pub original_examples : List Example
original_examples =
    -- P11: "holes (0,2), (4,2), (8,2) given in turn: three takes of 2 get pages 8, 0, 4"
    on_holes 10 (hole 0 2 ∷ hole 4 2 ∷ hole 8 2 ∷ []) (commits (2 ∷ 2 ∷ 2 ∷ [])) (reused (8 ∷ 0 ∷ 4 ∷ [])) []
    -- P12: "hole (0,4), take 2 not granted: none, holes (2,2), (0,2)"
    ∷ on_holes 4 (hole 0 4 ∷ []) (commit 13 2 ∷ []) (no_run ∷ []) (hole 2 2 ∷ hole 0 2 ∷ [])
    -- a class is served so, too: the page given last
    ∷ on_holes 4 (hole 0 1 ∷ hole 2 1 ∷ []) (take_blocks 45 15 (lent 64) ∷ []) (taken 3 (smalls (10243 ∷ 9219 ∷ 8195 ∷ []) ++ lent 61) true ∷ []) (hole 0 1 ∷ [])
    -- "Holes are never joined."
    ∷ on_holes 8 (hole 0 2 ∷ hole 2 2 ∷ []) (commits (4 ∷ [])) (run 8 true ∷ []) (hole 0 2 ∷ hole 2 2 ∷ [])
    -- "the lowest index of the least greater length", whatever its page
    ∷ on_holes 16 (hole 12 4 ∷ hole 8 3 ∷ hole 0 3 ∷ []) (commits (2 ∷ [])) (reused (8 ∷ [])) (hole 12 4 ∷ hole 10 1 ∷ hole 0 3 ∷ [])
    -- "so is a cut's remainder": 6, not 10. "A used-up hole is replaced by the last one. Both then set the memory of the length the hole had to its
    -- lowest index": then 0, though page 10 stands where page 6 stood
    ∷ on_holes 12 (hole 0 1 ∷ hole 4 3 ∷ hole 10 1 ∷ []) (commits (2 ∷ 1 ∷ 1 ∷ 1 ∷ [])) (reused (4 ∷ 6 ∷ 0 ∷ 10 ∷ [])) []
    -- the same of a hole that is cut: 4, not 8
    ∷ on_holes 12 (hole 0 3 ∷ hole 4 3 ∷ hole 8 3 ∷ []) (commits (1 ∷ 3 ∷ [])) (reused (0 ∷ 4 ∷ [])) (hole 1 2 ∷ hole 8 3 ∷ [])
    -- "A remembered index that still holds this length": index 1 was remembered for length 2, and has length 3 now
    ∷ on_holes 12 (hole 0 1 ∷ hole 4 2 ∷ []) (commit 15 1 ∷ release 15 8 3 ∷ commit 15 2 ∷ []) (run 0 false ∷ released ∷ run 4 false ∷ []) (hole 8 3 ∷ [])
    -- "per length up to 128": the one given last, and of length 129 the lowest index
    ∷ on_holes 260 (hole 0 128 ∷ hole 130 128 ∷ []) (commits (128 ∷ [])) (reused (130 ∷ [])) (hole 0 128 ∷ [])
    ∷ on_holes 260 (hole 0 129 ∷ hole 130 129 ∷ []) (commits (129 ∷ [])) (reused (0 ∷ [])) (hole 130 129 ∷ [])
    -- "4,095 holes: a give is stored; 4,096: abandoned, also when a cut hole is given back. Total 65,536 pages stored, 65,537 not."
    ∷ on_slot 1 (of2 4095) true
    ∷ on_slot 1 (of2 4096) false
    ∷ on_slot 1 (take_at 1 9 (of2 4096)) false
    ∷ on_slot 1 (store [] 65535) true
    ∷ on_slot 2 (store [] 65535) false
    ∷ []

-- for these calls equality is claimed: a hole is used up, runs are given, the least sufficient hole is cut
abbrev pub claimed_calls : List Call
claimed_calls = commit 15 12 ∷ release 15 0 1 ∷ release 15 4 2 ∷ commit 15 1 ∷ release 15 8 3 ∷ commit 15 2 ∷ commit 15 2 ∷ commit 15 1 ∷ []
