-- What is put down after a call is what the exported function returned and wrote.
use Rattle.std.proofs.Common.{◌≡◌, ℕ, List, get_or, set}
use Rattle.arena.specs.Calls.{Committed, Done}
use Rattle.vigbuso.specs.Direct.{CommitEnds, GrowEnds}
use Rattle.replay.specs.way.Line.{low}
use Rattle.replay.specs.way.Calls.{Made, committed, grown}

module _ (a : List ℕ) {b : List ℕ} {k v w x y : ℕ} where
  pub grow-made : {o : Done} → GrowEnds o k b v w → v ≡ low (get_or a 1 0) → x ≡ k → y ≡ w → Made o.book (grown o a) b (set (set a 0 x) 1 y)
  grow-made d l e f = record { book = d.book; answers = rw (e, f, d.code, d.grown, l) }

  pub commit-made : {u t z : ℕ} {o : Committed} → CommitEnds o k b v w u t → v ≡ low (get_or a 1 0) → u ≡ low (get_or a 2 0) → x ≡ k → y ≡ w → z ≡ t
      → Made o.book (committed o a) b (set (set (set a 0 x) 1 y) 2 z)
  commit-made d l m e f g = record { book = d.book; answers = rw (e, f, g, d.code, d.first, d.fresh, l, m) }
