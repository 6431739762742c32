-- The call of a name's number (src/named.rt): its first letter's byte a hundred times, and how many letters follow.
use Rattle.std.specs.Prelude.{ℕ, cond, ◌||◌, ◌==◌, Option, Some, None}
use Rattle.replay.specs.declared.named.Call.{Call}
use Rattle.replay.specs.declared.named.Call.TheVariants.{Nothing, Open, Commit, Grow, Release, Contains, Report, TakeBlocks, ReleaseBlocks, ReleaseChunks}
use Rattle.replay.specs.declared.named.Kind.TheVariants.{Small, Medium}

unfoldable pub call_named : ℕ → Option Call
call_named v =
    cond (v == 0 || v == 3500) (Some Nothing)
    (cond (v == 11103) (Some Open)
    (cond (v == 9905) (Some Commit)
    (cond (v == 10312) (Some Grow)
    (cond (v == 11406) (Some Release)
    (cond (v == 9907) (Some Contains)
    (cond (v == 11405) (Some Report)
    (cond (v == 11610) (Some (TakeBlocks Small))
    (cond (v == 10917) (Some (TakeBlocks Medium))
    (cond (v == 11413) (Some (ReleaseBlocks Small))
    (cond (v == 10920) (Some (ReleaseBlocks Medium))
    (cond (v == 11417) (Some ReleaseChunks) None)))))))))))
