-- One call on any book, by the definitions that the contracts of the exported functions cite (crate vigbuso): the refusal's number or
-- 0, the answer as document 01 counts it, the book afterwards. Each call of the model goes to the function of its name; the two pooled ones to the same definitions with the pool's ids, for no function has them. Assumes
-- nothing.
--     call    vigbuso_take_blocks, vigbuso_medium_take_blocks, vigbuso_release_blocks, vigbuso_medium_release_blocks,
--             vigbuso_release_bin_chunks, vigbuso_commit, vigbuso_grow_frontier, vigbuso_release, vigbuso_contains, vigbuso_report
use Rattle.std.specs.Prelude.{ℕ, List, []}
use Rattle.classes.specs.Shape.{class_count}
use Rattle.model.specs.Calls as Calls
use Rattle.model.specs.Calls.{Call, contained, reported}
use Rattle.vigbuso.specs.Direct as Direct
use Rattle.vigbuso.specs.Direct.{commit_on, grow_on, contains_on, report_on, report_code, figures_out, figures_in}
use Rattle.vigbuso.specs.Blocks as Blocks
use Rattle.vigbuso.specs.Blocks.{take_on, chunks_on}
use Rattle.refinement.specs.Direct.{Reply, reply, commit_reply, grow_reply, release_reply}
use Rattle.refinement.specs.Classes.{take_reply}
use Rattle.refinement.specs.Releases.{list_reply, chunks_reply}

unfoldable pub call : List ℕ → Call → Reply
call b (Calls.take_blocks c h l) = take_reply (take_on 0 64 b c h l)
call b (Calls.medium_take_blocks c h l) = take_reply (take_on 64 12 b c h l)
call b (Calls.release_blocks c h ws) = list_reply (Blocks.release_on 0 64 b c h ws)
call b (Calls.medium_release_blocks c h ws) = list_reply (Blocks.release_on 64 12 b c h ws)
call b (Calls.pooled_take c h l) = take_reply (take_on class_count class_count b c h l)
call b (Calls.pooled_release c h ws) = list_reply (Blocks.release_on class_count class_count b c h ws)
call b (Calls.release_bin_chunks c h ws gs fs) = chunks_reply (chunks_on b c h ws gs fs)
call b (Calls.commit h m) = commit_reply (commit_on b h m)
call b (Calls.grow_frontier h q old new) = grow_reply (grow_on b h q old new)
call b (Calls.release h q m) = release_reply (Direct.release_on b h q m)
call b (Calls.contains o k) = reply 0 (contained (contains_on b o k)) b
call b Calls.report = reply (report_code (report_on b)) (reported (figures_in (figures_out (report_on b) []))) b
