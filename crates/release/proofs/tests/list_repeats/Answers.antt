use Rattle.release.proofs.Testing.{class-marked, count-taken, twice-told}
use Rattle.release.proofs.tests.list_repeats.Goals as goal

pub slice_bounds-clear_list-end : goal.slice_bounds-clear_list-end
slice_bounds-clear_list-end c = search count-taken

pub clear_list-requires : goal.clear_list-requires
clear_list-requires c = search class-marked

pub returns : goal.returns
returns c = search twice-told
