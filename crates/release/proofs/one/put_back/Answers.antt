use Rattle.release.proofs.OneSteps.{page-there, room-there, relist_there, put-there}
use Rattle.std.proofs.Common.{rules}
use Rattle.release.proofs.one.put_back.Goals as goal

pub clear_out-requires : goal.clear_out-requires
clear_out-requires c = record { has = search rules; i_value = search rules }

pub push_one-requires : goal.push_one-requires
push_one-requires c = record { q_in_bounds = search page-there; q_bound = search room-there }

pub relist-requires : goal.relist-requires
relist-requires c = search relist_there

pub returns : goal.returns
returns c = search put-there
