use Rattle.release.proofs.BackSteps.{push-pre, park-pre, none_out_lem, link-pre, some_out}
use Rattle.std.proofs.Common.{rules}
use Rattle.release.proofs.park.release_inner.Goals as goal

pub push_list-requires : goal.push_list-requires
push_list-requires c = record { push_pre = search push-pre; list_value = search rules }

pub park_empty_page-requires : goal.park_empty_page-requires
park_empty_page-requires c = search park-pre

pub returns-then-get : goal.returns-then-get
returns-then-get c = search none_out_lem

pub relist-requires : goal.relist-requires
relist-requires c = search link-pre

pub returns : goal.returns
returns c = search some_out
