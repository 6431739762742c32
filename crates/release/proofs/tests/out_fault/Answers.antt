use Rattle.release.proofs.Testing.{test_pre, repeated, all-out, foreign, some-marked}
use Rattle.release.proofs.tests.out_fault.Goals as goal

pub returns-then-not-list_clean : goal.returns-then-not-list_clean
returns-then-not-list_clean c = search some-marked

pub list_repeats-requires : goal.list_repeats-requires
list_repeats-requires c = search test_pre

pub returns-then-list_repeats : goal.returns-then-list_repeats
returns-then-list_repeats c = search repeated

pub returns-then-not-list_out : goal.returns-then-not-list_out
returns-then-not-list_out c = search foreign

pub returns : goal.returns
returns c = search all-out
