use Rattle.chunks.proofs.MatchSteps.{past-arena, name-pre, count-pre, fit-pre, unname_pre, matched}
use Rattle.chunks.proofs.matching.match_with.Goals as goal

pub name_chunks-requires : goal.name_chunks-requires
name_chunks-requires c = search name-pre

pub tallies_agree-agree-requires : goal.tallies_agree-agree-requires
tallies_agree-agree-requires c = record { count_pre = search count-pre; fit_pre = search fit-pre }

pub unname_chunks-requires : goal.unname_chunks-requires
unname_chunks-requires c = search unname_pre

pub returns : goal.returns
returns c = search matched

pub returns-then-not-all_pages : goal.returns-then-not-all_pages
returns-then-not-all_pages c = search past-arena
