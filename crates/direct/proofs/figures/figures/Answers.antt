use Rattle.direct.proofs.FigureSteps.{counts_in, figures-below, figures-are}
use Rattle.direct.proofs.figures.figures.Goals as goal

pub parked_pages-requires : goal.parked_pages-requires
parked_pages-requires c = search counts_in

pub overflow_sub-size : goal.overflow_sub-size
overflow_sub-size c = search figures-below

pub returns : goal.returns
returns c = rw (c.from.ensures, c.from-2.ensures, c.from-3.ensures, c.from-parked.ensures) (search figures-are)
