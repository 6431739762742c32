use Rattle.stock.proofs.places.put.Goals as goal

pub returns : goal.returns
returns c = cc
