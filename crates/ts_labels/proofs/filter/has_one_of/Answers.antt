use Rattle.ts_labels.proofs.filter.has_one_of.Goals as goal

pub returns : goal.returns
returns c = rw c.in-Some.is c.contains.ensures
