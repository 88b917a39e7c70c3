use Rattle.std.proofs.Common.{sym}
use Rattle.ts_index.specs.Index.{labels_of}
use Rattle.ts_index.proofs.LosingLemmas.{loses-none, out-of-all, in-none}
use Rattle.ts_index.proofs.clearing.clear_id.Goals as goal

pub returns-in-Some-clause-gone : goal.returns-in-Some-clause-gone
returns-in-Some-clause-gone c =
    out-of-all c.args.ids.now c.args.id c.args.lists.now c.clear_pairs.new.lists c.in-Some.own.now (labels_of c.args.id.0 c.args.labels.now.entries) (sym c.in-Some.ensures.value)
    c.requires.listed c.clear_pairs.ensures.loses c.clear_pairs.ensures.gone

pub returns-in_default-clause-loses : goal.returns-in_default-clause-loses
returns-in_default-clause-loses c = loses-none c.args.ids.now c.args.lists.now c.requires.ascending

pub returns-in_default-clause-gone : goal.returns-in_default-clause-gone
returns-in_default-clause-gone c = in-none c.args.ids.now c.args.id c.args.lists.now (labels_of c.args.id.0 c.args.labels.now.entries) (sym c.in_default.ensures.value) c.requires.listed
