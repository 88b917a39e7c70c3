use Rattle.std.proofs.Common.{arith}
use Rattle.ts_mux.proofs.HeaderLemmas.{link_whole, link_is, link_open, link_broken}
use Rattle.ts_mux.proofs.found_header.read_header.Goals as goal

pub read_length-requires-clause-within : goal.read_length-requires-clause-within
read_length-requires-clause-within c = omega (arith, c.in-Whole.ensures.1)

pub read_length-requires-clause-link : goal.read_length-requires-clause-link
read_length-requires-clause-link c = link_is c.args.bytes.now c.in-Whole.link c.in-Whole.at c.in-Whole.ensures

pub read_length-requires-clause-leads : goal.read_length-requires-clause-leads
read_length-requires-clause-leads c = link_whole c.args.bytes.now c.in-Whole.link c.in-Whole.at c.in-Whole.ensures

pub returns-in-NotYet : goal.returns-in-NotYet
returns-in-NotYet c = link_open c.args.bytes.now c.in-NotYet.ensures

pub returns-in-Broken : goal.returns-in-Broken
returns-in-Broken c = link_broken c.args.bytes.now c.in-Broken.at c.in-Broken.ensures
