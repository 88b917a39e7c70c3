use Rattle.ts_mux.proofs.HeaderLemmas.{length_whole, length_open, length_broken}
use Rattle.ts_mux.proofs.found_header.read_length.Goals as goal

pub returns-in-Whole : goal.returns-in-Whole
returns-in-Whole c =
    length_whole c.args.bytes.now c.args.from c.args.link c.requires.leads c.in-Whole.len c.in-Whole.at c.requires.link c.in-Whole.ensures

pub returns-in-NotYet : goal.returns-in-NotYet
returns-in-NotYet c = length_open c.args.bytes.now c.args.from c.args.link c.requires.leads c.requires.some c.requires.within c.in-NotYet.ensures

pub returns-in-Broken : goal.returns-in-Broken
returns-in-Broken c = length_broken c.args.bytes.now c.args.from c.args.link c.requires.leads c.in-Broken.at c.in-Broken.ensures
