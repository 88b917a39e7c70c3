use Rattle.std.proofs.Common.{refl}
use Rattle.ts_command.specs.SimpleAdd.{simple_add_of}
use Rattle.ts_journal.proofs.FixedLemmas.{record-of-fixed}
use Rattle.ts_journal.proofs.record.Record.of_addition.Goals as goal

pub returns : goal.returns
returns c reply told =
    record-of-fixed (simple_add_of c.args.addition.now) c.args.reading c.in_ok-text.text.items reply refl c.in_ok-text.ensures
