use Rattle.ts_command.specs.SimpleAdd.{simple_add_of}
use Rattle.ts_execution.specs.Recording.{record_bytes}
use Rattle.ts_execution.proofs.Records.{recorded-command}
use Rattle.ts_execution.proofs.recorded.handle_recorded.Goals as goal

pub returns-clause-recorded : goal.returns-clause-recorded
returns-clause-recorded g c =
    recorded-command c.args.words.now.items (simple_add_of c.in-Some.addition) c.record_addition-entry.new.room.bytes (record_bytes c.record_addition-entry.result c.record_addition-entry.new.room.bytes)
    (g.C.Clock.readings c.args.clock.now) (g.C.Clock.readings c.record_addition-entry.new.clock) c.args.db.now c.record_addition-entry.new.db (rw c.deref.ensures.value at c.in-Some.ensures) c.record_addition-entry.ensures.recorded

pub returns-in_default-clause-recorded : goal.returns-in_default-clause-recorded
returns-in_default-clause-recorded g c = rw c.replace.ensures.value at c.record_command.ensures.recorded
