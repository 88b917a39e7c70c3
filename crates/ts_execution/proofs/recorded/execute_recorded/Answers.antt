use Rattle.ts_command.specs.Reading.{command_of}
use Rattle.ts_execution.proofs.Records.{executed-recorded, unrecorded}
use Rattle.ts_execution.proofs.recorded.execute_recorded.Goals as goal

pub returns-in-Ok-clause-recorded : goal.returns-in-Ok-clause-recorded
returns-in-Ok-clause-recorded g c =
    executed-recorded (command_of c.args.command) c.reading_for-reading.result (g.C.Clock.readings c.args.clock.now) (g.C.Clock.readings c.reading_for-reading.new.clock) c.in-Ok.entry
    c.args.db.now c.execute_with_hints.new.db c.execute_with_hints.new.out.bytes c.in-Ok.ensures.record c.reading_for-reading.ensures.reading c.reading_for-reading.ensures.left c.execute_with_hints.ensures.executes

pub returns-in-Err-clause-recorded : goal.returns-in-Err-clause-recorded
returns-in-Err-clause-recorded g c =
    unrecorded (command_of c.args.command) c.reading_for-reading.result (g.C.Clock.readings c.args.clock.now) (g.C.Clock.readings c.reading_for-reading.new.clock)
    c.args.db.now c.write_out_of_memory.new.out.bytes c.in-Err.ensures.change c.write_out_of_memory.ensures.bytes c.reading_for-reading.ensures.reading c.reading_for-reading.ensures.left
