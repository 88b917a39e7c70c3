use Rattle.std.proofs.Common.{refl}
use Rattle.std.specs.Prelude.{Some}
use Rattle.ts_command.specs.SimpleAdd.{simple_add_of}
use Rattle.ts_execution.proofs.Records.{executed-recorded, unrecorded}
use Rattle.ts_execution.proofs.recorded_add.record_addition.Goals as goal

pub returns-in-Ok-clause-recorded : goal.returns-in-Ok-clause-recorded
returns-in-Ok-clause-recorded g c =
    executed-recorded (simple_add_of c.args.addition.now) c.reading_at-reading.result (g.C.Clock.readings c.args.clock.now) (g.C.Clock.readings c.reading_at-reading.new.clock) (Some c.in-Ok.entry)
    c.args.db.now c.execute_addition.new.db c.execute_addition.new.out.bytes (refl, c.in-Ok.ensures) c.reading_at-reading.ensures.reading c.reading_at-reading.ensures.left c.execute_addition.ensures.executes

pub returns-in-Err-clause-recorded : goal.returns-in-Err-clause-recorded
returns-in-Err-clause-recorded g c =
    unrecorded (simple_add_of c.args.addition.now) c.reading_at-reading.result (g.C.Clock.readings c.args.clock.now) (g.C.Clock.readings c.reading_at-reading.new.clock)
    c.args.db.now c.write_out_of_memory.new.out.bytes refl c.write_out_of_memory.ensures.bytes c.reading_at-reading.ensures.reading c.reading_at-reading.ensures.left
