use Rattle.ts_command.specs.SimpleAdd.{simple_add_of}
use Rattle.ts_execution.proofs.Handlings.{turns_by}
use Rattle.ts_execution.proofs.handling.handle_request.Goals as goal

pub returns-clause-handles : goal.returns-clause-handles
returns-clause-handles g c =
    turns_by c.args.words.now.items (simple_add_of c.in-Some.addition) c.reading_at-reading.result (g.C.Clock.readings c.args.clock.now) (g.C.Clock.readings c.reading_at-reading.new.clock) c.args.db.now c.execute_addition.new.db
    c.execute_addition.new.out.bytes (rw c.deref.ensures.value at c.in-Some.ensures) c.reading_at-reading.ensures.reading c.reading_at-reading.ensures.left c.execute_addition.ensures.executes

pub returns-in_default-clause-handles : goal.returns-in_default-clause-handles
returns-in_default-clause-handles g c = rw c.replace.ensures.value at c.handle_command.ensures.handles
