use Rattle.std.proofs.Common.{[], refl}
use Rattle.ts_command.specs.Reading.{triples_of}
use Rattle.ts_spec.specs.Command.{Madd}
use Rattle.ts_execution.proofs.Executed.{wants_memory, writes_execute}
use Rattle.ts_execution.proofs.Yielding.{madd_yields}
use Rattle.ts_execution.proofs.multi_add.execute_triples.Goals as goal

pub returns-in-Ok-clause-executes : goal.returns-in-Ok-clause-executes
returns-in-Ok-clause-executes g c = writes_execute c.args.reading (triples_of c.args.triples.items) c.args.db.now c.add_triples.new.db c.add_triples.new.out.bytes c.add_triples.ensures.reply

pub returns-in-Err-clause-executes : goal.returns-in-Err-clause-executes
returns-in-Err-clause-executes g c = wants_memory c.args.reading (Madd (triples_of c.args.triples.items)) c.args.db.now c.write_out_of_memory.new.out.bytes refl
    (λ from. madd_yields from.limits from.state c.args.reading [] (triples_of c.args.triples.items)) c.write_out_of_memory.ensures.bytes
