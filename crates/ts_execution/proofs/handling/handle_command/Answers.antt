use Rattle.std.proofs.Common.{◌∙◌, ◌++◌, ℕ, List, sym, ap, subst, arith}
use Rattle.ts_spec.specs.Text.{text}
use Rattle.ts_resp.specs.Replies.{reply_of}
use Rattle.ts_questions.specs.Answering.{IsShort}
use Rattle.ts_command.specs.Reading.{command_of}
use Rattle.ts_execution.proofs.Faulted.{faulted_no_quit, message_is_short}
use Rattle.ts_execution.proofs.Handlings.{turns_by, turns_faulted}
use Rattle.ts_execution.proofs.handling.handle_command.Goals as goal

pub put-requires : goal.put-requires
put-requires g c = omega (arith, subst IsShort (sym c.fault_reply.ensures) (message_is_short c.in-Err.fault), c.clear.ensures.room, c.requires)

pub returns-in-Err-clause-handles : goal.returns-in-Err-clause-handles
returns-in-Err-clause-handles g c =
    turns_faulted c.args.words.items c.in-Err.fault (g.C.Clock.readings c.args.clock.now) c.args.db.now c.put.new.out.bytes c.in-Err.ensures.fault
    (c.put.ensures.bytes ∙ ap (λ (l : List ℕ). l ++ text (reply_of c.fault_reply.result)) c.clear.ensures.empty ∙ ap text c.fault_reply.ensures)

pub returns-in-Ok-clause-handles : goal.returns-in-Ok-clause-handles
returns-in-Ok-clause-handles g c =
    turns_by c.args.words.items (command_of c.in-Ok.command) c.reading_for-reading.result (g.C.Clock.readings c.args.clock.now) (g.C.Clock.readings c.reading_for-reading.new.clock) c.args.db.now c.execute_with_hints.new.db
    c.execute_with_hints.new.out.bytes c.in-Ok.ensures.ok c.reading_for-reading.ensures.reading c.reading_for-reading.ensures.left c.execute_with_hints.ensures.executes

pub returns-in-Err-clause-quits : goal.returns-in-Err-clause-quits
returns-in-Err-clause-quits g c = sym (faulted_no_quit c.args.words.items c.in-Err.fault c.in-Err.ensures.fault)
