use Rattle.std.proofs.Common.{◌∙◌, ◌++◌, ℕ, List, sym, ap, subst, arith}
use Rattle.ts_spec.specs.Text.{text}
use Rattle.ts_resp.specs.Replies.{reply_of}
use Rattle.ts_command.specs.Reading.{command_of}
use Rattle.ts_questions.specs.Answering.{IsShort}
use Rattle.ts_execution.specs.Recording.{record_bytes}
use Rattle.ts_execution.proofs.Faulted.{faulted_no_quit, message_is_short}
use Rattle.ts_execution.proofs.Records.{recorded-command, recorded-fault}
use Rattle.ts_execution.proofs.recorded.record_command.Goals as goal

pub put-requires : goal.put-requires
put-requires g c = omega (arith, subst IsShort (sym c.fault_reply.ensures) (message_is_short c.in-Err.fault), c.clear.ensures.room, c.requires)

pub returns-in-Ok-clause-recorded : goal.returns-in-Ok-clause-recorded
returns-in-Ok-clause-recorded g c =
    recorded-command c.args.words.items (command_of c.in-Ok.command) c.execute_recorded-entry.new.room.bytes (record_bytes c.execute_recorded-entry.result c.execute_recorded-entry.new.room.bytes)
    (g.C.Clock.readings c.args.clock.now) (g.C.Clock.readings c.execute_recorded-entry.new.clock) c.args.db.now c.execute_recorded-entry.new.db c.in-Ok.ensures.ok c.execute_recorded-entry.ensures.recorded

pub returns-in-Err-clause-recorded : goal.returns-in-Err-clause-recorded
returns-in-Err-clause-recorded g c =
    recorded-fault c.args.words.items c.in-Err.fault (g.C.Clock.readings c.args.clock.now) c.args.db.now c.put.new.out.bytes c.in-Err.ensures.fault
    (c.put.ensures.bytes ∙ ap (λ (l : List ℕ). l ++ text (reply_of c.fault_reply.result)) c.clear.ensures.empty ∙ ap text c.fault_reply.ensures)

pub returns-in-Err-clause-quits : goal.returns-in-Err-clause-quits
returns-in-Err-clause-quits g c = sym (faulted_no_quit c.args.words.items c.in-Err.fault c.in-Err.ensures.fault)
