use Rattle.std.proofs.Common.{◌≡◌, ℕ, List, subst}
use Rattle.std.specs.Io.KnownBytes.{append_known}
use Rattle.ts_io.specs.Logs.{AppendsPrefix}
use Rattle.ts_execution.specs.Recording.{record_bytes}
use Rattle.ts_engine.proofs.JournaledTurnLemmas.{appended-whole, appended-torn}
use Rattle.ts_engine.proofs.journaling.Journaled.execute_and_append.Goals as goal

pub returns-clause-appended : goal.returns-clause-appended
returns-clause-appended g c =
    let written : List ℕ = c.handle_recorded-taken.new.room.bytes in
    appended-whole c.args.words.now.items written (record_bytes c.handle_recorded-taken.result.entry written) (g.C.Clock.readings c.args.clock.now) (g.C.Clock.readings c.handle_recorded-taken.new.clock)
    (g.J.Log.content c.args.self.now.log.now) (g.J.Log.content c.append_record.new.log) c.args.self.now.failed c.args.db.now c.handle_recorded-taken.new.db
    c.handle_recorded-taken.ensures.recorded
    (subst (λ (l : List ℕ). g.J.Log.content c.append_record.new.log ≡ append_known (g.J.Log.content c.args.self.now.log.now) (record_bytes c.handle_recorded-taken.result.entry l)) c.bytes.ensures c.in-Ok.ensures.all)

pub returns-in-Err-clause-appended : goal.returns-in-Err-clause-appended
returns-in-Err-clause-appended g c =
    let written : List ℕ = c.handle_recorded-taken.new.room.bytes in
    appended-torn c.args.words.now.items written (record_bytes c.handle_recorded-taken.result.entry written) (g.C.Clock.readings c.args.clock.now) (g.C.Clock.readings c.handle_recorded-taken.new.clock)
    (g.J.Log.content c.args.self.now.log.now) (g.J.Log.content c.append_record.new.log) c.args.self.now.failed c.args.db.now c.handle_recorded-taken.new.db
    c.handle_recorded-taken.ensures.recorded
    (subst (λ (l : List ℕ). AppendsPrefix (g.J.Log.content c.args.self.now.log.now) (g.J.Log.content c.append_record.new.log) (record_bytes c.handle_recorded-taken.result.entry l)) c.bytes.ensures c.in-Err.ensures.front)
