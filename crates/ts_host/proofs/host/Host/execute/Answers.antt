use Rattle.std.proofs.Common.{◌≡◌, ◌++◌, ℕ, List, subst}
use Rattle.std.specs.Io.KnownBytes.{append_known}
use Rattle.ts_io.specs.Gathering.{log_of, pending_of}
use Rattle.ts_io.specs.Logs.{AppendsPrefix}
use Rattle.ts_execution.specs.Recording.{record_bytes}
use Rattle.ts_host.specs.Recorder.{gathered_of}
use Rattle.ts_host.specs.Settling.{stored_by, whole_by}
use Rattle.ts_host.specs.Shown.{recorder_of}
use Rattle.ts_host.proofs.Recordings.{recorded_torn, recorded_uncounted, recorded_whole}
use Rattle.ts_host.proofs.host.Host.execute.Goals as goal

pub returns-in-Err-clause-executed : goal.returns-in-Err-clause-executed
returns-in-Err-clause-executed g c =
    let old = recorder_of c.args.self.now in
    let entry = c.handle-handled.result.entry in
    let text : List ℕ = c.handle-handled.new.self.room.bytes in
    recorded_torn g.J.Log.content (log_of (gathered_of old)) (log_of (gathered_of c.add.new.self))
    c.args.words.items text (record_bytes entry text) (g.C.Clock.readings c.args.clock.now) (g.C.Clock.readings c.handle-handled.new.clock) (pending_of (gathered_of old)) (pending_of (gathered_of c.add.new.self)) c.args.db.now c.handle-handled.new.db
    c.handle-handled.ensures.handled
    (subst (λ (l : List ℕ). AppendsPrefix (stored_by g.J.Log.content old) (stored_by g.J.Log.content c.add.new.self) (pending_of (gathered_of old) ++ record_bytes entry l)) c.bytes.ensures c.add.ensures.prefix)

pub returns-in-Ok-count-clause-executed : goal.returns-in-Ok-count-clause-executed
returns-in-Ok-count-clause-executed g c =
    let old = recorder_of c.args.self.now in
    let entry = c.handle-handled.result.entry in
    let text : List ℕ = c.handle-handled.new.self.room.bytes in
    recorded_whole g.J.Log.content (log_of (gathered_of old)) (log_of (gathered_of c.add.new.self))
    c.args.words.items text (record_bytes entry text) (g.C.Clock.readings c.args.clock.now) (g.C.Clock.readings c.handle-handled.new.clock) (pending_of (gathered_of old)) (pending_of (gathered_of c.add.new.self)) c.args.db.now c.handle-handled.new.db
    c.handle-handled.ensures.handled
    (subst (λ (l : List ℕ). AppendsPrefix (stored_by g.J.Log.content old) (stored_by g.J.Log.content c.add.new.self) (pending_of (gathered_of old) ++ record_bytes entry l)) c.bytes.ensures c.add.ensures.prefix)
    (subst (λ (l : List ℕ). whole_by g.J.Log.content c.add.new.self ≡ append_known (whole_by g.J.Log.content old) (record_bytes entry l)) c.bytes.ensures c.in-Ok.ensures.all)

pub returns-in-Err-count-clause-executed : goal.returns-in-Err-count-clause-executed
returns-in-Err-count-clause-executed g c =
    let old = recorder_of c.args.self.now in
    let entry = c.handle-handled.result.entry in
    let text : List ℕ = c.handle-handled.new.self.room.bytes in
    recorded_uncounted g.J.Log.content (log_of (gathered_of old)) (log_of (gathered_of c.add.new.self))
    c.args.words.items text (record_bytes entry text) (g.C.Clock.readings c.args.clock.now) (g.C.Clock.readings c.handle-handled.new.clock) (pending_of (gathered_of old)) (pending_of (gathered_of c.add.new.self)) c.args.db.now c.handle-handled.new.db
    c.handle-handled.ensures.handled
    (subst (λ (l : List ℕ). AppendsPrefix (stored_by g.J.Log.content old) (stored_by g.J.Log.content c.add.new.self) (pending_of (gathered_of old) ++ record_bytes entry l)) c.bytes.ensures c.add.ensures.prefix)
    (subst (λ (l : List ℕ). whole_by g.J.Log.content c.add.new.self ≡ append_known (whole_by g.J.Log.content old) (record_bytes entry l)) c.bytes.ensures c.in-Ok.ensures.all)
