use Rattle.std.proofs.Common.{refl}
use Rattle.ts_io.specs.Gathering.{pending_of}
use Rattle.ts_host.specs.Recorder.{gathered_of}
use Rattle.ts_host.specs.Settling.{stored_by, whole_by}
use Rattle.ts_host.specs.Shown.{recorder_of}
use Rattle.ts_host.proofs.Contents.{prefix_extends, prefix_within}
use Rattle.ts_host.proofs.host.Host.settle.Goals as goal

pub returns-in-Err-clause-settles : goal.returns-in-Err-clause-settles
returns-in-Err-clause-settles g c =
    let old = recorder_of c.args.self.now in
    let waits = pending_of (gathered_of old) in
    record {
      extends = prefix_extends (stored_by g.J.Log.content old) (stored_by g.J.Log.content c.settle.new.self) waits c.settle.ensures.prefix;
      within = prefix_within (stored_by g.J.Log.content old) (stored_by g.J.Log.content c.settle.new.self) (whole_by g.J.Log.content old) waits c.settle.ensures.prefix refl;
      kept_back = record { each = λ sent given had. had };
    }
