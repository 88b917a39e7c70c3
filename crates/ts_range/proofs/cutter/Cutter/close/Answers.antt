use Rattle.std.proofs.Common.{subst}
use Rattle.std.specs.Prelude.{Option}
use Rattle.ts_range.specs.declared.bucket.Bucket.{Bucket}
use Rattle.ts_range.specs.Cutting.{IsCut}
use Rattle.ts_range.proofs.Cuts.{closed}
use Rattle.ts_range.proofs.cutter.Cutter.close.Goals as goal

pub returns-in-Some-clause-closed : goal.returns-in-Some-clause-closed
returns-in-Some-clause-closed g c = λ ps asked is.
    closed (g.T.RowSink.has c.args.row_sink.now) c.args.self.now.buckets c.in-Some.bucket ps (subst (λ (o : Option Bucket). IsCut (g.T.RowSink.has c.args.row_sink.now) c.args.self.now.buckets o ps) c.in-Some.is is) (g.T.RowSink.has c.emit_row.new.row_sink) c.emit_row.ensures.row asked
