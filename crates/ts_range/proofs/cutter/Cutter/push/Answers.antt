use Rattle.std.proofs.Common.{refl, ap, subst, arith}
use Rattle.std.specs.Prelude.{Option}
use Rattle.ts_spec.specs.Sample.{Point}
use Rattle.ts_range.specs.declared.bucket.Bucket.{Bucket}
use Rattle.ts_range.specs.Cutting.{IsCut}
use Rattle.ts_range.proofs.Cuts.{same, next}
use Rattle.ts_range.proofs.cutter.Cutter.push.Goals as goal

pub returns-then-sample-bucket-clause-cut : goal.returns-then-sample-bucket-clause-cut
returns-then-sample-bucket-clause-cut g c = λ ps rises is.
    same (g.T.RowSink.has c.args.row_sink.now) c.args.self.now.buckets c.in-Some.bucket ps (subst (λ (o : Option Bucket). IsCut (g.T.RowSink.has c.args.row_sink.now) c.args.self.now.buckets o ps) c.in-Some.is is) c.args.sample.now rises
    (omega (arith, ap (λ (p : Point). p.time) c.sample.view_is, c.if-sample-bucket.true)) _ refl refl c.push.ensures.tells

pub returns-else-sample-bucket-clause-cut : goal.returns-else-sample-bucket-clause-cut
returns-else-sample-bucket-clause-cut g c = λ ps rises is.
    next (g.T.RowSink.has c.args.row_sink.now) c.args.self.now.buckets c.in-Some.bucket ps (subst (λ (o : Option Bucket). IsCut (g.T.RowSink.has c.args.row_sink.now) c.args.self.now.buckets o ps) c.in-Some.is is) c.args.sample.now rises
    (omega (arith, ap (λ (p : Point). p.time) c.sample.view_is, c.if-sample-bucket.false)) (omega (arith, ap (λ (p : Point). p.time) c.sample.view_is, c.sample.invariant))
    c.emit_and_advance.new.self c.emit_and_advance.ensures.span c.emit_and_advance.ensures.start c.emit_and_advance.ensures.tells
    (g.T.RowSink.has c.emit_and_advance.new.row_sink) c.emit_and_advance.ensures.row
