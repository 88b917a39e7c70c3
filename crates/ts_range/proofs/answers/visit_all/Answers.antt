use Rattle.std.proofs.Common.{◌+◌, ap, drop, length, get_or, arith}
use Rattle.std.proofs.Math.ListN.{drop_of_length-le}
use Rattle.std.proofs.lemmas.List.{drop_more}
use Rattle.ts_range.proofs.Shown.{shown-more, shown-whole}
use Rattle.ts_range.proofs.answers.visit_all.Goals as goal

pub sample-requires : goal.sample-requires
sample-requires g c =
    omega (arith, c.loop-sample.invariant.room, ap length (drop_more c.args.samples.now c.loop-sample.sample-index c.sample-item.result c.loop-sample-test.true))

pub loop-sample-preserved : goal.loop-sample-preserved
loop-sample-preserved g c =
    let samples = c.args.samples.now in
    let i = c.loop-sample.sample-index in
    rw (c.sample.ensures, c.sample-item.is) (
    shown-more g.V.Visit.step g.V.Visit.room c.args.visit.now c.loop-sample.visit samples (drop i samples) (drop (i + 1) samples) (get_or samples i c.sample-item.result)
    g.met.V.Visit.lowers (drop_more samples i c.sample-item.result c.loop-sample-test.true) c.loop-sample.invariant)

pub returns : goal.returns
returns g c =
    let samples = c.args.samples.now in
    shown-whole g.V.Visit.step g.V.Visit.room c.args.visit.now c.loop-sample.visit samples (drop c.loop-sample.sample-index samples)
    (drop_of_length-le samples c.loop-sample-test.false) c.loop-sample.invariant
