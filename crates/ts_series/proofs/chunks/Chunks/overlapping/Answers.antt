use Rattle.std.proofs.Common.{subst}
use Rattle.ts_spec.specs.Sample.{IsAscending}
use Rattle.ts_series.specs.Stored.{Stored, points}
use Rattle.ts_series.proofs.Meeting.{meets, all-meet}
use Rattle.ts_series.proofs.chunks.Chunks.overlapping.Goals as goal

pub returns : goal.returns
returns g c =
    let rises : IsAscending (points c.args.self.now) = subst (λ (k : Stored). IsAscending (points k)) c.self.view_is c.self.invariant.ascending in
    let b = c.before-start.ensures in
    let u = c.upto.ensures in
    record {
      overlapping = meets c.args.from c.args.to c.args.self.now.pieces c.before-start.result c.upto.result c.max.result rises c.max.ensures b.within u.within b.earlier b.reached u.later u.begun;
      each = all-meet c.args.from c.args.to c.args.self.now.pieces c.before-start.result c.upto.result c.max.result rises c.max.ensures u.within b.reached u.begun;
    }
