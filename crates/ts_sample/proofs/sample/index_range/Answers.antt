use Rattle.std.proofs.Common.{◌≤◌, sym, subst, arith, length-take}
use Rattle.std.specs.Prelude.{nat_le}
use Rattle.ts_spec.specs.Sample.{IsAscending}
use Rattle.ts_spec.proofs.Samples.{ascending-times}
use Rattle.ts_sample.proofs.Between.{inside-is, outside-is}
use Rattle.ts_sample.proofs.sample.index_range.Goals as goal

pub lower_bound-requires : goal.lower_bound-requires
lower_bound-requires c =
    subst IsAscending (sym c.upper_bound-end.ensures.upto) (ascending-times (λ t. nat_le t c.args.to) c.args.list.now c.requires)

pub returns : goal.returns
returns c =
    let end = c.upper_bound-end in
    let start = c.lower_bound in
    let ordered : start.result ≤ end.result = omega (arith, start.ensures.within, length-take end.result c.args.list.now) in
    record {
      ordered = ordered;
      within = end.ensures.within;
      inside = inside-is c.args.from c.args.to start.result end.result c.args.list.now ordered end.ensures.upto end.ensures.past start.ensures.before start.ensures.after;
      outside = outside-is c.args.from c.args.to start.result end.result c.args.list.now ordered end.ensures.upto end.ensures.past start.ensures.before start.ensures.after;
    }
