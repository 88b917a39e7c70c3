use Rattle.std.proofs.Common.{nat_le, drop, sym, ap, ◌∙◌, subst}
use Rattle.ts_spec.specs.Sample.{IsAscending, at_times}
use Rattle.ts_spec.proofs.Samples.{ascending-times}
use Rattle.ts_series.specs.History.{list_of}
use Rattle.ts_rules.proofs.IntervalReading.{walk-between, ascending-rest}
use Rattle.ts_rules.proofs.interval_cursor.IntervalCursor.new.Goals as goal

pub invariant_of-result : goal.invariant_of-result
invariant_of-result g c =
    subst IsAscending (sym (c.next_upto-head.ensures.left ∙ ap (drop 1) c.read_from-rest.ensures.left))
    (ascending-rest (at_times (nat_le c.args.from) (list_of c.args.series.now)) (ascending-times (nat_le c.args.from) (list_of c.args.series.now) c.known.ensures.kept.ascending))

pub returns-clause-left : goal.returns-clause-left
returns-clause-left g c =
    walk-between c.args.from c.args.to (list_of c.args.series.now) c.read_from-rest.result c.next_upto-head.new.rest c.next_upto-head.result
    (subst IsAscending (sym c.read_from-rest.ensures.left) (ascending-times (nat_le c.args.from) (list_of c.args.series.now) c.known.ensures.kept.ascending))
    c.read_from-rest.ensures.left c.next_upto-head.ensures.next c.next_upto-head.ensures.left
