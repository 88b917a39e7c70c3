use Rattle.std.proofs.Common.{ap, ◌∙◌, length, nat_lt, arith}
use Rattle.ts_spec.proofs.Buckets.{start-le}
use Rattle.ts_spec.specs.Sample.{between}
use Rattle.ts_series.specs.History.{list_of}
use Rattle.ts_rules.specs.Rules.{one_of}
use Rattle.ts_rules.proofs.TouchedEnds.{ends-are}
use Rattle.ts_rules.proofs.end_rows.Ends.new.Goals as goal

pub last_row-requires : goal.last_row-requires
last_row-requires g c = omega (arith, c.start_of-last.ensures, start-le c.args.rule.now.grid c.args.deletion.now.to c.known-2.ensures.some, c.requires.time)

pub returns-clause-rows : goal.returns-clause-rows
returns-clause-rows g c =
    ends-are c.args.rule.now c.args.deletion.now.source.now c.args.deletion.now.from c.args.deletion.now.to c.args.born c.requires.order c.known.ensures.kept.ascending c.known-2.ensures.some c.start_of-first.result c.start_of-last.result c.args.gone.now
    (one_of c.row_if.result) (one_of c.last_row.result) c.ends_left-early.result.0 c.ends_left-early.result.1 c.is_head_in-goes_early.result c.has_between-goes_late.result
    c.start_of-first.ensures c.start_of-last.ensures c.requires.gone c.ends_left-early.ensures.first c.ends_left-early.ensures.last c.is_head_in-goes_early.ensures
    (c.has_between-goes_late.ensures.has ∙ ap (λ n. nat_lt 0 (length (between n c.args.deletion.now.to (list_of c.args.deletion.now.source.now)))) c.max.ensures) c.row_if.ensures c.last_row.ensures
