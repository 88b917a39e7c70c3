use Rattle.std.proofs.Common.{List, sym, ap, ◌∙◌}
use Rattle.std.specs.Prelude.{nat_lt}
use Rattle.ts_spec.specs.Sample.{Point, at_times, last_of}
use Rattle.ts_spec.proofs.Samples.{ascending-times}
use Rattle.ts_series.specs.History.{list_of}
use Rattle.ts_db.proofs.Rows.{before-put}
use Rattle.ts_db.proofs.db.Db.before_of.Goals as goal

pub returns-clause-before : goal.returns-clause-before
returns-clause-before g c = λ key at.
    let list : List Point = list_of c.node.result.now.series in
    c.last_with.ensures (at_times (λ u. nat_lt u c.args.t) list) (ascending-times (λ u. nat_lt u c.args.t) list c.node.ensures.kept.ascending) c.before-2.ensures.before
    ∙ ap last_of (before-put c.args.t c.requested_row.result c.row_before-row.result list c.node.ensures.kept.ascending c.row_before-row.ensures)
    ∙ ap (λ (ps : List Point). last_of (at_times (λ u. nat_lt u c.args.t) ps)) (sym (c.requested_row.ensures key c.node.result.now at (c.node.ensures.shows key at)))
