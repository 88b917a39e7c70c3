use Rattle.std.proofs.Common.{List, ap, ◌∙◌}
use Rattle.ts_spec.specs.Sample.{Point, put_all}
use Rattle.ts_series.specs.History.{list_of}
use Rattle.ts_rules.specs.Rules.{one_of}
use Rattle.ts_db.proofs.Rows.{ends-both, ends-none, ends-no-last}
use Rattle.ts_db.proofs.by_id.ends.Goals as goal

pub returns-in_err-first-clause-ends : goal.returns-in_err-first-clause-ends
returns-in_err-first-clause-ends g c =
    let list : List Point = list_of c.args.series.now in
    c.from_residual.ensures ∙ ends-none (put_all (one_of c.args.row) list) (c.in_err-first.ensures list c.requires.ascending c.first.ensures.first)

pub returns-in_err-last-clause-ends : goal.returns-in_err-last-clause-ends
returns-in_err-last-clause-ends g c =
    let list : List Point = list_of c.args.series.now in
    c.from_residual-in_err-last.ensures ∙ ends-no-last (put_all (one_of c.args.row) list) (c.in_err-last.ensures list c.requires.ascending c.last.ensures)

pub returns-clause-ends : goal.returns-clause-ends
returns-clause-ends g c =
    let list : List Point = list_of c.args.series.now in
    ends-both (put_all (one_of c.args.row) list) c.result.inside.time c.result-2.inside.time c.in_ok-first.field-0 c.in_ok-last.field-0
    (ap (λ (p : Point). p.time) c.result.view_is) (ap (λ (p : Point). p.time) c.result-2.view_is)
    (c.in_ok-first.ensures list c.requires.ascending c.first.ensures.first) (c.in_ok-last.ensures list c.requires.ascending c.last.ensures)
