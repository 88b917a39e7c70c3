use Rattle.std.proofs.Common.{List, sym, ap, ◌∙◌}
use Rattle.ts_sample.specs.Visit.{visited}
use Rattle.ts_spec.specs.Sample.{Point, between, put_all}
use Rattle.ts_series.specs.History.{list_of}
use Rattle.ts_rules.specs.Rules.{one_of}
use Rattle.ts_db.proofs.Rows.{within-put, put-within}
use Rattle.ts_db.proofs.row_merger.scan_shown.Goals as goal

pub returns-in-None-clause-visited : goal.returns-in-None-clause-visited
returns-in-None-clause-visited g c =
    let list : List Point = list_of c.args.series.now in
    c.scan.ensures.visited
    ∙ ap (visited g.V.Visit.step c.args.visit.now)
    (ap (λ o. put_all (one_of o) (between c.args.from c.args.to list)) (sym c.in-None.is)
    ∙ within-put c.args.from c.args.to c.args.row c.row_within.result list c.known.ensures.kept.ascending c.row_within.ensures)

pub returns-in-Some-clause-visited : goal.returns-in-Some-clause-visited
returns-in-Some-clause-visited g c =
    c.scan_with.ensures.visited
    ∙ ap (visited g.V.Visit.step c.args.visit.now)
    (put-within c.args.from c.args.to c.args.row c.row_within.result c.in-Some.row (list_of c.args.series.now) c.known.ensures.kept.ascending c.row_within.ensures c.in-Some.is)
