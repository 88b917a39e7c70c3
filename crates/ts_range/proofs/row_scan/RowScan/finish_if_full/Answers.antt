use Rattle.std.proofs.Common.{◌≡◌, List, ◌++◌, sym, ap, subst}
use Rattle.std.specs.Prelude.{filter, option_map}
use Rattle.std.proofs.lemmas.List.Elements.{filter-append}
use Rattle.ts_spec.specs.Sample.{Point, IsAscending}
use Rattle.ts_spec.proofs.Samples.{ascending-filter}
use Rattle.ts_range.specs.Filters.{passes}
use Rattle.ts_range.specs.Query.{buckets_of}
use Rattle.ts_range.specs.RowScanState.{RowScanState, rows_passing, rows_of_scan}
use Rattle.ts_sample.proofs.Lists.{ascending-left}
use Rattle.ts_range.proofs.Full.{walk-full}
use Rattle.ts_range.proofs.row_scan.RowScan.finish_if_full.Goals as goal

pub returns-clause-rows : goal.returns-clause-rows
returns-clause-rows g c = λ more asked rises.
    let has = g.T.RowSink.has c.self.inside.row_sink in
    let lets = passes c.self.inside.filters.now in
    let seen = c.self.inside.seen.points in
    let parts : filter lets (seen ++ more) ≡ filter lets seen ++ filter lets more = filter-append lets seen more in
    let same : c.args.self.seen ≡ seen = sym (ap (λ (w : RowScanState). w.seen) c.self.view_is) in
    let up : IsAscending (seen ++ more) = subst (λ (ps : List Point). IsAscending (ps ++ more)) same rises in
    subst (λ (w : RowScanState). has (rows_of_scan (record w { seen = w.seen ++ more }) asked)) c.self.view_is
    (subst (λ (ps : List Point). has (rows_passing (option_map (λ k. buckets_of k.buckets) c.self.inside.cut) asked ps)) (sym parts)
    (walk-full has (c.is_full.ensures c.if-not-is_full.false) c.self.inside.cut (filter lets seen) (filter lets more) asked
    (subst IsAscending parts (ascending-filter lets (seen ++ more) up)) (c.self.invariant.walked (ascending-left seen more up))))
