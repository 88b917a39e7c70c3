use Rattle.std.proofs.Common.{◌≡◌, List, ◌∷◌, [], ◌++◌, sym, ◌∙◌, ap, subst}
use Rattle.std.specs.Prelude.{filter, Option}
use Rattle.ts_spec.specs.Sample.{Point, IsAscending}
use Rattle.ts_spec.proofs.Samples.{ascending-filter}
use Rattle.ts_range.specs.declared.cutter.Cutter.{Cutter}
use Rattle.ts_range.specs.declared.query.Buckets.{Buckets}
use Rattle.ts_range.specs.Filters.{passes}
use Rattle.ts_range.specs.Cutting.{IsCut}
use Rattle.ts_range.specs.RowScanState.{AreScanned}
use Rattle.ts_range.proofs.Cuts.{one-passes}
use Rattle.ts_range.proofs.row_scan.accept_sample.Goals as goal

pub returns-in-Some-clause-few : goal.returns-in-Some-clause-few
returns-in-Some-clause-few g c = λ n few x is b at.
    let same : c.push.new.self ≡ x = cc is in
    c.push.ensures.few n (few c.in-Some.cutter c.in-Some.is) b (ap (λ (k : Cutter). k.current) same ∙ at)

pub returns-in-Some-clause-walked : goal.returns-in-Some-clause-walked
returns-in-Some-clause-walked g c = λ seen rises walked.
    let lets = passes c.args.filters.now in
    let p = c.args.sample.now in
    let has = g.T.RowSink.has c.push.new.row_sink in
    let kept : filter lets (seen ++ p ∷ []) ≡ filter lets seen ++ p ∷ [] = one-passes lets seen p (sym c.lets_pass.ensures ∙ c.if-not-lets_pass.false) in
    let up : IsAscending (filter lets seen ++ p ∷ []) = subst IsAscending kept (ascending-filter lets (seen ++ p ∷ []) rises) in
    let before : IsCut (g.T.RowSink.has c.args.row_sink.now) c.in-Some.cutter.buckets c.in-Some.cutter.current (filter lets seen) =
    subst (λ (o : Option Cutter). AreScanned (g.T.RowSink.has c.args.row_sink.now) o (filter lets seen)) c.in-Some.is walked in
    subst (λ (ps : List Point). IsCut has c.push.new.self.buckets c.push.new.self.current ps) (sym kept)
    (subst (λ (bs : Buckets). IsCut has bs c.push.new.self.current (filter lets seen ++ p ∷ [])) (sym c.push.ensures.buckets) (c.push.ensures.cut (filter lets seen) up before))
