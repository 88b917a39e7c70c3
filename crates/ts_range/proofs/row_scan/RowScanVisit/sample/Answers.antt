use Rattle.std.proofs.Common.{◌≡◌, ◌+◌, ℕ, List, ◌∷◌, [], ◌++◌, length, sym, subst}
use Rattle.std.specs.Prelude.{filter}
use Rattle.std.proofs.lemmas.List.{length-append}
use Rattle.ts_spec.specs.Sample.{Point}
use Rattle.ts_range.specs.Filters.{passes}
use Rattle.ts_range.specs.RowScanState.{HasFew, IsRowScan}
use Rattle.ts_sample.proofs.Lists.{ascending-left}
use Rattle.ts_range.proofs.row_scan.RowScanVisit.sample.Goals as goal

pub invariant_of-self : goal.invariant_of-self
invariant_of-self g c =
    let lets = passes c.self.inside.filters.now in
    let old = c.self.inside.seen.points in
    let p = c.args.sample.now in
    let longer : length (old ++ p ∷ []) ≡ length old + 1 = length-append old (p ∷ []) in
    subst (λ (ps : List Point). IsRowScan (g.T.RowSink.has c.accept_sample.new.row_sink) c.accept_sample.new.cut ps (filter lets ps)) (sym c.with-self-inside.ensures)
    (record {
      few = subst (λ (n : ℕ). HasFew n c.accept_sample.new.cut) (sym longer) (c.accept_sample.ensures.few (length old) c.self.invariant.few);
      walked = λ rises. c.accept_sample.ensures.walked old rises (c.self.invariant.walked (ascending-left old (p ∷ []) rises));
    })
