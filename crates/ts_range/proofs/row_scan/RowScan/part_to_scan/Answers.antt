use Rattle.std.proofs.Common.{◌≡◌, List, [], subst}
use Rattle.std.specs.Prelude.{filter, IfSome, IfNone}
use Rattle.std.proofs.lemmas.Option.{IfSome_then}
use Rattle.ts_spec.specs.Sample.{Point, between}
use Rattle.ts_range.specs.Filters.{passes}
use Rattle.ts_range.specs.RowScanState.{RowScanState, lets}
use Rattle.ts_range.proofs.WantedParts.{same-part, empty-part, if-none}
use Rattle.ts_range.proofs.row_scan.RowScan.part_to_scan.Goals as goal

pub returns-clause-all : goal.returns-clause-all
returns-clause-all g c =
    let test = passes c.self.inside.filters.now in
    subst (λ (w : RowScanState). IfSome c.part_of.result (λ part. (ps : List Point) → filter (lets w) (between part.0 part.1 ps) ≡ filter (lets w) (between c.args.from c.args.to ps))) c.self.view_is
    (IfSome_then c.part_of.result c.part_of.ensures.all (λ part same ps. same-part test c.args.from c.args.to part.0 part.1 same ps))

pub returns-clause-none : goal.returns-clause-none
returns-clause-none g c =
    let test = passes c.self.inside.filters.now in
    subst (λ (w : RowScanState). IfNone c.part_of.result ((ps : List Point) → filter (lets w) (between c.args.from c.args.to ps) ≡ [])) c.self.view_is
    (if-none c.part_of.result (λ none ps. empty-part test c.args.from c.args.to none ps) c.part_of.ensures.none)
