use Rattle.std.proofs.Common.{◌≡◌, List, ap, sym, subst, ◌∙◌, arith}
use Rattle.std.specs.Prelude.{IfOk}
use Rattle.ts_spec.specs.Sample.{Point, outside, put_all}
use Rattle.ts_sample.specs.Chunk.{joined}
use Rattle.ts_series.specs.Stored.{points, pieces_after}
use Rattle.ts_series.specs.Plan.{AreWithin}
use Rattle.ts_series.proofs.MendedPieces.{alone-is}
use Rattle.ts_series.proofs.OneRow.{row-at-its-time}
use Rattle.ts_series.proofs.chunks.Chunks.updated_list.Goals as goal

pub returns-in-len1-clause-list : goal.returns-in-len1-clause-list
returns-in-len1-clause-list g c =
    let from = c.args.from in
    let to = c.args.to in
    let now = points c.args.self.now in
    let one = alone-is c.args.rows.now c.row-item.result c.in-len1.len_at_least c.in-len1.len_below c.row-item.is in
    let same : from ≡ to = omega (arith, c.if-from-to.true) in
    let there = row-at-its-time from to c.row-item.result now same (subst (AreWithin from to) one c.requires.within) in
    subst (λ (l : List Point). IfOk c.with_row.result.0 (λ d. joined (pieces_after d c.args.self.now.pieces) ≡ l))
    (there ∙ sym (ap (λ (rows : List Point). put_all rows (outside from to now)) one)) c.with_row.ensures.list
