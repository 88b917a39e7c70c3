use Rattle.std.proofs.Common.{◌≡◌, length, ap, arith}
use Rattle.std.proofs.lemmas.List.{length-map}
use Rattle.ts_series.specs.Stored.{Stored}
use Rattle.ts_series.proofs.MendedPieces.{overlapping-wider}
use Rattle.ts_series.proofs.chunks.Chunks.overlapping_or_next.Goals as goal

pub returns-then-start-end : goal.returns-then-start-end
returns-then-start-end g c =
    let m = c.overlapping-start in
    let cs = c.self.inside.chunks in
    let size : c.len.result ≡ length c.args.self.now.pieces = omega (arith, c.len.ensures, cs.ok.0, length-map cs.items g.C.Chunk.list, ap (λ (h : Stored). length h.pieces) c.self.view_is) in
    overlapping-wider c.args.from c.args.to m.result.start m.result.end c.args.self.now.pieces m.ensures.overlapping c.if-start-end.true c.min.result (omega (arith, c.min.ensures, size))
