use Rattle.std.proofs.Common.{◌≡◌, sym, ◌∙◌, ap, arith, le-leb, leb-true}
use Rattle.std.specs.Prelude.{Some}
use Rattle.ts_spec.specs.Sample.{Point, last_of}
use Rattle.ts_series.specs.History.{History, low}
use Rattle.ts_series.proofs.Expired.{none-last, last-kept}
use Rattle.ts_series.proofs.Restoring.{no-pieces, last-shows}
use Rattle.ts_series.proofs.chunked_series.ChunkedSeries.shows_first.Goals as goal

pub returns-in-Some : goal.returns-in-Some
returns-in-Some g c =
    let ps = g.C.Chunk.list c.args.chunk.now in
    let p = c.in-Some.last in
    let edge = low c.args.self.now in
    let last : last_of ps ≡ Some p = sym c.in-Some.ensures in
    let time : c.last-in-Some.inside.time ≡ p.time = ap (λ (q : Point). q.time) c.last-in-Some.view_is in
    let none = sym (ap (λ (h : History). h.held.pieces) c.self.view_is) ∙ no-pieces c.self.inside.chunks.pieces (omega (arith, c.chunk_count.ensures, c.if-chunk_count-gt0.false)) in (
      λ late _. last-kept edge ps p last (omega (arith, leb-true c.edge.result c.last-in-Some.inside.time late, c.edge.ensures)),
      λ shows. le-leb c.edge.result c.last-in-Some.inside.time (omega (arith, last-shows edge ps p c.known.ensures.ascending last (shows none), c.edge.ensures)),
    )

pub returns-in-None : goal.returns-in-None
returns-in-None g c =
    let ps = g.C.Chunk.list c.args.chunk.now in
    let none = sym (ap (λ (h : History). h.held.pieces) c.self.view_is) ∙ no-pieces c.self.inside.chunks.pieces (omega (arith, c.chunk_count.ensures, c.if-chunk_count-gt0.false)) in
    (λ no _. absurd (cc no), λ shows. absurd (shows none (none-last (low c.args.self.now) ps c.in-None.ensures)))
