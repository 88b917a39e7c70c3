use Rattle.std.proofs.Common.{◌≡◌, ◌∙◌, length, sym, ap, arith}
use Rattle.std.specs.Prelude.{slice_range}
use Rattle.std.proofs.lemmas.List.{length-map}
use Rattle.ts_series.specs.Stored.{Stored}
use Rattle.ts_series.proofs.PlannedPieces.{past-chunk, into-list, into-ready, new-list, new-ready, new-limits}
use Rattle.ts_series.proofs.chunks.Chunks.past.Goals as goal
use Rattle.ts_series.proofs.chunks.Chunks.past.Goals.{After-new-chunks}

size : (g : _) (c : After-new-chunks g) → c.len-end.result ≡ length c.args.self.now.pieces
size g c =
    let ok = c.self.inside.chunks.ok in
    omega (arith, length-map c.self.inside.chunks.items g.C.Chunk.list, ap (λ (k : Stored). length k.pieces) c.self.view_is, c.len-end.ensures)

pub fits-requires : goal.fits-requires
fits-requires g c =
    let size = size g (goal.at.fits-requires g c).After-new-chunks in
    record {
      past = past-chunk g.C.Chunk.list g.C.Chunk.most c.self.inside.chunks.items c.args.self.now c.self.view_is c.self.invariant c.args.sample.now c.requires.within size c.requires.past
          c.if-start-gt0.true c.index.ensures;
    }

pub returns-then-fits-clause-ready : goal.returns-then-fits-clause-ready
returns-then-fits-clause-ready g c =
    into-ready g.C.Chunk.list g.C.Chunk.most c.self.inside.chunks.items c.args.self.now c.self.view_is c.self.invariant c.args.sample.now c.requires.within
    (size g (goal.at.returns-then-fits-clause-ready g c).After-new-chunks) c.requires.past c.if-start-gt0.true c.index.ensures c.new-chunks.ensures.items (sym c.fits.ensures ∙ c.if-fits.true)

pub returns-then-fits-clause-list : goal.returns-then-fits-clause-list
returns-then-fits-clause-list g c =
    into-list g.C.Chunk.list g.C.Chunk.most c.self.inside.chunks.items c.args.self.now c.self.view_is c.self.invariant c.args.sample.now c.requires.within
    (size g (goal.at.returns-then-fits-clause-list g c).After-new-chunks) c.requires.past c.if-start-gt0.true c.index.ensures c.new-chunks.ensures.items (sym c.fits.ensures ∙ c.if-fits.true)

pub returns : goal.returns
returns g c =
    let cs = c.self.inside.chunks.items in
    let now = c.args.self.now in
    let p = c.args.sample.now in
    let size = size g (goal.at.returns g c).After-new-chunks in
    let one = c.in_ok-begun.ensures.list in
    let empty = c.new-chunks.ensures.items in
    let is = c.in_ok-push.ensures.items in
    record {
      ready = new-ready g.C.Chunk.list g.C.Chunk.most cs now c.self.view_is c.self.invariant p c.requires.within size c.requires.past one empty is;
      limits = new-limits g.C.Chunk.list g.C.Chunk.most cs now c.self.view_is c.self.invariant p c.requires.within size c.requires.past one empty is
          c.args.chunk_size (slice_range now.limits c.args.start c.len-end.result) c.in_ok-begun.ensures.limit;
      list = new-list g.C.Chunk.list g.C.Chunk.most cs now c.self.view_is c.self.invariant p c.requires.within size c.requires.past one empty is;
    }
