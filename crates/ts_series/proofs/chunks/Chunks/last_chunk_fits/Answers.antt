use Rattle.std.proofs.Common.{◌≡◌, ◌-◌, ◌++◌, [], ◌∷◌, get_or, sym, ◌∙◌, ap, subst, arith, leb-true}
use Rattle.std.specs.Prelude.{Option}
use Rattle.ts_spec.specs.Sample.{Point, last_of}
use Rattle.ts_sample.specs.Chunk.{IsPast, Fits}
use Rattle.ts_series.specs.Stored.{Stored, AreChunks}
use Rattle.ts_series.proofs.Joined.{chunks-length}
use Rattle.ts_series.proofs.Meeting.{last-joined}
use Rattle.ts_series.proofs.Answering.{pieces-length, piece}
use Rattle.ts_series.proofs.PieceCounts.{mapped-at}
use Rattle.ts_series.proofs.PlannedPieces.{last-room}
use Rattle.ts_series.proofs.chunks.Chunks.last_chunk_fits.Goals as goal

pub fits-requires : goal.fits-requires
fits-requires g c =
    let h = c.in-Some.ensures in
    let now = c.args.self.now in
    let i = c.self.inside.chunks.len - 1 in
    let chunks = subst (λ (k : Stored). AreChunks g.C.Chunk.format k.pieces k.limits) c.self.view_is c.self.invariant.chunks in
    let it = piece g.C.Chunk.format g.C.Chunk.list g.C.Chunk.most c.self.inside.chunks.items _ c.self.inside.count now c.self.view_is c.self.invariant
    i c.in-Some.chunk.now (omega (arith, h.variant.0)) h.lookup in
    let last = ap last_of it.here
    ∙ sym (last-joined g.C.Chunk.format now.pieces now.limits chunks i (omega (arith, h.variant.0, pieces-length g.C.Chunk.list c.self.inside.chunks.items _ _ now c.self.view_is))) in
    record { past = subst (λ (o : Option Point). IsPast o c.args.sample.now.time) (sym last) c.requires.past }

pub returns-in-Some : goal.returns-in-Some
returns-in-Some g c = record {
  room = λ yes. (
      let h = c.in-Some.ensures in
      let now = c.args.self.now in
      let p = c.args.sample.now in
      let cs = c.self.inside.chunks.items in
      let i = c.self.inside.chunks.len - 1 in
      let chunks = subst (λ (k : Stored). AreChunks g.C.Chunk.format k.pieces k.limits) c.self.view_is c.self.invariant.chunks in
      let size = pieces-length g.C.Chunk.list cs _ _ now c.self.view_is in
      let it = piece g.C.Chunk.format g.C.Chunk.list g.C.Chunk.most cs _ c.self.inside.count now c.self.view_is c.self.invariant
      i c.in-Some.chunk.now (omega (arith, h.variant.0)) h.lookup in
      let last = ap last_of it.here ∙ sym (last-joined g.C.Chunk.format now.pieces now.limits chunks i (omega (arith, h.variant.0, size))) in
      let past = subst (λ (o : Option Point). IsPast o p.time) (last-joined g.C.Chunk.format now.pieces now.limits chunks i (omega (arith, h.variant.0, size))) c.requires.past in
      let limit : g.C.Chunk.most c.in-Some.chunk.now ≡ get_or now.limits i 0 =
      mapped-at g.C.Chunk.most i cs now.limits c.in-Some.chunk.now 0 (ap (λ (k : Stored). k.limits) c.self.view_is) (omega (arith, h.variant.0, size, chunks-length g.C.Chunk.format now.pieces now.limits chunks)) h.lookup in
      last-room g.C.Chunk.format p i now.pieces now.limits (omega (arith, h.variant.0, size)) (chunks-length g.C.Chunk.format now.pieces now.limits chunks) past
      (subst (λ n. Fits g.C.Chunk.format n (get_or now.pieces i [] ++ p ∷ [])) limit
      (subst (λ ps. Fits g.C.Chunk.format (g.C.Chunk.most c.in-Some.chunk.now) (ps ++ p ∷ [])) it.here (leb-true _ _ (sym c.fits.ensures ∙ yes)))));
}
