use Rattle.std.proofs.Common.{◌≡◌, length, map, sym, ◌∙◌, ap, subst, arith}
use Rattle.std.specs.Prelude.{List, IfOk, slice_range}
use Rattle.std.proofs.lemmas.List.{length-map}
use Rattle.ts_spec.specs.Sample.{Point, IsAscending}
use Rattle.ts_sample.specs.Chunk.{joined}
use Rattle.ts_series.specs.Stored.{Stored, pieces_after}
use Rattle.ts_series.proofs.NewChunks.{among-one, among-all}
use Rattle.ts_series.proofs.PlannedPieces.{ready-none}
use Rattle.ts_series.proofs.MendedPieces.{alone-is, samples-rise, same-samples, one-past, one-put}
use Rattle.ts_series.proofs.chunks.Chunks.rebuilt.Goals as goal

pub past-requires-clause-past : goal.past-requires-clause-past
past-requires-clause-past g c =
    let now = c.args.self.now in
    let cs = c.self.inside.chunks in
    let size : c.len.result ≡ length now.pieces = omega (arith, c.len.ensures, cs.ok.0, length-map cs.items g.C.Chunk.list, ap (λ (h : Stored). length h.pieces) c.self.view_is) in
    let one = alone-is c.args.samples.now c.sample-item.result c.in-len1.len_at_least c.in-len1.len_below c.sample-item.is in
    one-past c.args.start c.args.end now.pieces c.args.samples.now c.sample-item.result (c.if-end-len.true ∙ size) one c.requires.ascending

pub returns-in-len1-clause-list : goal.returns-in-len1-clause-list
returns-in-len1-clause-list g c =
    let now = c.args.self.now in
    let cs = c.self.inside.chunks in
    let size : c.len.result ≡ length now.pieces = omega (arith, c.len.ensures, cs.ok.0, length-map cs.items g.C.Chunk.list, ap (λ (h : Stored). length h.pieces) c.self.view_is) in
    let one = alone-is c.args.samples.now c.sample-item.result c.in-len1.len_at_least c.in-len1.len_below c.sample-item.is in
    subst (λ (l : List Point). IfOk c.past.result (λ k. joined (pieces_after k now.pieces) ≡ l))
    (one-put c.args.start c.args.end now.pieces c.args.samples.now c.sample-item.result (c.if-end-len.true ∙ size) one c.requires.ascending) c.past.ensures.list

pub chunks_of-requires-clause-ascending : goal.chunks_of-requires-clause-ascending
chunks_of-requires-clause-ascending g c = samples-rise c.args.start c.args.end c.args.self.now.pieces c.args.samples.now c.requires.ascending

pub returns-clause-list : goal.returns-clause-list
returns-clause-list g c =
    same-samples c.args.start c.args.end c.args.self.now.pieces (map g.C.Chunk.list c.in_ok-chunks.chunks.items) c.args.samples.now c.in_ok-chunks.ensures.list

pub returns-clause-ready : goal.returns-clause-ready
returns-clause-ready g c =
    let cs = c.in_ok-chunks.chunks.items in
    ready-none g.C.Chunk.format c.args.self.now c.args.start c.args.end (map g.C.Chunk.list cs) (map g.C.Chunk.most cs) c.requires.ordered c.requires.within
    (subst IsAscending (sym (returns-clause-list g c)) c.requires.ascending)

pub returns-clause-limits : goal.returns-clause-limits
returns-clause-limits g c =
    let one = c.args.chunk_size in
    let before = slice_range c.args.self.now.limits c.args.start c.args.end in
    among-all g.C.Chunk.most one one before c.in_ok-chunks.chunks.items (among-one one before) c.in_ok-chunks.ensures.limits
