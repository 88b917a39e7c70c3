use Rattle.std.proofs.Common.{◌≡◌, ◌<◌, ◌≤◌, ◌/◌, length, drop, map, arith, sym, subst}
use Rattle.std.specs.Prelude.{List}
use Rattle.std.proofs.lemmas.List.{take_rest}
use Rattle.ts_spec.specs.Sample.{Point}
use Rattle.ts_sample.specs.Chunk.{IsCut, HaveLimit}
use Rattle.ts_sample.proofs.Lists.{ascending-take, ascending-drop}
use Rattle.ts_sample.proofs.Fitting.{shorter-front, shorter-rest, two, limits-append, cut-nothing, cut-whole, cut-halves}
use Rattle.ts_sample.proofs.changed.+cut_into.Goals as goal

pub returns-in_default-clause-cut : goal.returns-in_default-clause-cut
returns-in_default-clause-cut g t c =
    cut-nothing g.C.Chunk.format g.C.Chunk.list c.args.limit c.args.samples.now c.new-chunks.result.items c.in_default.ensures.item.3 c.new-chunks.ensures.items

pub returns-in-Some-2-clause-cut : goal.returns-in-Some-2-clause-cut
returns-in-Some-2-clause-cut g t c =
    let chunk = c.in-Some-2.chunk in
    let list : g.C.Chunk.list chunk ≡ c.args.samples.now = rw c.in-Some-2.is at c.in_ok-chunk.ensures.list in
    let limit : g.C.Chunk.most chunk ≡ c.args.limit = rw c.in-Some-2.is at c.in_ok-chunk.ensures.limit in
    let fits : length (g.C.Chunk.format (g.C.Chunk.list chunk)) ≤ c.args.limit = rw limit at c.known.ensures.fits in
    cut-whole g.C.Chunk.format g.C.Chunk.list c.args.limit c.args.samples.now chunk c.new-chunks.result.items c.push.new.self.items
    c.in-Some.ensures.item.3.0 list fits c.new-chunks.ensures.items c.in_ok-push.ensures.items

pub cut_into-requires : goal.cut_into-requires
cut_into-requires g t c κs within =
    let ps = c.args.samples.now in
    let full : c.args.limit < length (g.C.Chunk.format ps) = rw c.in_default-2.is at c.in_ok-chunk.ensures.full in
    let some = c.in-Some.ensures.item in
    let more : 2 ≤ length ps =
    two g.C.Chunk.format g.met.C.Chunk.one_fits c.args.limit c.requires.limit ps c.in-Some.first.now c.known-2.ensures some.3.0 some.1 full in
    (shorter-front _ ps t (omega arith) (omega arith), (within.0, (within.1, (c.requires.limit, ascending-take _ ps c.requires.ascending))))

pub cut_into-requires-2 : goal.cut_into-requires-2
cut_into-requires-2 g t c κs within =
    let ps = c.args.samples.now in
    let full : c.args.limit < length (g.C.Chunk.format ps) = rw c.in_default-2.is at c.in_ok-chunk.ensures.full in
    let some = c.in-Some.ensures.item in
    let more : 2 ≤ length ps =
    two g.C.Chunk.format g.met.C.Chunk.one_fits c.args.limit c.requires.limit ps c.in-Some.first.now c.known-2.ensures some.3.0 some.1 full in
    (shorter-rest _ _ ps t (omega arith) (omega arith) (omega arith), (within.0, (within.1, (c.requires.limit, ascending-take _ _ (ascending-drop _ ps c.requires.ascending)))))

pub returns-clause-cut : goal.returns-clause-cut
returns-clause-cut g t c =
    let ps = c.args.samples.now in
    let full : c.args.limit < length (g.C.Chunk.format ps) = rw c.in_default-2.is at c.in_ok-chunk.ensures.full in
    let last : IsCut g.C.Chunk.format c.args.limit (drop (length ps / 2) ps) (map g.C.Chunk.list c.in_ok-rest.rest.items) =
    subst (λ (qs : List Point). IsCut g.C.Chunk.format c.args.limit qs (map g.C.Chunk.list c.in_ok-rest.rest.items)) (take_rest ps (length ps / 2)) c.in_ok-rest.ensures.cut in
    cut-halves g.C.Chunk.format g.C.Chunk.list c.args.limit ps c.in_ok-chunks.chunks.items c.in_ok-rest.rest.items c.append.new.self.items
    full c.in_ok-chunks.ensures.cut last c.in_ok-append.ensures.items

pub returns-clause-limits : goal.returns-clause-limits
returns-clause-limits g t c =
    subst (HaveLimit g.C.Chunk.most c.args.limit) (sym c.in_ok-append.ensures.items)
    (limits-append g.C.Chunk.most c.args.limit c.in_ok-chunks.chunks.items c.in_ok-rest.rest.items c.in_ok-chunks.ensures.limits c.in_ok-rest.ensures.limits)
