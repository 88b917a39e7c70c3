use Rattle.std.proofs.Common.{◌+◌, length, map, refl, ap, arith}
use Rattle.std.proofs.lemmas.List.{length-map}
use Rattle.ts_spec.specs.Sample.{Point}
use Rattle.ts_series.specs.Stored.{Stored}
use Rattle.ts_series.proofs.PlannedPieces.{IsOne, kept-view, one-at, piece-short, with-it, place-in, inserted-list, inserted-ready}
use Rattle.ts_series.proofs.chunks.Chunks.inserted.Goals as goal
use Rattle.ts_series.proofs.chunks.Chunks.inserted.Goals.{After-upsert}

pub index-requires : goal.index-requires
index-requires g c =
    let b = c.before-place.ensures in
    let ok = c.self.inside.chunks.ok in
    let inside = place-in c.args.self.now (kept-view g.C.Chunk.format _ c.args.self.now c.self.inside.count c.self.view_is c.self.invariant) c.args.sample.now (ap (λ (p : Point). p.time) c.sample.view_is)
    c.requires.late b.within b.earlier b.reached in
    omega (arith, inside, length-map c.self.inside.chunks.items g.C.Chunk.list, ap (λ (k : Stored). length k.pieces) c.self.view_is)

-- the chunk that the sample goes into
one : (g : _) (c : After-upsert g) → IsOne g.C.Chunk.format g.C.Chunk.list g.C.Chunk.most c.args.self.now c.before-place.result c.index.result.now
one g c =
    let b = c.before-place.ensures in
    let inside = place-in c.args.self.now (kept-view g.C.Chunk.format _ c.args.self.now c.self.inside.count c.self.view_is c.self.invariant) c.args.sample.now (ap (λ (p : Point). p.time) c.sample.view_is)
    c.requires.late b.within b.earlier b.reached in
    one-at g.C.Chunk.list g.C.Chunk.most c.self.inside.chunks.items c.args.self.now c.self.view_is c.self.invariant c.before-place.result c.index.result.now inside c.index.ensures

pub returns-in_err-chunks-clause-steps : goal.returns-in_err-chunks-clause-steps
returns-in_err-chunks-clause-steps g c =
    let at = goal.at.returns-in_err-chunks-clause-steps g c in
    record {
      counted = c.upsert.ensures.steps.counted;
      bounded = omega (arith, c.upsert.ensures.steps.bounded, piece-short (one g at.After-upsert));
    }

pub invariant_of-result : goal.invariant_of-result
invariant_of-result g c =
    let at = goal.at.invariant_of-result g c in
    (with-it (one g at.After-upsert) c.before-place.result (c.before-place.result + 1) (omega arith) (omega arith) c.args.sample.now c.known.ensures c.in_ok-chunks.chunks.items c.in_ok-chunks.ensures.cut c.in_ok-chunks.ensures.limits).chunks

pub returns : goal.returns
returns g c =
    let at = goal.at.returns g c in
    let now = c.args.self.now in
    let p = c.args.sample.now in
    let cs = c.in_ok-chunks.chunks.items in
    let b = c.before-place.ensures in
    let kept = kept-view g.C.Chunk.format _ now c.self.inside.count c.self.view_is c.self.invariant in
    let time = ap (λ (q : Point). q.time) c.sample.view_is in
    let here = one g at.After-upsert in
    let new = with-it here c.before-place.result (c.before-place.result + 1) (omega arith) (omega arith) p c.known.ensures cs c.in_ok-chunks.ensures.cut c.in_ok-chunks.ensures.limits in
    record {
      ready = inserted-ready now kept p time c.requires.late b.within b.earlier b.reached (map g.C.Chunk.list cs) (omega arith) new.list (map g.C.Chunk.most cs);
      nothing_appended = refl;
      limits = new.among;
      list = inserted-list now kept p time c.requires.late b.within b.earlier b.reached (map g.C.Chunk.list cs) (omega arith) new.list;
      steps = record {
        counted = c.upsert.ensures.steps.counted;
        bounded = omega (arith, c.upsert.ensures.steps.bounded, piece-short here);
      };
    }
