use Rattle.std.proofs.Common.{◌≡◌, suc, ◌+◌, ◌≤◌, List, length, take, sym, ◌∙◌, ap, subst, arith}
use Rattle.ts_spec.specs.Sample.{Point, between}
use Rattle.ts_sample.specs.Chunk.{joined}
use Rattle.ts_sample.specs.Visit.{visited}
use Rattle.ts_series.proofs.Answering.{IsPiece, pieces-length, piece}
use Rattle.ts_series.proofs.Walking.{none-first, all-taken, walked, room-next, visited-more, counted-more}
use Rattle.ts_series.proofs.SeamedWalks.{seamed-walk}
use Rattle.ts_series.proofs.chunks.Chunks.scan.Goals as goal
use Rattle.ts_series.proofs.PieceCounts.{length-more}
use Rattle.ts_series.proofs.chunks.Chunks.scan.Goals.{After-index}

one : (g : _) (c : After-index g) → IsPiece g.C.Chunk.format c.args.self.now c.loop-place.place (g.C.Chunk.list c.index.result.now)
one g c =
    let size = pieces-length g.C.Chunk.list c.self.inside.chunks.items _ _ c.args.self.now c.self.view_is in
    piece g.C.Chunk.format g.C.Chunk.list g.C.Chunk.most c.self.inside.chunks.items _ c.self.inside.count c.args.self.now c.self.view_is c.self.invariant
    c.loop-place.place c.index.result.now (omega (arith, size, c.loop-place-test.true, c.overlapping-start.ensures.overlapping.within)) c.index.ensures

pub loop-place-init : goal.loop-place-init
loop-place-init g c =
    let m = c.overlapping-start in
    let none = none-first c.args.from c.args.to m.result.start m.result.end c.args.self.now.pieces m.ensures.overlapping in
    record {
      visited = sym (ap (λ (ps : List Point). visited g.V.Visit.step c.args.visit.now ps) none);
      counted = omega (arith, ap length none);
      bounded = omega arith;
    }

pub scan-requires : goal.scan-requires
scan-requires g c = record {
  room =
      subst (λ (ps : List Point). length (between c.args.from c.args.to ps) ≤ g.V.Visit.room c.loop-place.visit) (sym (one g (goal.at.scan-requires g c).After-index).here)
      (room-next c.args.from c.args.to g.V.Visit.step g.V.Visit.room g.met.V.Visit.lowers c.args.visit.now c.loop-place.visit c.loop-place.place c.args.self.now.pieces c.requires.room
      c.loop-place.invariant.visited);
}

pub loop-place-preserved : goal.loop-place-preserved
loop-place-preserved g c =
    let pss = c.args.self.now.pieces in
    let i = c.loop-place.place in
    let it = one g (goal.at.loop-place-preserved g c).After-index in
    let next : i + 1 ≡ suc i = omega arith in
    record {
      visited = visited-more c.args.from c.args.to g.V.Visit.step c.args.visit.now c.loop-place.visit c.scan.new.visit i (i + 1) pss next c.loop-place.invariant.visited
          (c.scan.ensures.visited ∙ ap (λ (ps : List Point). visited g.V.Visit.step c.loop-place.visit (between c.args.from c.args.to ps)) it.here);
      counted = omega (
        arith,
        c.loop-place.invariant.counted,
        c.scan.ensures.counted,
        ap (λ (ps : List Point). length (between c.args.from c.args.to ps)) it.here,
        counted-more c.args.from c.args.to i (i + 1) pss next,
      );
      bounded = omega (arith, c.loop-place.invariant.bounded, c.scan.ensures.bounded, ap length it.here, length-more i (i + 1) pss next);
    }

pub returns : goal.returns
returns g c =
    let m = c.overlapping-start in
    let pss = c.args.self.now.pieces in
    let sofar = c.loop-place.invariant in
    let at_end : c.loop-place.place ≡ m.result.end = omega (arith, m.ensures.overlapping.ordered) in
    let all = all-taken c.args.from c.args.to m.result.start m.result.end pss m.ensures.overlapping in
    let long = ap (λ i. length (joined (take i pss))) at_end in
    record {
      visited = sofar.visited ∙ ap (λ i. visited g.V.Visit.step c.args.visit.now (between c.args.from c.args.to (joined (take i pss)))) at_end
          ∙ ap (λ (ps : List Point). visited g.V.Visit.step c.args.visit.now ps) all;
      counted = omega (arith, sofar.counted, ap (λ i. length (between c.args.from c.args.to (joined (take i pss)))) at_end, ap length all);
      bounded = omega (arith, sofar.bounded, long, walked c.args.from c.args.to m.result.start m.result.end pss m.ensures.overlapping);
      seams = seamed-walk c.args.from c.args.to m.result.start m.result.end c.args.steps.now c.loop-place.steps pss m.ensures.overlapping.ordered m.ensures.each (omega (arith, sofar.bounded, long));
    }
