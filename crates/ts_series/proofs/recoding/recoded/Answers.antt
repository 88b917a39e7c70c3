use Rattle.std.proofs.Common.{◌≡◌, ◌++◌, [], ◌∷◌, length, take, false, sym, ◌∙◌, ap, subst, arith}
use Rattle.std.specs.Prelude.{List, nat_le}
use Rattle.ts_spec.specs.Sample.{Point, last_of}
use Rattle.ts_sample.specs.Chunk.{IsPast}
use Rattle.ts_sample.proofs.Fitting.{past-taken, too-long}
use Rattle.ts_series.proofs.Formats.{next-there, all-read, one-further}
use Rattle.ts_series.proofs.recoding.recoded.Goals as goal

pub loop-sample-init : goal.loop-sample-init
loop-sample-init g c = record {
  list = c.in_ok-copy.ensures.list ∙ ap (λ n. take n (g.C.Chunk.list c.args.chunk.now)) (sym c.start-place.ensures.passed);
  limit = c.in_ok-copy.ensures.limit ∙ c.limit.ensures;
  place = c.start-place.ensures.place (g.C.Chunk.list c.args.chunk.now);
}

pub try_append-requires : goal.try_append-requires
try_append-requires g c =
    let ps = g.C.Chunk.list c.args.chunk.now in
    let n = g.C.Chunk.passed c.loop-sample.place in
    let here = next-there ps n c.in-Some.sample (sym c.in-Some.ensures.next) in
    record {
      past = subst (λ (l : List Point). IsPast (last_of l) c.in-Some.sample.time) (sym c.loop-sample.invariant.list) (past-taken ps n c.in-Some.sample c.known.ensures.ascending here.0 here.1);
    }

pub returns-then-not-try_append-clause-full : goal.returns-then-not-try_append-clause-full
returns-then-not-try_append-clause-full g c =
    let ps = g.C.Chunk.list c.args.chunk.now in
    let n = g.C.Chunk.passed c.loop-sample.place in
    let p = c.in-Some.sample in
    let format = g.D.Chunk.format in
    let kept = c.loop-sample.invariant in
    let here = next-there ps n p (sym c.in-Some.ensures.next) in
    let before : false ≡ nat_le (length (format (g.D.Chunk.list c.loop-sample.copy ++ p ∷ []))) (g.D.Chunk.most c.loop-sample.copy) =
    sym c.if-not-try_append.true ∙ c.try_append.ensures.fits in
    let more : false ≡ nat_le (length (format (take n ps ++ p ∷ []))) (g.C.Chunk.most c.args.chunk.now) = rw kept.list at (rw kept.limit at before) in
    too-long format g.met.D.Chunk.grows (g.C.Chunk.most c.args.chunk.now) ps n p here.0 here.1 more

pub loop-sample-smaller : goal.loop-sample-smaller
loop-sample-smaller g c =
    let ps = g.C.Chunk.list c.args.chunk.now in
    let n = g.C.Chunk.passed c.loop-sample.place in
    let m = g.C.Chunk.passed c.read.new.place in
    let next = sym c.in-Some.ensures.next in
    let further = one-further ps n m c.in-Some.sample next c.in-Some.ensures.passed in
    omega (arith, further.0, (next-there ps n c.in-Some.sample next).0)

pub loop-sample-preserved : goal.loop-sample-preserved
loop-sample-preserved g c =
    let ps = g.C.Chunk.list c.args.chunk.now in
    let n = g.C.Chunk.passed c.loop-sample.place in
    let m = g.C.Chunk.passed c.read.new.place in
    let p = c.in-Some.sample in
    let kept = c.loop-sample.invariant in
    let further = one-further ps n m p (sym c.in-Some.ensures.next) c.in-Some.ensures.passed in
    record {
      list = c.if-not-try_append.ensures.list ∙ ap (λ (l : List Point). l ++ p ∷ []) kept.list ∙ sym further.1;
      limit = c.try_append.ensures.limit ∙ kept.limit;
      place = c.in-Some.ensures.place;
    }

pub returns-clause-list : goal.returns-clause-list
returns-clause-list g c =
    c.loop-sample.invariant.list ∙ all-read (g.C.Chunk.list c.args.chunk.now) (g.C.Chunk.passed c.loop-sample.place) (sym c.in_default.ensures.next)
