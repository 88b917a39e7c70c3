use Rattle.std.proofs.Common.{◌≡◌, ◌++◌, ◌∷◌, [], ◌∙◌, sym, subst, take, length, false}
use Rattle.std.specs.Prelude.{List, nat_le}
use Rattle.ts_spec.specs.Sample.{Point, last_of}
use Rattle.ts_sample.specs.Chunk.{IsPast}
use Rattle.ts_sample.proofs.Fitting.{past-taken, too-long}
use Rattle.ts_sample.proofs.changed.whole.Goals as goal

pub try_append-requires : goal.try_append-requires
try_append-requires g c =
    let item = c.sample-item.result in
    record {
      past = subst (λ (l : List Point). IsPast (last_of l) item.time) (sym c.loop-sample.invariant.0)
          (past-taken c.args.samples.now c.loop-sample.sample-index item c.requires.ascending c.loop-sample-test.true c.sample-item.is);
    }

pub returns-then-not-try_append-clause-full : goal.returns-then-not-try_append-clause-full
returns-then-not-try_append-clause-full g c =
    let item = c.sample-item.result in
    let kept = c.loop-sample.invariant in
    let format = g.C.Chunk.format in
    let before : false ≡ nat_le (length (format (g.C.Chunk.list c.loop-sample.chunk ++ item ∷ []))) (g.C.Chunk.most c.loop-sample.chunk) =
    sym c.if-not-try_append.true ∙ c.try_append.ensures.fits in
    let more : false ≡ nat_le (length (format (take c.loop-sample.sample-index c.args.samples.now ++ item ∷ []))) c.args.limit = rw kept.0 at (rw kept.1 at before) in
    too-long format g.met.C.Chunk.grows c.args.limit c.args.samples.now c.loop-sample.sample-index item c.loop-sample-test.true c.sample-item.is more
