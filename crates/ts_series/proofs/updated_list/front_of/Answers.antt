use Rattle.std.proofs.Common.{suc, ◌∷◌, List, sym, subst, arith}
use Rattle.ts_spec.specs.Sample.{Point, last_of}
use Rattle.ts_sample.specs.Chunk.{IsPast}
use Rattle.ts_sample.proofs.Fitting.{past-taken}
use Rattle.ts_series.proofs.updated_list.front_of.Goals as goal

pub try_append-requires : goal.try_append-requires
try_append-requires g c =
    let item = c.sample-item.result in
    record {
      past = subst (λ (l : List Point). IsPast (last_of l) item.time) (sym c.loop-sample.invariant.0)
          (past-taken (c.args.first.now ∷ c.args.rest.now) (suc c.loop-sample.sample-index) item c.requires.ascending (omega (arith, c.loop-sample-test.true)) c.sample-item.is);
    }
