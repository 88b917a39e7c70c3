use Rattle.std.proofs.Common.{◌≡◌, refl, ◌∙◌, ap, arith}
use Rattle.std.specs.Prelude.{nat_le}
use Rattle.ts_spec.specs.Sample.{is_within, at_times}
use Rattle.ts_spec.proofs.Samples.{ascending-times}
use Rattle.ts_sample.specs.Visit.{visited}
use Rattle.ts_series.specs.declared.chunked_series_restoring.GreatestMade.{GreatestMade}
use Rattle.ts_series.proofs.Counting.{times-length}
use Rattle.ts_series.proofs.OneChunk.{few, late-is}
use Rattle.ts_series.proofs.Restoring.{greater, greatest-bounds, bounds-greatest}
use Rattle.ts_series.proofs.chunked_series_restoring.greatest_made.Goals as goal

pub scan-requires : goal.scan-requires
scan-requires g c =
    let ps = g.C.Chunk.list c.args.chunk.now in
    record { room = omega (arith, times-length (is_within c.args.from 18446744073709551615) ps, few g.C.Chunk.format (g.C.Chunk.most c.args.chunk.now) ps c.known.ensures g.met.C.Chunk.at_least) }

pub returns : goal.returns
returns g c most =
    let all = g.C.Chunk.list c.args.chunk.now in
    let ps = at_times (nat_le c.args.from) all in
    let none : GreatestMade = record { made = 0 } in
    let up = ascending-times (nat_le c.args.from) all c.known.ensures.ascending in
    let seen : c.scan.new.visit ≡ visited greater none ps = c.scan.ensures.visited ∙ ap (visited greater none) (late-is c.args.from all c.known.ensures.fine) in
    let made = ap (λ (v : GreatestMade). v.made) seen in (
      λ few_made. greatest-bounds none ps most refl up (omega (arith, made, few_made)),
      λ each. omega (arith, made, bounds-greatest none ps most refl up each),
    )
