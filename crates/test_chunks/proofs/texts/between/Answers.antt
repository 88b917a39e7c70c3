use Rattle.std.proofs.Common.{arith, refl}
use Rattle.std.proofs.lemmas.List.Filters.{length-filter_both}
use Rattle.std.specs.Prelude.{not}
use Rattle.ts_spec.specs.Sample.{Point, is_within}
use Rattle.test_chunks.proofs.texts.between.Goals as goal

pub scan-requires : goal.scan-requires
scan-requires g c =
    let parts = length-filter_both (λ (p : Point). is_within c.args.from c.args.to p.time) (λ (p : Point). not (is_within c.args.from c.args.to p.time)) (λ p. refl) (g.C.Chunk.list c.args.chunk.now) in
    record { room = omega (arith, parts, c.len.ensures, c.in_ok-gathered.ensures.room) }
