use Rattle.std.proofs.Common.{take, refl, sym, ◌∙◌, ap, subst}
use Rattle.std.specs.Prelude.{Option}
use Rattle.std.specs.Option.{option_or}
use Rattle.ts_spec.specs.Sample.{Point, IsAscending, last_of}
use Rattle.ts_sample.specs.Chunk.{joined}
use Rattle.ts_series.specs.Stored.{Stored, points}
use Rattle.ts_series.proofs.Answering.{last-pieces}
use Rattle.ts_series.proofs.chunks.Chunks.last_before.Goals as goal

pub returns-in-Some-clause-before : goal.returns-in-Some-clause-before
returns-in-Some-clause-before g c =
    let rises : IsAscending (points c.args.self.now) = subst (λ (k : Stored). IsAscending (points k)) c.self.view_is c.self.invariant.ascending in
    let b = c.before-place.ensures in
    sym (last-pieces c.args.time c.before-place.result c.args.self.now.pieces rises b.earlier b.reached c.earlier_at.result.last
    (last_of (joined (take c.before-place.result c.args.self.now.pieces))) c.earlier_at.ensures.last refl
    ∙ ap (λ (o : Option Point). option_or o (last_of (joined (take c.before-place.result c.args.self.now.pieces)))) c.in-Some.is)

pub returns-in-None-clause-before : goal.returns-in-None-clause-before
returns-in-None-clause-before g c =
    let rises : IsAscending (points c.args.self.now) = subst (λ (k : Stored). IsAscending (points k)) c.self.view_is c.self.invariant.ascending in
    let b = c.before-place.ensures in
    sym (last-pieces c.args.time c.before-place.result c.args.self.now.pieces rises b.earlier b.reached c.earlier_at.result.last c.last_of_first.result c.earlier_at.ensures.last
    c.last_of_first.ensures.last ∙ ap (λ (o : Option Point). option_or o c.last_of_first.result) c.in-None.is)
