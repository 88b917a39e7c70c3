use Rattle.std.proofs.Common.{◌≡◌, refl, sym, ap, subst, arith, lt-ltb, ltb-true}
use Rattle.std.specs.Prelude.{Option, Some}
use Rattle.ts_spec.specs.Sample.{Point, first_of, last_of}
use Rattle.ts_sample.specs.Chunk.{IsPast}
use Rattle.ts_series.specs.Stored.{points}
use Rattle.ts_series.proofs.Restoring.{ascending-past, past-last}
use Rattle.ts_series.proofs.chunks.Chunks.are_before.Goals as goal

pub returns-in-Some-last : goal.returns-in-Some-last
returns-in-Some-last g c =
    let ps = points c.args.self.now in
    let qs = g.C.Chunk.list c.args.chunk.now in
    let p = c.in-Some.first in
    let first : first_of qs ≡ Some p = sym c.in-Some.ensures in
    let last : last_of ps ≡ Some c.in-Some-last.last = sym c.in-Some-last.ensures.last in
    let one : c.last-in-Some-last.inside.time ≡ c.in-Some-last.last.time = ap (λ (q : Point). q.time) c.last-in-Some-last.view_is in
    let two : c.first-2.inside.time ≡ p.time = ap (λ (q : Point). q.time) c.first-2.view_is in (
      λ less. (
          let past : IsPast (last_of ps) p.time = subst (λ (o : Option Point). IsPast o p.time) (sym last) (omega (arith, ltb-true c.last-in-Some-last.inside.time c.first-2.inside.time less)) in
          ascending-past ps qs p c.last.ensures.ascending c.known.ensures.ascending first past),
      λ up. (
          let past : IsPast (Some c.in-Some-last.last) p.time = subst (λ (o : Option Point). IsPast o p.time) last (past-last ps qs p first up) in
          lt-ltb c.last-in-Some-last.inside.time c.first-2.inside.time (omega (arith, past))),
    )

pub returns-in-None : goal.returns-in-None
returns-in-None g c =
    let ps = points c.args.self.now in
    let qs = g.C.Chunk.list c.args.chunk.now in
    let p = c.in-Some.first in
    let past : IsPast (last_of ps) p.time = subst (λ (o : Option Point). IsPast o p.time) c.in-None.ensures.last tt in
    (λ yes. ascending-past ps qs p c.last.ensures.ascending c.known.ensures.ascending (sym c.in-Some.ensures) past, λ up. refl)
