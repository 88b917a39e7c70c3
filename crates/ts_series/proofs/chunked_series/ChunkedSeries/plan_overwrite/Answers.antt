use Rattle.std.proofs.Common.{refl, sym, ◌∙◌, ap, subst}
use Rattle.std.specs.Prelude.{ℤ, Option, Some, Ok}
use Rattle.ts_spec.specs.Sample.{Point, at}
use Rattle.ts_spec.specs.Rules.{merge}
use Rattle.ts_series.specs.History.{History, list_of, IsKeptIn}
use Rattle.ts_series.specs.Plan.{Plan, IsForIn}
use Rattle.ts_series.specs.Put.{nothing_in, IsMerged, IsWrite}
use Rattle.ts_series.proofs.Ready.{Shows}
use Rattle.ts_series.proofs.Putting.{answers-written, nothing-for}
use Rattle.ts_series.proofs.chunked_series.ChunkedSeries.plan_overwrite.Goals as goal

pub returns-in-None-clause-planned : goal.returns-in-None-clause-planned
returns-in-None-clause-planned g c =
    subst (λ (p : Plan). IsForIn g.C.Chunk.format p c.args.self.now) (sym (c.nothing.ensures ∙ ap (λ (x : History). nothing_in x.options.encoding) c.self.view_is))
    (nothing-for c.args.self.now (subst Shows c.self.view_is refl) (subst (IsKeptIn g.C.Chunk.format) c.self.view_is c.self.invariant))

pub returns-in-Some-clause-answer : goal.returns-in-Some-clause-answer
returns-in-Some-clause-answer g c = λ limit. (
    let h = c.args.self.now in
    let v = c.in-Some.value in
    let meets = merge c.args.how (Some c.args.old) c.args.sample.value in
    let merges : IsMerged meets (Ok (Some v)) =
    subst (λ (p : Point). IsMerged (merge c.args.how (Some c.args.old) p.value) (Ok (Some v))) c.sample.view_is
    (subst (λ (o : Option ℤ). IsMerged (merge c.args.how (Some c.args.old) c.sample.inside.value) (Ok o)) c.in-Some.is c.in_ok-merged.ensures) in
    let same =
    ap (λ (p : Point). record { time = p.time; value = v; made = p.made }) c.sample.view_is
    ∙ ap (λ n. record { time = c.args.sample.time; value = v; made = n }) c.requires.made in
    answers-written meets limit c.args.sample.time h v c.written.result merges
    (subst (λ (p : Point). IsWrite limit p h c.written.result) same (c.written.ensures.answer limit (λ none. absurd (c.requires.there (ap (λ (p : Point). at p.time (list_of h)) (sym c.sample.view_is) ∙ none))))))
