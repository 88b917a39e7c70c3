use Rattle.std.proofs.Common.{◌≡◌, ◌<◌, refl, sym, ◌∙◌, length, ap, subst, arith, ltb-false}
use Rattle.std.specs.Prelude.{None, Some, Ok}
use Rattle.ts_spec.specs.Sample.{Point, at}
use Rattle.ts_series.specs.Stored.{points}
use Rattle.ts_series.specs.History.{History, list_of}
use Rattle.ts_spec.specs.Rules.{Merged, merge}
use Rattle.ts_spec.specs.Step.{value_at}
use Rattle.ts_series.specs.Put.{PutAnswers, Fits, IsMerged, IsWrite, list_after}
use Rattle.ts_series.proofs.Ready.{Shows}
use Rattle.ts_series.proofs.Putting.{at-shown, full-early, answers-written, answers-new, answers-over}
use Rattle.ts_series.proofs.chunked_series.ChunkedSeries.plan_late_write.Goals as goal
use Rattle.ts_series.proofs.chunked_series.ChunkedSeries.plan_late_write.Goals.{After-at}

-- what the series has at the time
found : (g : _) (c : After-at g) → at c.args.sample.time (list_of c.args.self.now) ≡ c.at.result
found g c =
    let time = ap (λ (p : Point). at p.time (points c.self.inside.chunks)) c.sample.view_is in
    at-shown c.args.sample.time c.args.self.now (subst Shows c.self.view_is refl) c.requires.kept
    ∙ sym (c.at.ensures.at ∙ time ∙ ap (λ (h : History). at c.args.sample.time (points h.held)) c.self.view_is)

pub added-requires-clause-absent : goal.added-requires-clause-absent
added-requires-clause-absent g c = found g (goal.at.added-requires-clause-absent g c).After-at ∙ c.in-None.is

pub plan_overwrite-requires-clause-there : goal.plan_overwrite-requires-clause-there
plan_overwrite-requires-clause-there g c =
    let there = found g (goal.at.plan_overwrite-requires-clause-there g c).After-at ∙ c.in-Some.is in
    λ none. (let both : None ≡ Some c.in-Some.there = sym none ∙ there in absurd (cc both))

pub returns-in-None-clause-answer : goal.returns-in-None-clause-answer
returns-in-None-clause-answer g c =
    let none = found g (goal.at.returns-in-None-clause-answer g c).After-at ∙ c.in-None.is in
    answers-new c.args.how c.args.limit c.args.sample c.args.self.now c.added.result none c.requires.made c.added.ensures.answer

pub returns-in-Some-clause-answer : goal.returns-in-Some-clause-answer
returns-in-Some-clause-answer g c =
    let h = c.args.self.now in
    let there = found g (goal.at.returns-in-Some-clause-answer g c).After-at ∙ c.in-Some.is in
    answers-over c.args.how c.args.limit c.args.sample c.in-Some.there h c.plan_overwrite.result there
    (subst (λ (q : Point). PutAnswers (merge c.args.how (Some q.value) c.args.sample.value) c.args.limit c.args.sample.time h c.plan_overwrite.result) c.there.view_is
    (c.plan_overwrite.ensures.answer c.args.limit))

pub returns-then-len-limit-clause-answer : goal.returns-then-len-limit-clause-answer
returns-then-len-limit-clause-answer g c =
    let h = c.args.self.now in
    let p = c.args.sample in
    let limit = c.args.limit in
    let merges = c.always_writes.ensures c.if-always_writes.true (value_at p.time (list_of h)) p.value in
    let below : length (points h.held) < limit = omega (arith, c.if-len-limit.true, c.len.ensures, ap (λ (x : History). length (points x.held)) c.self.view_is) in
    let fits : Fits limit p h = λ none. ltb-false limit (length (list_after p h)) (sym (full-early limit p h (subst Shows c.self.view_is refl) none below)) in
    let same = ap (λ n. record { time = p.time; value = p.value; made = n }) c.requires.made in
    answers-written (merge c.args.how (value_at p.time (list_of h)) p.value) limit p.time h p.value c.written.result
    (subst (λ (m : Merged). IsMerged m (Ok (Some p.value))) (sym merges) refl)
    (subst (λ (q : Point). IsWrite limit q h c.written.result) same (c.written.ensures.answer limit fits))
