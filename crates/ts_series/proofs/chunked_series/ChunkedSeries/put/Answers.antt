use Rattle.std.proofs.Common.{◌≡◌, List, ℕ, ◌≤◌, ◌<◌, refl, sym, ◌∙◌, ap, subst, arith, length}
use Rattle.std.specs.Prelude.{Option, Err, None, true, false, nat_lt, if◌then◌else◌}
use Rattle.std.proofs.lemmas.Bool.Decides.{nat_tests}
use Rattle.ts_spec.specs.Sample.{Point, at, last_of}
use Rattle.ts_spec.specs.Refusal.{TooOld}
use Rattle.ts_spec.specs.Rules.{Merged, Refuse, merge}
use Rattle.ts_spec.specs.Step.{value_at}
use Rattle.ts_series.specs.declared.plan.PutFault.TheVariants.{TooOld as PutTooOld}
use Rattle.ts_sample.specs.Chunk.{IsPast}
use Rattle.ts_series.specs.Stored.{points}
use Rattle.ts_series.specs.History.{History, list_of, low, IsKeptIn}
use Rattle.ts_series.specs.Put.{PutAnswers}
use Rattle.ts_series.proofs.Trimmed.{last-trimmed}
use Rattle.ts_series.proofs.Reach.{within_reach}
use Rattle.ts_series.proofs.Ready.{Shows}
use Rattle.ts_series.proofs.Putting.{at-shown, at-past, answers-new, met-late, never-both, few-hidden}
use Rattle.ts_series.proofs.chunked_series.ChunkedSeries.put.Goals as goal
use Rattle.ts_series.proofs.chunked_series.ChunkedSeries.put.Goals.{After-is_late}

-- the last sample that a series shows is that of its chunks
last-shown : {format : List Point → List ℕ} (h : History) → Shows h → IsKeptIn format h → last_of (list_of h) ≡ last_of (points h.held)
last-shown h shows kept = ap last_of shows ∙ sym (last-trimmed (low h) h.held.pieces kept.chunks.ascending kept.trimmed)

-- what is kept of a line is kept of its view
kept : (g : _) (c : After-is_late g) → IsKeptIn g.C.Chunk.format c.args.self.now
kept g c = subst (IsKeptIn g.C.Chunk.format) c.self.view_is c.self.invariant

-- the time is not before the edge
late : (g : _) (c : After-is_late g) → low c.args.self.now ≤ c.args.time
late g c = omega (arith, c.edge.ensures, c.if-time-edge.false)

-- a time past all samples has none
absent : (g : _) (c : After-is_late g) → c.is_late.result ≡ false → at c.args.time (list_of c.args.self.now) ≡ None
absent g c past =
    let h = c.args.self.now in
    at-shown c.args.time h (subst Shows c.self.view_is refl) (late g c) ∙ at-past c.args.time (points h.held) (kept g c).chunks.ascending (c.is_late.ensures.past past)

pub returns-then-is_late-clause-easy : goal.returns-then-is_late-clause-easy
returns-then-is_late-clause-easy g c = λ few past. (
    let h = c.args.self.now in
    let last = last-shown h (subst Shows c.self.view_is refl) (kept g (goal.at.returns-then-is_late-clause-easy g c).After-is_late) in
    absurd (never-both c.args.time (last_of (points h.held)) (c.is_late.ensures.late c.if-is_late.true) (subst (λ (o : Option Point). IsPast o c.args.time) last past)))

pub added-requires-clause-absent : goal.added-requires-clause-absent
added-requires-clause-absent g c = absent g (goal.at.added-requires-clause-absent g c).After-is_late c.if-is_late.false

pub returns-clause-answer : goal.returns-clause-answer
returns-clause-answer g c =
    let h = c.args.self.now in
    let none = absent g (goal.at.returns-clause-answer g c).After-is_late c.if-is_late.false in
    subst (λ (m : Merged). PutAnswers m c.args.limit c.args.time h c.added.result) (met-late c.args.how c.args.time c.args.value h (late g (goal.at.returns-clause-answer g c).After-is_late))
    (answers-new c.args.how c.args.limit (record { time = c.args.time; value = c.args.value; made = c.self.inside.born }) h c.added.result none (ap (λ (x : History). x.born) c.self.view_is) c.added.ensures.answer)

pub returns-clause-easy : goal.returns-clause-easy
returns-clause-easy g c = λ few past. (
    let h = c.args.self.now in
    let held = kept g (goal.at.returns-clause-easy g c).After-is_late in
    let shows : Shows h = subst Shows c.self.view_is refl in
    let room : length (points h.held) < c.args.limit =
    omega (arith, few, within_reach g.met.C.Chunk.at_least held refl, few-hidden (low h) h.held.pieces held.chunks.ascending held.trimmed, ap length shows) in
    c.added.ensures.easy room (subst (λ (o : Option Point). IsPast o c.args.time) (last-shown h shows held) past))

pub returns-then-time-edge-clause-answer : goal.returns-then-time-edge-clause-answer
returns-then-time-edge-clause-answer g c =
    let h = c.args.self.now in
    let early : nat_lt c.args.time (low h) ≡ true = (let less : c.args.time < low h = omega (arith, c.edge.ensures, c.if-time-edge.true) in grind (arith, nat_tests)) in
    subst (λ (m : Merged). PutAnswers m c.args.limit c.args.time h (Err PutTooOld))
    (sym (ap (λ b. if b then Refuse TooOld else merge c.args.how (value_at c.args.time (list_of h)) c.args.value) early)) refl

pub returns-then-time-edge-clause-steps : goal.returns-then-time-edge-clause-steps
returns-then-time-edge-clause-steps g c = record {
  counted = omega arith;
  bounded = omega arith;
}

pub returns-then-time-edge-clause-easy : goal.returns-then-time-edge-clause-easy
returns-then-time-edge-clause-easy g c = λ few past. refl

pub plan_late_write-requires-clause-kept : goal.plan_late_write-requires-clause-kept
plan_late_write-requires-clause-kept g c = omega (arith, c.edge.ensures, c.if-time-edge.false)

pub plan_late_write-requires-clause-made : goal.plan_late_write-requires-clause-made
plan_late_write-requires-clause-made g c = ap (λ (h : History). h.born) c.self.view_is

pub returns-then-is_late-clause-planned : goal.returns-then-is_late-clause-planned
returns-then-is_late-clause-planned g c = c.plan_late_write.ensures.planned

pub returns-then-is_late-clause-answer : goal.returns-then-is_late-clause-answer
returns-then-is_late-clause-answer g c =
    let h = c.args.self.now in
    subst (λ (m : Merged). PutAnswers m c.args.limit c.args.time h c.plan_late_write.result) (met-late c.args.how c.args.time c.args.value h (late g (goal.at.returns-then-is_late-clause-answer g c).After-is_late)) c.plan_late_write.ensures.answer

pub returns-then-is_late-clause-steps : goal.returns-then-is_late-clause-steps
returns-then-is_late-clause-steps g c = record {
  counted = c.plan_late_write.ensures.steps.counted;
  bounded = omega (arith, c.plan_late_write.ensures.steps.bounded, within_reach g.met.C.Chunk.at_least (kept g (goal.at.returns-then-is_late-clause-steps g c).After-is_late) refl);
}

pub added-requires-clause-kept : goal.added-requires-clause-kept
added-requires-clause-kept g c = omega (arith, c.edge.ensures, c.if-time-edge.false)

pub added-requires-clause-made : goal.added-requires-clause-made
added-requires-clause-made g c = ap (λ (h : History). h.born) c.self.view_is

pub returns-clause-planned : goal.returns-clause-planned
returns-clause-planned g c = c.added.ensures.planned

pub returns-clause-steps : goal.returns-clause-steps
returns-clause-steps g c = record {
  counted = c.added.ensures.steps.counted;
  bounded = omega (arith, c.added.ensures.steps.bounded, within_reach g.met.C.Chunk.at_least (kept g (goal.at.returns-clause-steps g c).After-is_late) refl);
}
