use Rattle.std.proofs.Common.{◌≡◌, ◌*◌, IfOk, length, ltb-true, ltb-false, ◌∙◌, refl, sym, ap, subst, arith}
use Rattle.ts_spec.specs.Sample.{between, outside, put_all}
use Rattle.ts_sample.specs.Chunk.{joined}
use Rattle.ts_sample.specs.Steps.{Takes}
use Rattle.ts_series.specs.Stored.{points, pieces_after, IsReady, HasLimits}
use Rattle.ts_series.specs.History.{history_of, History, limit_for, reach}
use Rattle.ts_series.specs.Mend.{IsRowPast, list_after_update}
use Rattle.ts_series.proofs.Reach.{within_reach}
use Rattle.ts_series.proofs.RowPast.{past-chunks}
use Rattle.ts_series.proofs.chunked_series.ChunkedSeries.mend.Goals as goal
use Rattle.ts_series.proofs.chunked_series.ChunkedSeries.mend.Goals.{After-exceeds}

-- no step is taken past the comparison with the limit
none : (g : _) (c : After-exceeds g) → IsRowPast c.args.from c.args.to c.args.rows.now c.args.limit c.args.self.now → c.exceeds.new.steps ≡ c.args.steps.now
none g c h =
    let inside = history_of c.self.inside.options c.self.inside.high c.self.inside.born c.self.inside.chunks in
    let row : IsRowPast c.args.from c.args.to c.args.rows.now c.args.limit inside = subst (IsRowPast c.args.from c.args.to c.args.rows.now c.args.limit) (sym c.self.view_is) h in
    c.exceeds.ensures.easy h ∙ c.updated_list-updated_list.ensures.easy row.here row.one (past-chunks {format = g.C.Chunk.format} inside refl c.self.invariant c.args.from row.past)

-- both walks take their steps
taken : (g : _) (c : After-exceeds g) → Takes c.args.steps.now c.exceeds.new.steps (3 * reach c.args.self.now)
taken g c = record {
  counted = omega (arith, c.updated_list-updated_list.ensures.steps.counted, c.exceeds.ensures.steps.counted);
  bounded = omega (arith, c.updated_list-updated_list.ensures.steps.bounded, c.exceeds.ensures.steps.bounded, within_reach g.met.C.Chunk.at_least c.self.invariant c.self.view_is);
}

pub returns-then-exceeds-clause-easy : goal.returns-then-exceeds-clause-easy
returns-then-exceeds-clause-easy g c = none g (goal.at.returns-then-exceeds-clause-easy g c).After-exceeds

pub returns-in-Err-clause-easy : goal.returns-in-Err-clause-easy
returns-in-Err-clause-easy g c = none g (goal.at.returns-in-Err-clause-easy g c).After-exceeds

pub returns-in-Ok-with_change-clause-easy : goal.returns-in-Ok-with_change-clause-easy
returns-in-Ok-with_change-clause-easy g c = none g (goal.at.returns-in-Ok-with_change-clause-easy g c).After-exceeds

pub returns-in-Err-with_change-clause-easy : goal.returns-in-Err-with_change-clause-easy
returns-in-Err-with_change-clause-easy g c = none g (goal.at.returns-in-Err-with_change-clause-easy g c).After-exceeds

pub exceeds-requires-clause-removed : goal.exceeds-requires-clause-removed
exceeds-requires-clause-removed g c = c.updated_list-updated_list.ensures.removed ∙ ap (λ (h : History). length (between c.args.from c.args.to (points h.held))) c.self.view_is

pub with_change-requires-clause-ready : goal.with_change-requires-clause-ready
with_change-requires-clause-ready g c = subst (λ (h : History). IsReady g.C.Chunk.format h.held c.in-Ok.change) c.self.view_is (subst (λ r. IfOk r (λ x. IsReady g.C.Chunk.format c.self.inside.chunks x)) c.in-Ok.is c.updated_list-updated_list.ensures.ready)

pub with_change-requires-clause-limits : goal.with_change-requires-clause-limits
with_change-requires-clause-limits g c = subst (λ (h : History). HasLimits (limit_for h.options.chunk_size) h.held.limits c.in-Ok.change) c.self.view_is (subst (λ n. HasLimits n c.self.inside.chunks.limits c.in-Ok.change) c.new_limit-size.ensures.limit (subst (λ r. IfOk r (λ x. HasLimits c.new_limit-size.result c.self.inside.chunks.limits x)) c.in-Ok.is c.updated_list-updated_list.ensures.limits))

pub with_change-requires-clause-list : goal.with_change-requires-clause-list
with_change-requires-clause-list g c =
    subst (λ (h : History). joined (pieces_after c.in-Ok.change h.held.pieces) ≡ put_all c.args.rows.now (outside c.args.from c.args.to (points h.held))) c.self.view_is (subst (λ r. IfOk r (λ x. joined (pieces_after x c.self.inside.chunks.pieces) ≡ put_all c.args.rows.now (outside c.args.from c.args.to (points c.self.inside.chunks)))) c.in-Ok.is c.updated_list-updated_list.ensures.list)

pub returns-then-exceeds-clause-steps : goal.returns-then-exceeds-clause-steps
returns-then-exceeds-clause-steps g c = taken g (goal.at.returns-then-exceeds-clause-steps g c).After-exceeds

pub returns-in-Err-clause-steps : goal.returns-in-Err-clause-steps
returns-in-Err-clause-steps g c = taken g (goal.at.returns-in-Err-clause-steps g c).After-exceeds

pub returns-in-Ok-with_change-clause-steps : goal.returns-in-Ok-with_change-clause-steps
returns-in-Ok-with_change-clause-steps g c = taken g (goal.at.returns-in-Ok-with_change-clause-steps g c).After-exceeds

pub returns-in-Err-with_change-clause-steps : goal.returns-in-Err-with_change-clause-steps
returns-in-Err-with_change-clause-steps g c = taken g (goal.at.returns-in-Err-with_change-clause-steps g c).After-exceeds

pub returns-then-exceeds-clause-answer : goal.returns-then-exceeds-clause-answer
returns-then-exceeds-clause-answer g c = ltb-true c.args.limit (length (list_after_update c.args.from c.args.to c.args.rows.now c.args.self.now)) (sym c.exceeds.ensures.exceeds ∙ c.if-exceeds.true)

pub returns-in-Err-clause-answer : goal.returns-in-Err-clause-answer
returns-in-Err-clause-answer g c = ltb-false c.args.limit (length (list_after_update c.args.from c.args.to c.args.rows.now c.args.self.now)) (sym c.exceeds.ensures.exceeds ∙ c.if-exceeds.false)

pub returns-in-Err-with_change-clause-answer : goal.returns-in-Err-with_change-clause-answer
returns-in-Err-with_change-clause-answer g c = ltb-false c.args.limit (length (list_after_update c.args.from c.args.to c.args.rows.now c.args.self.now)) (sym c.exceeds.ensures.exceeds ∙ c.if-exceeds.false)

pub returns-in-Ok-with_change-clause-planned : goal.returns-in-Ok-with_change-clause-planned
returns-in-Ok-with_change-clause-planned g c = c.in-Ok-with_change.ensures.planned

pub returns-in-Ok-with_change-clause-answer : goal.returns-in-Ok-with_change-clause-answer
returns-in-Ok-with_change-clause-answer g c = record {
  list = c.in-Ok-with_change.ensures.list;
  high = c.in-Ok-with_change.ensures.high;
  options = c.in-Ok-with_change.ensures.options;
  fits = ltb-false c.args.limit (length (list_after_update c.args.from c.args.to c.args.rows.now c.args.self.now)) (sym c.exceeds.ensures.exceeds ∙ c.if-exceeds.false);
}
