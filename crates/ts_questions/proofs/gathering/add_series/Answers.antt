use Rattle.std.proofs.Common.{◌≡◌, ◌∙◌, ℕ, ◌+◌, ◌≤◌, [], ◌∷◌, map, sym, ap, subst}
use Rattle.std.specs.Prelude.{false, is_none}
use Rattle.std.proofs.lemmas.Result.{err_from_is_err_and}
use Rattle.ts_db.specs.Faults.{key_of_id}
use Rattle.ts_range.specs.Query.{row_of}
use Rattle.ts_questions.specs.Asking.{queried_key, queried_answer}
use Rattle.ts_questions.specs.Bounds.{series_query_steps}
use Rattle.ts_questions.specs.GroupQuery.{AreAddedTo, is_too_long, id_steps, numbered, rows_at_id, rows_or_none}
use Rattle.ts_questions.proofs.Asking.{answer-of, steps-of}
use Rattle.ts_questions.proofs.MemberTexts.{in-memory-done, memory-fault}
use Rattle.ts_questions.proofs.gathering.add_series.Goals as goal
use Rattle.ts_questions.proofs.gathering.add_series.Goals.{After-new-series_query}

-- the answer to the question is that of the key
module _ (g : _) (c : After-new-series_query g) where
  answered : queried_answer c.new-series_query.result ≡ rows_at_id c.args.db.now c.args.group_query.now c.args.id
  answered = answer-of c.new-series_query.result c.args.db.now c.args.group_query.now.latest c.args.group_query.now.query (key_of_id c.args.db.now.ids c.args.id)
      c.new-series_query.ensures.db c.new-series_query.ensures.latest c.new-series_query.ensures.query (c.new-series_query.ensures.key (key_of_id c.args.db.now.ids c.args.id) c.requires.numbered.is)

  -- and so are the steps that it may take
  few : (new : ℕ) → new ≤ c.args.steps.now + series_query_steps c.new-series_query.result.db.now (queried_key c.new-series_query.result) c.new-series_query.result.query.now.from c.new-series_query.result.query.now.to
      → new ≤ c.args.steps.now + id_steps c.args.db.now c.args.group_query.now c.args.id
  few new = subst (λ (most : ℕ). new ≤ c.args.steps.now + most)
      (steps-of c.new-series_query.result c.args.db.now c.args.group_query.now.latest c.args.group_query.now.query (key_of_id c.args.db.now.ids c.args.id)
      c.new-series_query.ensures.db c.new-series_query.ensures.latest c.new-series_query.ensures.query (c.new-series_query.ensures.key (key_of_id c.args.db.now.ids c.args.id) c.requires.numbered.is))

pub new-series_query-requires-clause-live : goal.new-series_query-requires-clause-live
new-series_query-requires-clause-live g c = record { key = key_of_id c.args.db.now.ids c.args.id; is = c.requires.numbered.is }

pub key_of-requires : goal.key_of-requires
key_of-requires g c = record { key = key_of_id c.args.db.now.ids c.args.id; is = c.requires.numbered.is }

-- there was no memory for the filters
pub returns-in_default-clause-fault : goal.returns-in_default-clause-fault
returns-in_default-clause-fault g c = sym c.lost.ensures ∙ c.is_too_long.ensures.long

-- the rows are too many, or there was no memory for them
pub returns-in_err-rows-clause-fault : goal.returns-in_err-rows-clause-fault
returns-in_err-rows-clause-fault g c =
    let p = err_from_is_err_and c.from_residual.result c.from_residual.ensures.1 in
    rw (p.1, p.2) (c.in_err-rows.ensures.fault ∙ ap is_none (answered g (goal.at.returns-in_err-rows-clause-fault g c).After-new-series_query))

pub returns-in_err-rows-clause-steps : goal.returns-in_err-rows-clause-steps
returns-in_err-rows-clause-steps g c = few g (goal.at.returns-in_err-rows-clause-steps g c).After-new-series_query c.rows_of.new.steps c.rows_of.ensures.steps

pub returns-clause-steps : goal.returns-clause-steps
returns-clause-steps g c = few g (goal.at.returns-clause-steps g c).After-new-series_query c.rows_of.new.steps c.rows_of.ensures.steps

-- they were added, or there was no memory for that
pub returns-clause-fault : goal.returns-clause-fault
returns-clause-fault g c =
    memory-fault c.add_rows.result c.in_memory.result
    (λ b. b ≡ is_too_long c.args.db.now c.args.group_query.now c.args.id) c.in_memory.ensures
    (sym (ap is_none (sym (answered g (goal.at.returns-clause-fault g c).After-new-series_query) ∙ c.in_ok-rows.ensures.rows)))

pub returns-clause-few : goal.returns-clause-few
returns-clause-few g c =
    in-memory-done c.add_rows.result c.in_memory.result _ (is_too_long c.args.db.now c.args.group_query.now c.args.id ≡ false)
    c.in_memory.ensures
    (λ done. ap is_none (sym (answered g (goal.at.returns-clause-few g c).After-new-series_query) ∙ c.in_ok-rows.ensures.rows))
    c.add_rows.ensures

pub returns-clause-added : goal.returns-clause-added
returns-clause-added g c =
    in-memory-done c.add_rows.result c.in_memory.result _ (AreAddedTo c.args.db.now c.args.group_query.now (c.args.id ∷ []) c.args.group.now c.add_rows.new.self)
    c.in_memory.ensures
    (λ adds ms is. adds ms (numbered c.args.db.now c.args.group_query.now c.args.id)
    (sym (c.bytes.ensures ∙ c.key_of.ensures.key))
    (ap rows_or_none (sym (answered g (goal.at.returns-clause-added g c).After-new-series_query) ∙ c.in_ok-rows.ensures.rows) ∙ ap (map row_of) (sym c.deref.ensures.value)) is)
    c.add_rows.ensures
