use Rattle.std.proofs.Common.{◌≡◌, ◌++◌, ◌∙◌, ℕ, ◌+◌, ◌≤◌, map, sym, ap, subst, arith}
use Rattle.std.specs.Prelude.{Some, is_none}
use Rattle.std.proofs.lemmas.Result.{err_from_is_err_and}
use Rattle.ts_spec.specs.Answer.{answer}
use Rattle.ts_spec.specs.Key.{Key}
use Rattle.ts_spec.specs.Keyed.{get}
use Rattle.ts_spec.specs.StoredQueries.{stored_asked, stored_member}
use Rattle.ts_spec.specs.Replies.{member_reply}
use Rattle.ts_spec.specs.Text.{text}
use Rattle.ts_labels.specs.Show.{show_of}
use Rattle.ts_range.specs.Query.{query_of, row_of}
use Rattle.ts_multi.specs.Members.{member_with}
use Rattle.ts_questions.specs.Asking.{queried_key, queried_answer}
use Rattle.ts_questions.specs.Bounds.{series_query_steps}
use Rattle.ts_questions.specs.Members.{rows_at, IsAdded}
use Rattle.ts_questions.proofs.Asking.{answer-of, steps-of}
use Rattle.ts_questions.proofs.MemberTexts.{in-memory-done, memory-fault, member-told, rows-added, rows-some, rows-refused}
use Rattle.ts_questions.proofs.member.add_rows.Goals as goal
use Rattle.ts_questions.proofs.member.add_rows.Goals.{After-new-series_query}

-- the answer to the question is that of the key
module _ (g : _) (c : After-new-series_query g) (key : Key) (at : get key c.args.db.now.ids ≡ Some c.args.id) where
  answered : queried_answer c.new-series_query.result ≡ answer c.args.db.now.limits.empty_rows (query_of c.args.asked.now.query) (stored_asked c.args.db.now.keys c.args.asked.now.latest key)
  answered = answer-of c.new-series_query.result c.args.db.now c.args.asked.now.latest c.args.asked.now.query key c.new-series_query.ensures.db c.new-series_query.ensures.latest c.new-series_query.ensures.query (c.new-series_query.ensures.key key at)

  -- and so are the steps that it may take
  few : (new : ℕ) → new ≤ c.args.steps.now + series_query_steps c.new-series_query.result.db.now (queried_key c.new-series_query.result) c.new-series_query.result.query.now.from c.new-series_query.result.query.now.to
      → new ≤ c.args.steps.now + series_query_steps c.args.db.now key c.args.asked.now.query.from c.args.asked.now.query.to
  few new = subst (λ (most : ℕ). new ≤ c.args.steps.now + most)
      (steps-of c.new-series_query.result c.args.db.now c.args.asked.now.latest c.args.asked.now.query key c.new-series_query.ensures.db c.new-series_query.ensures.latest c.new-series_query.ensures.query (c.new-series_query.ensures.key key at))

-- there was no memory for the filters
pub returns-in_default-clause-fault : goal.returns-in_default-clause-fault
returns-in_default-clause-fault g c = λ key at.
    sym c.lost.ensures ∙ c.has_too_many_rows.ensures.many key at
    ∙ rows-refused c.args.db.now.limits c.args.db.now.keys c.args.asked.now.latest (show_of c.args.asked.now.show) (query_of c.args.asked.now.query) key

pub returns-in_default-clause-steps : goal.returns-in_default-clause-steps
returns-in_default-clause-steps g c = λ key at. omega (arith, c.has_too_many_rows.ensures.steps key at)

-- the rows are too many, or there was no memory for them
pub returns-in_err-rows-clause-fault : goal.returns-in_err-rows-clause-fault
returns-in_err-rows-clause-fault g c =
    let p = err_from_is_err_and c.from_residual.result c.from_residual.ensures.1 in
    rw (p.1, p.2) (λ key at.
    c.in_err-rows.ensures.fault ∙ ap is_none (answered g (goal.at.returns-in_err-rows-clause-fault g c).After-new-series_query key at)
    ∙ rows-refused c.args.db.now.limits c.args.db.now.keys c.args.asked.now.latest (show_of c.args.asked.now.show) (query_of c.args.asked.now.query) key)

pub returns-in_err-rows-clause-steps : goal.returns-in_err-rows-clause-steps
returns-in_err-rows-clause-steps g c = λ key at. few g (goal.at.returns-in_err-rows-clause-steps g c).After-new-series_query key at c.rows_of.new.steps c.rows_of.ensures.steps

pub returns-clause-steps : goal.returns-clause-steps
returns-clause-steps g c = λ key at. few g (goal.at.returns-clause-steps g c).After-new-series_query key at c.rows_of.new.steps c.rows_of.ensures.steps

-- they were told, or there was no memory for that
pub returns-clause-fault : goal.returns-clause-fault
returns-clause-fault g c =
    memory-fault c.encode_member.result c.in_memory.result
    (λ b. (key : Key) → get key c.args.db.now.ids ≡ Some c.args.id → b ≡ is_none (rows_at c.args.db.now.limits c.args.db.now.keys c.args.asked.now.latest (show_of c.args.asked.now.show) (query_of c.args.asked.now.query) key))
    c.in_memory.ensures
    (λ key at.
    sym (rows-some c.args.db.now.limits c.args.db.now.keys c.args.asked.now.latest (show_of c.args.asked.now.show) (query_of c.args.asked.now.query) key (map row_of c.in_ok-rows.rows.items)
    (sym (answered g (goal.at.returns-clause-fault g c).After-new-series_query key at) ∙ c.in_ok-rows.ensures.rows)))

pub returns-clause-added : goal.returns-clause-added
returns-clause-added g c =
    let m = c.args.db.now.keys in
    in-memory-done c.encode_member.result c.in_memory.result
    (c.encode_member.new.out.bytes ≡ c.args.out.now.bytes ++ text (member_reply (member_with c.args.asked.now.show c.key_of.result.now c.labels_of.result.now (map row_of c.deref.result.now))))
    ((key : Key) → get key c.args.db.now.ids ≡ Some c.args.id → IsAdded text (rows_at c.args.db.now.limits m c.args.asked.now.latest (show_of c.args.asked.now.show) (query_of c.args.asked.now.query) key) c.args.out.now.bytes c.encode_member.new.out.bytes)
    c.in_memory.ensures
    (λ written key at.
    rows-added c.args.db.now.limits m c.args.asked.now.latest (show_of c.args.asked.now.show) (query_of c.args.asked.now.query) key (map row_of c.in_ok-rows.rows.items)
    (member_with c.args.asked.now.show c.key_of.result.now c.labels_of.result.now (map row_of c.deref.result.now)) c.args.out.now.bytes c.encode_member.new.out.bytes
    (sym (answered g (goal.at.returns-clause-added g c).After-new-series_query key at) ∙ c.in_ok-rows.ensures.rows)
    (member-told m c.args.asked.now.show key c.key_of.result.now c.labels_of.result.now (map row_of c.deref.result.now) (c.key_of.ensures.key ∙ c.key_of.ensures.one key at) (c.labels_of.ensures.labels key at)
    ∙ ap (λ rows. stored_member m (show_of c.args.asked.now.show) key (map row_of rows)) c.deref.ensures.value)
    written)
    c.encode_member.ensures.ok
