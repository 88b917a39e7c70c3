use Rattle.std.proofs.Common.{ℕ, ◌+◌, ◌≤◌, List, subst, arith}
use Rattle.std.specs.Prelude.{Option}
use Rattle.ts_spec.specs.Answer.{Row, answer}
use Rattle.ts_spec.specs.StoredQueries.{stored_asked}
use Rattle.ts_spec.specs.Queries.{rows_response}
use Rattle.ts_range.specs.Query.{query_of}
use Rattle.ts_questions.specs.Answering.{IsReplyText}
use Rattle.ts_questions.proofs.Asking.{answer-of, steps-of}
use Rattle.ts_questions.proofs.ManyWritten.{rows-lost}
use Rattle.ts_questions.proofs.query_replies.write_rows_of.Goals as goal

pub returns-in-Ok-clause-reply : goal.returns-in-Ok-clause-reply
returns-in-Ok-clause-reply g c = λ key at.
    subst (λ (o : Option (List Row)). IsReplyText (rows_response o) c.write_rows.new.out.bytes)
    (answer-of c.new.result c.args.db.now c.args.latest c.args.query.now key c.new.ensures.db c.new.ensures.latest c.new.ensures.query (c.new.ensures.key key at))
    c.write_rows.ensures.reply

pub returns-in-Ok-clause-steps : goal.returns-in-Ok-clause-steps
returns-in-Ok-clause-steps g c = λ key at.
    subst (λ (most : ℕ). c.write_rows.new.steps ≤ c.args.steps.now + most)
    (steps-of c.new.result c.args.db.now c.args.latest c.args.query.now key c.new.ensures.db c.new.ensures.latest c.new.ensures.query (c.new.ensures.key key at))
    c.write_rows.ensures.steps

pub returns-in-Err-clause-reply : goal.returns-in-Err-clause-reply
returns-in-Err-clause-reply g c = λ key at.
    rows-lost c.has_too_many_rows.result (answer c.args.db.now.limits.empty_rows (query_of c.args.query.now) (stored_asked c.args.db.now.keys c.args.latest key)) c.write_row_error.new.out.bytes
    (c.has_too_many_rows.ensures.many key at) c.write_row_error.ensures.bytes

pub returns-in-Err-clause-steps : goal.returns-in-Err-clause-steps
returns-in-Err-clause-steps g c = λ key at. omega (arith, c.has_too_many_rows.ensures.steps key at)
