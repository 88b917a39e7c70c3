use Rattle.std.proofs.Common.{◌∙◌, arith}
use Rattle.ts_labels.specs.Show.{show_of}
use Rattle.ts_range.specs.Query.{query_of}
use Rattle.ts_questions.proofs.MemberTexts.{rows-refused}
use Rattle.ts_questions.proofs.members.is_refused.Goals as goal

pub returns-in-Rows-clause-refused : goal.returns-in-Rows-clause-refused
returns-in-Rows-clause-refused g c =
    let db_view = c.args.db.now in
    rw c.in-Rows.is (λ key at.
    c.has_too_many_rows.ensures.many key at
    ∙ rows-refused db_view.limits db_view.keys c.in-Rows.asked.latest (show_of c.in-Rows.asked.show) (query_of c.in-Rows.asked.query) key)

pub returns-in-Rows-clause-steps : goal.returns-in-Rows-clause-steps
returns-in-Rows-clause-steps g c = rw c.in-Rows.is (λ key at. omega (arith, c.has_too_many_rows.ensures.steps key at))
