use Rattle.std.proofs.Common.{◌≡◌, Bool, true, false, List, refl, ap, ◌∙◌}
use Rattle.std.specs.Prelude.{◌&&◌, if◌then◌else◌, is_none, length, nat_lt, None, Some}
use Rattle.ts_spec.specs.declared.limits.Limits.{Limits}
use Rattle.ts_spec.specs.Answer.{Row, rows, includes_empty}
use Rattle.ts_spec.specs.StoredQueries.{stored_asked}
use Rattle.ts_range.specs.Query.{query_of}
use Rattle.ts_questions.proofs.Finding.{ends_are}
use Rattle.ts_questions.proofs.row_plans.has_too_many_rows.Goals as goal

-- there is no answer exactly where this is true
none-where : (b : Bool) (rows : List Row) → b ≡ is_none (if b then None else Some rows)
none-where true rows = refl
none-where false rows = refl

pub returns-clause-many : goal.returns-clause-many
returns-clause-many g c = λ key at.
    let q = query_of c.args.query.now in
    let all = stored_asked c.args.db.now.keys c.args.latest key in
    c.are_too_many.ensures all (λ told. c.ends_of-ends.ensures.ends key at ∙ ends_are all)
    ∙ ap (λ (l : Limits). includes_empty q.buckets && nat_lt l.empty_rows (length (rows q all))) c.limits.ensures.limits
    ∙ none-where (includes_empty q.buckets && nat_lt c.args.db.now.limits.empty_rows (length (rows q all))) (rows q all)
