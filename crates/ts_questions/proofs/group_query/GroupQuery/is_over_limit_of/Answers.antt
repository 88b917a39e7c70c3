use Rattle.std.proofs.Common.{sym, ◌∙◌, arith}
use Rattle.ts_range.specs.Query.{query_of}
use Rattle.ts_questions.specs.Bounds.{series_query_steps}
use Rattle.ts_questions.specs.GroupQuery.{has_label, series_at}
use Rattle.ts_questions.proofs.Gathered.{without-too-much, with-too-much, series-refused, steps-with, steps-without}
use Rattle.ts_questions.proofs.group_query.GroupQuery.is_over_limit_of.Goals as goal

pub returns-then-not-asks-clause-refused : goal.returns-then-not-asks-clause-refused
returns-then-not-asks-clause-refused g c = λ key at.
    sym (without-too-much (series_at c.args.db.now c.args.self.now.latest (query_of c.args.self.now.query) key) (has_label c.args.db.now c.args.self.now.by.label key)
    (sym (c.asks.ensures key at) ∙ c.if-not-asks.true))

pub returns-then-not-asks-clause-steps : goal.returns-then-not-asks-clause-steps
returns-then-not-asks-clause-steps g c = λ key at.
    steps-without (has_label c.args.db.now c.args.self.now.by.label key) c.args.steps.now (series_query_steps c.args.db.now key c.args.self.now.query.from c.args.self.now.query.to)

pub returns-clause-refused : goal.returns-clause-refused
returns-clause-refused g c = λ key at.
    c.has_too_many_rows.ensures.many key at
    ∙ series-refused c.args.db.now c.args.self.now.latest (query_of c.args.self.now.query) key
    ∙ with-too-much (series_at c.args.db.now c.args.self.now.latest (query_of c.args.self.now.query) key) (has_label c.args.db.now c.args.self.now.by.label key)
    (sym (c.asks.ensures key at) ∙ c.if-not-asks.false)

pub returns-clause-steps : goal.returns-clause-steps
returns-clause-steps g c = λ key at.
    steps-with (has_label c.args.db.now c.args.self.now.by.label key) c.args.steps.now c.has_too_many_rows.new.steps
    (series_query_steps c.args.db.now key c.args.self.now.query.from c.args.self.now.query.to) (sym (c.asks.ensures key at) ∙ c.if-not-asks.false)
    (omega (arith, c.has_too_many_rows.ensures.steps key at))
