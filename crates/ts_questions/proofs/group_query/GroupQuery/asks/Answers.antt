use Rattle.std.proofs.Common.{ap, ◌∙◌}
use Rattle.std.specs.Prelude.{is_some}
use Rattle.ts_spec.specs.Filter.{value_of}
use Rattle.ts_questions.proofs.Gathered.{some-copied}
use Rattle.ts_questions.proofs.group_query.GroupQuery.asks.Goals as goal

pub returns : goal.returns
returns c = λ key at.
    c.is_some.ensures ∙ some-copied c.get.result ∙ ap is_some c.get.ensures
    ∙ ap (λ labels. is_some (value_of c.args.self.now.by.label labels)) (c.labels_of.ensures.labels key at)
