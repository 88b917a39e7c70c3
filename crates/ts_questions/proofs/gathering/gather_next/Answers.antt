use Rattle.std.proofs.Common.{ap, sym, ◌∙◌}
use Rattle.ts_questions.specs.Members.{is_too_many}
use Rattle.ts_questions.proofs.gathering.gather_next.Goals as goal

pub returns-in-Err-Memory-clause-few : goal.returns-in-Err-Memory-clause-few
returns-in-Err-Memory-clause-few g c = sym c.in-Err-Memory.ensures.fault ∙ ap is_too_many c.in-Err-Memory.field-0-is
