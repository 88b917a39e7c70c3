use Rattle.std.proofs.Common.{ℕ, List, sym, ◌∙◌, ap, subst}
use Rattle.ts_spec.specs.Keyed.{none}
use Rattle.ts_spec.specs.Text.{Error}
use Rattle.ts_db.specs.Faults.{refusal_of}
use Rattle.ts_questions.specs.Answering.{IsShort}
use Rattle.ts_questions.proofs.Short.{short_error}
use Rattle.ts_questions.proofs.faults.refusal_reply.Goals as goal

pub returns-clause-reply : goal.returns-clause-reply
returns-clause-reply c = λ ids. c.error.ensures ∙ ap (λ (l : List ℕ). Error l) (c.message.ensures ids)

pub returns-clause-short : goal.returns-clause-short
returns-clause-short c = subst IsShort (sym (c.error.ensures ∙ ap (λ (l : List ℕ). Error l) (c.message.ensures none))) (short_error (refusal_of none c.args.fault))
