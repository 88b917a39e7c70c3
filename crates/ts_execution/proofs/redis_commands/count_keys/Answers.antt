use Rattle.std.proofs.Common.{sym, subst, arith}
use Rattle.ts_questions.specs.Answering.{IsShort}
use Rattle.ts_execution.proofs.ShortAnswers.{short_number}
use Rattle.ts_execution.proofs.redis_commands.count_keys.Goals as goal

pub returns-clause-short : goal.returns-clause-short
returns-clause-short c = subst IsShort (sym c.number.ensures) (short_number c.loop-key.count (omega (arith, c.loop-key.invariant.count, c.requires.few)))
