use Rattle.std.proofs.Common.{sym, subst, arith}
use Rattle.ts_resp.specs.Replies.{reply_of}
use Rattle.ts_questions.specs.Answering.{IsShort}
use Rattle.ts_execution.proofs.Dropping.{drops_all}
use Rattle.ts_execution.proofs.ShortAnswers.{short_number}
use Rattle.ts_execution.proofs.redis_commands.drop_keys.Goals as goal

pub returns-clause-answer : goal.returns-clause-answer
returns-clause-answer c =
    drops_all c.args.db.now c.drop_keys.new.self c.args.keys.now c.drop_keys.result (reply_of c.number.result) c.number.ensures c.drop_keys.ensures.dropped

pub returns-clause-short : goal.returns-clause-short
returns-clause-short c = subst IsShort (sym c.number.ensures) (short_number c.drop_keys.result (omega (arith, c.drop_keys.ensures.bounded, c.requires.few)))
