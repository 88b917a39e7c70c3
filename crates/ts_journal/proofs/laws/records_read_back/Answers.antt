use Rattle.ts_journal.proofs.Replays.{words-read, replays}
use Rattle.ts_journal.proofs.laws.records_read_back.Goals as goal

pub returns-clause-words : goal.returns-clause-words
returns-clause-words c = words-read

pub returns-clause-state : goal.returns-clause-state
returns-clause-state c = λ limits reading command old new reply r other. (replays limits reading other command old new reply r.done r.some).state

pub returns-clause-reply : goal.returns-clause-reply
returns-clause-reply c = λ limits reading command old new reply r other. (replays limits reading other command old new reply r.done r.some).reply
