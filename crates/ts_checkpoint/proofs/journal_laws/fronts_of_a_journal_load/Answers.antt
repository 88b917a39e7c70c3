use Rattle.ts_checkpoint.proofs.JournalFronts.{fronts-load, records-load}
use Rattle.ts_checkpoint.proofs.JournalGrown.{none-only}
use Rattle.ts_checkpoint.proofs.JournalLoads.{load-within, whole-loads}
use Rattle.ts_checkpoint.proofs.journal_laws.fronts_of_a_journal_load.Goals as goal

pub returns-clause-fronts : goal.returns-clause-fronts
returns-clause-fronts c = fronts-load

pub returns-clause-records : goal.returns-clause-records
returns-clause-records c = λ limits bytes m place e only n past. records-load limits bytes m place e n only past

pub returns-clause-none : goal.returns-clause-none
returns-clause-none c = none-only

pub returns-clause-within : goal.returns-clause-within
returns-clause-within c = load-within

pub returns-clause-whole : goal.returns-clause-whole
returns-clause-whole c = whole-loads
