use Rattle.ts_journal.proofs.Grown.{record-begins}
use Rattle.ts_journal.specs.Record.{record_of}
use Rattle.ts_checkpoint.proofs.JournalGrown.{record-grown, grown-only}
use Rattle.ts_checkpoint.proofs.journal_laws.a_journal_grows_by_records.Goals as goal

pub returns-clause-whole : goal.returns-clause-whole
returns-clause-whole c = λ limits bytes reading command old new reply b loads r within.
    (record-grown limits bytes reading command old new reply b loads r within).whole

pub returns-clause-torn : goal.returns-clause-torn
returns-clause-torn c = λ limits bytes reading command old new reply b loads r within.
    (record-grown limits bytes reading command old new reply b loads r within).torn

pub returns-clause-records : goal.returns-clause-records
returns-clause-records c = λ limits bytes reading command old new reply b loads r within.
    grown-only limits bytes (record_of command reading reply) old new
    (record-grown limits bytes reading command old new reply b loads r within) (record-begins command reading reply r.some)
