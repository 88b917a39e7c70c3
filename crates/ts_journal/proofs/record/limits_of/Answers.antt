use Rattle.ts_journal.proofs.Fitting.{record-fits, records-read}
use Rattle.ts_journal.proofs.record.limits_of.Goals as goal

pub returns-clause-fits : goal.returns-clause-fits
returns-clause-fits c = record-fits c.args.limits

pub returns-clause-requests : goal.returns-clause-requests
returns-clause-requests c = λ records all. (records-read c.args.limits c.requires records all).0

pub returns-clause-ending : goal.returns-clause-ending
returns-clause-ending c = λ records all. (records-read c.args.limits c.requires records all).1
