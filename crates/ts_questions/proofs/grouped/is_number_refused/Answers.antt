use Rattle.ts_db.specs.Faults.{key_of_id}
use Rattle.ts_questions.proofs.grouped.is_number_refused.Goals as goal

pub is_refused-requires : goal.is_refused-requires
is_refused-requires g c = record { key = key_of_id c.args.db.now.ids c.args.id; is = c.requires.is }

pub returns-clause-refused : goal.returns-clause-refused
returns-clause-refused g c = c.is_refused.ensures.refused (key_of_id c.args.db.now.ids c.args.id) c.requires.is

pub returns-clause-steps : goal.returns-clause-steps
returns-clause-steps g c = c.is_refused.ensures.steps (key_of_id c.args.db.now.ids c.args.id) c.requires.is
