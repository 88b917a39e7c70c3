use Rattle.std.proofs.Common.{arith}
use Rattle.ts_db.specs.Faults.{key_of_id}
use Rattle.ts_questions.proofs.gathering.is_too_long.Goals as goal

pub has_too_many_rows-requires : goal.has_too_many_rows-requires
has_too_many_rows-requires g c = record { key = key_of_id c.args.db.now.ids c.args.id; is = c.requires.is }

pub returns-clause-long : goal.returns-clause-long
returns-clause-long g c = c.has_too_many_rows.ensures.many (key_of_id c.args.db.now.ids c.args.id) c.requires.is

pub returns-clause-steps : goal.returns-clause-steps
returns-clause-steps g c = omega (arith, c.has_too_many_rows.ensures.steps (key_of_id c.args.db.now.ids c.args.id) c.requires.is)
