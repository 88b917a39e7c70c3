use Rattle.ts_questions.proofs.ManyReplies.{many-written}
use Rattle.ts_questions.proofs.members.write_members.Goals as goal

pub returns-clause-reply : goal.returns-clause-reply
returns-clause-reply g c = many-written c.args.db.now c.args.wanted.now c.args.filters.now c.write_many.new.out.bytes c.write_many.ensures.reply
