use Rattle.std.proofs.Common.{ap, sym, ◌∙◌}
use Rattle.ts_spec.specs.Text.{text}
use Rattle.ts_questions.specs.Members.{is_too_many, reply_at}
use Rattle.ts_questions.proofs.ManyReplies.{none-by}
use Rattle.ts_questions.proofs.ManyTexts.{added-kept, told-lost}
use Rattle.ts_questions.proofs.members.add_next.Goals as goal

pub returns-then-is_refused-clause-refused : goal.returns-then-is_refused-clause-refused
returns-then-is_refused-clause-refused g c = λ key at.
    none-by (reply_at c.args.db.now.limits c.args.db.now.keys c.args.wanted.now key) (sym (c.is_refused.ensures.refused key at) ∙ c.if-is_refused.true)

pub returns-then-lost-clause-added : goal.returns-then-lost-clause-added
returns-then-lost-clause-added g c = λ key at.
    told-lost text (reply_at c.args.db.now.limits c.args.db.now.keys c.args.wanted.now key) c.args.out.now.bytes c.args.out.now.bytes
    (sym (c.is_refused.ensures.refused key at) ∙ c.if-is_refused.false)

pub returns-in-Ok-clause-added : goal.returns-in-Ok-clause-added
returns-in-Ok-clause-added g c = λ key at.
    added-kept text (reply_at c.args.db.now.limits c.args.db.now.keys c.args.wanted.now key) c.args.out.now.bytes c.add_member.new.out.bytes (c.in-Ok.ensures.added key at)

pub returns-in-Err-Memory-clause-added : goal.returns-in-Err-Memory-clause-added
returns-in-Err-Memory-clause-added g c = λ key at.
    told-lost text (reply_at c.args.db.now.limits c.args.db.now.keys c.args.wanted.now key) c.args.out.now.bytes c.add_member.new.out.bytes
    (sym (c.in-Err-Memory.ensures.fault key at) ∙ ap is_too_many c.in-Err-Memory.field-0-is)
