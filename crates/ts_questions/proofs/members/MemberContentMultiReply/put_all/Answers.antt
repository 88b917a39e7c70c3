use Rattle.std.proofs.lemmas.Result.{IfOk-weaker, IfErr-weaker}
use Rattle.ts_questions.proofs.ManyReplies.{many-few, many-over, many-text}
use Rattle.ts_questions.proofs.members.MemberContentMultiReply.put_all.Goals as goal

pub returns-clause-few : goal.returns-clause-few
returns-clause-few g c =
    IfOk-weaker c.add_members.result _ _ (λ lost added keys are. many-few c.args.db.now c.args.self.now keys c.args.out.now.bytes c.add_members.new.out.bytes lost (added keys are)) c.add_members.ensures.added

pub returns-clause-written : goal.returns-clause-written
returns-clause-written g c =
    IfOk-weaker c.add_members.result _ _
    (λ lost added kept keys are. many-text c.args.db.now c.args.self.now keys c.args.out.now.bytes c.add_members.new.out.bytes lost c.requires.empty (added keys are) kept) c.add_members.ensures.added

pub returns-clause-refused : goal.returns-clause-refused
returns-clause-refused g c = IfErr-weaker c.add_members.result _ _ (λ fault none keys are. many-over c.args.db.now c.args.self.now keys (none keys are)) c.add_members.ensures.refused
