use Rattle.std.proofs.lemmas.Result.{IfOk-weaker, IfErr-weaker}
use Rattle.ts_questions.proofs.GroupReplies.{numbers-few, numbers-over, numbers-text, numbers-steps}
use Rattle.ts_questions.proofs.ManyWritten.{both-ok}
use Rattle.ts_questions.proofs.group_query.GroupQueryMultiReply.put_all.Goals as goal

pub returns-clause-few : goal.returns-clause-few
returns-clause-few g c =
    IfOk-weaker c.add_groups.result _ _ (λ lost none keys are. numbers-few c.args.db.now c.args.self.now c.requires.ready keys c.args.ids.now are c.known_ids.ensures none) c.add_groups.ensures.few

pub returns-clause-written : goal.returns-clause-written
returns-clause-written g c =
    both-ok c.add_groups.result _ _ _
    (λ lost none added kept keys are.
    numbers-text c.args.db.now c.args.self.now c.requires.ready keys c.args.ids.now are c.known_ids.ensures c.args.out.now.bytes c.add_groups.new.out.bytes c.requires.empty none (added kept))
    c.add_groups.ensures.few c.add_groups.ensures.added

pub returns-clause-refused : goal.returns-clause-refused
returns-clause-refused g c =
    IfErr-weaker c.add_groups.result _ _ (λ fault some keys are. numbers-over c.args.db.now c.args.self.now c.requires.ready keys c.args.ids.now are c.known_ids.ensures some) c.add_groups.ensures.refused

pub returns-clause-steps : goal.returns-clause-steps
returns-clause-steps g c = λ keys are. numbers-steps c.args.db.now c.args.self.now keys c.args.ids.now c.args.steps.now c.add_groups.new.steps are c.known_ids.ensures c.add_groups.ensures.steps
