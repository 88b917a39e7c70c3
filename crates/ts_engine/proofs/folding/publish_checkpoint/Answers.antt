use Rattle.std.proofs.Common.{◌≡◌, inl, inr, ⊎_elim, ◌∙◌}
use Rattle.ts_engine.proofs.Folds.{written-checkpoint}
use Rattle.ts_engine.proofs.folding.publish_checkpoint.Goals as goal

pub returns-in-Ok-publish-clause-folds : goal.returns-in-Ok-publish-clause-folds
returns-in-Ok-publish-clause-folds g c = λ held stands wire journal told none.
    written-checkpoint held c.args.limits (g.J.Log.drafted c.args.log.now) (g.J.Log.drafted c.write_checkpoint.new.log) (g.J.Log.content c.publish.new.self) wire c.requires.bounded none
    (c.in-Ok.ensures.written held stands) c.in-Ok-publish.ensures.done c.a_checkpoint_restores.ensures.stored

pub returns-in-Err-publish-clause-folds : goal.returns-in-Err-publish-clause-folds
returns-in-Err-publish-clause-folds g c = λ held stands wire journal told none.
    ⊎_elim (λ (same : g.J.Log.content c.publish.new.self ≡ g.J.Log.content c.write_checkpoint.new.log). inl (same ∙ c.write_checkpoint.ensures.content ∙ told))
    (λ (is : g.J.Log.content c.publish.new.self ≡ g.J.Log.drafted c.write_checkpoint.new.log). inr
    (written-checkpoint held c.args.limits (g.J.Log.drafted c.args.log.now) (g.J.Log.drafted c.write_checkpoint.new.log) (g.J.Log.content c.publish.new.self) wire c.requires.bounded none
    (c.in-Ok.ensures.written held stands) is c.a_checkpoint_restores.ensures.stored))
    c.in-Err-publish.ensures.failed
