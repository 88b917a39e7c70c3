use Rattle.std.proofs.Common.{◌≡◌, ⊎_elim, take, refl, ◌∙◌, ap}
use Rattle.ts_spec.specs.State.{empty}
use Rattle.ts_spec.specs.declared.limits.Limits.{Limits}
use Rattle.ts_engine.specs.Folding.{HasCheckpoint}
use Rattle.ts_engine.proofs.Folds.{alike-stands}
use Rattle.ts_engine.proofs.HostLoads.{opened-over, folded-over, unfolded-over}
use Rattle.ts_engine.proofs.Openings.{not-loaded}
use Rattle.ts_engine.proofs.host_run.host_journal.Goals as goal

pub returns-in-Ok-fold_if_due-clause-ends : goal.returns-in-Ok-fold_if_due-clause-ends
returns-in-Ok-fold_if_due-clause-ends g c = λ journal has.
    let opened = c.in-Ok.ensures.opened (record { limits = c.args.options.now.limits; state = empty }) c.new-db.ensures.stands in
    let its = opened.done journal has in
    ⊎_elim
    (λ (same : g.J.Log.content c.fold_if_due.new.log ≡ g.J.Log.content c.open_journal.new.log).
    let ended = c.serve_links.ensures.ends opened.to opened.stands in
    opened-over _ c.requires.bounded journal _ _ opened.to c.in-Ok.extent (its.0, same ∙ its.1) c.serve_links.result ended.done)
    (λ (checkpoint : HasCheckpoint opened.to (g.J.Log.content c.fold_if_due.new.log)).
    let ended = c.serve_links.ensures.ends (record { limits = opened.to.limits; state = checkpoint.new }) (alike-stands _ opened.to checkpoint.new opened.stands checkpoint.same) in
    folded-over _ c.requires.bounded journal _ _ opened.to c.in-Ok.extent its _ checkpoint c.serve_links.result ended.done)
    (c.fold_if_due.ensures.content opened.to opened.stands (ap (λ (l : Limits). l.wire) its.0.1) (take c.in-Ok.extent.end journal) its.1)

pub returns-in-Ok-clause-ends : goal.returns-in-Ok-clause-ends
returns-in-Ok-clause-ends g c = λ journal has.
    let opened = c.in-Ok.ensures.opened (record { limits = c.args.options.now.limits; state = empty }) c.new-db.ensures.stands in
    let its = opened.done journal has in
    unfolded-over _ c.requires.bounded journal _ _ opened.to c.in-Ok.extent its refl refl refl
    (c.fold_if_due.ensures.content opened.to opened.stands (ap (λ (l : Limits). l.wire) its.0.1) (take c.in-Ok.extent.end journal) its.1)

pub returns-clause-ends : goal.returns-clause-ends
returns-clause-ends g c = λ journal has.
    let opened = c.in-Err.ensures.opened (record { limits = c.args.options.now.limits; state = empty }) c.new-db.ensures.stands in
    not-loaded c.in-Err.fault c.args.options.now.limits c.args.options.now.budget opened.to journal _ _ (λ same. (refl, refl, refl, same)) (opened.done journal has)
