use Rattle.std.specs.Prelude.{Err}
use Rattle.std.proofs.Common.{ℕ, refl, ap, subst}
use Rattle.ts_io.specs.Causes.{Rose}
use Rattle.ts_spec.specs.State.{empty}
use Rattle.ts_engine.specs.Journaled.{status_of}
use Rattle.ts_engine.proofs.JournaledRuns.{kept-did, kept-complete, causes-not, causes-on}
use Rattle.ts_engine.proofs.Openings.{not-loaded, unloaded-complete}
use Rattle.ts_engine.proofs.keep.keep.Goals as goal

pub returns-in-Ok-clause-did : goal.returns-in-Ok-clause-did
returns-in-Ok-clause-did g c = λ journal bytes has told.
    let opened = c.in-Ok.ensures.opened (record { limits = c.args.options.now.limits; state = empty }) c.new-db.ensures.stands in
    let answered = c.answer_input.ensures.answered opened.to opened.stands in
    kept-did c.args.options.now.limits _ _ _ _ _ _ _ journal bytes c.args.options.now.budget c.answer_input.result opened.to answered.to c.in-Ok.field-0 (opened.done journal has) _ _ _ _ _ _ (answered.done bytes told) c.requires.bounded _

pub returns-in-Ok-clause-complete : goal.returns-in-Ok-clause-complete
returns-in-Ok-clause-complete g c = λ journal bytes has told no_read no_write no_fault.
    let opened = c.in-Ok.ensures.opened (record { limits = c.args.options.now.limits; state = empty }) c.new-db.ensures.stands in
    let answered = c.answer_input.ensures.answered opened.to opened.stands in
    kept-complete c.args.options.now.limits _ _ _ _ _ _ _ journal bytes c.args.options.now.budget c.answer_input.result opened.to answered.to c.in-Ok.field-0 (opened.done journal has) _ _ _ _ _ _ (answered.done bytes told) no_read no_write
    (λ rose. no_fault (subst (λ (n : ℕ). Rose n (g.J.Log.faults c.answer_input.new.log)) (c.in-Ok.ensures.no_fault (λ is. (cc))) rose))

pub returns-in-Ok-clause-causes : goal.returns-in-Ok-clause-causes
returns-in-Ok-clause-causes g c = causes-on (status_of c.answer_input.result) _ _ _ _ _ _ _ (c.in-Ok.ensures.no_fault (λ is. (cc))) c.answer_input.ensures.causes

pub returns-clause-did : goal.returns-clause-did
returns-clause-did g c = λ journal bytes has told.
    let opened = c.in-Err.ensures.opened (record { limits = c.args.options.now.limits; state = empty }) c.new-db.ensures.stands in
    not-loaded c.in-Err.fault c.args.options.now.limits c.args.options.now.budget opened.to journal _ _ (λ same. ((refl, refl, refl), same)) (opened.done journal has)

pub returns-clause-complete : goal.returns-clause-complete
returns-clause-complete g c = λ journal bytes has told no_read no_write no_fault.
    let opened = c.in-Err.ensures.opened (record { limits = c.args.options.now.limits; state = empty }) c.new-db.ensures.stands in
    unloaded-complete c.in-Err.fault c.args.options.now.limits c.args.options.now.budget journal _ _
    (not-loaded c.in-Err.fault c.args.options.now.limits c.args.options.now.budget opened.to journal _ _ (λ same. same) (opened.done journal has))
    (λ is. no_fault (c.in-Err.ensures.fault (ap Err is)))

pub returns-clause-causes : goal.returns-clause-causes
returns-clause-causes g c =
    causes-not c.in-Err.fault _ _ _ _ (λ is. c.in-Err.ensures.fault (ap Err is)) (λ other. c.in-Err.ensures.no_fault (λ is. other (cc)))
