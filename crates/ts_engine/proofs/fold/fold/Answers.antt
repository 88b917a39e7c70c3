use Rattle.std.specs.Prelude.{Ok, Err, Some}
use Rattle.std.proofs.Common.{◌≡◌, ◌∙◌, ap, subst}
use Rattle.ts_spec.specs.State.{empty}
use Rattle.ts_spec.specs.declared.limits.Limits.{Limits}
use Rattle.ts_execution.specs.declared.checkpoint.CheckpointFault.{CheckpointFault}
use Rattle.ts_execution.specs.declared.checkpoint.CheckpointFault.TheVariants.{Log, Memory}
use Rattle.ts_words.specs.declared.status.Status.TheVariants as status
use Rattle.ts_engine.specs.Folding.{Folds}
use Rattle.ts_engine.proofs.Folds.{fold-did, fold-complete}
use Rattle.ts_engine.proofs.Openings.{not-read, unloaded-complete}
use Rattle.ts_engine.proofs.fold.fold.Goals as goal

pub returns-in-Ok-fold_journal-clause-did : goal.returns-in-Ok-fold_journal-clause-did
returns-in-Ok-fold_journal-clause-did g c = λ journal told.
    let read = c.in-Ok.ensures.read (record { limits = c.args.options.now.limits; state = empty }) c.new-db.ensures.stands in
    fold-did c.args.options.now.limits c.args.options.now.budget journal (g.J.Log.content c.fold_journal.new.log) read.to c.in-Ok.field-0 (read.done journal told) (Ok c.in-Ok-fold_journal.field-0)
    (c.in-Ok-fold_journal.ensures.folds read.to read.stands (ap (λ (l : Limits). l.wire) (read.done journal told).1) journal (c.read_journal.ensures.content ∙ told))

pub returns-in-Err-Log-clause-did : goal.returns-in-Err-Log-clause-did
returns-in-Err-Log-clause-did g c = λ journal told.
    let read = c.in-Ok.ensures.read (record { limits = c.args.options.now.limits; state = empty }) c.new-db.ensures.stands in
    fold-did c.args.options.now.limits c.args.options.now.budget journal (g.J.Log.content c.fold_journal.new.log) read.to c.in-Ok.field-0 (read.done journal told) (Err Log)
    (subst (λ (f : CheckpointFault). Folds (Err f) read.to (Some journal) (g.J.Log.content c.fold_journal.new.log)) c.in-Err-Log.field-0-is
    (c.in-Err-Log.ensures.folds read.to read.stands (ap (λ (l : Limits). l.wire) (read.done journal told).1) journal (c.read_journal.ensures.content ∙ told)))

pub returns-in-Ok-clause-did : goal.returns-in-Ok-clause-did
returns-in-Ok-clause-did g c = λ journal told.
    let read = c.in-Ok.ensures.read (record { limits = c.args.options.now.limits; state = empty }) c.new-db.ensures.stands in
    fold-did c.args.options.now.limits c.args.options.now.budget journal (g.J.Log.content c.fold_journal.new.log) read.to c.in-Ok.field-0 (read.done journal told) (Err Memory)
    (subst (λ (f : CheckpointFault). Folds (Err f) read.to (Some journal) (g.J.Log.content c.fold_journal.new.log)) c.in-Err-Memory.field-0-is
    (c.in-Err-Memory.ensures.folds read.to read.stands (ap (λ (l : Limits). l.wire) (read.done journal told).1) journal (c.read_journal.ensures.content ∙ told)))

pub returns-clause-did : goal.returns-clause-did
returns-clause-did g c = λ journal told.
    let read = c.in-Err.ensures.read (record { limits = c.args.options.now.limits; state = empty }) c.new-db.ensures.stands in
    not-read c.in-Err.fault c.args.options.now.limits c.args.options.now.budget read.to journal (g.J.Log.content c.read_journal.new.log ≡ Some journal) (c.read_journal.ensures.content ∙ told)
    (read.done journal told)

pub returns-in-Ok-fold_journal-clause-complete : goal.returns-in-Ok-fold_journal-clause-complete
returns-in-Ok-fold_journal-clause-complete g c = λ journal told none.
    let read = c.in-Ok.ensures.read (record { limits = c.args.options.now.limits; state = empty }) c.new-db.ensures.stands in
    fold-complete c.args.options.now.limits c.args.options.now.budget journal (g.J.Log.content c.fold_journal.new.log) read.to c.in-Ok.field-0 (read.done journal told)

pub returns-clause-complete : goal.returns-clause-complete
returns-clause-complete g c = λ journal told none.
    let read = c.in-Err.ensures.read (record { limits = c.args.options.now.limits; state = empty }) c.new-db.ensures.stands in
    unloaded-complete c.in-Err.fault c.args.options.now.limits c.args.options.now.budget journal status.Ended (g.J.Log.content c.read_journal.new.log ≡ Some journal)
    (not-read c.in-Err.fault c.args.options.now.limits c.args.options.now.budget read.to journal (g.J.Log.content c.read_journal.new.log ≡ Some journal) (c.read_journal.ensures.content ∙ told)
    (read.done journal told))
    (λ is. none (c.in-Err.ensures.fault (ap Err is)))
