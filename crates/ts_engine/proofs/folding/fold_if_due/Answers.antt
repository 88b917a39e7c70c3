use Rattle.ts_engine.proofs.Folds.{leaves}
use Rattle.ts_engine.proofs.folding.fold_if_due.Goals as goal

pub returns-in-Err-Log-clause-content : goal.returns-in-Err-Log-clause-content
returns-in-Err-Log-clause-content g c = λ held stands wire journal told.
    leaves c.fold_journal.result held _ _ journal told (c.fold_journal.ensures.folds held stands wire journal told)

pub returns-in-Ok-clause-content : goal.returns-in-Ok-clause-content
returns-in-Ok-clause-content g c = λ held stands wire journal told.
    leaves c.fold_journal.result held _ _ journal told (c.fold_journal.ensures.folds held stands wire journal told)

pub returns-in-Ok-2-clause-content : goal.returns-in-Ok-2-clause-content
returns-in-Ok-2-clause-content g c = λ held stands wire journal told.
    leaves c.fold_journal.result held _ _ journal told (c.fold_journal.ensures.folds held stands wire journal told)
