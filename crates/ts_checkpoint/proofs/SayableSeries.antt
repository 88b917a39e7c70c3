-- Series that words can say.
use Rattle.std.proofs.Common.{◌≡◌, List, [], ℕ, ap, ◌∙◌, subst}
use Rattle.std.specs.Prelude.{Option, None}
use Rattle.ts_spec.specs.Command.{Create}
use Rattle.ts_spec.specs.Grammar.{command}
use Rattle.ts_spec.specs.Wire.{Request}
use Rattle.ts_labels.specs.declared.spec.Spec.{Spec}
use Rattle.ts_journal.specs.Record.{record_words}
use Rattle.ts_checkpoint.specs.Parts.{SeriesHead}
use Rattle.ts_checkpoint.specs.Reading.{IsCreatedBy}
use Rattle.ts_checkpoint.specs.Records.{Appends}
use Rattle.ts_checkpoint.specs.Sayable.{IsSayableSeries}
use Rattle.ts_checkpoint.proofs.Appending.{puts-all}
use Rattle.ts_checkpoint.proofs.CommandsBack.{RecordsRead, create-read}

-- the words of their TS.CREATE are found to create them
pub found-created : RecordsRead → (s : SeriesHead) → IsSayableSeries s → {before after words : Request} → before ≡ []
    → Appends before after (record_words 0 (Create s.key s.spec)) → words ≡ after
    → (found : Option (List ℕ × Spec)) → IsCreatedBy (command words) s.key s.spec found → found ≡ None → ⊥
found-created law s h none put same found is not =
    subst (IsCreatedBy (command _) s.key s.spec) not is (ap command (same ∙ puts-all none put) ∙ create-read law s.key s.spec h.words h.says)
