-- The records of a checkpoint restore what was stored.
use Rattle.std.proofs.Common.{◌≡◌, List, [], ◌∷◌, map, Some, sym, ◌∙◌, ap, subst}
use Rattle.std.specs.Prelude.{All}
use Rattle.ts_spec.specs.declared.limits.Limits.{Limits}
use Rattle.ts_spec.specs.Encoded.{encoded, Fits}
use Rattle.ts_spec.specs.Keyed.{none}
use Rattle.ts_spec.specs.Represents.{RepresentsState, AllHaveDurations}
use Rattle.ts_spec.specs.State.{State, empty}
use Rattle.ts_spec.specs.StoredSeries.{kept}
use Rattle.ts_spec.specs.Valid.{IsValid}
use Rattle.ts_spec.specs.Wire.{Request}
use Rattle.ts_spec.proofs.StoredSteps.{empty-stands}
use Rattle.ts_journal.specs.Limits.{IsBounded, journal_limits}
use Rattle.ts_restore.specs.Checkpoint.{SeriesPart, RulePart, Checkpoint, checkpoint_of}
use Rattle.ts_restore.specs.Restorable.{IsCheckpoint}
use Rattle.ts_restore.specs.Restored.{keys_with_all_series, with_all_series, state_of}
use Rattle.ts_restore.proofs.Restoring.{represents-checkpoint}
use Rattle.ts_checkpoint.specs.Loading.{restoring, LoadsTo, HasOnlyRecords, RestoresStored}
use Rattle.ts_checkpoint.specs.Parts.{Part, Rule}
use Rattle.ts_checkpoint.specs.Restoring.{ChunkedSeries, shown_series, parts_behind, all_parts, checkpoint_from, HaveStoredChunks, AreSayable, IsWritten}
use Rattle.ts_checkpoint.proofs.CommandsBack.{RecordsRead}
use Rattle.ts_checkpoint.proofs.ReadBack.{reads-back}
use Rattle.ts_checkpoint.proofs.RestoredParts.{AreExact, restore_all, all-series-taken, all-rules-taken}
use Rattle.ts_checkpoint.proofs.RestoredRequests.{AreRead, requests-restore, requests-only}

all-read : RecordsRead → (ps : List Part) → AreSayable ps → AreRead ps
all-read law [] h = tt
all-read law (p ∷ ps) h = (reads-back law p h.0, all-read law ps h.1)

-- the parts of a valid checkpoint restore to its state
parts-restore : (limits : Limits) → AreExact → (series : List ChunkedSeries) (rules : List RulePart) → HaveStoredChunks series → IsCheckpoint limits (checkpoint_from series rules)
    → restore_all limits (restoring empty) (parts_behind series rules) ≡ Some (restoring (state_of (checkpoint_from series rules)))
parts-restore limits exact series rules stored valid =
    let shown : List SeriesPart = map shown_series series in
    all-series-taken limits exact none empty series (map Rule rules) (empty-stands limits) valid.series stored
    ∙ all-rules-taken limits exact (keys_with_all_series shown none) (with_all_series shown empty) rules (represents-checkpoint limits (record { series = shown; rules = [] }) (record { series = valid.series; rules = tt })) valid.rules

module _ (limits : Limits) (b : IsBounded limits.wire) (m : State) (requests : List Request) (w : IsWritten limits m requests) (fits : All (Fits (journal_limits limits.wire)) requests) where
  pub restores-stored : RecordsRead → AreExact
      → ((limits : Limits) (m : State) → IsValid limits m → AllHaveDurations (kept m) → IsCheckpoint limits (checkpoint_of (kept m)))
      → ((limits : Limits) (m : State) → IsValid limits m → AllHaveDurations (kept m) → RepresentsState limits (kept m) (state_of (checkpoint_of (kept m))))
      → RestoresStored limits m requests
  restores-stored law exact valid restored =
      let rules = (checkpoint_of (kept m)).rules in
      let same : checkpoint_from w.series rules ≡ checkpoint_of (kept m) = ap (λ (ss : List SeriesPart). record { series = ss; rules = rules }) w.shown in
      let its : IsCheckpoint limits (checkpoint_from w.series rules) = subst (IsCheckpoint limits) (sym same) (valid limits m w.valid w.durations) in
      let state : State = state_of (checkpoint_from w.series rules) in record {
        state = state;
        loads =
            subst (λ (rs : List Request). LoadsTo limits (encoded rs) state) (sym w.words)
            (requests-restore limits b (parts_behind w.series rules) state (all-read law (all_parts w.series rules) w.sayable)
            (subst (All (Fits (journal_limits limits.wire))) w.words fits) (parts-restore limits exact w.series rules w.stored its));
        same = subst (λ (c : Checkpoint). RepresentsState limits (kept m) (state_of c)) (sym same) (restored limits m w.valid w.durations);
      }

  pub written-only : HasOnlyRecords limits (encoded requests)
  written-only = requests-only limits b requests fits
