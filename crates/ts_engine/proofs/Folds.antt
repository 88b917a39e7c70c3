-- A journal that a checkpoint takes the place of.
use Rattle.std.specs.Prelude.{All, Option, Some, Result, Ok, Err}
use Rattle.std.specs.Io.KnownBytes.{append_known}
use Rattle.std.proofs.Common.{◌≡◌, ◌⊎◌, inl, inr, ⊎_elim, ℕ, List, [], sym, ◌∙◌, ap, subst}
use Rattle.ts_spec.specs.Encoded.{encoded, Fits}
use Rattle.ts_spec.specs.Represents.{RepresentsState}
use Rattle.ts_spec.specs.State.{State, empty}
use Rattle.ts_spec.specs.StoredSeries.{kept}
use Rattle.ts_spec.specs.Valid.{IsValid}
use Rattle.ts_spec.specs.Wire.{Request}
use Rattle.ts_spec.specs.declared.limits.Limits.{Limits}
use Rattle.ts_spec.specs.declared.wire.WireLimits.{WireLimits}
use Rattle.ts_db.specs.DbState.{DbState, DbView, Represents}
use Rattle.ts_journal.specs.Limits.{IsBounded, journal_limits}
use Rattle.ts_journal.specs.Loading.{Loads}
use Rattle.ts_checkpoint.specs.Loading.{LoadsTo, RestoresStored}
use Rattle.ts_checkpoint.specs.Restoring.{IsWritten}
use Rattle.ts_execution.specs.Checkpoints.{Writes}
use Rattle.ts_execution.specs.declared.checkpoint.CheckpointFault.{CheckpointFault}
use Rattle.ts_execution.specs.declared.checkpoint.CheckpointFault.TheVariants.{Log, Memory}
use Rattle.ts_execution.specs.declared.loading.Extent.{Extent}
use Rattle.ts_words.specs.declared.status.Status.TheVariants as status
use Rattle.ts_engine.specs.declared.fold.FoldEnd.{FoldEnd}
use Rattle.ts_engine.specs.declared.fold.FoldEnd.TheVariants as end
use Rattle.ts_engine.specs.Answered.{IsOutOfMemoryOr}
use Rattle.ts_engine.specs.Folded.{HasFold, EndsAs, status_folded}
use Rattle.ts_engine.specs.Folding.{HasCheckpoint, Folds}
use Rattle.ts_engine.specs.Opening.{IsRead}
use Rattle.ts_engine.proofs.Openings.{opened-below}

-- what was written and published is a checkpoint
pub written-checkpoint : (held : DbState) (limits : WireLimits) (old drafted left : Option (List ℕ)) → held.limits.wire ≡ limits → IsBounded limits → old ≡ Some []
    → Writes limits held old drafted → left ≡ drafted
    → ((l : Limits) (m : State) (requests : List Request) → IsBounded l.wire → IsWritten l m requests → All (Fits (journal_limits l.wire)) requests → RestoresStored l m requests)
    → HasCheckpoint held left
written-checkpoint held limits old drafted left wire bounded none w is restores =
    let restored = restores held.limits held.state w.requests (subst IsBounded (sym wire) bounded) w.written
    (subst (λ (x : WireLimits). All (Fits (journal_limits x)) w.requests) (sym wire) w.fit) in
    record {
      checkpoint = encoded w.requests;
      content = is ∙ w.added ∙ ap (λ (o : Option (List ℕ)). append_known o (encoded w.requests)) none;
      new = restored.state;
      whole = restored.loads;
      same = restored.same;
    }

folds-leave : (r : Result (Unit {0}) CheckpointFault) (held : DbState) (journal left : Option (List ℕ)) → Folds r held journal left → (left ≡ journal) ⊎ HasCheckpoint held left
folds-leave (Ok done) held journal left folds = inr folds
folds-leave (Err Log) held journal left folds = folds
folds-leave (Err Memory) held journal left folds = inl folds

-- a fold leaves what the log had, or a checkpoint
pub leaves : (r : Result (Unit {0}) CheckpointFault) (held : DbState) (old left : Option (List ℕ)) (journal : List ℕ) → old ≡ Some journal → Folds r held (Some journal) left
    → (left ≡ old) ⊎ HasCheckpoint held left
leaves r held old left journal told folds =
    ⊎_elim (λ (same : left ≡ Some journal). inl (same ∙ sym told)) (λ (has : HasCheckpoint held left). inr has) (folds-leave r held (Some journal) left folds)

-- ---- a run in the mode `fold`

-- how it ends, by the result of folding
abbrev pub end_by : Result (Unit {0}) CheckpointFault → FoldEnd
end_by (Ok done) = end.Done
end_by (Err Log) = end.NotFolded
end_by (Err Memory) = end.Memory

module _ (limits : Limits) (budget : ℕ) (journal : List ℕ) (left : Option (List ℕ)) (to : DbState) (extent : Extent)
    (read : IsRead (Ok extent) limits.wire budget (record { limits = limits; state = empty }) to journal) where
  has-fold : HasCheckpoint to left → HasFold limits journal left
  has-fold has = record {
    folded = has.checkpoint;
    content = has.content;
    is_fold = record {
      old = to.state;
      place = extent.end;
      loads = read.0;
      new = has.new;
      whole = subst (λ (l : Limits). LoadsTo l has.checkpoint has.new) read.1 has.whole;
      valid = subst (λ (l : Limits). IsValid l has.new) read.1 has.same.valid;
      same = sym has.same.kept;
    };
  }

  pub fold-did : (r : Result (Unit {0}) CheckpointFault) → Folds r to (Some journal) left → EndsAs limits budget journal left (end_by r)
  fold-did (Ok done) folds = (read.2, has-fold folds)
  fold-did (Err Log) folds =
      (read.2, ⊎_elim (λ (same : left ≡ Some journal). inl same) (λ (has : HasCheckpoint to left). inr (has-fold has)) folds)
  fold-did (Err Memory) folds = folds

  pub fold-complete : IsOutOfMemoryOr status.Ended (status_folded limits budget journal)
  fold-complete = inr (sym (opened-below limits budget journal status.Ended (Loads to.state extent.end) read.2 read.0))

-- ---- a host that folds its journal first

-- a database that represents a state also represents another one of which the same is stored
pub alike-stands : (db_view : DbView) (held : DbState) (m : State) → Represents db_view held → RepresentsState held.limits (kept held.state) m
    → Represents db_view (record { limits = held.limits; state = m })
alike-stands db_view held m stands same = record {
  limits = stands.limits;
  state = record {
    valid = subst (λ (l : Limits). IsValid l m) stands.limits same.valid;
    kept = stands.state.kept ∙ same.kept;
  };
}
