-- A handled request and its record in a journal.
use Rattle.std.proofs.Common.{◌≡◌, ℕ, Bool, true, List, refl, inl, inr}
use Rattle.std.specs.Prelude.{Option}
use Rattle.std.specs.Io.KnownBytes.{append_known}
use Rattle.ts_io.specs.Logs.{AppendsPrefix}
use Rattle.ts_io.specs.Sinks.{Grows, GrowsByPrefix}
use Rattle.ts_io.proofs.Growth.{grows_none}
use Rattle.ts_spec.specs.Wire.{Request}
use Rattle.ts_db.specs.DbState.{DbState, DbView, Simulates}
use Rattle.ts_execution.specs.Journaling.{Snapshot, kept, Recorded, IsJournaled, IsTorn, journal_handler}
use Rattle.ts_execution.specs.Handler.{CutShort}
use Rattle.ts_execution.proofs.Carried.{carries_as}

-- ---- the record was appended

module _ (words : Request) (written record_ : List ℕ) (readings left content content' : Option (List ℕ)) (failed : Bool) (old new : DbView)
    (recorded : Simulates old new (λ from to. Recorded words (record { held = from; readings = readings }) written record_ (record { held = to; readings = left }))) where
  -- all of it
  pub appended-whole : content' ≡ append_known content record_
      → Simulates old new (λ from to. IsJournaled (kept readings content failed from) words written (kept left content' failed to))
  appended-whole all =
      carries_as old new (λ from to. Recorded words (record { held = from; readings = readings }) written record_ (record { held = to; readings = left }))
      (λ from to. IsJournaled (kept readings content failed from) words written (kept left content' failed to))
      (λ from to is. record { record_ = record_; recorded = is; content = all; failed = refl }) recorded

  -- a prefix of it, since the journal failed
  pub appended-torn : AppendsPrefix content content' record_
      → Simulates old new (λ from to. IsTorn (kept readings content failed from) words written (kept left content' true to))
  appended-torn front =
      carries_as old new (λ from to. Recorded words (record { held = from; readings = readings }) written record_ (record { held = to; readings = left }))
      (λ from to. IsTorn (kept readings content failed from) words written (kept left content' true to))
      (λ from to is. record { record_ = record_; kept = front.len; within = front.within; recorded = is; content = front.added; failed = refl }) recorded

-- ---- then the reply was written

module _ (words : Request) (written : List ℕ) (old new : DbView) (before after : DbState → Snapshot) where
  -- the whole reply
  pub reply-whole : (had has : List ℕ → Type 0) → Simulates old new (λ from to. IsJournaled (before from) words written (after to)) → Grows had has written
      → Simulates old new (λ from to. IsJournaled (before from) words written (after to) × Grows had has written)
  reply-whole had has appended grown =
      carries_as old new (λ from to. IsJournaled (before from) words written (after to))
      (λ from to. IsJournaled (before from) words written (after to) × Grows had has written) (λ from to is. (is, grown)) appended

  -- a prefix of it
  pub reply-cut : (had has : List ℕ → Type 0) → Simulates old new (λ from to. IsJournaled (before from) words written (after to)) → GrowsByPrefix had has written
      → Simulates old new (λ from to. CutShort journal_handler words written (before from) (after to) had has)
  reply-cut had has appended front =
      carries_as old new (λ from to. IsJournaled (before from) words written (after to))
      (λ from to. CutShort journal_handler words written (before from) (after to) had has)
      (λ from to is. record { kept = front.len; cut = inl is; grown = front.grows }) appended

  -- nothing of it, since the journal failed
  pub no-reply : (has : List ℕ → Type 0) → Simulates old new (λ from to. IsTorn (before from) words written (after to))
      → Simulates old new (λ from to. CutShort journal_handler words written (before from) (after to) has has)
  no-reply has torn =
      carries_as old new (λ from to. IsTorn (before from) words written (after to))
      (λ from to. CutShort journal_handler words written (before from) (after to) has has)
      (λ from to is. record { kept = 0; cut = inr (refl, is); grown = grows_none has }) torn
