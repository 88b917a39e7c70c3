-- What `top` does in the mode `gen`.
use Rattle.std.specs.Prelude.{◌≡◌, ℕ, List, [], ◌∷◌, length, Some}
use Rattle.ts_io.specs.Counts.{counts_of}
use Rattle.ts_io.specs.Sinks.{Grows, GrowsByPrefix}
use Rattle.ts_spec.specs.Keyed.{count_keys}
use Rattle.ts_spec.specs.Limits.{usual}
use Rattle.ts_spec.specs.Run.{Runs}
use Rattle.ts_spec.specs.Totals.{total_shown}
use Rattle.ts_spec.specs.declared.limits.Limits.{Limits}
use Rattle.ts_gen.specs.Workload.{script}
use Rattle.ts_words.specs.Lines.{summary_of}
use Rattle.ts_words.specs.declared.status.Status.{Status}
use Rattle.ts_words.specs.declared.status.Status.TheVariants as status
use Rattle.ts_execution.specs.Handling.{World, handles}
use Rattle.ts_engine.specs.Headline.{requests, start}
use Rattle.ts_engine.specs.Top.{Reports}

-- these limits, with the usual wire limits
abbrev pub with_usual_wire : Limits → Limits
with_usual_wire limits = record limits { wire = usual.wire }

-- The numbers of a workload's summary, from a run on the empty database without clock readings: requests executed,
-- bytes of the requests, bytes of the replies and error replies (both capped at the greatest u64), keys, and visible
-- samples of all keys.
pub record IsSummary (limits : Limits) (seed n : ℕ) (numbers : List ℕ) : Type 0 where
  pub text : List ℕ
  pub to : World
  pub run : Runs handles (start (with_usual_wire limits) (Some [])) (requests usual.wire (script seed n)) text to
  pub are : numbers ≡ length (requests usual.wire (script seed n)) ∷ length (script seed n) ∷ (counts_of text).total ∷ (counts_of text).errors
      ∷ count_keys to.held.state ∷ total_shown to.held.state ∷ []

-- what the output has of the summary, by the intended status: all of it, a prefix, or nothing
abbrev pub WritesSummary : (meant : Status) → Limits → (seed n : ℕ) → (had has : List ℕ → Type 0) → Type 0
WritesSummary status.Ended limits seed n had has = (numbers : List ℕ) × IsSummary limits seed n numbers × Grows had has (summary_of numbers)
WritesSummary status.WriteFault limits seed n had has = (numbers : List ℕ) × IsSummary limits seed n numbers × GrowsByPrefix had has (summary_of numbers)
WritesSummary status.Memory limits seed n had has = Grows had has []
WritesSummary status.Usage limits seed n had has = ⊥
WritesSummary status.Truncated limits seed n had has = ⊥
WritesSummary status.Protocol limits seed n had has = ⊥
WritesSummary status.ReadFault limits seed n had has = ⊥
WritesSummary status.AcceptFault limits seed n had has = ⊥
WritesSummary status.Budget limits seed n had has = ⊥
WritesSummary status.JournalFault limits seed n had has = ⊥
WritesSummary status.JournalBroken limits seed n had has = ⊥
WritesSummary status.CaptureBroken limits seed n had has = ⊥

-- What was written of a workload's summary, and how that was reported. If all of it was written, the status is the good
-- one.
pub record Workload (limits : Limits) (seed n : ℕ) (had has err_had err_has : List ℕ → Type 0) (given : Status) : Type 0 where
  pub meant : Status
  pub sums : WritesSummary meant limits seed n had has
  pub reported : Reports meant 0 given err_had err_has
  pub quiet : meant ≡ status.Ended → given ≡ status.Ended
