-- A time after the last visible sample is after that of the chunks, and a series with few visible samples has few in
-- its chunks.
use Rattle.std.proofs.Common.{List, ℕ, ◌+◌, ◌≤◌, ◌<◌, length, sym, ◌∙◌, ap, subst, arith}
use Rattle.std.specs.Prelude.{Option}
use Rattle.ts_spec.specs.Sample.{Point, last_of}
use Rattle.ts_sample.specs.Chunk.{IsPast}
use Rattle.ts_series.specs.Stored.{points, longest}
use Rattle.ts_series.specs.History.{History, list_of, low, reach, IsKeptIn}
use Rattle.ts_series.proofs.Trimmed.{last-trimmed}
use Rattle.ts_series.proofs.Ready.{Shows}
use Rattle.ts_series.proofs.Putting.{few-hidden}

module _ {format : List Point → List ℕ} (h : History) (shows : Shows h) (kept : IsKeptIn format h) where
  pub past-chunks : (t : ℕ) → IsPast (last_of (list_of h)) t → IsPast (last_of (points h.held)) t
  past-chunks t past = subst (λ (o : Option Point). IsPast o t) (ap last_of shows ∙ sym (last-trimmed (low h) h.held.pieces kept.chunks.ascending kept.trimmed)) past

  pub few-in-chunks : (limit : ℕ) → longest h.held.pieces ≤ reach h → length (list_of h) + reach h < limit → length (points h.held) < limit
  few-in-chunks limit within few = omega (arith, few, within, few-hidden (low h) h.held.pieces kept.chunks.ascending kept.trimmed, ap length shows)
