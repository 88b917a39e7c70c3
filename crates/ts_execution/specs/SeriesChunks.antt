-- A series of a database as a checkpoint has it: chunk by chunk.
use Rattle.std.specs.Prelude.{◌≡◌, ℕ, nat_le, List, [], ◌∷◌}
use Rattle.ts_spec.specs.Key.{Key}
use Rattle.ts_spec.specs.Sample.{Point, at_times}
use Rattle.ts_spec.specs.State.{Label}
use Rattle.ts_series.specs.History.{History, IsKept, list_of, low}
use Rattle.ts_series.specs.Stored.{points}
use Rattle.ts_checkpoint.specs.Loading.{OpenSeries}
use Rattle.ts_checkpoint.specs.Restoring.{Chunk}

-- the chunks of these limits and samples
abbrev pub chunks_of : List ℕ → List (List Point) → List Chunk
chunks_of (n ∷ ns) (ps ∷ pss) = record { limit = n; list = ps } ∷ chunks_of ns pss
chunks_of ns pss = []

-- a series of this key and these labels that has `pieces` chunks in all, of which these are there
abbrev pub open_series : Key → List Label → (pieces : ℕ) → History → OpenSeries
open_series key labels pieces h = record {
  head = record {
    key = key;
    spec = record { options = h.options; labels = labels };
    high = h.high;
    born = h.born;
    pieces = pieces;
  };
  chunks = chunks_of h.held.limits h.held.pieces;
}

-- a valid series, which shows the samples of its chunks from the retention edge on
pub record IsRestored (h : History) : Type 0 where
  pub kept : IsKept h
  pub shown : list_of h ≡ at_times (nat_le (low h)) (points h.held)
