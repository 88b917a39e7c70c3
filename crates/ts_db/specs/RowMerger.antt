-- A visitor that merges a row into ascending samples.
use Rattle.std.specs.Prelude.{ℕ, ◌+◌, ◌-◌, ◌≤◌, Bool, true, false, nat_lt, if◌then◌else◌, Option, None, Some}
use Rattle.std.proofs.Common.{arith}
use Rattle.ts_spec.specs.Sample.{Point}
use Rattle.ts_db.specs.declared.row_merger.RowMerger.{RowMerger}

-- the inner visitor after one sample, and after the row if it comes first; the row replaces a sample at its time
abbrev pub taken : {V : Type 0} → (V → Point → V) → Option Point → V → Point → V
taken step None v p = step v p
taken step (Some row) v p = if nat_lt p.time row.time then step v p else (if nat_lt row.time p.time then step (step v row) p else step v row)

-- the row still pending after this sample
abbrev pub waits : Option Point → Point → Option Point
waits None p = None
waits (Some row) p = if nat_lt p.time row.time then Some row else None

-- the visitor after one more sample
abbrev pub with_sample : {V : Type 0} → (V → Point → V) → RowMerger V → Point → RowMerger V
with_sample step w p = record w { visit = record w.visit { now = taken step w.row w.visit.now p }; row = waits w.row p }

-- the inner visitor after the pending row, if there is one
abbrev pub with_last : {V : Type 0} → (V → Point → V) → Option Point → V → V
with_last step None v = v
with_last step (Some row) v = step v row

-- the visitor after all samples
abbrev pub finished : {V : Type 0} → (V → Point → V) → RowMerger V → RowMerger V
finished step w = record w { visit = record w.visit { now = with_last step w.row w.visit.now }; row = None }

-- the capacity of the inner visitor that is left if a pending row takes one place
abbrev pub capacity_beside : (room : ℕ) → Option Point → ℕ
capacity_beside room None = room
capacity_beside room (Some row) = room - 1

-- one sample uses at most one place of that capacity
pub lowered : {V : Type 0} (step : V → Point → V) (room : V → ℕ) → ((v : V) (p : Point) → room v ≤ room (step v p) + 1) → (w : RowMerger V) (p : Point)
    → capacity_beside (room w.visit.now) w.row ≤ capacity_beside (room (taken step w.row w.visit.now p)) (waits w.row p) + 1
lowered {V} step room lowers w p = go w.row w.visit.now
  where
    go : (o : Option Point) (v : V) → capacity_beside (room v) o ≤ capacity_beside (room (taken step o v p)) (waits o p) + 1
    go None v = lowers v p
    go (Some row) v = test (nat_lt p.time row.time) (nat_lt row.time p.time)
      where
        test : (b c : Bool) → room v - 1 ≤ capacity_beside (room (if b then step v p else (if c then step (step v row) p else step v row))) (if b then Some row else None) + 1
        test true c = omega (arith, lowers v p)
        test false true = omega (arith, lowers v row, lowers (step v row) p)
        test false false = omega (arith, lowers v row)
