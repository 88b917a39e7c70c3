-- A planned change of a series, and the series after it.
use Rattle.std.specs.Prelude.{◌≡◌, ℕ, ◌≤◌, nat_le, ⊤, List, [], ◌∷◌, length, ◌+◌, Option, None, Some}
use Rattle.std.specs.Option.{unwrap_or}
use Rattle.ts_spec.specs.declared.series.Encoding.{Encoding}
use Rattle.ts_spec.specs.declared.series.Encoding.TheVariants.{Compressed}
use Rattle.ts_spec.specs.declared.series.Ignore.{Ignore}
use Rattle.ts_spec.specs.declared.series.Options.{Options}
use Rattle.ts_spec.specs.declared.series.Policy.{Policy}
use Rattle.ts_spec.specs.Sample.{Point, at_times, outside, put_all}
use Rattle.ts_spec.specs.State.{edge_of}
use Rattle.ts_spec.specs.StoredUpdates.{high_after_rows}
use Rattle.ts_series.specs.declared.chunked_series_plan.Interval.{Interval}
use Rattle.ts_series.specs.declared.chunked_series_plan.Rows.{Rows}
use Rattle.ts_series.specs.declared.chunked_series_plan.Rows.TheVariants.{Empty, One, Many}
use Rattle.ts_sample.specs.Chunk.{joined, AreMade}
use Rattle.ts_series.specs.Stored.{Stored, Change, no_change, pieces_after, IsChangeOf, HasLimits}
use Rattle.ts_series.specs.History.{History, list_of, low, limit_for, format_of}

-- the samples of rows
abbrev pub row_samples : Rows → List Point
row_samples Empty = []
row_samples (One p) = p ∷ []
row_samples (Many v) = v.items

-- every sample is in the interval
abbrev pub AreWithin : (from to : ℕ) → List Point → Type 0
AreWithin from to [] = ⊤
AreWithin from to (p ∷ ps) = (from ≤ p.time) × ((p.time ≤ to) × AreWithin from to ps)

-- A plan: the interval to delete and the number of samples in it, the series' encoding, the samples to write, the new
-- options if they change, the change of the chunks, and the capacity of the larger buffer if there is one.
pub record Plan : Type 0 where
  pub cut : Option Interval
  pub removed : ℕ
  pub encoding : Encoding
  pub wrote : List Point
  pub options : Option Options
  pub change : Change
  pub room : Option ℕ

-- the samples without the deleted interval
abbrev pub without_cut : Option Interval → List Point → List Point
without_cut None ps = ps
without_cut (Some i) ps = outside i.from i.to ps

-- The series after a plan: without the interval, with the new samples and options, and without the samples before its
-- retention edge.
abbrev pub after : Plan → History → History
after plan h = record h {
  options = unwrap_or plan.options h.options;
  samples = at_times (nat_le (edge_of (unwrap_or plan.options h.options).retention (high_after_rows plan.wrote h.high))) (put_all plan.wrote (without_cut plan.cut h.samples));
  high = high_after_rows plan.wrote h.high;
}

-- a plan that only writes this sample
abbrev pub writes_one : Point → Plan
writes_one p = record { cut = None; removed = 0; encoding = Compressed; wrote = p ∷ []; options = None; change = no_change; room = None }

-- a plan that only deletes an interval of `removed` samples
abbrev pub cuts : (from to : ℕ) → (removed : ℕ) → Plan
cuts from to n = record { cut = Some (record { from = from; to = to }); removed = n; encoding = Compressed; wrote = []; options = None; change = no_change; room = None }

-- a plan that only changes the options
abbrev pub alters : Options → Plan
alters options = record { cut = None; removed = 0; encoding = Compressed; wrote = []; options = Some options; change = no_change; room = None }

-- a plan that appends this sample to the last chunk
abbrev pub appends : Encoding → Point → Plan
appends encoding p = record { cut = None; removed = 0; encoding = encoding; wrote = p ∷ []; options = None; change = record no_change { appended = Some p }; room = None }

-- `p` with the encoding, the change of the chunks and the capacity of `plan`
abbrev pub with_change : Plan → Plan → Plan
with_change plan p = record p { encoding = plan.encoding; change = plan.change; room = plan.room }

-- the plan only deletes an interval of `removed` samples
pub record Cuts (from to : ℕ) (removed : ℕ) (plan : Plan) : Type 0 where
  pub cut : plan.cut ≡ Some (record { from = from; to = to })
  pub count : plan.removed ≡ removed
  pub wrote : plan.wrote ≡ []
  pub options : plan.options ≡ None

-- the plan only changes the options
pub record Alters (options : Options) (plan : Plan) : Type 0 where
  pub cut : plan.cut ≡ None
  pub removed : plan.removed ≡ 0
  pub wrote : plan.wrote ≡ []
  pub altered : plan.options ≡ Some options

-- the options after ALTER
abbrev pub options_with : (retention chunk_size : Option ℕ) → Option Policy → Option Ignore → Options → Options
options_with retention chunk_size policy ignore old = record {
  retention = unwrap_or retention old.retention;
  encoding = old.encoding;
  chunk_size = unwrap_or chunk_size old.chunk_size;
  policy = unwrap_or policy old.policy;
  ignore = unwrap_or ignore old.ignore;
}

-- the number of chunks the series can hold once it has the plan's buffer
abbrev pub chunk_capacity : Option ℕ → Stored → ℕ
chunk_capacity None h = length h.pieces + h.room
chunk_capacity (Some room) h = room

-- The plan fits this series: the encoding stays, the change fits its chunks and leads to the samples after the plan,
-- and a commit allocates nothing.
pub record IsForIn (format : List Point → List ℕ) (plan : Plan) (h : History) : Type 0 where
  pub encoding : plan.encoding ≡ h.options.encoding
  pub stays : (unwrap_or plan.options h.options).encoding ≡ h.options.encoding
  pub made : AreMade h.born plan.wrote
  pub change : IsChangeOf format (chunk_capacity plan.room h.held) h.held.pieces h.held.limits plan.change
  pub holds_all : length h.held.pieces ≤ chunk_capacity plan.room h.held
  pub limits : HasLimits (limit_for h.options.chunk_size) h.held.limits plan.change
  pub list : at_times (nat_le (low (after plan h))) (joined (pieces_after plan.change h.held.pieces)) ≡ list_of (after plan h)

-- the same in the format of the series' encoding
abbrev pub IsFor : Plan → History → Type 0
IsFor plan h = IsForIn (format_of h.options.encoding) plan h
