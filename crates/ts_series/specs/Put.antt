-- The result of a write to a series.
use Rattle.std.specs.Prelude.{◌≡◌, ℕ, ℤ, ◌<◌, ◌≤◌, nat_lt, if◌then◌else◌, List, [], ◌∷◌, length, Option, None, Some, Result, Ok, Err}
use Rattle.ts_spec.specs.declared.series.Encoding.{Encoding}
use Rattle.ts_spec.specs.declared.series.Merge.{Merge}
use Rattle.ts_spec.specs.Sample.{Point, at}
use Rattle.ts_spec.specs.Refusal as refusal
use Rattle.ts_spec.specs.Refusal.{Refusal}
use Rattle.ts_spec.specs.Rules.{Merged, Refuse, KeepOld, To, merge}
use Rattle.ts_spec.specs.Step.{value_at}
use Rattle.ts_series.specs.declared.plan.PutFault.{PutFault}
use Rattle.ts_series.specs.declared.plan.PutFault.TheVariants.{TooOld, Duplicate, OutOfRange, Full, Unwritten, Memory}
use Rattle.ts_series.specs.History.{History, list_of, low}
use Rattle.ts_series.specs.Stored.{no_change}
use Rattle.ts_series.specs.Plan.{Plan, after, writes_one}

-- whether a write is refused, leaves the old value or writes one
abbrev pub met : Merge → (time : ℕ) → (value : ℤ) → History → Merged
met how t v h = if nat_lt t (low h) then Refuse refusal.TooOld else merge how (value_at t (list_of h)) v

-- the refusal that a fault reports
abbrev pub refusal_of : PutFault → Option Refusal
refusal_of TooOld = Some refusal.TooOld
refusal_of Duplicate = Some refusal.Duplicate
refusal_of OutOfRange = Some refusal.OutOfRange
refusal_of Full = Some refusal.SamplesFull
refusal_of (Unwritten p) = None
refusal_of (Memory e) = None

-- the sample that failed for lack of memory, if that is the fault
abbrev pub unwritten_of : PutFault → Option Point
unwritten_of (Unwritten p) = Some p
unwritten_of fault = None

-- the sample that a write adds
abbrev pub sample_of : (time : ℕ) → (value : ℤ) → History → Point
sample_of t v h = record { time = t; value = v; made = h.born }

-- a plan that changes nothing
abbrev pub nothing_in : Encoding → Plan
nothing_in encoding = record { cut = None; removed = 0; encoding = encoding; wrote = []; options = None; change = no_change; room = None }

-- the plan only writes this sample
pub record Writes (p : Point) (plan : Plan) : Type 0 where
  pub cut : plan.cut ≡ None
  pub removed : plan.removed ≡ 0
  pub wrote : plan.wrote ≡ p ∷ []
  pub options : plan.options ≡ None

-- the samples after this write
abbrev pub list_after : Point → History → List Point
list_after p h = list_of (after (writes_one p) h)

-- a new sample would exceed the limit
pub record IsFull (limit : ℕ) (p : Point) (h : History) : Type 0 where
  pub absent : at p.time (list_of h) ≡ None
  pub longer : limit < length (list_after p h)

-- the write does not exceed the limit, or replaces a sample
abbrev pub Fits : ℕ → Point → History → Type 0
Fits limit p h = at p.time (list_of h) ≡ None → length (list_after p h) ≤ limit

-- ---- the answers to a write, by what it comes to

-- the write is refused for this reason
abbrev pub IsRefused : Refusal → Result Plan PutFault → Type 0
IsRefused r (Ok plan) = ⊥
IsRefused r (Err fault) = refusal_of fault ≡ Some r

-- the write changes nothing
abbrev pub IsNothing : Result Plan PutFault → Type 0
IsNothing (Ok plan) = plan ≡ nothing_in plan.encoding
IsNothing (Err fault) = ⊥

-- `Full` means that the series is full, `Unwritten` that this sample fits but memory ran out
abbrev pub IsFullFault : ℕ → Point → History → PutFault → Type 0
IsFullFault limit p h Full = IsFull limit p h
IsFullFault limit p h (Unwritten q) = Fits limit p h × (q ≡ p)
IsFullFault limit p h fault = ⊥

-- the sample is written and fits, or the series is full, or memory ran out
abbrev pub IsWrite : ℕ → Point → History → Result Plan PutFault → Type 0
IsWrite limit p h (Ok plan) = Writes p plan × Fits limit p h
IsWrite limit p h (Err fault) = IsFullFault limit p h fault

-- The result of a write: it is refused, changes nothing, or writes the sample unless the series is full or memory
-- runs out.
abbrev pub PutAnswers : Merged → (limit : ℕ) → (time : ℕ) → History → Result Plan PutFault → Type 0
PutAnswers (Refuse r) limit t h result = IsRefused r result
PutAnswers KeepOld limit t h result = IsNothing result
PutAnswers (To v) limit t h result = IsWrite limit (sample_of t v h) h result

-- ---- how a value meets the one that is there

-- the result of merging: a refusal, no change, or the value to write
abbrev pub IsMerged : Merged → Result (Option ℤ) PutFault → Type 0
IsMerged (Refuse r) (Ok value) = ⊥
IsMerged (Refuse r) (Err fault) = refusal_of fault ≡ Some r
IsMerged KeepOld (Ok value) = value ≡ None
IsMerged KeepOld (Err fault) = ⊥
IsMerged (To v) (Ok value) = value ≡ Some v
IsMerged (To v) (Err fault) = ⊥
