-- Errors of the database as ts_spec defines them.
use Rattle.std.specs.Prelude.{◌≡◌, ℕ, Bool, true, false, ◌==◌, if◌then◌else◌, ⊤, List, [], ◌∷◌, Option, None, Some}
use Rattle.ts_spec.specs.Key.{Key}
use Rattle.ts_spec.specs.Keyed.{Entry, Keyed}
use Rattle.ts_spec.specs.Refusal as refusal
use Rattle.ts_spec.specs.Refusal.{Refusal}
use Rattle.ts_sample.specs.declared.sample.Id.{Id}
use Rattle.ts_db.specs.declared.fault.DbFault.{DbFault}
use Rattle.ts_db.specs.declared.fault.DbFault.TheVariants.{KeyExists, NoKey, KeysFull, LabelsFull, TooOld, Duplicate, OutOfRange, BeforeLast, SamplesFull, DeleteBeyondRetention, SameKey, SourceIsDest, DestIsSource, DestHasSource, RulesSpent, RulesFull, NoRule, Memory}

-- the key with this id in a list of keys and ids
abbrev pub key_among : ℕ → List (Entry Id) → Key
key_among number [] = []
key_among number (e ∷ es) = if e.value.0 == number then e.key else key_among number es

-- the key with this id
abbrev pub key_of_id : Keyed Id → Id → Key
key_of_id ids id = key_among id.0 ids.entries

-- the refusal for too many samples, in the written series or in a destination
abbrev pub full_refusal : (written : Bool) → Key → Refusal
full_refusal true key = refusal.SamplesFull
full_refusal false key = refusal.DestinationFull key

-- the refusal that an error represents; out of memory represents none
abbrev pub refusal_of : Keyed Id → DbFault → Option Refusal
refusal_of ids KeyExists = Some refusal.KeyExists
refusal_of ids NoKey = Some refusal.NoKey
refusal_of ids KeysFull = Some refusal.KeysFull
refusal_of ids LabelsFull = Some refusal.LabelsFull
refusal_of ids TooOld = Some refusal.TooOld
refusal_of ids Duplicate = Some refusal.Duplicate
refusal_of ids OutOfRange = Some refusal.OutOfRange
refusal_of ids BeforeLast = Some refusal.BeforeLast
refusal_of ids (SamplesFull id written) = Some (full_refusal written (key_of_id ids id))
refusal_of ids DeleteBeyondRetention = Some refusal.DeleteBeyondRetention
refusal_of ids SameKey = Some refusal.SameKey
refusal_of ids SourceIsDest = Some refusal.SourceIsDest
refusal_of ids DestIsSource = Some refusal.DestIsSource
refusal_of ids DestHasSource = Some refusal.DestHasSource
refusal_of ids RulesSpent = Some refusal.RulesSpent
refusal_of ids RulesFull = Some refusal.RulesFull
refusal_of ids NoRule = Some refusal.NoRule
refusal_of ids (Memory e) = None

-- if the error is a full series, it is the written series, with this id
abbrev pub IsFaultAt : Id → DbFault → Type 0
IsFaultAt id (SamplesFull full written) = (written ≡ true) × (full ≡ id)
IsFaultAt id other = ⊤

-- an error other than out of memory
abbrev pub IsRefusal : DbFault → Type 0
IsRefusal (Memory e) = ⊥
IsRefusal other = ⊤

-- out of memory
abbrev pub IsMemory : DbFault → Type 0
IsMemory (Memory e) = ⊤
IsMemory other = ⊥
