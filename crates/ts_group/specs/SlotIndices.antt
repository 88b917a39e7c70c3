-- Slots, and the index of the slot of each time.
use Rattle.std.specs.Prelude.{◌≡◌, ◌<◌, ℕ, List, [], length, map, All, Some, slice_index_or}
use Rattle.std.specs.Ordering.{nat_cmp}
use Rattle.std.specs.BTreeMap.{is_at}
use Rattle.std.specs.Map.{lookup}
use Rattle.ts_spec.specs.Aggregate.{summary}
use Rattle.ts_group.specs.Summaries.{Summaries}
use Rattle.ts_group.specs.declared.slots.Slot.{Slot}

-- the slot at an index
abbrev pub slot_at : List Slot → ℕ → Slot
slot_at slots list_index = slice_index_or slots list_index (record { time = 0; running = summary [] })

-- each time, with the aggregate in its slot
abbrev pub summaries_in : List Slot → List (ℕ × ℕ) → Summaries
summaries_in slots slot_indices = map (λ e. (e.0, (slot_at slots e.1).running)) slot_indices

-- the index of each time is that of a slot
abbrev pub AreWithin : List Slot → List (ℕ × ℕ) → Type 0
AreWithin slots slot_indices = All (λ e. e.1 < length slots) slot_indices

-- the slot at the index of this time has this time
pub record IsSlotEntry (slots : List Slot) (e : ℕ × ℕ) : Type 0 where
  pub within : e.1 < length slots
  pub time : (slot_at slots e.1).time ≡ e.0

-- that holds for each time, and each slot is at the index of its time
pub record AreSlotEntries (slots : List Slot) (slot_indices : List (ℕ × ℕ)) : Type 0 where
  pub times : All (IsSlotEntry slots) slot_indices
  pub each : (list_index : ℕ) → list_index < length slots → lookup (is_at (nat_cmp (slot_at slots list_index).time)) slot_indices ≡ Some list_index
