use Rattle.std.proofs.Common.{◌≡◌, ℕ, drop, if◌then◌else◌}
use Rattle.ts_index.specs.Index.{labels_of}
use Rattle.ts_index.specs.Numbers.{AreInOrder, has_id}
use Rattle.ts_index.specs.Clearing.{none_left}
use Rattle.ts_index.proofs.clearing.clear_entries.Given as goal

-- clearing the remaining ids gives what clearing all of them gives
abbrev pub invariant-loop-id : goal.invariant-loop-id
invariant-loop-id l = record {
  goes_on : (i : ℕ) → (if has_id i (drop l.id-index l.ids) then none_left (labels_of i l.labels.entries) else labels_of i l.labels.entries)
      ≡ (if has_id i l.ids then none_left (labels_of i l.fn.labels.entries) else labels_of i l.fn.labels.entries);
  order : AreInOrder l.labels.entries;
}
