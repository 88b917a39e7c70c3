use Rattle.std.proofs.Common.{◌≡◌, ℕ, true, false, List, drop}
use Rattle.ts_index.specs.Numbers.{has_id}
use Rattle.ts_index.specs.Postings.{posting_in}
use Rattle.ts_index.specs.Clearing.{Loses}
use Rattle.ts_index.proofs.clearing.clear_lists.Given as goal

-- the ids so far are in no posting list
abbrev pub invariant-loop-id : goal.invariant-loop-id
invariant-loop-id l = record {
  loses : Loses l.ids l.fn.lists l.lists;
  gone : (p v : List ℕ) (q : ℕ) → has_id q l.ids ≡ true → has_id q (drop l.id-index l.ids) ≡ false → has_id q (posting_in p v l.lists) ≡ false;
}
