use Rattle.std.proofs.Common.{◌≡◌, ℕ, true, false, List, take}
use Rattle.ts_index.specs.Index.{has_pair}
use Rattle.ts_index.specs.Numbers.{has_id}
use Rattle.ts_index.specs.Postings.{posting_in}
use Rattle.ts_index.specs.Clearing.{Loses}
use Rattle.ts_index.proofs.clearing.clear_pairs.Given as goal

-- the id is out of the posting lists of the pairs so far
abbrev pub invariant-loop-i : goal.invariant-loop-i
invariant-loop-i l = record {
  loses : Loses l.ids l.fn.lists l.lists;
  gone : (p v : List ℕ) → has_pair p v (take l.i l.labels) ≡ true → has_id l.id.0 (posting_in p v l.lists) ≡ false;
}
