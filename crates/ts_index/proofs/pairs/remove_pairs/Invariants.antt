use Rattle.std.proofs.Common.{◌≡◌, ◌==◌, ◌&&◌, not, ℕ, List, take}
use Rattle.ts_index.specs.Numbers.{AreAscending, has_id}
use Rattle.ts_index.specs.Pairs.{is_own}
use Rattle.ts_index.specs.Postings.{posting_in}
use Rattle.ts_index.proofs.pairs.remove_pairs.Given as goal

-- the id is out of the posting lists of the pairs so far
abbrev pub invariant-loop-i : goal.invariant-loop-i
invariant-loop-i l = record {
  ascending : (p v : List ℕ) → AreAscending (posting_in p v l.lists);
  lists : (p v : List ℕ) (q : ℕ) → has_id q (posting_in p v l.lists) ≡ (has_id q (posting_in p v l.fn.lists) && not ((q == l.id.0) && is_own p v (take l.i l.labels) l.others));
}
