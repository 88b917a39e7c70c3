-- The counts of executed requests that a host stores.
use Rattle.std.specs.Prelude.{ℕ, ◌+◌, ◌==◌, if◌then◌else◌, Option, None, Some}
use Rattle.std.specs.Option.{unwrap_or}
use Rattle.std.specs.Ordering.{nat_cmp}
use Rattle.std.specs.BTreeMap.{BTreeMap, get}
use Rattle.ts_host.specs.Answers.{Counts}
use Rattle.ts_host.specs.declared.request_counts.CurrentCount.{CurrentCount}
use Rattle.ts_host.specs.declared.request_counts.RequestCounts.{RequestCounts}

-- the count of the current connection if it is `link`, or else the stored one; 0 if there is none
abbrev pub count_in : BTreeMap ℕ ℕ → Option CurrentCount → Counts
count_in counts None link = unwrap_or (get nat_cmp counts link) 0
count_in counts (Some current) link = if current.link == link then current.executed else unwrap_or (get nat_cmp counts link) 0

abbrev pub executed_by : RequestCounts → Counts
executed_by c = count_in c.counts c.current

-- one more for `link`
abbrev pub counted_at : (link : ℕ) → Counts → Counts
counted_at link counts at = if at == link then counts at + 1 else counts at
