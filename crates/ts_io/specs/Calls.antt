-- The calls of a device in memory, of which those with chosen numbers fail.
use Rattle.std.specs.Prelude.{ℕ, List, Bool, if◌then◌else◌}
use Rattle.ts_io.specs.Causes.{saturating_succ}

-- the numbers of the calls that fail, counted from 1; how many calls were made; how many of them failed
pub record Calls : Type 0 where
  pub to_fail : List ℕ
  pub made : ℕ
  pub failed : ℕ

-- the number of the next call: it stops at the greatest u64
abbrev pub next_call_number : Calls → ℕ
next_call_number c = saturating_succ c.made

-- the state after one more call, which failed or not
abbrev pub after_call : Calls → Bool → Calls
after_call c fails = record { to_fail = c.to_fail; made = saturating_succ c.made; failed = if fails then saturating_succ c.failed else c.failed }
