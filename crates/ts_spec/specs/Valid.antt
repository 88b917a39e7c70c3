-- Valid states: those that commands can lead to.
use Rattle.std.specs.Prelude.{◌≡◌, ℕ, ◌<◌, ◌≤◌, ⊤, List, [], ◌∷◌, length, Option, Some, None}
use Rattle.ts_spec.specs.declared.limits.Limits.{Limits}
use Rattle.ts_spec.specs.Sample.{Point, IsAscending, at}
use Rattle.ts_spec.specs.Key.{Key}
use Rattle.ts_spec.specs.Keyed.{get, count_keys}
use Rattle.ts_spec.specs.State.{Rule, Record, State, link_to}
use Rattle.ts_spec.specs.Rules.{settled, shown}

-- P holds for each sample of an ascending list
abbrev pub Every : (Point → Type 0) → List Point → Type 0
Every P ps = (t : ℕ) (p : Point) → at t ps ≡ Some p → P p

-- P holds for each rule
abbrev pub EachRule : (Rule → Type 0) → List Rule → Type 0
EachRule P [] = ⊤
EachRule P (r ∷ rs) = P r × EachRule P rs

-- the time is at most the highest time so far
abbrev pub IsUpTo : Option ℕ → ℕ → Type 0
IsUpTo None t = ⊥
IsUpTo (Some high) t = t ≤ high

-- what a rule may count: a sample written since the rule was created, no later than its highest time
pub record IsCountable (d : Record) (r : Rule) (p : Point) : Type 0 where
  pub since : r.made ≤ p.made
  pub made : p.made ≤ d.born
  pub time : IsUpTo r.top p.time

-- An invariant of each rule: what it counts is ascending, and its highest time is that of the eligible samples, if
-- there are any.
pub record IsSoundRule (d : Record) (r : Rule) : Type 0 where
  pub made_from : 1 ≤ r.made
  pub made_to : r.made ≤ d.born
  pub ascending : IsAscending r.seen
  pub seen : Every (IsCountable d r) r.seen
  pub eligible : Every (λ p. r.made ≤ p.made → IsUpTo r.top p.time) d.plain
  pub top : (t : ℕ) → r.top ≡ Some t → IsUpTo d.high t

-- every rule was created after this one
abbrev pub IsMadeAfter : ℕ → List Rule → Type 0
IsMadeAfter n [] = ⊤
IsMadeAfter n (r ∷ rs) = (n < r.made) × IsMadeAfter n rs

-- rules in the order of their creation
abbrev pub IsInOrder : List Rule → Type 0
IsInOrder [] = ⊤
IsInOrder (r ∷ rs) = IsMadeAfter r.made rs × IsInOrder rs

-- an own sample of a series
pub record IsOwn (d : Record) (p : Point) : Type 0 where
  pub time : IsUpTo d.high p.time
  pub made : p.made ≤ d.born

-- An invariant of each record: its own samples are ascending and no later than its highest time, and its rules are in
-- the order of their creation.
pub record IsSound (d : Record) : Type 0 where
  pub ascending : IsAscending d.plain
  pub own : Every (IsOwn d) d.plain
  pub in_order : IsInOrder d.rules
  pub rules : EachRule (IsSoundRule d) d.rules

-- The rule writes to an existing key that has no rules and no other source, so that key is not the source itself.
pub record IsSoleLink (m : State) (source : Key) (r : Rule) : Type 0 where
  pub link : link_to m r.dest ≡ Some (record { source = source; rule = r })
  pub dest : Record
  pub there : get r.dest m ≡ Some dest
  pub no_rules : dest.rules ≡ []

-- P holds for each record
abbrev pub EachRecord : (Key → Record → Type 0) → State → Type 0
EachRecord P m = (k : Key) (d : Record) → get k m ≡ Some d → P k d

-- every rule is the only link to its destination
abbrev pub IsLinked : State → Type 0
IsLinked m = EachRecord (λ k d. EachRule (IsSoleLink m k) d.rules) m

-- a series is within the limits
pub record IsWithin (limits : Limits) (m : State) (k : Key) (d : Record) : Type 0 where
  pub labels : length d.labels ≤ limits.labels
  pub rules : length d.rules ≤ limits.rules
  pub born : d.born ≤ limits.born
  pub samples : length (shown m k) ≤ limits.samples

-- A valid state. It is settled: no series has a sample before its edge. No closed bucket with counted samples starts
-- before the edge of its destination or past its highest time, and none hides an own sample of the destination.
pub record IsValid (limits : Limits) (m : State) : Type 0 where
  pub sound : EachRecord (λ k d. IsSound d) m
  pub linked : IsLinked m
  pub settled : settled m ≡ m
  pub keys : count_keys m ≤ limits.keys
  pub within : EachRecord (IsWithin limits m) m
