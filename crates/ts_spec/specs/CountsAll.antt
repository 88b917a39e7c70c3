-- Rules that count every sample of their source, and the commands that leave a destination to its rule.
use Rattle.std.specs.Prelude.{◌≡◌, ◌⊎◌, ⊤, ℕ, false, List, [], ◌∷◌, filter, Option, Some, None}
use Rattle.ts_spec.specs.declared.limits.Limits.{Limits}
use Rattle.ts_spec.specs.Sample.{Point}
use Rattle.ts_spec.specs.Key.{Key, same}
use Rattle.ts_spec.specs.Keyed.{get}
use Rattle.ts_spec.specs.State.{Rule, Record, State, link_to}
use Rattle.ts_spec.specs.Rules.{is_eligible, plain_at}
use Rattle.ts_spec.specs.Command.{Triple, Command, Add, Madd, Incr, DelRange}
use Rattle.ts_spec.specs.Step.{step, triple_step, Outcome}

-- the rule counts exactly the samples of its source that were written since it was created
abbrev pub CountsAll : (plain : List Point) → Rule → Type 0
CountsAll plain r = r.seen ≡ filter (is_eligible r) plain

-- a rule connects the two keys and counts every new sample of the source
pub record CountsAllFrom (m : State) (source dest : Key) : Type 0 where
  pub rule : Rule
  pub linked : link_to m dest ≡ Some (record { source = source; rule = rule })
  pub counts : CountsAll (plain_at (get source m)) rule

-- the retention of the record at a key, in milliseconds; 0 keeps samples forever
abbrev pub retention_at : Option Record → ℕ
retention_at None = 0
retention_at (Some d) = d.options.retention

-- a rule connects the two keys, and neither series has a retention
pub record LinksWithoutRetention (m : State) (source dest : Key) (r : Rule) : Type 0 where
  pub linked : link_to m dest ≡ Some (record { source = source; rule = r })
  pub source_for_ever : retention_at (get source m) ≡ 0
  pub dest_for_ever : retention_at (get dest m) ≡ 0

-- the same rule; what it counted may differ
pub record IsSameRule (old new : Rule) : Type 0 where
  pub dest : new.dest ≡ old.dest
  pub agg : new.agg ≡ old.agg
  pub grid : new.grid ≡ old.grid
  pub made : new.made ≡ old.made

-- the rule is unchanged and still counts every new sample of the source
pub record StillCountsAll (m : State) (source : Key) (old new : Rule) : Type 0 where
  pub same_rule : IsSameRule old new
  pub counts : CountsAll (plain_at (get source m)) new

-- this outcome of a write or a deletion on one key leaves another key alone: the keys differ, or nothing has changed
abbrev pub Spares : Key → (old : State) → (key : Key) → Outcome → Type 0
Spares k old key done = (same k key ≡ false) ⊎ (done.state ≡ old)

-- every triple of a TS.MADD leaves the key alone
abbrev pub SparesEach : Limits → State → (reading : ℕ) → Key → List Triple → Type 0
SparesEach limits m reading k [] = ⊤
SparesEach limits m reading k (x ∷ xs) =
    let done : Outcome = triple_step limits m reading x.key x.at x.value in
    Spares k m x.key done × SparesEach limits done.state reading k xs

-- the command neither writes to the key nor deletes samples of it
abbrev pub LeavesAlone : Limits → State → (reading : ℕ) → Key → Command → Type 0
LeavesAlone limits m reading k (Add key at value on spec) = Spares k m key (step limits m reading (Add key at value on spec))
LeavesAlone limits m reading k (Madd triples) = SparesEach limits m reading k triples
LeavesAlone limits m reading k (Incr key change at spec) = Spares k m key (step limits m reading (Incr key change at spec))
LeavesAlone limits m reading k (DelRange key from to) = Spares k m key (step limits m reading (DelRange key from to))
LeavesAlone limits m reading k _ = ⊤
