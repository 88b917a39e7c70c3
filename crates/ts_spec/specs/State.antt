-- The state of the database: a finite map from keys to records.
use Rattle.std.specs.Prelude.{ℕ, zero, suc, ◌-◌, if◌then◌else◌, List, [], ◌∷◌, Option, Some, None, option_map}
use Rattle.ts_spec.specs.declared.series.Options.{Options}
use Rattle.ts_spec.specs.declared.bucket.Aggregator.{Aggregator}
use Rattle.ts_spec.specs.Sample.{Point}
use Rattle.ts_spec.specs.Bucket.{Grid}
use Rattle.ts_spec.specs.Key.{Key, same}
use Rattle.ts_spec.specs.Keyed.{Keyed, Entry, none, each}

-- a label of a series and its value, both byte strings
pub record Label : Type 0 where
  pub name : List ℕ
  pub value : List ℕ

-- A compaction rule. `made` is how many rules the source had ever had when this one was created, this one included.
-- `top` is the highest time written to the source since then. `seen` has the samples that the rule counts, in
-- ascending time.
pub record Rule : Type 0 where
  pub dest : Key
  pub agg : Aggregator
  pub grid : Grid
  pub made : ℕ
  pub top : Option ℕ
  pub seen : List Point

-- A series. `plain` has its own samples in ascending time, `high` is the highest time that it ever had a sample at,
-- `born` is how many rules were ever made on it, and `rules` has its rules in the order of their creation.
pub record Record : Type 0 where
  pub options : Options
  pub labels : List Label
  pub plain : List Point
  pub high : Option ℕ
  pub born : ℕ
  pub rules : List Rule

-- the state: all series by key
abbrev pub State : Type 0
State = Keyed Record

-- the state at the start: no keys
abbrev pub empty : State
empty = none

-- a rule and the key of its source
pub record Link : Type 0 where
  pub source : Key
  pub rule : Rule

-- the rule to this destination among the rules of a source
abbrev pub rule_to : Key → List Rule → Option Rule
rule_to k [] = None
rule_to k (r ∷ rs) = if same r.dest k then Some r else rule_to k rs

-- the rule of this source, or the link found elsewhere
abbrev pub linked_or : Key → Option Rule → Option Link → Option Link
linked_or s None other = other
linked_or s (Some r) other = Some (record { source = s; rule = r })

-- the first rule among the entries whose destination is this key
abbrev pub link_in : Key → List (Entry Record) → Option Link
link_in k [] = None
link_in k (e ∷ es) = linked_or e.key (rule_to k e.value.rules) (link_in k es)

-- the rule whose destination is this key, and its source
abbrev pub link_to : State → Key → Option Link
link_to m k = link_in k m.entries

-- the rule alone
abbrev pub rule_into : State → Key → Option Rule
rule_into m k = option_map (λ l. l.rule) (link_to m k)

-- the state with f's record in place of that of the key, if the key is there
abbrev pub change : Key → (Record → Record) → State → State
change key f m = each (λ k d. if same k key then f d else d) m

-- the earliest time that a series with this retention and this highest time keeps
abbrev pub edge_of : ℕ → Option ℕ → ℕ
edge_of retention None = 0
edge_of zero (Some high) = 0
edge_of (suc n) (Some high) = high - suc n

-- the earliest time that a series keeps
abbrev pub edge : Record → ℕ
edge d = edge_of d.options.retention d.high
