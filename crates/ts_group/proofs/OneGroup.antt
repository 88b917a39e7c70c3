-- The reply for one group.
use Rattle.std.proofs.Common.{◌≡◌, ℕ, Bool, List, flat_map, codes, [], ◌∷◌, ◌++◌, Option, ap, ◌∙◌}
use Rattle.ts_spec.specs.declared.bucket.Reducer.{Reducer}
use Rattle.ts_spec.specs.Aggregate.{aggregator_of}
use Rattle.ts_spec.specs.Answer.{Row}
use Rattle.ts_spec.specs.Command.{GroupBy, Show}
use Rattle.ts_spec.specs.Groups.{Labelled, sources, group}
use Rattle.ts_spec.specs.Queries.{labels_shown}
use Rattle.ts_spec.specs.Replies.{aggregator_name}
use Rattle.ts_spec.specs.Response.{Member}
use Rattle.ts_group.specs.Rows.{group_rows}

-- a group from its parts
abbrev pub member_of : Show → Reducer → (label value keys : List ℕ) → List Row → Member
member_of show reducer label value keys rows = record {
  key = label ++ codes "=" ++ value;
  labels = labels_shown show (
      record { name = label; value = value }
      ∷ record { name = codes "__reducer__"; value = aggregator_name (aggregator_of reducer) }
      ∷ record { name = codes "__source__"; value = keys }
      ∷ []);
  rows = rows;
}

pub member-reply_parts : (by : GroupBy) (show : Show) (count : Option ℕ) (back : Bool) (ms : List Labelled) (label value val keys : List ℕ) (rows : List Row)
    → label ≡ by.label → val ≡ value → keys ≡ sources ms → rows ≡ group_rows by.reducer count back (flat_map (λ m. m.rows) ms)
    → member_of show by.reducer label val keys rows ≡ group by show count back value ms
member-reply_parts by show count back ms label value val keys rows a b c d =
    ap (λ (l : List ℕ). member_of show by.reducer l val keys rows) a
    ∙ ap (λ (v : List ℕ). member_of show by.reducer by.label v keys rows) b
    ∙ ap (λ (k : List ℕ). member_of show by.reducer by.label value k rows) c
    ∙ ap (λ (r : List Row). member_of show by.reducer by.label value (sources ms) r) d
