-- What the other commands do to the stored data.
use Rattle.std.specs.Prelude.{ℕ, ◌+◌, Bool, not, ◌&&◌, ◌||◌, nat_le, if◌then◌else◌, List, [], ◌∷◌, ◌++◌, filter, Option, Some, None}
use Rattle.std.specs.Option.{unwrap_or}
use Rattle.ts_spec.specs.declared.bucket.Aggregator.{Aggregator}
use Rattle.ts_spec.specs.Sample.{Point, at_times}
use Rattle.ts_spec.specs.Bucket.{Grid}
use Rattle.ts_spec.specs.Aggregate.{nothing}
use Rattle.ts_spec.specs.Key.{Key, same}
use Rattle.ts_spec.specs.Keyed.{each, without_key}
use Rattle.ts_spec.specs.State.{edge_of}
use Rattle.ts_spec.specs.Command.{Spec, Change}
use Rattle.ts_spec.specs.StoredSeries.{StoredSeries, StoredKeys}

-- the stored form of a new series
abbrev pub stored_fresh : Spec → List Point → Option ℕ → StoredSeries
stored_fresh spec ps high = record { options = spec.options; labels = spec.labels; list = ps; high = high; born = 0; rules = []; source = None }

-- a series after TS.ALTER: its new options and labels, without the samples before its new edge
abbrev pub stored_altered : Change → StoredSeries → StoredSeries
stored_altered c d = record d {
  options = record {
    retention = unwrap_or c.retention d.options.retention;
    encoding = d.options.encoding;
    chunk_size = unwrap_or c.chunk_size d.options.chunk_size;
    policy = unwrap_or c.policy d.options.policy;
    ignore = unwrap_or c.ignore d.options.ignore;
  };
  labels = unwrap_or c.labels d.labels;
  list = at_times (nat_le (edge_of (unwrap_or c.retention d.options.retention) d.high)) d.list;
}

-- applies f to the series at the key, if it exists
abbrev pub keys_changed : Key → (StoredSeries → StoredSeries) → StoredKeys → StoredKeys
keys_changed key f m = each (λ k d. if same k key then f d else d) m

-- a source after TS.CREATERULE
abbrev pub stored_with_rule : Key → Aggregator → Grid → StoredSeries → StoredSeries
stored_with_rule dest agg grid d = record d {
  born = d.born + 1;
  rules = d.rules ++ record { dest = dest; agg = agg; grid = grid; made = d.born + 1; current = None; running = nothing } ∷ [];
}

-- all series after TS.CREATERULE
abbrev pub keys_ruled : (source dest : Key) → Aggregator → Grid → StoredKeys → StoredKeys
keys_ruled source dest agg grid m = keys_changed dest (λ d. record d { source = Some source }) (keys_changed source (stored_with_rule dest agg grid) m)

-- the source of a key, or `None` if the rule from it ends
abbrev pub source_left : (Key → Key → Bool) → Key → Option Key → Option Key
source_left ends k None = None
source_left ends k (Some source) = if ends source k then None else Some source

-- a series after the rules that pass the test end; its samples stay
abbrev pub stored_ended : (Key → Key → Bool) → Key → StoredSeries → StoredSeries
stored_ended ends k d = record d { rules = filter (λ q. not (ends k q.dest)) d.rules; source = source_left ends k d.source }

-- ends all rules whose source and destination pass the test
abbrev pub keys_ended : (Key → Key → Bool) → StoredKeys → StoredKeys
keys_ended ends m = each (stored_ended ends) m

-- all series after TS.DELETERULE
abbrev pub keys_without_rule : (source dest : Key) → StoredKeys → StoredKeys
keys_without_rule source dest m = keys_ended (λ s d. same s source && same d dest) m

-- removes the key and ends every rule from it or to it
abbrev pub keys_dropped : Key → StoredKeys → StoredKeys
keys_dropped key m = without_key key (keys_ended (λ s d. same s key || same d key) m)
