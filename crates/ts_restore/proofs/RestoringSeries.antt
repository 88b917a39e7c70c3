-- A restored series is represented by the stored data with it.
use Rattle.std.proofs.Common.{◌≡◌, ℕ, ◌<◌, Bool, true, false, nat_le, if◌then◌else◌, List, Option, Some, None, option_map, refl, sym, ap, ◌∙◌, subst, arith, le-leb}
use Rattle.ts_spec.specs.declared.limits.Limits.{Limits}
use Rattle.ts_spec.specs.Sample.{Point, IsAscending, at, at_times}
use Rattle.ts_spec.specs.Key.{Key}
use Rattle.ts_spec.specs.Keyed.{get, count_keys}
use Rattle.ts_spec.specs.State.{Record, State, link_to, edge}
use Rattle.ts_spec.specs.Valid.{Every, IsSound}
use Rattle.ts_spec.specs.StoredSeries.{StoredKeys, stored_record, kept}
use Rattle.ts_spec.specs.Represents.{RepresentsState}
use Rattle.ts_spec.proofs.Samples.{at-time, at-times, ascending-times, ascending-same}
use Rattle.ts_spec.proofs.KeysComeAndGo.{IsNew, valid-with}
use Rattle.ts_spec.proofs.StoredMaking.{kept-with}
use Rattle.ts_spec.proofs.StoredMaps.{get-kept, count-kept}
use Rattle.ts_restore.specs.Checkpoint.{SeriesPart}
use Rattle.ts_restore.specs.Restored.{keys_with_series, restored_record, with_series}
use Rattle.ts_restore.specs.Restorable.{IsSampleOf, IsSeries, IsNewSeries}

-- the samples of which each passes a test on times
pub all-times : (test : ℕ → Bool) (ps : List Point) → IsAscending ps → Every (λ p. test p.time ≡ true) ps → at_times test ps ≡ ps
all-times test ps up h = ascending-same (at_times test ps) ps (ascending-times test ps up) up (λ t. at-times t test ps ∙ go t (at t ps) refl (test t) refl)
  where
    go : (t : ℕ) (o : Option Point) → at t ps ≡ o → (b : Bool) → test t ≡ b → (if b then at t ps else None) ≡ at t ps
    go t o x true e = refl
    go t None x false e = sym x
    go t (Some p) x false e =
        let one : true ≡ false = sym (h t p x) ∙ ap test (at-time t ps p x) ∙ e in absurd (cc one)

sound-series : (limits : Limits) (p : SeriesPart) → IsSeries limits p → IsSound (restored_record p)
sound-series limits p h = record {
  ascending = h.ascending;
  own = λ t s e. (let one : IsSampleOf p s = h.list t s e in record { time = one.to_high; made = one.made });
  in_order = tt;
  rules = tt;
}

-- a key that is not stored is not in the state
missing : (m : State) (k : Key) (o : Option Record) → get k m ≡ o → get k (kept m) ≡ None → o ≡ None
missing m k None x e = refl
missing m k (Some d) x e =
    let one : Some (stored_record (link_to m k) d) ≡ None = ap (option_map (stored_record (link_to m k))) (sym x) ∙ sym (get-kept m k) ∙ e in absurd (cc one)

is-new : (limits : Limits) (m : State) (p : SeriesPart) → IsNewSeries limits (kept m) p → IsNew limits m p.key (restored_record p)
is-new limits m p h = record {
  missing = missing m p.key (get p.key m) refl h.missing;
  sound = sound-series limits p h.series;
  no_rules = refl;
  from_edge = all-times (nat_le (edge (restored_record p))) p.list h.series.ascending
      (λ t s e. le-leb (edge (restored_record p)) s.time (h.series.list t s e).from_edge);
  labels = h.series.labels;
  born = h.series.born;
  samples = h.series.samples;
  room = (let count : count_keys (kept m) ≡ count_keys m = count-kept m in let room : count_keys (kept m) < limits.keys = h.room in omega arith);
}

-- The stored data with a new series represents the state with it.
pub represents-series : (limits : Limits) (keys : StoredKeys) (m : State) (p : SeriesPart) → RepresentsState limits keys m → IsNewSeries limits keys p → RepresentsState limits (keys_with_series p keys) (with_series p m)
represents-series limits keys m p r h =
    let new : IsNew limits m p.key (restored_record p) = is-new limits m p (subst (λ (ks : StoredKeys). IsNewSeries limits ks p) r.kept h) in
    record {
      valid = valid-with limits m p.key (restored_record p) r.valid new;
      kept = ap (keys_with_series p) r.kept ∙ kept-with m p.key (restored_record p) r.valid.linked new.missing refl;
    }
