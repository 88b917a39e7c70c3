-- The series of a checkpoint of stored data are valid, and give the stored data without its rules.
use Rattle.std.proofs.Common.{◌≡◌, suc, ◌+◌, ◌≤◌, Bool, true, false, if◌then◌else◌, List, [], ◌∷◌, map, length, Option, Some, None, option_map, refl, sym, ap, ◌∙◌, arith}
use Rattle.std.specs.Bool.{⊤}
use Rattle.std.specs.Option.{option_or}
use Rattle.std.proofs.lemmas.Bool.{and_parts}
use Rattle.ts_spec.specs.declared.limits.Limits.{Limits}
use Rattle.ts_spec.specs.Key.{Key, same, is_before}
use Rattle.ts_spec.specs.Keyed.{Entry, is_below, is_sorted, get_in, none, get, each, count_keys}
use Rattle.ts_spec.specs.StoredSeries.{StoredSeries, StoredKeys}
use Rattle.ts_spec.proofs.Keys.{same-true}
use Rattle.ts_spec.proofs.Maps.{below-get, get-each, get-with, maps-same}
use Rattle.ts_restore.specs.Checkpoint.{series_part}
use Rattle.ts_restore.specs.Restored.{bare_series, keys_with_series, keys_with_all_series}
use Rattle.ts_restore.specs.Restorable.{IsSeries, AreNewSeries}
use Rattle.ts_restore.proofs.Entries.{before-other, AllEntries, count-with}

-- a stored series without its rules and its source
abbrev pub bare : StoredSeries → StoredSeries
bare d = record d { rules = []; source = None }

get-series : (es : List (Entry StoredSeries)) → is_sorted es ≡ true → (keys : StoredKeys) (k : Key) →
    get k (keys_with_all_series (map series_part es) keys) ≡ option_or (option_map bare (get_in k es)) (get k keys)
get-series [] s keys k = refl
get-series (e ∷ es) s keys k =
    let parts : (is_below e.key es ≡ true) × (is_sorted es ≡ true) = and_parts (is_below e.key es) (is_sorted es) s in
    get-series es parts.1 (keys_with_series (series_part e) keys) k
    ∙ ap (option_or (option_map bare (get_in k es))) (get-with k e.key (bare_series (series_part e)) keys)
    ∙ go (same e.key k) refl parts.0
  where
    go : (b : Bool) → same e.key k ≡ b → is_below e.key es ≡ true →
        option_or (option_map bare (get_in k es)) (if b then Some (bare e.value) else get k keys) ≡ option_or (option_map bare (if b then Some e.value else get_in k es)) (get k keys)
    go false x below = refl
    go true x below =
        let gone : get_in k es ≡ None = ap (λ (j : Key). get_in j es) (sym (same-true e.key k x)) ∙ below-get e.key es below in
        ap (λ (o : Option StoredSeries). option_or (option_map bare o) (Some (bare e.value))) gone

-- The series of a checkpoint give the stored data without rules.
pub keys-of-series : (keys : StoredKeys) → keys_with_all_series (map series_part keys.entries) none ≡ each (λ k d. bare d) keys
keys-of-series keys =
    maps-same (keys_with_all_series (map series_part keys.entries) none) (each (λ k d. bare d) keys)
    (λ k. get-series keys.entries keys.sorted none k ∙ only (option_map bare (get k keys)) ∙ sym (get-each (λ j d. bare d) k keys))
  where
    only : (o : Option StoredSeries) → option_or o None ≡ o
    only None = refl
    only (Some d) = refl

-- none of these keys is stored
abbrev AreMissing : StoredKeys → List (Entry StoredSeries) → Type 0
AreMissing keys [] = ⊤
AreMissing keys (e ∷ es) = (get e.key keys ≡ None) × AreMissing keys es

still-missing : (k : Key) (x : StoredSeries) (keys : StoredKeys) (es : List (Entry StoredSeries)) (p : Entry StoredSeries) → p.key ≡ k → is_below k es ≡ true → AreMissing keys es → AreMissing (keys_with_series (series_part p) keys) es
still-missing k x keys [] p i below h = tt
still-missing k x keys (e ∷ es) p i below h =
    let parts : (is_before k e.key ≡ true) × (is_below k es ≡ true) = and_parts (is_before k e.key) (is_below k es) below in (
      get-with e.key p.key (bare_series (series_part p)) keys
          ∙ ap (λ (b : Bool). if b then Some (bare_series (series_part p)) else get e.key keys) (ap (λ (j : Key). same j e.key) i ∙ before-other k e.key parts.0) ∙ h.0,
      still-missing k x keys es p i parts.1 h.1,
    )

all-missing : (es : List (Entry StoredSeries)) → AreMissing none es
all-missing [] = tt
all-missing (e ∷ es) = (refl, all-missing es)

new-series-on : (limits : Limits) (es : List (Entry StoredSeries)) → is_sorted es ≡ true → AllEntries (λ k d. IsSeries limits (series_part (record { key = k; value = d }))) es →
    (keys : StoredKeys) → AreMissing keys es → count_keys keys + length es ≤ limits.keys → AreNewSeries limits keys (map series_part es)
new-series-on limits [] s valid keys missing room = tt
new-series-on limits (e ∷ es) s valid keys missing room =
    let parts : (is_below e.key es ≡ true) × (is_sorted es ≡ true) = and_parts (is_below e.key es) (is_sorted es) s in
    let more : count_keys (keys_with_series (series_part e) keys) ≤ suc (count_keys keys) = count-with e.key (bare_series (series_part e)) keys in (
      record { series = valid.0; missing = missing.0; room = omega arith },
      new-series-on limits es parts.1 valid.1 (keys_with_series (series_part e) keys) (still-missing e.key e.value keys es e refl parts.0 missing.1) (omega arith),
    )

-- The series of a checkpoint of stored data are new one after another, if each is valid by itself.
pub new-series : (limits : Limits) (keys : StoredKeys) → count_keys keys ≤ limits.keys → AllEntries (λ k d. IsSeries limits (series_part (record { key = k; value = d }))) keys.entries →
    AreNewSeries limits none (map series_part keys.entries)
new-series limits keys few valid = new-series-on limits keys.entries keys.sorted valid none (all-missing keys.entries) (omega arith)
