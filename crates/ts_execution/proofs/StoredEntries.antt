-- The entries of a database in the order of their keys, one by one.
use Rattle.std.proofs.Common.{◌≡◌, ℕ, zero, suc, ◌+◌, ◌<◌, ◌≤◌, List, [], ◌∷◌, ◌++◌, length, get_or, take, map, refl, sym, ◌∙◌, ap, subst, append_assoc, append-nil, add-one, arith}
use Rattle.std.proofs.lemmas.List.{map-append, take_all, take_more}
use Rattle.std.proofs.lemmas.List.Concat.{flat_map-append}
use Rattle.std.specs.Prelude.{min, Option, Some}
use Rattle.ts_spec.specs.declared.wire.WireLimits.{WireLimits}
use Rattle.ts_spec.specs.Key.{Key}
use Rattle.ts_spec.specs.Keyed.{Entry, get, get_in}
use Rattle.ts_spec.specs.StoredSeries.{StoredRule, StoredSeries}
use Rattle.ts_sample.specs.declared.sample.Id.{Id}
use Rattle.ts_restore.specs.Checkpoint.{RulePart, series_part, parts_from, rule_parts}
use Rattle.ts_restore.proofs.Entries.{AllEntries, each-entry}
use Rattle.ts_checkpoint.specs.Parts.{Rule}
use Rattle.ts_checkpoint.specs.Restoring.{ChunkedSeries, shown_series, series_parts, HaveStoredChunks}
use Rattle.ts_db.specs.DbState.{DbView, AreIdsOf, IsLive, chunk_samples_at}
use Rattle.ts_db.specs.Faults.{key_of_id}
use Rattle.ts_db.specs.Restoring.{keys_in_order, StoresRules}
use Rattle.ts_rules.specs.declared.rule.Rule.{Rule as TheRule}
use Rattle.ts_rules.specs.Rules.{stored_rule_for}
use Rattle.ts_execution.specs.Checkpoints.{Written, WrittenSeries, IsEntry, record_count, record_total}
use Rattle.ts_execution.proofs.Drafting.{written-none, written-then}

-- the entry of the id at an index
pub record IsNextEntry (db_view : DbView) (es : List (Entry StoredSeries)) (i : ℕ) (id : Id) : Type 0 where
  pub entry : Entry StoredSeries
  pub is : IsEntry db_view id entry
  pub more : take (i + 1) es ≡ take i es ++ entry ∷ []

module _ (db_view : DbView) where
  abbrev all : List (Entry StoredSeries)
  all = db_view.keys.entries

  next-in : (es : List (Entry StoredSeries)) (ns : List Id) (i : ℕ) (d : Id) → AllEntries (λ k x. get_in k all ≡ Some x) es → AreIdsOf db_view.ids (map (λ e. e.key) es) ns
      → i < length ns → IsNextEntry db_view es i (get_or ns i d)
  next-in [] [] i d there ids within = absurd (omega (arith, within))
  next-in [] (n ∷ ns) i d there ids within = absurd ids
  next-in (e ∷ es) [] i d there ids within = absurd ids
  next-in (e ∷ es) (n ∷ ns) zero d there ids within = record { entry = e; is = record { numbered = ids.0; there = there.0 }; more = refl }
  next-in (e ∷ es) (n ∷ ns) (suc i) d there ids within =
      let next = next-in es ns i d there.1 ids.1 (omega (arith, within)) in
      record {
        entry = next.entry;
        is = next.is;
        more = ap (λ (k : ℕ). take k (e ∷ es)) (add-one (suc i)) ∙ ap (λ (l : List (Entry StoredSeries)). e ∷ l) (ap (λ (k : ℕ). take k es) (sym (add-one i)) ∙ next.more);
      }

  pub next-entry : (ns : List Id) (i : ℕ) (d : Id) → AreIdsOf db_view.ids (keys_in_order db_view.keys) ns → i < length ns → IsNextEntry db_view all i (get_or ns i d)
  next-entry ns i d ids within =
      next-in all ns i d (each-entry (λ k x. get_in k all ≡ Some x) all db_view.keys.sorted (λ k x is. is)) ids within

  as-many : (es : List (Entry StoredSeries)) (ns : List Id) → AreIdsOf db_view.ids (map (λ e. e.key) es) ns → length es ≡ length ns
  as-many [] [] ids = refl
  as-many [] (n ∷ ns) ids = absurd ids
  as-many (e ∷ es) [] ids = absurd ids
  as-many (e ∷ es) (n ∷ ns) ids = ap suc (as-many es ns ids.1)

  -- behind the last id there is no entry
  pub all-entries : (ns : List Id) (i : ℕ) → AreIdsOf db_view.ids (keys_in_order db_view.keys) ns → length ns ≤ i → take i all ≡ all
  all-entries ns i ids past = take_all i all (omega (arith, as-many all ns ids, past))

pub live-entry : (db_view : DbView) (es : List (Entry StoredSeries)) (i : ℕ) (id : Id) → IsNextEntry db_view es i id → IsLive db_view.ids id
live-entry db_view es i id next = record { key = next.entry.key; is = next.is.numbered }

-- ---- series

stored-then : (ss ts : List ChunkedSeries) → HaveStoredChunks ss → HaveStoredChunks ts → HaveStoredChunks (ss ++ ts)
stored-then [] ts s t = t
stored-then (u ∷ ss) ts s t = (s.0, stored-then ss ts s.1 t)

pub series-none : (limits : WireLimits) (db_view : DbView) (a : Option (List ℕ)) → WrittenSeries limits db_view [] a a
series-none limits db_view a = record { series = []; shown = refl; counts = refl; stored = tt; written = written-none limits a }

series-then : {limits : WireLimits} {db_view : DbView} {es fs : List (Entry StoredSeries)} {a b c : Option (List ℕ)} → WrittenSeries limits db_view es a b → WrittenSeries limits db_view fs b c
    → WrittenSeries limits db_view (es ++ fs) a c
series-then {limits} {db_view} {es} {fs} {a} {b} {c} p q =
    let count : ChunkedSeries → ℕ = λ s. length s.chunks in
    let count_of : Entry StoredSeries → ℕ = λ e. length (chunk_samples_at db_view e.key) in
    record {
      series = p.series ++ q.series;
      shown = map-append shown_series p.series q.series ∙ ap (λ l. l ++ map shown_series q.series) p.shown ∙ ap (λ l. map series_part es ++ l) q.shown
          ∙ sym (map-append series_part es fs);
      counts = map-append count p.series q.series ∙ ap (λ (l : List ℕ). l ++ map count q.series) p.counts ∙ ap (λ (l : List ℕ). map count_of es ++ l) q.counts
          ∙ sym (map-append count_of es fs);
      stored = stored-then p.series q.series p.stored q.stored;
      written = subst (Written limits a c) (sym (flat_map-append series_parts p.series q.series)) (written-then p.written q.written);
    }

pub series-next : {limits : WireLimits} {a b c : Option (List ℕ)} (db_view : DbView) (es : List (Entry StoredSeries)) (i : ℕ) (id : Id) → IsNextEntry db_view es i id
    → WrittenSeries limits db_view (take i es) a b → ((e : Entry StoredSeries) → IsEntry db_view id e → WrittenSeries limits db_view (e ∷ []) b c) → WrittenSeries limits db_view (take (i + 1) es) a c
series-next {limits} {a} {b} {c} db_view es i id next before one =
    subst (λ (l : List (Entry StoredSeries)). WrittenSeries limits db_view l a c) (sym next.more) (series-then before (one next.entry next.is))

-- ---- rules

rules-then : (es fs : List (Entry StoredSeries)) → rule_parts (es ++ fs) ≡ rule_parts es ++ rule_parts fs
rules-then [] fs = refl
rules-then (e ∷ es) fs =
    ap (λ (l : List RulePart). parts_from e.key e.value.rules ++ l) (rules-then es fs)
    ∙ sym (append_assoc (parts_from e.key e.value.rules) (rule_parts es) (rule_parts fs))

pub rules-next : {limits : WireLimits} {a b c : Option (List ℕ)} (db_view : DbView) (es : List (Entry StoredSeries)) (i : ℕ) (id : Id) → IsNextEntry db_view es i id
    → Written limits a b (map Rule (rule_parts (take i es))) → ((e : Entry StoredSeries) → IsEntry db_view id e → Written limits b c (map Rule (parts_from e.key e.value.rules)))
    → Written limits a c (map Rule (rule_parts (take (i + 1) es)))
rules-next {limits} {a} {b} {c} db_view es i id next before one =
    let e = next.entry in
    let its : List RulePart = parts_from e.key e.value.rules in
    let more : rule_parts (take (i + 1) es) ≡ rule_parts (take i es) ++ its =
    ap rule_parts next.more ∙ rules-then (take i es) (e ∷ []) ∙ ap (λ (l : List RulePart). rule_parts (take i es) ++ l) (append-nil its) in
    subst (Written limits a c) (sym (ap (λ (l : List RulePart). map Rule l) more ∙ map-append Rule (rule_parts (take i es)) its)) (written-then before (one e next.is))

parts-then : (key : Key) (qs rs : List StoredRule) → parts_from key (qs ++ rs) ≡ parts_from key qs ++ parts_from key rs
parts-then key [] rs = refl
parts-then key (q ∷ qs) rs = ap (λ (l : List RulePart). record { source = key; rule = q } ∷ l) (parts-then key qs rs)

-- the rules of one source, one by one
pub rule-next : {limits : WireLimits} {a b c : Option (List ℕ)} {X : Type 0} (key : Key) (stored : X → StoredRule) (rs : List X) (i : ℕ) (r : X) → i < length rs → r ≡ get_or rs i r
    → Written limits a b (map Rule (parts_from key (map stored (take i rs)))) → Written limits b c (Rule (record { source = key; rule = stored r }) ∷ [])
    → Written limits a c (map Rule (parts_from key (map stored (take (i + 1) rs))))
rule-next {limits} {a} {b} {c} {X} key stored rs i r within is before one =
    let more : take (i + 1) rs ≡ take i rs ++ r ∷ [] = take_more rs i r within ∙ ap (λ (q : X). take i rs ++ q ∷ []) (sym is) in
    let front : List StoredRule = map stored (take i rs) in
    let parts : parts_from key (map stored (take (i + 1) rs)) ≡ parts_from key front ++ record { source = key; rule = stored r } ∷ [] =
    ap (λ (l : List X). parts_from key (map stored l)) more ∙ ap (parts_from key) (map-append stored (take i rs) (r ∷ [])) ∙ parts-then key front (stored r ∷ []) in
    subst (Written limits a c)
    (sym (ap (λ (l : List RulePart). map Rule l) parts ∙ map-append Rule (parts_from key front) (record { source = key; rule = stored r } ∷ [])))
    (written-then before one)

-- all rules of a source are those that are stored
pub rules-same : (db_view : DbView) (e : Entry StoredSeries) (rs : List TheRule) → get e.key db_view.keys ≡ Some e.value → StoresRules db_view e.key rs
    → map (λ r. stored_rule_for (key_of_id db_view.ids r.dest) r) rs ≡ e.value.rules
rules-same db_view e rs there stores =
    let both : Some stores.stored ≡ Some e.value = sym stores.there ∙ there in
    let same : stores.stored ≡ e.value = cc in
    sym stores.rules ∙ ap (λ (d : StoredSeries). d.rules) same

-- ---- the number of records

total-then : (db_view : DbView) (es fs : List (Entry StoredSeries)) → record_total db_view (es ++ fs) ≡ record_total db_view es + record_total db_view fs
total-then db_view [] fs = omega arith
total-then db_view (e ∷ es) fs = omega (arith, total-then db_view es fs)

pub total-next : (db_view : DbView) (es : List (Entry StoredSeries)) (i : ℕ) (id : Id) (before one after most : ℕ) → IsNextEntry db_view es i id → before ≡ min (record_total db_view (take i es)) most
    → ((e : Entry StoredSeries) → IsEntry db_view id e → one ≡ min (record_count db_view e) most) → after ≡ min (before + one) most → after ≡ min (record_total db_view (take (i + 1) es)) most
total-next db_view es i id before one after most next so_far its sum =
    omega (arith, so_far, its next.entry next.is, sum, ap (record_total db_view) next.more, total-then db_view (take i es) (next.entry ∷ []))

-- the number of the rules of one source
pub length-rules : (key : Key) (qs : List StoredRule) → length (parts_from key qs) ≡ length qs
length-rules key [] = refl
length-rules key (q ∷ qs) = ap suc (length-rules key qs)
