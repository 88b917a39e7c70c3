-- All records of a checkpoint.
use Rattle.std.proofs.Common.{◌≡◌, ℕ, ◌+◌, ◌-◌, ◌^◌, List, [], ◌∷◌, length, map, refl, sym, ◌∙◌, ap, subst, length-append, arith}
use Rattle.std.proofs.lemmas.List.{length-map}
use Rattle.std.specs.Prelude.{min, flat_map, Option}
use Rattle.ts_spec.specs.declared.wire.WireLimits.{WireLimits}
use Rattle.ts_spec.specs.Keyed.{Entry}
use Rattle.ts_spec.specs.Represents.{AllHaveDurations}
use Rattle.ts_spec.specs.StoredSeries.{StoredSeries, StoredKeys, kept}
use Rattle.ts_spec.specs.Valid.{IsValid}
use Rattle.ts_spec.specs.declared.limits.Limits.{Limits}
use Rattle.ts_restore.specs.Checkpoint.{RulePart, series_part, rule_parts, parts_from}
use Rattle.ts_journal.specs.Limits.{journal_limits}
use Rattle.ts_checkpoint.specs.Parts.{Head, Rule}
use Rattle.ts_checkpoint.specs.Restoring.{ChunkedSeries, series_parts, chunk_part, parts_behind, all_parts}
use Rattle.ts_db.specs.DbState.{DbState, DbView, Represents, chunk_samples_at}
use Rattle.ts_execution.specs.Checkpoints.{Written, WrittenSeries, Writes, record_total}
use Rattle.ts_execution.proofs.Drafting.{written-then}
use Rattle.ts_execution.proofs.StoredEntries.{length-rules}

-- the number of parts behind the head
parts-counted : (db_view : DbView) (series : List ChunkedSeries) (es : List (Entry StoredSeries)) → map (λ s. length s.chunks) series ≡ map (λ e. length (chunk_samples_at db_view e.key)) es
    → length (flat_map series_parts series) + length (rule_parts es) ≡ record_total db_view es
parts-counted db_view [] [] same = refl
parts-counted db_view [] (e ∷ es) same = absurd cc
parts-counted db_view (s ∷ series) [] same = absurd cc
parts-counted db_view (s ∷ series) (e ∷ es) same =
    let first : length s.chunks ≡ length (chunk_samples_at db_view e.key) = cc in
    let others : map (λ s. length s.chunks) series ≡ map (λ e. length (chunk_samples_at db_view e.key)) es = cc in
    omega (
      arith,
      first,
      parts-counted db_view series es others,
      length-append (series_parts s) (flat_map series_parts series),
      length-map s.chunks chunk_part,
      length-append (parts_from e.key e.value.rules) (rule_parts es),
      length-rules e.key e.value.rules,
    )

module _ (limits : WireLimits) (db_view : DbView) (held : DbState) (represents : Represents db_view held) (durations : AllHaveDurations db_view.keys) {a b c d : Option (List ℕ)} (n : ℕ)
    (count : n ≡ min (record_total db_view db_view.keys.entries) (2 ^ 64 - 1)) (head : Written (journal_limits limits) a b (Head n ∷ []))
    (series : WrittenSeries (journal_limits limits) db_view db_view.keys.entries b c) (rules : Written (journal_limits limits) c d (map Rule (rule_parts db_view.keys.entries))) where
  abbrev its_rules : List RulePart
  its_rules = rule_parts db_view.keys.entries

  counted : n ≡ length (parts_behind series.series its_rules)
  counted =
      omega (
        arith,
        count,
        head.sayable.0,
        parts-counted db_view series.series db_view.keys.entries series.counts,
        length-append (flat_map series_parts series.series) (map Rule its_rules),
        length-map its_rules Rule,
      )

  all-written : Written (journal_limits limits) a d (all_parts series.series its_rules)
  all-written =
      subst (λ (k : ℕ). Written (journal_limits limits) a d (Head k ∷ parts_behind series.series its_rules)) counted (written-then head (written-then series.written rules))

  -- all parts were written
  pub whole : Writes limits held a d
  whole =
      let keys : db_view.keys ≡ kept held.state = represents.state.kept in
      let written = subst (λ (k : StoredKeys). Written (journal_limits limits) a d (all_parts series.series (rule_parts k.entries))) keys all-written in
      record {
        requests = _;
        written = record {
          valid = subst (λ (l : Limits). IsValid l held.state) (sym represents.limits) represents.state.valid;
          durations = subst AllHaveDurations keys durations;
          series = series.series;
          shown = series.shown ∙ ap (λ (k : StoredKeys). map series_part k.entries) keys;
          stored = series.stored;
          sayable = written.sayable;
          words = refl;
        };
        fit = written.fit;
        added = written.added;
      }
