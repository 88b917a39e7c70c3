-- The parts of a checkpoint restore, one after another.
use Rattle.std.proofs.Common.{◌≡◌, ◌≢◌, ℕ, Bool, true, if◌then◌else◌, List, [], ◌∷◌, ◌++◌, length, map, flat_map, refl, sym, ap, ◌∙◌, subst, append_assoc, append-nil, length-append, arith}
use Rattle.std.proofs.lemmas.Bool.{eq-eqb, ne_eqb}
use Rattle.std.specs.Prelude.{Option, Some, None}
use Rattle.ts_spec.specs.declared.limits.Limits.{Limits}
use Rattle.ts_spec.specs.Represents.{RepresentsState}
use Rattle.ts_spec.specs.Sample.{Point}
use Rattle.ts_spec.specs.State.{State}
use Rattle.ts_spec.specs.StoredSeries.{StoredKeys, kept}
use Rattle.ts_chunk_packed.specs.Packed.{packed}
use Rattle.ts_restore.specs.Checkpoint.{SeriesPart, RulePart}
use Rattle.ts_restore.specs.Restorable.{IsNewSeries, IsNewRule, AreNewSeries, AreNewRules}
use Rattle.ts_restore.specs.Restored.{keys_with_series, keys_with_rule, with_series, with_restored_rule, with_all_series, with_all_rules}
use Rattle.ts_restore.proofs.RestoringRules.{represents-rule}
use Rattle.ts_restore.proofs.RestoringSeries.{represents-series}
use Rattle.ts_checkpoint.specs.Checks.{is_new_series, is_new_rule, can_follow, CanFollow}
use Rattle.ts_checkpoint.specs.Loading.{OpenSeries, Restoring, restoring, series_so_far, with_whole, with_open, with_chunk, with_samples, with_rule, restore_part}
use Rattle.ts_checkpoint.specs.Parts.{SeriesHead, Part, Rule}
use Rattle.ts_checkpoint.specs.Restoring.{Chunk, ChunkedSeries, shown_series, chunk_part, head_of, series_parts, HasStoredChunks, HaveStoredChunks}
use Rattle.ts_checkpoint.specs.Unpacked.{unpacked}
use Rattle.ts_checkpoint.proofs.NextChunks.{follows}

-- what parts restore to, one after another, if each can be taken
abbrev pub restore_next : Option Restoring → (Restoring → Option Restoring) → Option Restoring
restore_next None on = None
restore_next (Some r) on = on r

abbrev pub restore_all : Limits → Restoring → List Part → Option Restoring
restore_all limits r [] = Some r
restore_all limits r (p ∷ ps) = restore_next (restore_part limits r p) (λ n. restore_all limits n ps)

-- the tests pass for what may come next, and packed samples unpack
pub record AreExact : Type 0 where
  pub series : (limits : Limits) (keys : StoredKeys) (p : SeriesPart) → IsNewSeries limits keys p → is_new_series limits keys p ≡ true
  pub rule : (limits : Limits) (keys : StoredKeys) (p : RulePart) → IsNewRule limits keys p → is_new_rule limits keys p ≡ true
  pub chunk : (s : SeriesHead) (chunks : List Chunk) (limit : ℕ) (ps : List Point) → CanFollow s chunks limit ps → can_follow s chunks limit ps ≡ true
  pub unpacks : (ps : List Point) → unpacked (packed ps) ≡ Some ps

-- ---- a series

module _ (limits : Limits) (exact : AreExact) (m : State) (s : ChunkedSeries) (new : IsNewSeries limits (kept m) (shown_series s)) (stored : HasStoredChunks s) (more : List Part) where
  abbrev there : Restoring
  there = restoring (with_series (shown_series s) m)

  abbrev so_far : List Chunk → OpenSeries
  so_far done = record { head = head_of s; chunks = done }

  whole-taken : with_whole limits m (shown_series s) ≡ Some there
  whole-taken = ap (λ (b : Bool). if b then Some there else None) (exact.series limits (kept m) (shown_series s) new)

  -- the series with all its chunks
  abbrev complete : List Chunk → Option Restoring
  complete done = with_whole limits m (shown_series (series_so_far (so_far done)))

  last-open : (done : List Chunk) → done ≡ s.chunks → with_open limits m (so_far done) ≡ Some there
  last-open done all =
      ap (λ (b : Bool). if b then complete done else Some (record { state = m; current = Some (so_far done) })) (eq-eqb (length done) (length s.chunks) (ap length all))
      ∙ ap complete all ∙ whole-taken

  next-open : (done : List Chunk) (c : Chunk) (rest : List Chunk) → done ++ c ∷ rest ≡ s.chunks
      → with_open limits m (so_far done) ≡ Some (record { state = m; current = Some (so_far done) })
  next-open done c rest split =
      let fewer : length done ≢ length s.chunks = λ e. absurd (omega (arith, e, ap length split, length-append done (c ∷ rest))) in
      ap (λ (b : Bool). if b then complete done else Some (record { state = m; current = Some (so_far done) })) (ne_eqb (length done) (length s.chunks) fewer)

  chunk-taken : (done : List Chunk) (c : Chunk) (rest : List Chunk) → done ++ c ∷ rest ≡ s.chunks
      → restore_part limits (record { state = m; current = Some (so_far done) }) (chunk_part c) ≡ with_open limits m (so_far (done ++ c ∷ []))
  chunk-taken done c rest split =
      let follow = exact.chunk (head_of s) done c.limit c.list (follows s stored new.series.list done c rest split) in
      ap (with_samples limits m (so_far done) c.limit) (exact.unpacks c.list)
      ∙ ap (λ (b : Bool). if b then with_open limits m (with_chunk c (so_far done)) else None) follow

  -- the chunks that are left
  chunks-taken : (done rest : List Chunk) → done ++ rest ≡ s.chunks
      → restore_next (with_open limits m (so_far done)) (λ r. restore_all limits r (map chunk_part rest ++ more)) ≡ restore_all limits there more
  chunks-taken done [] split = ap (λ o. restore_next o (λ r. restore_all limits r more)) (last-open done (sym (append-nil done) ∙ split))
  chunks-taken done (c ∷ rest) split =
      let on : Restoring → Option Restoring = λ r. restore_all limits r (map chunk_part rest ++ more) in
      ap (λ o. restore_next o (λ r. restore_all limits r (chunk_part c ∷ (map chunk_part rest ++ more)))) (next-open done c rest split)
      ∙ ap (λ o. restore_next o on) (chunk-taken done c rest split)
      ∙ chunks-taken (done ++ c ∷ []) rest (append_assoc done (c ∷ []) rest ∙ split)

  pub series-taken : restore_all limits (restoring m) (series_parts s ++ more) ≡ restore_all limits there more
  series-taken = chunks-taken [] s.chunks refl

-- ---- all series

pub all-series-taken : (limits : Limits) → AreExact → (keys : StoredKeys) (m : State) (series : List ChunkedSeries) (more : List Part) → RepresentsState limits keys m
    → AreNewSeries limits keys (map shown_series series) → HaveStoredChunks series
    → restore_all limits (restoring m) (flat_map series_parts series ++ more) ≡ restore_all limits (restoring (with_all_series (map shown_series series) m)) more
all-series-taken limits exact keys m [] more r new stored = refl
all-series-taken limits exact keys m (s ∷ series) more r new stored =
    let p : SeriesPart = shown_series s in
    ap (restore_all limits (restoring m)) (append_assoc (series_parts s) (flat_map series_parts series) more)
    ∙ series-taken limits exact m s (subst (λ (k : StoredKeys). IsNewSeries limits k p) r.kept new.0) stored.0 (flat_map series_parts series ++ more)
    ∙ all-series-taken limits exact (keys_with_series p keys) (with_series p m) series more (represents-series limits keys m p r new.0) new.1 stored.1

-- ---- all rules

rule-taken : (limits : Limits) → AreExact → (m : State) (p : RulePart) → IsNewRule limits (kept m) p → with_rule limits m p ≡ Some (restoring (with_restored_rule p m))
rule-taken limits exact m p new = ap (λ (b : Bool). if b then Some (restoring (with_restored_rule p m)) else None) (exact.rule limits (kept m) p new)

pub all-rules-taken : (limits : Limits) → AreExact → (keys : StoredKeys) (m : State) (rules : List RulePart) → RepresentsState limits keys m → AreNewRules limits keys rules
    → restore_all limits (restoring m) (map Rule rules) ≡ Some (restoring (with_all_rules rules m))
all-rules-taken limits exact keys m [] r new = refl
all-rules-taken limits exact keys m (p ∷ rules) r new =
    ap (λ o. restore_next o (λ n. restore_all limits n (map Rule rules)))
    (rule-taken limits exact m p (subst (λ (k : StoredKeys). IsNewRule limits k p) r.kept new.0))
    ∙ all-rules-taken limits exact (keys_with_rule p keys) (with_restored_rule p m) rules (represents-rule limits keys m p r new.0) new.1
