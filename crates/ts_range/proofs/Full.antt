-- Further samples change none of the rows in a full sink.
use Rattle.std.proofs.Common.{◌≡◌, ℕ, ◌<◌, ◌≤◌, List, [], ◌∷◌, ◌++◌, map, length, sym, ◌∙◌, ap, subst, append_assoc, arith}
use Rattle.std.specs.Prelude.{Option, None, Some, option_map}
use Rattle.std.specs.List.{All}
use Rattle.std.proofs.lemmas.List.{map-append}
use Rattle.std.proofs.lemmas.List.Elements.{All-head, All-weaker, All-append}
use Rattle.ts_spec.specs.Sample.{Point, IsAscending}
use Rattle.ts_spec.specs.Bucket.{Grid, start}
use Rattle.ts_spec.specs.Answer.{Row, row_of}
use Rattle.ts_spec.proofs.Buckets.{start-mono}
use Rattle.ts_sample.proofs.Lists.{after-right, ascending-right}
use Rattle.ts_range.specs.declared.cutter.Cutter.{Cutter}
use Rattle.ts_range.specs.declared.query.Buckets.{Buckets}
use Rattle.ts_range.specs.declared.bucket.Bucket.{Bucket}
use Rattle.ts_range.specs.Query.{buckets_of}
use Rattle.ts_range.specs.BucketRows.{bucket_rows}
use Rattle.ts_range.specs.Cutting.{IsCut}
use Rattle.ts_range.specs.RowScanState.{AreScanned, rows_passing}
use Rattle.ts_range.proofs.Filtered.{after-all}
use Rattle.ts_range.proofs.Groups.{rows-append}

-- samples past those of a bucket are in it, or in later ones
later : (g : Grid) → 0 < g.duration → (b : ℕ) (here more : List Point) → 0 < length here → All (λ p. start g p.time ≡ b) here → IsAscending (here ++ more) → All (λ p. b ≤ start g p.time) more
later g some b [] more few all rises = absurd (omega arith)
later g some b (p ∷ ps) more few all rises =
    let first : start g p.time ≡ b = All-head (λ q. start g q.time ≡ b) p ps all in
    All-weaker (λ q. p.time < q.time) (λ q. b ≤ start g q.time) (λ q less. omega (arith, start-mono g p.time q.time some (omega arith))) more (after-all p.time more (after-right p.time ps more rises.0))

module _ (has : List Row → Type 0) (full : (rows more : List Row) → has rows → has (rows ++ more)) where
  cut-full : (bs : Buckets) (current : Option Bucket) (ps more asked : List Point) → IsAscending (ps ++ more) → IsCut has bs current ps → has (bucket_rows (buckets_of bs) asked (ps ++ more))
  cut-full bs None ps more asked rises is = full [] (bucket_rows (buckets_of bs) asked (ps ++ more)) is.1
  cut-full bs (Some o) ps more asked rises is =
      let told = bucket_rows (buckets_of bs) asked in
      let up : IsAscending (is.here ++ more) =
      ascending-right is.early (is.here ++ more) (subst IsAscending (ap (λ (l : List Point). l ++ more) is.parts ∙ append_assoc is.early is.here more) rises) in
      let all : told (ps ++ more) ≡ told is.early ++ told (is.here ++ more) =
      ap (λ (l : List Point). told (l ++ more)) is.parts ∙ ap told (append_assoc is.early is.here more)
      ∙ rows-append (buckets_of bs) asked o.start is.early (is.here ++ more) is.before
      (All-append (λ (p : Point). o.start ≤ start bs.grid p.time) is.here more
      (All-weaker (λ (p : Point). start bs.grid p.time ≡ o.start) (λ (p : Point). o.start ≤ start bs.grid p.time) (λ p e. omega arith) is.here is.inside)
      (later bs.grid (omega (arith, is.span.grid.some)) o.start is.here more is.tells.some is.inside up)) in
      subst has (sym all) (full (told is.early) (told (is.here ++ more)) (is.taken asked))

  -- the rows of all samples, of which some were handed on, and then more come
  pub walk-full : (cut : Option Cutter) (chosen more asked : List Point) → IsAscending (chosen ++ more) → AreScanned has cut chosen
      → has (rows_passing (option_map (λ c. buckets_of c.buckets) cut) asked (chosen ++ more))
  walk-full None chosen more asked rises walked = subst has (sym (map-append row_of chosen more)) (full (map row_of chosen) (map row_of more) walked)
  walk-full (Some c) chosen more asked rises walked = cut-full c.buckets c.current chosen more asked rises walked
