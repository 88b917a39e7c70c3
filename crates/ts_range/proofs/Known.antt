-- The last samples before a bucket range, from the samples around the interval.
use Rattle.std.proofs.Common.{◌≡◌, ℕ, ◌<◌, ◌≤◌, false, max, Bool, ◌&&◌, nat_lt, List, sym, ◌∙◌, ap, arith, inl, inr, lt-ltb, le-ltb}
use Rattle.std.specs.Option.{option_or}
use Rattle.std.proofs.lemmas.Bool.{cases_lt}
use Rattle.std.proofs.lemmas.Bool.Decides.{nat_tests}
use Rattle.std.proofs.lemmas.List.Elements.{filter_agree}
use Rattle.ts_spec.specs.Sample.{Point, IsAscending, is_within, between}
use Rattle.ts_spec.specs.Bucket.{start}
use Rattle.ts_spec.proofs.Buckets.{start-le, start-mono, start-start}
use Rattle.ts_sample.proofs.Between.{filter-filter}
use Rattle.ts_range.specs.declared.query.Buckets.{Buckets}
use Rattle.ts_range.specs.declared.query.Query.{Query}
use Rattle.ts_range.specs.declared.query.Asked.{Asked}
use Rattle.ts_range.specs.declared.bucket_range.BucketRange.{BucketRange}
use Rattle.ts_range.specs.Empty.{known_before}
use Rattle.ts_range.specs.BucketRanges.{IsBucketRangeOf}
use Rattle.ts_range.specs.AskedSamples.{IsAroundOf, last_before}
use Rattle.ts_range.proofs.Around.{before-is}
use Rattle.ts_range.proofs.Lines.{first-asked}

module _ (q : Query) (bs : Buckets) (l : List Point) (rises : IsAscending l) (asked : Asked) (rows : between q.from q.to l ≡ asked.rows.items) (around : IsAroundOf q bs.grid asked l)
    (bucket_range : BucketRange) (told : IsBucketRangeOf q bs asked.ends bucket_range) where
  -- it lies in the interval
  from-least : q.from ≤ bucket_range.from
  from-least = let early = told.part.early in omega arith

  to-most : bucket_range.to ≤ q.to
  to-most = let late = told.part.late in omega arith

  from-most : bucket_range.from ≤ q.to
  from-most = let ordered = told.part.ordered in let reached = told.part.reached in omega (arith, to-most)

  -- its samples are there
  pub part-of : between bucket_range.from bucket_range.to asked.rows.items ≡ between bucket_range.from bucket_range.to l
  part-of =
      ap (between bucket_range.from bucket_range.to) (sym rows)
      ∙ filter-filter (λ (p : Point). is_within bucket_range.from bucket_range.to p.time) (λ (p : Point). is_within q.from q.to p.time) l
      ∙ filter_agree (λ (p : Point). is_within q.from q.to p.time && is_within bucket_range.from bucket_range.to p.time) (λ (p : Point). is_within bucket_range.from bucket_range.to p.time) (λ p. inner q.from q.to bucket_range.from bucket_range.to p.time from-least to-most) l
    where
      inner : (from to low high t : ℕ) → from ≤ low → high ≤ to → (is_within from to t && is_within low high t) ≡ is_within low high t
      inner from to low high t least most = grind (arith, nat_tests)

  before-time : (t : ℕ) → q.from ≤ t → t ≤ q.to → known_before false t asked ≡ last_before t l
  before-time t low high =
      ap (λ (ps : List Point). option_or (last_before t ps) asked.prior) (sym rows)
      ∙ ap (option_or (last_before t (between q.from q.to l))) around.prior
      ∙ before-is q.from q.to t l rises low high

  -- the last sample before its first time
  pub prior-known : known_before false bucket_range.from asked ≡ last_before bucket_range.from l
  prior-known = before-time bucket_range.from from-least from-most

  -- where its first bucket begins before the interval, it is the first one of all
  first-of-all : start bs.grid bucket_range.from < q.from → bucket_range.from ≡ max q.from told.times.0
  first-of-all less =
      let g = bs.grid in
      let lo = max q.from told.times.0 in
      let early = told.part.early in
      let ordered = told.part.ordered in
      let reached = told.part.reached in
      let late = told.part.late in
      let same = start-start g bucket_range.from told.some in
      let low = start-mono g (start g bucket_range.from) lo told.some (omega arith) in
      let high = start-mono g lo told.upto told.some (omega arith) in
      let both = told.part.whole lo (omega arith) (omega arith) (omega arith) high in
      let least = both.0 in
      omega arith

  -- the last sample before its first bucket
  pub ahead-known : known_before (nat_lt (start bs.grid bucket_range.from) q.from) (start bs.grid bucket_range.from) asked ≡ last_before (start bs.grid bucket_range.from) l
  ahead-known = elim (cases_lt (start bs.grid bucket_range.from) q.from) [
    | inl less ↦
        let p = first-asked l asked.ends told.times told.are around.ends in
        ap (λ (b : Bool). known_before b (start bs.grid bucket_range.from) asked) (lt-ltb (start bs.grid bucket_range.from) q.from less)
        ∙ around.ahead p.0 p.1
        ∙ ap (λ (t : ℕ). last_before (start bs.grid (max q.from t)) l) p.2
        ∙ ap (λ (t : ℕ). last_before (start bs.grid t) l) (sym (first-of-all less))
    | inr le ↦
        let low = start-le bs.grid bucket_range.from told.some in
        ap (λ (b : Bool). known_before b (start bs.grid bucket_range.from) asked) (le-ltb (start bs.grid bucket_range.from) q.from le)
        ∙ before-time (start bs.grid bucket_range.from) le (omega (arith, from-most))
  ]
