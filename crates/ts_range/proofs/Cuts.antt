-- Adding one more sample to its bucket.
use Rattle.std.proofs.Common.{◌≡◌, ℕ, ◌<◌, ◌≤◌, Bool, true, cond, List, [], ◌∷◌, ◌++◌, length, refl, sym, ◌∙◌, ap, subst, append_assoc, arith}
use Rattle.std.specs.Prelude.{filter}
use Rattle.std.specs.List.{All}
use Rattle.std.proofs.lemmas.List.Elements.{All-nil, All-cons, All-head, All-weaker, All-append, filter-append}
use Rattle.ts_spec.specs.declared.bucket.Aggregator.{Aggregator}
use Rattle.ts_spec.specs.Sample.{Point, MAX_TIME, IsAfter, IsAscending}
use Rattle.ts_spec.specs.Bucket.{Grid, start}
use Rattle.ts_spec.specs.Answer.{Row}
use Rattle.ts_spec.proofs.Buckets.{start-le}
use Rattle.ts_sample.proofs.Lists.{ascending-right}
use Rattle.ts_agg.specs.Tally.{IsTallyOf}
use Rattle.ts_range.specs.declared.query.Buckets.{Buckets}
use Rattle.ts_range.specs.declared.bucket.Bucket.{Bucket}
use Rattle.ts_range.specs.Query.{buckets_of}
use Rattle.ts_range.specs.BucketRows.{row_with, bucket_rows}
use Rattle.ts_range.specs.Spans.{IsSpan}
use Rattle.ts_range.specs.Cutting.{IsOpenAt}
use Rattle.ts_range.proofs.Groups.{one_row, rows-append, rows-one}
use Rattle.ts_range.proofs.Spans.{late, inside}

-- the last one of an ascending list is past the others
past-others : (t : ℕ) (qs : List Point) (p : Point) → IsAfter t (qs ++ p ∷ []) → t < p.time
past-others t [] p h = h.0
past-others t (q ∷ qs) p h = past-others t qs p h.1

-- a sample past those of a bucket is not before it
not-before : (g : Grid) → 0 < g.duration → (b : ℕ) (here : List Point) (p : Point) → 0 < length here → All (λ q. start g q.time ≡ b) here → IsAscending (here ++ p ∷ []) → b ≤ p.time
not-before g some b [] p few all h = absurd (omega arith)
not-before g some b (q ∷ qs) p few all h =
    let first : start g q.time ≡ b = All-head (λ r. start g r.time ≡ b) q qs all in
    let low = start-le g q.time some in
    let past = past-others q.time qs p h.0 in
    omega arith

one-row : (bs : Buckets) (b : ℕ) (here : List Point) → 0 < length here → one_row (buckets_of bs) b here ≡ row_with (buckets_of bs) b here ∷ []
one-row bs b [] some = absurd (omega arith)
one-row bs b (p ∷ ps) some = refl

module _ (has : List Row → Type 0) (bs : Buckets) (o : Bucket) (ps : List Point) (is : IsOpenAt has bs o ps) where
  some : 0 < bs.grid.duration
  some = omega (arith, is.span.grid.some)

  -- the row of the bucket is handed on
  pub closed : (has' : List Row → Type 0)
      → ((qs : List Point) → IsTallyOf bs.agg o.tally qs → start bs.grid o.start ≡ o.start → (rows : List Row) → has rows → has' (rows ++ row_with (buckets_of bs) o.start qs ∷ []))
      → (asked : List Point) → has' (bucket_rows (buckets_of bs) asked ps)
  closed has' told asked =
      let more : bucket_rows (buckets_of bs) asked ps ≡ bucket_rows (buckets_of bs) asked is.early ++ row_with (buckets_of bs) o.start is.here ∷ [] =
      ap (bucket_rows (buckets_of bs) asked) is.parts
      ∙ rows-append (buckets_of bs) asked o.start is.early is.here is.before
      (All-weaker (λ (p : Point). start bs.grid p.time ≡ o.start) (λ (p : Point). o.start ≤ start bs.grid p.time) (λ p e. omega arith) is.here is.inside)
      ∙ ap (λ (rs : List Row). bucket_rows (buckets_of bs) asked is.early ++ rs) (rows-one (buckets_of bs) asked o.start is.here is.inside ∙ one-row bs o.start is.here is.tells.some) in
      subst has' (sym more) (told is.here is.tells is.span.begins (bucket_rows (buckets_of bs) asked is.early) (is.taken asked))

  module _ (p : Point) (rises : IsAscending (ps ++ p ∷ [])) where
    here-rises : IsAscending (is.here ++ p ∷ [])
    here-rises = ascending-right is.early (is.here ++ p ∷ []) (subst IsAscending (ap (λ (l : List Point). l ++ p ∷ []) is.parts ∙ append_assoc is.early is.here (p ∷ [])) rises)

    from : o.start ≤ p.time
    from = not-before bs.grid some o.start is.here p is.tells.some is.inside here-rises

    -- it is in the bucket that is open
    pub same : p.time ≤ o.last → (new : Bucket) → new.start ≡ o.start → new.last ≡ o.last → ((agg : Aggregator) (qs : List Point) → IsTallyOf agg o.tally qs → IsTallyOf agg new.tally (qs ++ p ∷ []))
        → IsOpenAt has bs new (ps ++ p ∷ [])
    same upto new begins ends pushed =
        let b : start bs.grid p.time ≡ o.start = inside bs.grid some o.start o.last is.span.begins is.span.ends p.time from upto in
        record {
          early = is.early;
          here = is.here ++ p ∷ [];
          parts = ap (λ (l : List Point). l ++ p ∷ []) is.parts ∙ append_assoc is.early is.here (p ∷ []);
          span = subst (λ (t : ℕ). IsSpan bs.grid new.start t) (sym ends) (subst (λ (t : ℕ). IsSpan bs.grid t o.last) (sym begins) is.span);
          before = subst (λ (t : ℕ). All (λ (q : Point). start bs.grid q.time < t) is.early) (sym begins) is.before;
          inside = subst (λ (t : ℕ). All (λ (q : Point). start bs.grid q.time ≡ t) (is.here ++ p ∷ [])) (sym begins)
              (All-append (λ (q : Point). start bs.grid q.time ≡ o.start) is.here (p ∷ []) is.inside (All-cons (λ (q : Point). start bs.grid q.time ≡ o.start) p [] b (All-nil (λ (q : Point). start bs.grid q.time ≡ o.start))));
          tells = pushed bs.agg is.here is.tells;
          taken = is.taken;
        }

    -- it is past that bucket, whose row is handed on
    pub next : o.last < p.time → p.time ≤ MAX_TIME → (new : Bucket) → (IsSpan bs.grid o.start o.last → IsSpan bs.grid new.start new.last) → (IsSpan bs.grid o.start o.last → new.start ≡ start bs.grid p.time) → IsTallyOf bs.agg new.tally (p ∷ [])
        → (has' : List Row → Type 0)
        → ((qs : List Point) → IsTallyOf bs.agg o.tally qs → start bs.grid o.start ≡ o.start → (rows : List Row) → has rows → has' (rows ++ row_with (buckets_of bs) o.start qs ∷ []))
        → IsOpenAt has' bs new (ps ++ p ∷ [])
    next past time new spans begins tells has' told =
        let span = spans is.span in
        let at = begins is.span in
        let later : o.start < start bs.grid p.time = late bs.grid some o.start o.last is.span.begins is.span.ends p.time time past in
        record {
          early = ps;
          here = p ∷ [];
          parts = refl;
          span = span;
          before = subst (λ (l : List Point). All (λ (q : Point). start bs.grid q.time < new.start) l) (sym is.parts)
              (All-append (λ (q : Point). start bs.grid q.time < new.start) is.early is.here
              (All-weaker (λ (q : Point). start bs.grid q.time < o.start) (λ (q : Point). start bs.grid q.time < new.start) (λ q less. omega arith) is.early is.before)
              (All-weaker (λ (q : Point). start bs.grid q.time ≡ o.start) (λ (q : Point). start bs.grid q.time < new.start) (λ q e. omega arith) is.here is.inside));
          inside = All-cons (λ (q : Point). start bs.grid q.time ≡ new.start) p [] (sym at) (All-nil (λ (q : Point). start bs.grid q.time ≡ new.start));
          tells = tells;
          taken = closed has' told;
        }

-- it is the first one
pub first : (has : List Row → Type 0) (bs : Buckets) (ps : List Point) (p : Point) → ps ≡ [] → has [] → (new : Bucket) → IsSpan bs.grid new.start new.last → new.start ≡ start bs.grid p.time → IsTallyOf bs.agg new.tally (p ∷ [])
    → IsOpenAt has bs new (ps ++ p ∷ [])
first has bs ps p none empty new span at tells = record {
  early = [];
  here = p ∷ [];
  parts = ap (λ (l : List Point). l ++ p ∷ []) none;
  span = span;
  before = All-nil (λ (q : Point). start bs.grid q.time < new.start);
  inside = All-cons (λ (q : Point). start bs.grid q.time ≡ new.start) p [] (sym at) (All-nil (λ (q : Point). start bs.grid q.time ≡ new.start));
  tells = tells;
  taken = λ asked. empty;
}

-- ---- the samples that are let through

-- one that passes is kept
pub one-passes : (test : Point → Bool) (seen : List Point) (p : Point) → test p ≡ true → filter test (seen ++ p ∷ []) ≡ filter test seen ++ p ∷ []
one-passes test seen p passes = filter-append test seen (p ∷ []) ∙ ap (λ (b : Bool). filter test seen ++ cond b (p ∷ []) []) passes
