-- Tests whether a part of a checkpoint may come next. Each is true exactly if the predicate that it names holds.
use Rattle.std.specs.Prelude.{◌≡◌, ◌≢◌, ℕ, ◌*◌, ◌^◌, ◌≤◌, Bool, true, false, not, ◌&&◌, ◌||◌, ◌==◌, nat_lt, nat_le, unsigned_abs, ⊤, List, [], ◌∷◌, ◌++◌, map, length, Option, None, Some, is_none}
use Rattle.std.specs.List.{list_all}
use Rattle.std.specs.Ordering.{int_eq}
use Rattle.ts_spec.specs.declared.limits.Limits.{Limits}
use Rattle.ts_spec.specs.declared.series.Encoding.{Encoding}
use Rattle.ts_spec.specs.declared.series.Encoding.TheVariants.{Compressed, Uncompressed}
use Rattle.ts_spec.specs.Aggregate.{Summary, nothing, summary}
use Rattle.ts_spec.specs.Bucket.{start}
use Rattle.ts_spec.specs.Key.{same}
use Rattle.ts_spec.specs.Keyed.{get, count_keys}
use Rattle.ts_spec.specs.Sample.{Point, MAX_TIME, IsAscending, at, at_times, last_of}
use Rattle.ts_spec.specs.State.{edge_of}
use Rattle.ts_spec.specs.StoredSeries.{StoredRule, StoredSeries, StoredKeys}
use Rattle.ts_spec.specs.Valid.{Every, IsUpTo}
use Rattle.ts_spec.specs.Value.{bound}
use Rattle.ts_sample.specs.Chunk.{IsChunk, least_limit, greatest_limit, joined}
use Rattle.ts_chunk_packed.specs.Packed.{packed}
use Rattle.ts_restore.specs.Checkpoint.{SeriesPart, RulePart}
use Rattle.ts_restore.specs.Laid.{laid}
use Rattle.ts_restore.specs.Restored.{top_at}
use Rattle.ts_restore.specs.Summaries.{values_of}
use Rattle.ts_checkpoint.specs.Parts.{SeriesHead}
use Rattle.ts_checkpoint.specs.Restoring.{Chunk}

-- ---- lists, options and samples

abbrev pub is_empty : {X : Type 0} → List X → Bool
is_empty [] = true
is_empty (x ∷ xs) = false

-- whether there is a value that passes
abbrev pub is_some_and : {X : Type 0} → Option X → (X → Bool) → Bool
is_some_and None test = false
is_some_and (Some x) test = test x

-- whether the value passes, if there is one
abbrev pub if_some : {X : Type 0} → Option X → (X → Bool) → Bool
if_some None test = true
if_some (Some x) test = test x

-- Every: at each time the sample passes
abbrev pub every : (Point → Bool) → List Point → Bool
every test ps = list_all (λ p. if_some (at p.time ps) test) ps

-- IsAscending
abbrev pub is_ascending : List Point → Bool
is_ascending [] = true
is_ascending (p ∷ ps) = list_all (λ q. nat_lt p.time q.time) ps && is_ascending ps

-- IsUpTo
abbrev pub is_up_to : Option ℕ → ℕ → Bool
is_up_to high t = is_some_and high (λ h. nat_le t h)

-- ---- a series

-- IsSampleOf
abbrev pub is_sample_of : SeriesPart → Point → Bool
is_sample_of p s = nat_le (edge_of p.options.retention p.high) s.time && is_up_to p.high s.time && nat_le s.made p.born

-- IsSeries
abbrev pub is_series : Limits → SeriesPart → Bool
is_series limits p =
    nat_le (length p.labels) limits.labels && nat_le p.born limits.born && nat_le (length p.list) limits.samples
    && is_ascending p.list && every (is_sample_of p) p.list

-- IsNewSeries
unfoldable pub is_new_series : Limits → StoredKeys → SeriesPart → Bool
is_new_series limits keys p =
    is_series limits p && is_none (get p.key keys) && nat_lt (count_keys keys) limits.keys

-- ---- a rule

-- whether two summaries are equal
abbrev pub same_summary : Summary → Summary → Bool
same_summary r s =
    (r.count == s.count) && int_eq r.sum s.sum && int_eq r.least s.least && int_eq r.greatest s.greatest
    && int_eq r.first s.first && int_eq r.last s.last

-- IsSummary: the values that are made to have this summary have it
abbrev pub is_summary : Summary → Bool
is_summary s = same_summary (summary (laid 0 0 (values_of s))) s

-- IsBucketAt
abbrev pub is_bucket_at : StoredSeries → StoredRule → ℕ → Bool
is_bucket_at s q b =
    let top = top_at q b s.list in is_summary q.running && (start q.grid top == b) && is_up_to s.high top

-- IsUnwritten
abbrev pub is_unwritten : StoredSeries → StoredRule → Bool
is_unwritten s q = same_summary q.running nothing && every (λ p. nat_lt p.made q.made) s.list

-- IsBucket
abbrev pub is_bucket : StoredSeries → StoredRule → Option ℕ → Bool
is_bucket s q None = is_unwritten s q
is_bucket s q (Some b) = is_bucket_at s q b

-- IsRule
abbrev pub is_rule : StoredSeries → StoredRule → Bool
is_rule s q = nat_le 1 q.made && nat_le q.made s.born && nat_le 1 q.grid.duration && is_bucket s q q.current

-- whether a series can be the source of one more rule
abbrev pub can_have_rule : Limits → StoredRule → StoredSeries → Bool
can_have_rule limits q s =
    is_none s.source && nat_lt (length s.rules) limits.rules && list_all (λ r. nat_lt r.made q.made) s.rules
    && is_rule s q

-- whether a series can be the destination of a rule
abbrev pub can_be_destination : StoredSeries → Bool
can_be_destination d = is_none d.source && is_empty d.rules

-- IsNewRule
unfoldable pub is_new_rule : Limits → StoredKeys → RulePart → Bool
is_new_rule limits keys p =
    not (same p.source p.rule.dest) && is_some_and (get p.source keys) (can_have_rule limits p.rule)
    && is_some_and (get p.rule.dest keys) can_be_destination

-- ---- the next chunk of a series

-- samples in this encoding fit the limit, if they do so packed
abbrev pub FitsEncoding : Encoding → (limit : ℕ) → List Point → Type 0
FitsEncoding Compressed limit ps = ⊤
FitsEncoding Uncompressed limit ps = 28 * length ps ≤ limit

-- the samples that a series shows of these
abbrev pub shown_of : SeriesHead → List Point → List Point
shown_of s ps = at_times (nat_le (edge_of s.spec.options.retention s.high)) ps

-- A chunk of this limit and these samples can come after these chunks of a series.
pub record CanFollow (s : SeriesHead) (chunks : List Chunk) (limit : ℕ) (ps : List Point) : Type 0 where
  pub chunk : IsChunk packed limit ps
  pub fits : FitsEncoding s.spec.options.encoding limit ps
  pub some : ps ≢ []
  pub ascending : IsAscending (joined (map (λ c. c.list) chunks) ++ ps)
  pub high : (p : Point) → last_of ps ≡ Some p → IsUpTo s.high p.time
  pub made : Every (λ p. p.made ≤ s.born) (shown_of s ps)
  -- the first chunk has a sample that is shown
  pub first : chunks ≡ [] → shown_of s ps ≢ []

-- IsInBounds
abbrev pub is_in_bounds : Point → Bool
is_in_bounds p = nat_le p.time MAX_TIME && nat_le (unsigned_abs p.value) bound && nat_lt p.made (2 ^ 32)

-- IsChunk packed
abbrev pub is_packed_chunk : (limit : ℕ) → List Point → Bool
is_packed_chunk limit ps =
    nat_le least_limit limit && nat_le limit greatest_limit && is_ascending ps && list_all is_in_bounds ps
    && nat_le (length (packed ps)) limit

-- FitsEncoding
abbrev pub fits_encoding : Encoding → (limit : ℕ) → List Point → Bool
fits_encoding Compressed limit ps = true
fits_encoding Uncompressed limit ps = nat_le (28 * length ps) limit

-- CanFollow
unfoldable pub can_follow : SeriesHead → List Chunk → (limit : ℕ) → List Point → Bool
can_follow s chunks limit ps =
    is_packed_chunk limit ps && fits_encoding s.spec.options.encoding limit ps && not (is_empty ps)
    && is_ascending (joined (map (λ c. c.list) chunks) ++ ps) && if_some (last_of ps) (λ p. is_up_to s.high p.time)
    && every (λ p. nat_le p.made s.born) (shown_of s ps)
    && (not (is_empty chunks) || not (is_empty (shown_of s ps)))
