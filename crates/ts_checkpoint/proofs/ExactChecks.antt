-- The tests of the parts of a checkpoint are exact.
use Rattle.std.proofs.Common.{◌≡◌, ℕ, ◌<◌, nat_lt, List, [], ◌∷◌, length, Some, refl, ap}
use Rattle.std.proofs.lemmas.Bool.Decides.{Decides-and, Decides-like, Decides-ltb, Decides-eqb, Decides-int_eq}
use Rattle.std.specs.Bool.{Decides}
use Rattle.std.specs.List.{list_all}
use Rattle.std.specs.Prelude.{Option, None}
use Rattle.ts_spec.specs.declared.limits.Limits.{Limits}
use Rattle.ts_spec.specs.Aggregate.{Summary, nothing, summary}
use Rattle.ts_spec.specs.Bucket.{start}
use Rattle.ts_spec.specs.Key.{same}
use Rattle.ts_spec.specs.Keyed.{get, count_keys}
use Rattle.ts_spec.specs.Sample.{Point}
use Rattle.ts_spec.specs.State.{edge_of}
use Rattle.ts_spec.specs.StoredSeries.{StoredRule, StoredSeries, StoredKeys}
use Rattle.ts_restore.specs.Checkpoint.{SeriesPart, RulePart}
use Rattle.ts_restore.specs.Laid.{laid}
use Rattle.ts_restore.specs.Restorable.{IsSampleOf, IsSeries, IsNewSeries, IsBucket, IsRule, AreMadeBefore, IsNewRule}
use Rattle.ts_restore.specs.Restored.{top_at}
use Rattle.ts_restore.specs.Summaries.{IsSummary, values_of}
use Rattle.ts_restore.proofs.Laid.{summary-laid, some-exact}
use Rattle.ts_checkpoint.specs.Checks.{is_sample_of, is_series, is_new_series, same_summary, is_summary, is_bucket_at, is_unwritten, is_bucket, is_rule, can_have_rule, can_be_destination, is_new_rule}
use Rattle.ts_checkpoint.proofs.Deciding.{Decides-le, Decides-false, Decides-none, Decides-empty, Decides-some_and, Decides-up_to, Decides-ascending, Decides-every}

-- ---- a series

sample-exact : (p : SeriesPart) (s : Point) → Decides (is_sample_of p s) (IsSampleOf p s)
sample-exact p s =
    Decides-like (is_sample_of p s) (λ h. record { from_edge = h.0.0; to_high = h.0.1; made = h.1 }) (λ x. ((x.from_edge, x.to_high), x.made))
    (Decides-and _ _ (Decides-and _ _ (Decides-le (edge_of p.options.retention p.high) s.time) (Decides-up_to p.high s.time)) (Decides-le s.made p.born))

series-exact : (limits : Limits) (p : SeriesPart) → Decides (is_series limits p) (IsSeries limits p)
series-exact limits p =
    Decides-like (is_series limits p)
    (λ h. record { labels = h.0.0.0.0; born = h.0.0.0.1; samples = h.0.0.1; ascending = h.0.1; list = h.1 })
    (λ x. ((((x.labels, x.born), x.samples), x.ascending), x.list))
    (Decides-and _ _
    (Decides-and _ _
    (Decides-and _ _ (Decides-and _ _ (Decides-le (length p.labels) limits.labels) (Decides-le p.born limits.born)) (Decides-le (length p.list) limits.samples))
    (Decides-ascending p.list))
    (Decides-every (is_sample_of p) (IsSampleOf p) (sample-exact p) p.list))

pub new-series-exact : (limits : Limits) (keys : StoredKeys) (p : SeriesPart) → Decides (is_new_series limits keys p) (IsNewSeries limits keys p)
unfolding is_new_series
new-series-exact limits keys p =
    Decides-like (is_new_series limits keys p) (λ h. record { series = h.0.0; missing = h.0.1; room = h.1 }) (λ x. ((x.series, x.missing), x.room))
    (Decides-and _ _ (Decides-and _ _ (series-exact limits p) (Decides-none (get p.key keys))) (Decides-ltb (count_keys keys) limits.keys))

-- ---- a rule

same-exact : (r s : Summary) → Decides (same_summary r s) (r ≡ s)
same-exact r s =
    Decides-like (same_summary r s)
    (λ h. λ i. record { count = h.0.0.0.0.0 i; sum = h.0.0.0.0.1 i; least = h.0.0.0.1 i; greatest = h.0.0.1 i; first = h.0.1 i; last = h.1 i })
    (λ e. (((((ap (λ x. x.count) e, ap (λ x. x.sum) e), ap (λ x. x.least) e), ap (λ x. x.greatest) e), ap (λ x. x.first) e), ap (λ x. x.last) e))
    (Decides-and _ _
    (Decides-and _ _
    (Decides-and _ _ (Decides-and _ _ (Decides-and _ _ (Decides-eqb r.count s.count) (Decides-int_eq r.sum s.sum)) (Decides-int_eq r.least s.least)) (Decides-int_eq r.greatest s.greatest))
    (Decides-int_eq r.first s.first))
    (Decides-int_eq r.last s.last))

summary-exact : (s : Summary) → Decides (is_summary s) (IsSummary s)
summary-exact s =
    Decides-like (is_summary s) (λ e. (laid 0 0 (values_of s), e)) (λ x. summary-laid 0 0 s (some-exact s x))
    (same-exact (summary (laid 0 0 (values_of s))) s)

bucket-exact : (s : StoredSeries) (q : StoredRule) (o : Option ℕ) → Decides (is_bucket s q o) (IsBucket s q o)
bucket-exact s q None =
    Decides-like (is_unwritten s q) (λ h. record { running = h.0; list = h.1 }) (λ x. (x.running, x.list))
    (Decides-and _ _ (same-exact q.running nothing) (Decides-every (λ p. nat_lt p.made q.made) (λ p. p.made < q.made) (λ p. Decides-ltb p.made q.made) s.list))
bucket-exact s q (Some b) =
    Decides-like (is_bucket_at s q b) (λ h. record { running = h.0.0; same = h.0.1; high = h.1 }) (λ x. ((x.running, x.same), x.high))
    (Decides-and _ _ (Decides-and _ _ (summary-exact q.running) (Decides-eqb (start q.grid (top_at q b s.list)) b)) (Decides-up_to s.high (top_at q b s.list)))

rule-exact : (s : StoredSeries) (q : StoredRule) → Decides (is_rule s q) (IsRule s q)
rule-exact s q =
    Decides-like (is_rule s q) (λ h. record { made_from = h.0.0.0; made_to = h.0.0.1; duration = h.0.1; bucket = h.1 })
    (λ x. (((x.made_from, x.made_to), x.duration), x.bucket))
    (Decides-and _ _
    (Decides-and _ _ (Decides-and _ _ (Decides-le 1 q.made) (Decides-le q.made s.born)) (Decides-le 1 q.grid.duration))
    (bucket-exact s q q.current))

before-exact : (n : ℕ) (qs : List StoredRule) → Decides (list_all (λ r. nat_lt r.made n) qs) (AreMadeBefore n qs)
before-exact n [] = (λ e. tt, λ h. refl)
before-exact n (q ∷ qs) = Decides-and (nat_lt q.made n) (list_all (λ r. nat_lt r.made n) qs) (Decides-ltb q.made n) (before-exact n qs)

-- a source with room for a rule
record IsSourceFor (limits : Limits) (q : StoredRule) (s : StoredSeries) : Type 0 where
  free : s.source ≡ None
  rules : length s.rules < limits.rules
  after : AreMadeBefore q.made s.rules
  rule : IsRule s q

source-exact : (limits : Limits) (q : StoredRule) (s : StoredSeries) → Decides (can_have_rule limits q s) (IsSourceFor limits q s)
source-exact limits q s =
    Decides-like (can_have_rule limits q s) (λ h. record { free = h.0.0.0; rules = h.0.0.1; after = h.0.1; rule = h.1 })
    (λ x. (((x.free, x.rules), x.after), x.rule))
    (Decides-and _ _
    (Decides-and _ _ (Decides-and _ _ (Decides-none s.source) (Decides-ltb (length s.rules) limits.rules)) (before-exact q.made s.rules))
    (rule-exact s q))

-- a series without rules that is no destination yet
record IsFree (d : StoredSeries) : Type 0 where
  free : d.source ≡ None
  rules : d.rules ≡ []

free-exact : (d : StoredSeries) → Decides (can_be_destination d) (IsFree d)
free-exact d =
    Decides-like (can_be_destination d) (λ h. record { free = h.0; rules = h.1 }) (λ x. (x.free, x.rules))
    (Decides-and _ _ (Decides-none d.source) (Decides-empty d.rules))

pub new-rule-exact : (limits : Limits) (keys : StoredKeys) (p : RulePart) → Decides (is_new_rule limits keys p) (IsNewRule limits keys p)
unfolding is_new_rule
new-rule-exact limits keys p =
    Decides-like (is_new_rule limits keys p)
    (λ h. record {
      other = h.0.0;
      source = h.0.1.value;
      source_there = h.0.1.is;
      dest = h.1.value;
      dest_there = h.1.is;
      source_free = h.0.1.holds.free;
      dest_free = h.1.holds.free;
      dest_rules = h.1.holds.rules;
      rules = h.0.1.holds.rules;
      after = h.0.1.holds.after;
      rule = h.0.1.holds.rule;
    })
    (λ x. (
      (x.other, record { value = x.source; is = x.source_there; holds = record { free = x.source_free; rules = x.rules; after = x.after; rule = x.rule } }),
      record { value = x.dest; is = x.dest_there; holds = record { free = x.dest_free; rules = x.dest_rules } },
    ))
    (Decides-and _ _
    (Decides-and _ _ (Decides-false (same p.source p.rule.dest)) (Decides-some_and (can_have_rule limits p.rule) (IsSourceFor limits p.rule) (source-exact limits p.rule) (get p.source keys)))
    (Decides-some_and can_be_destination IsFree free-exact (get p.rule.dest keys)))
