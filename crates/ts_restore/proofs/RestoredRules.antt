-- A restored rule is sound, counts samples in its open bucket alone, and has the stored form that it was restored from.
use Rattle.std.proofs.Common.{◌≡◌, ℕ, suc, ◌+◌, ◌<◌, ◌≤◌, List, length, Option, Some, None, refl, sym, ap, ◌∙◌, subst, arith}
use Rattle.ts_spec.specs.Sample.{Point, at}
use Rattle.ts_spec.specs.Bucket.{start}
use Rattle.ts_spec.specs.Aggregate.{summary}
use Rattle.ts_spec.specs.State.{Rule, Record}
use Rattle.ts_spec.specs.Rules.{open_of}
use Rattle.ts_spec.specs.Valid.{IsUpTo, IsSoundRule}
use Rattle.ts_spec.specs.StoredSeries.{StoredRule, StoredSeries, summary_at, stored_rule}
use Rattle.ts_restore.specs.Summaries.{values_of}
use Rattle.ts_restore.specs.Restored.{last_since, top_at, top_of, counted_of, restored_rule}
use Rattle.ts_restore.specs.Restorable.{IsBucket, IsRule}
use Rattle.ts_restore.proofs.OpenRules.{AllOpen}
use Rattle.ts_restore.proofs.ValuesOf.{length-values}
use Rattle.ts_restore.proofs.Laid.{some-exact, summary-laid}
use Rattle.ts_restore.proofs.LaidRules.{IsLaid, one-laid, laid-ascending, laid-open, laid-members, last-low, last-all}

-- the rule with these parts in place of its highest time and its samples
abbrev pub rule_by : StoredRule → Option ℕ → (born : ℕ) → List Point → Rule
rule_by q current born ps = record { dest = q.dest; agg = q.agg; grid = q.grid; made = q.made; top = top_of q current ps; seen = counted_of q current born }

-- there is room for as many samples as were counted
fits : (q : StoredRule) (b : ℕ) (ps : List Point) → b + length (values_of q.running) ≤ suc (top_at q b ps)
fits q b ps =
    let count : length (values_of q.running) ≡ q.running.count = length-values q.running in
    let low : b ≤ last_since q.made b ps = last-low q.made b ps in
    omega arith

-- what is read of a record when a rule is restored
module _ (d : Record) (s : StoredSeries) (same_list : s.list ≡ d.plain) (same_high : s.high ≡ d.high) (same_born : s.born ≡ d.born) (q : StoredRule) (h : IsRule s q) where
  sound-by : (o : Option ℕ) → IsBucket s q o → IsSoundRule d (rule_by q o d.born d.plain)
  sound-by None x = record {
    made_from = h.made_from;
    made_to = subst (λ (n : ℕ). q.made ≤ n) same_born h.made_to;
    ascending = tt;
    seen = λ t p e. absurd (cc e);
    eligible = λ t p e since. (let before : p.made < q.made = x.list t p (ap (at t) same_list ∙ e) in absurd (omega arith));
    top = λ t e. absurd (cc e);
  }
  sound-by (Some b) x = record {
    made_from = h.made_from;
    made_to = subst (λ (n : ℕ). q.made ≤ n) same_born h.made_to;
    ascending = laid-ascending b d.born (values_of q.running);
    seen = λ t p e.
        (let one : IsLaid b d.born (suc (top_at q b d.plain)) p = one-laid b d.born (suc (top_at q b d.plain)) t p (values_of q.running) (fits q b d.plain) e in
        let number : p.made ≡ d.born = one.number in
        let last : p.time < suc (top_at q b d.plain) = one.last in
        let made_to : q.made ≤ d.born = subst (λ (n : ℕ). q.made ≤ n) same_born h.made_to in
        record { since = omega arith; made = omega arith; time = omega arith });
    eligible = λ t p e since. (let last : p.time ≤ last_since q.made b d.plain = last-all q.made b d.plain t p e since in omega arith);
    top = λ t e. high t (cc e);
  }
    where
      high : (t : ℕ) → top_at q b d.plain ≡ t → IsUpTo d.high t
      high t e = subst (λ (o : Option ℕ). IsUpTo o t) same_high (subst (IsUpTo s.high) (ap (top_at q b) same_list ∙ e) x.high)

  open-by : (o : Option ℕ) → IsBucket s q o → AllOpen (rule_by q o d.born d.plain) (counted_of q o d.born)
  open-by None x = tt
  open-by (Some b) x =
      laid-open (rule_by q (Some b) d.born d.plain) b (top_at q b d.plain) b d.born (values_of q.running) h.duration refl
      (ap (λ (ps : List Point). start q.grid (top_at q b ps)) (sym same_list) ∙ x.same) (omega arith) (fits q b d.plain)

  -- the start of the open bucket, and the summary of what is counted there
  record IsStoredAs (o : Option ℕ) : Type 0 where
    current : open_of (rule_by q o d.born d.plain) ≡ o
    running : summary_at (rule_by q o d.born d.plain) o ≡ q.running

  stored-by : (o : Option ℕ) → IsBucket s q o → IsStoredAs o
  stored-by None x = record { current = refl; running = sym x.running }
  stored-by (Some b) x =
      let here : start q.grid (top_at q b d.plain) ≡ b = ap (λ (ps : List Point). start q.grid (top_at q b ps)) (sym same_list) ∙ x.same in
      record {
        current = ap (λ (n : ℕ). Some n) here;
        running = ap summary (laid-members q.grid b (top_at q b d.plain) b d.born (values_of q.running) h.duration here (omega arith) (fits q b d.plain))
            ∙ summary-laid b d.born q.running (some-exact q.running x.running);
      }

  pub sound-restored : IsSoundRule d (restored_rule q d)
  sound-restored = sound-by q.current h.bucket

  pub open-restored : AllOpen (restored_rule q d) (restored_rule q d).seen
  open-restored = open-by q.current h.bucket

  pub stored-restored : stored_rule (restored_rule q d) ≡ q
  stored-restored =
      let parts : IsStoredAs q.current = stored-by q.current h.bucket in
      λ i. record q { current = parts.current i; running = (ap (summary_at (restored_rule q d)) parts.current ∙ parts.running) i }
