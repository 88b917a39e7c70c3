-- The effect of a write on a rule, by which bucket the sample is in.
use Rattle.std.proofs.Common.{◌≡◌, ℕ, ◌<◌, ◌≤◌, Bool, if◌then◌else◌, List, [], Option, Some, None, sym, ap, ◌∙◌, arith}
use Rattle.ts_spec.specs.Sample.{Point}
use Rattle.ts_spec.specs.Bucket.{start}
use Rattle.ts_spec.specs.Aggregate.{Summary, nothing, push}
use Rattle.ts_spec.specs.Rules.{raised}
use Rattle.ts_spec.specs.StoredSeries.{StoredRule}
use Rattle.ts_spec.specs.StoredUpdates.{bucket_row, by_bucket, recounted_bucket, closing_row, written_rule, written_row}
use Rattle.ts_spec.proofs.WrittenRules.{by-here, by-past}
use Rattle.ts_rules.specs.declared.rule.Rule.{Rule}
use Rattle.ts_rules.specs.Rules.{stored_rule_for, IsChanged, IsOpenAt}

module _ (append : Bool) (p : Point) (ps : List Point) (born : ℕ) (q : StoredRule) where
  abbrev b : ℕ
  b = start q.grid p.time

  -- where no bucket is open
  pub rule-none : q.current ≡ None → written_rule append p ps q ≡ record q { current = Some b; running = push nothing p }
  rule-none e = λ i. record q {
    current = raised b (e i);
    running = by_bucket b (e i) q.running (if append then push q.running p else recounted_bucket q b ps) (push nothing p);
  }

  pub row-none : q.current ≡ None → written_row p ps born q ≡ []
  row-none e = λ i. by_bucket b (e i) (bucket_row q.agg born b (recounted_bucket q b ps)) [] (closing_row born q (e i))

  module _ (o : ℕ) (e : q.current ≡ Some o) where
    -- at it
    pub rule-here : b ≡ o → written_rule append p ps q ≡ record q { current = Some o; running = if append then push q.running p else recounted_bucket q b ps }
    rule-here h = λ i. record q { current = current i; running = running i }
      where
        current : raised b q.current ≡ Some o
        current = ap (raised b) e ∙ ap (λ (n : ℕ). Some n) (omega (arith, h))

        running : by_bucket b q.current q.running (if append then push q.running p else recounted_bucket q b ps) (push nothing p) ≡ (if append then push q.running p else recounted_bucket q b ps)
        running = ap (λ (c : Option ℕ). by_bucket b c q.running (if append then push q.running p else recounted_bucket q b ps) (push nothing p)) e ∙ by-here b o _ _ _ h

    pub row-here : b ≡ o → written_row p ps born q ≡ []
    row-here h = ap (λ (c : Option ℕ). by_bucket b c (bucket_row q.agg born b (recounted_bucket q b ps)) [] (closing_row born q c)) e ∙ by-here b o _ _ _ h

    -- past it
    pub rule-past : o < b → written_rule append p ps q ≡ record q { current = Some b; running = push nothing p }
    rule-past h = λ i. record q { current = current i; running = running i }
      where
        current : raised b q.current ≡ Some b
        current = ap (raised b) e ∙ ap (λ (n : ℕ). Some n) (omega arith)

        running : by_bucket b q.current q.running (if append then push q.running p else recounted_bucket q b ps) (push nothing p) ≡ push nothing p
        running = ap (λ (c : Option ℕ). by_bucket b c q.running (if append then push q.running p else recounted_bucket q b ps) (push nothing p)) e ∙ by-past b o _ _ _ h

    pub row-past : o < b → written_row p ps born q ≡ closing_row born q q.current
    row-past h = ap (λ (c : Option ℕ). by_bucket b c (bucket_row q.agg born b (recounted_bucket q b ps)) [] (closing_row born q c)) e ∙ by-past b o _ _ _ h ∙ ap (closing_row born q) (sym e)

-- ---- the rule that the code makes

module _ (append : Bool) (p : Point) (ps : List Point) (old new : Rule) (b : ℕ) (begins : b ≡ start old.grid p.time) (running : Summary) where
  pub told-none : IsOpenAt (Some b) running old new → running ≡ push nothing p → old.current ≡ None → IsChanged (written_rule append p ps) old new
  told-none x e h = record {
    dest = x.dest;
    kept = λ k. x.kept k ∙ (λ i. record (stored_rule_for k old) { current = Some (begins i); running = e i }) ∙ sym (rule-none append p ps 0 (stored_rule_for k old) h);
  }

  pub told-past : (o : ℕ) → IsOpenAt (Some b) running old new → running ≡ push nothing p → old.current ≡ Some o → o < b → IsChanged (written_rule append p ps) old new
  told-past o x e h past = record {
    dest = x.dest;
    kept = λ k. x.kept k ∙ (λ i. record (stored_rule_for k old) { current = Some (begins i); running = e i }) ∙ sym (rule-past append p ps 0 (stored_rule_for k old) o h (omega (arith, past, begins)));
  }

  pub told-here : (o : ℕ) → IsOpenAt (Some o) running old new → running ≡ (if append then push old.running p else recounted_bucket (stored_rule_for [] old) (start old.grid p.time) ps) →
      old.current ≡ Some o → o ≤ b → b ≤ o → IsChanged (written_rule append p ps) old new
  told-here o x e h low up = record {
    dest = x.dest;
    kept = λ k. x.kept k ∙ (λ i. record (stored_rule_for k old) { current = Some o; running = e i }) ∙ sym (rule-here append p ps 0 (stored_rule_for k old) o h (omega (arith, low, up, begins)));
  }
