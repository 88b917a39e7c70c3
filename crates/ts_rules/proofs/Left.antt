-- A deletion that affects a rule's open bucket.
use Rattle.std.proofs.Common.{◌≡◌, ℕ, Bool, true, if◌then◌else◌, List, [], Some, sym, ap, ◌∙◌}
use Rattle.ts_spec.specs.Sample.{Point}
use Rattle.ts_spec.specs.Aggregate.{Summary}
use Rattle.ts_spec.specs.Key.{Key}
use Rattle.ts_spec.specs.StoredUpdates.{recounted_bucket, lies_in, running_without, deleted_rule}
use Rattle.ts_rules.specs.declared.rule.Rule.{Rule}
use Rattle.ts_rules.specs.Rules.{stored_rule_for, IsChanged, IsOpenAt}

pub told-left : (gone left : List Point) (old new : Rule) (o : ℕ) (running : Summary) → IsOpenAt (Some o) running old new → running ≡ recounted_bucket (stored_rule_for [] old) o left → old.current ≡ Some o →
    lies_in old.grid gone o ≡ true → IsChanged (deleted_rule gone left) old new
told-left gone left old new o running x e h touched = record {
  dest = x.dest;
  kept = λ k. x.kept k ∙ (λ i. record (stored_rule_for k old) { current = sym h i; running = (e ∙ sym (anew k)) i });
}
  where
    anew : (k : Key) → running_without gone left (stored_rule_for k old) old.current ≡ recounted_bucket (stored_rule_for [] old) o left
    anew k = ap (running_without gone left (stored_rule_for k old)) h ∙ ap (λ (b : Bool). if b then recounted_bucket (stored_rule_for [] old) o left else old.running) touched
