-- A new rule counts all samples written since it was created: there are none yet.
use Rattle.std.proofs.Common.{◌≡◌, ℕ, Bool, true, false, nat_le, if◌then◌else◌, filter, length, Option, Some, None, is_some, refl, sym, ap, ◌∙◌}
use Rattle.ts_spec.specs.declared.limits.Limits.{Limits}
use Rattle.ts_spec.specs.declared.bucket.Aggregator.{Aggregator}
use Rattle.ts_spec.specs.Bucket.{Grid}
use Rattle.ts_spec.specs.Key.{Key, same}
use Rattle.ts_spec.specs.Keyed.{get}
use Rattle.ts_spec.specs.State.{Record, State, link_to}
use Rattle.ts_spec.specs.Rules.{is_eligible, plain_at}
use Rattle.ts_spec.specs.Refusal.{Refusal, SameKey}
use Rattle.ts_spec.specs.Command.{CreateRule}
use Rattle.ts_spec.specs.Response.{Done}
use Rattle.ts_spec.specs.Step.{Outcome, refused, has_rules, ruled, create_rule_at, step}
use Rattle.ts_spec.specs.Valid.{IsValid}
use Rattle.ts_spec.specs.CountsAll.{CountsAllFrom}
use Rattle.ts_spec.proofs.Allowed.{rulable}
use Rattle.ts_spec.proofs.MakingRules.{IsRulable, new_rule, link-made, source-after}
use Rattle.ts_spec.proofs.CountsAll.{counts-all-made}

-- a refusal has no other answer, so an outcome that has comes after its test
unless : (P : Outcome → Type 0) (a : Bool) (m : State) (refusal : Refusal) (done : Outcome) → (a ≡ false → done.response ≡ Done → P done) →
    (if a then refused m refusal else done).response ≡ Done → P (if a then refused m refusal else done)
unless P true m refusal done f x = absurd (cc x)
unless P false m refusal done f x = f refl x

made-from : (limits : Limits) (m : State) (source dest : Key) (agg : Aggregator) (grid : Grid) (p q : Option Record) → IsValid limits m → get source m ≡ p → get dest m ≡ q → same source dest ≡ false →
    (create_rule_at limits m source dest agg grid p q).response ≡ Done → CountsAllFrom (create_rule_at limits m source dest agg grid p q).state source dest
made-from limits m source dest agg grid None q v e f other = λ x. absurd (cc x)
made-from limits m source dest agg grid (Some c) None v e f other = λ x. absurd (cc x)
made-from limits m source dest agg grid (Some c) (Some d) v e f other =
    unless From (is_some (link_to m source)) m _ _ (λ a. unless From (has_rules d.rules) m _ _ (λ b. unless From (is_some (link_to m dest)) m _ _
    (λ i. unless From (nat_le limits.born c.born) m _ _ (λ g. unless From (nat_le limits.rules (length c.rules)) m _ _
    (λ j x. made (rulable limits m source dest c d e f other a b i g j))))))
  where
    From : Outcome → Type 0
    From done = CountsAllFrom done.state source dest

    made : IsRulable limits m source dest c d → CountsAllFrom (ruled source dest agg grid m) source dest
    made h = record {
      rule = new_rule dest agg grid c;
      linked = link-made limits m source dest agg grid c d v h;
      counts = counts-all-made dest agg grid c (v.sound source c e) ∙ ap (λ (o : Option Record). filter (is_eligible (new_rule dest agg grid c)) (plain_at o)) (sym (source-after limits m source dest agg grid c d v h));
    }

-- A new rule counts every sample of its source that was written since.
pub new-counts : (limits : Limits) (m : State) (reading : ℕ) (source dest : Key) (agg : Aggregator) (grid : Grid) → IsValid limits m →
    (step limits m reading (CreateRule source dest agg grid)).response ≡ Done → CountsAllFrom (step limits m reading (CreateRule source dest agg grid)).state source dest
new-counts limits m reading source dest agg grid v =
    unless (λ done. CountsAllFrom done.state source dest) (same source dest) m SameKey _ (λ e. made-from limits m source dest agg grid (get source m) (get dest m) v refl refl e)
