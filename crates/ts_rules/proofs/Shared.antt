-- A bucket that one rule counted holds for the next rule that counts the same samples.
use Rattle.std.proofs.Common.{◌≡◌, nat_le, List, sym, ap, ◌∙◌}
use Rattle.std.specs.Prelude.{filter}
use Rattle.std.proofs.lemmas.Bool.{cases_lt}
use Rattle.ts_spec.specs.Sample.{Point, is_within}
use Rattle.ts_spec.specs.Aggregate.{Summary, nothing, summary}
use Rattle.ts_rules.specs.SharedBucket.{IsShared}
use Rattle.ts_rules.proofs.Times.{times-none, without}

-- An interval that ends before it begins has no sample, so it is told to any rule.
pub told-none : (ps : List Point) (running : Summary) → running ≡ nothing → IsShared ps (record { first = 1; last = 0; running = running; least = 0 })
told-none ps running none made h =
    none ∙ ap (λ (qs : List Point). summary (filter (λ q. nat_le made q.made) qs)) (sym (times-none (is_within 1 0) ps (λ u. without 1 0 u (cases_lt u 1))))
