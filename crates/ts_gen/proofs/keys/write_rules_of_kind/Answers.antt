use Rattle.std.proofs.Common.{◌≡◌, ◌++◌, ℕ, map, subst, arith}
use Rattle.std.specs.List.{range_with_len}
use Rattle.ts_spec.specs.Encoded.{encoded}
use Rattle.ts_gen.specs.Workload.{create_rule}
use Rattle.ts_gen.proofs.Appending.{one_more}
use Rattle.ts_gen.proofs.keys.write_rules_of_kind.Goals as goal

pub loop-unit-preserved : goal.loop-unit-preserved
loop-unit-preserved c = record {
  bytes = one_more (create_rule c.args.kind.now) c.args.bytes.now.items c.loop-unit.bytes.items c.write_rule_creation.new.bytes.items 0 c.loop-unit.unit c.loop-unit.unit (omega arith) c.loop-unit.invariant.bytes c.in_ok-write_rule_creation.ensures;
  within = omega arith;
}

pub returns : goal.returns
returns c =
    let all : c.loop-unit.unit ≡ 4 = omega arith in
    subst (λ (n : ℕ). c.loop-unit.bytes.items ≡ c.args.bytes.now.items ++ encoded (map (create_rule c.args.kind.now) (range_with_len 0 n))) all c.loop-unit.invariant.bytes
