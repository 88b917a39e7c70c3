use Rattle.std.proofs.Common.{◌≡◌, ◌≤◌, ◌++◌, map}
use Rattle.std.specs.List.{range_with_len}
use Rattle.ts_spec.specs.Encoded.{encoded}
use Rattle.ts_gen.specs.Workload.{create}
use Rattle.ts_gen.proofs.keys.write_keys_of_kind.Given as goal

-- the requests of the units before this one were written
abbrev pub invariant-loop-unit : goal.invariant-loop-unit
invariant-loop-unit l = record {
  bytes : l.bytes.items ≡ l.fn.bytes.items ++ encoded (map (create l.kind) (range_with_len 0 l.unit));
  within : l.unit ≤ 4;
}
