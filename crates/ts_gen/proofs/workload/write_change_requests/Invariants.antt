use Rattle.std.proofs.Common.{◌≡◌, ◌≤◌, ◌++◌}
use Rattle.ts_spec.specs.Encoded.{encoded}
use Rattle.ts_gen.specs.Workload.{changes, generator_state}
use Rattle.ts_gen.proofs.workload.write_change_requests.Given as goal

-- the first k changes were written, and the k-th number was drawn
abbrev pub invariant-loop-k : goal.invariant-loop-k
invariant-loop-k l = record {
  bytes : l.bytes.items ≡ l.fn.bytes.items ++ encoded (changes l.seed l.k);
  generator_state : l.generator_state ≡ generator_state l.seed l.k;
  within : l.k ≤ l.n;
}
