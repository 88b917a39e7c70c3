use Rattle.std.proofs.Common.{◌≡◌, length}
use Rattle.std.specs.Prelude.{nat_lt, nat_le}
use Rattle.ts_spec.specs.Sample.{at_times}
use Rattle.ts_chunk_packed.specs.Packed.{state_from}
use Rattle.ts_chunk_packed.proofs.decoder.Decoder.pass_before.Given as goal

abbrev pub invariant-loop : goal.invariant-loop
invariant-loop l = record {
  list : at_times (nat_le l.time) l.self.list ≡ at_times (nat_le l.time) l.initial.self.list;
  state : state_from l.self.state (at_times (λ t. nat_lt t l.time) l.self.list) ≡ state_from l.initial.self.state (at_times (λ t. nat_lt t l.time) l.initial.self.list);
}

abbrev pub decreases-loop : goal.decreases-loop
decreases-loop l = length l.self.list
