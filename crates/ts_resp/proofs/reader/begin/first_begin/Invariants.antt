use Rattle.std.proofs.Common.{◌≡◌, ◌+◌, ◌^◌, ◌<◌, length}
use Rattle.ts_spec.specs.Wire.{Start}
use Rattle.ts_resp.specs.Reading.{begun_on}
use Rattle.ts_resp.proofs.reader.begin.first_begin.Given as goal

-- the current request begins where it begins in the remaining bytes
abbrev pub invariant-loop-rest : goal.invariant-loop-rest
invariant-loop-rest l = record {
  begun : begun_on l.limits l.place l.begin Start l.rest ≡ begun_on l.limits l.fn.place l.fn.begin Start l.fn.bytes;
  bounded : l.place + length l.rest < 2 ^ 64;
}

abbrev pub decreases-loop-rest : goal.decreases-loop-rest
decreases-loop-rest l = length l.rest
