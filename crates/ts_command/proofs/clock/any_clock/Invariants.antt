use Rattle.std.proofs.Common.{◌≡◌, drop}
use Rattle.ts_spec.specs.Grammar.{any_clock}
use Rattle.ts_command.specs.Reading.{triples_of}
use Rattle.ts_command.proofs.clock.any_clock.Given as goal

-- what is left of the triples gives the same
abbrev pub invariant-loop-triple : goal.invariant-loop-triple
invariant-loop-triple l = any_clock (triples_of (drop l.triple-index l.triples)) ≡ any_clock (triples_of l.triples)
