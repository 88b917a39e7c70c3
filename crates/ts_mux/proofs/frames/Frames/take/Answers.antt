use Rattle.std.proofs.Common.{◌∙◌, arith}
use Rattle.ts_mux.proofs.FramingLemmas.{taken, not_taken}
use Rattle.ts_mux.proofs.frames.Frames.take.Goals as goal

pub bytes-requires-clause-order : goal.bytes-requires-clause-order
bytes-requires-clause-order c = c.requires.order

pub bytes-requires-clause-within : goal.bytes-requires-clause-within
bytes-requires-clause-within c = c.requires.within

pub pass-requires : goal.pass-requires
pass-requires c = omega (arith, c.requires.order, c.requires.within)

pub returns-in_default : goal.returns-in_default
returns-in_default c = not_taken c.args.self.now c.args.span c.requires

pub returns : goal.returns
returns c = taken c.args.self.now c.pass.new.self c.args.span c.in-Ok.bytes c.requires (c.in-Ok.ensures.bytes ∙ c.bytes.ensures) c.pass.ensures
