use Rattle.std.proofs.Common.{◌-ℤ◌, arith}
use Rattle.std.proofs.lemmas.Int.{ints}
use Rattle.ts_chunk_packed.proofs.Zigzags.{zigzag_down}
use Rattle.ts_chunk_packed.proofs.zigzag.apart_wide.Goals as goal

pub returns-then-difference-lt0 : goal.returns-then-difference-lt0
returns-then-difference-lt0 c = omega (arith, ints, zigzag_down (c.args.to -ℤ c.args.from) (omega (arith, ints)))
