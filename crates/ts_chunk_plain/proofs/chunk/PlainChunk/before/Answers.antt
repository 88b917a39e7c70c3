use Rattle.std.proofs.Common.{◌*◌, ◌∙◌, ap, length, take, arith}
use Rattle.ts_chunk_plain.proofs.Splicing.{bytes_are, not_many, written_is, plain-take}
use Rattle.ts_chunk_plain.proofs.chunk.PlainChunk.before.Goals as goal

pub overflow_mul-count : goal.overflow_mul-count
overflow_mul-count c = omega (arith, c.requires, not_many c.self.invariant c.self.view_is)

pub split_at-requires : goal.split_at-requires
split_at-requires c = omega (arith, c.requires, ap length c.deref.ensures.value, bytes_are c.self.invariant c.self.view_is)

pub returns : goal.returns
returns c =
    c.split_at.ensures.front ∙ ap (take (c.args.count * 28)) (c.deref.ensures.value ∙ written_is c.self.invariant c.self.view_is) ∙ plain-take c.args.count c.args.self.now.list c.requires
