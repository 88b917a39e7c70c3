use Rattle.std.proofs.Common.{◌≡◌, ◌<◌, length, subst}
use Rattle.std.specs.Prelude.{IfSome, IfNone}
use Rattle.ts_chunk_packed.specs.Packed.{packed}
use Rattle.ts_chunk_plain.specs.Plain.{plain}
use Rattle.ts_series.proofs.Formats.{none-plain}
use Rattle.ts_series.proofs.recoding.unpacked.Goals as goal

pub returns-in_default-copy-clause-none : goal.returns-in_default-copy-clause-none
returns-in_default-copy-clause-none c =
    let coded = subst (λ o. IfSome o (λ k. packed k.chunk.list ≡ c.args.bytes.now)) c.in-Some.is c.in_ok-packed.ensures.bytes in
    let limit = subst (λ o. IfSome o (λ k. k.chunk.limit ≡ c.args.limit)) c.in-Some.is c.in_ok-packed.ensures.limit in
    let full = subst (λ o. IfNone o (c.in-Some.packed.chunk.limit < length (plain c.in-Some.packed.chunk.list))) c.in_default-copy.is c.in_ok-copy.ensures.full in
    λ ps _ chunk _ also. none-plain c.args.limit c.in-Some.packed.chunk.limit c.args.bytes.now c.in-Some.packed.chunk.list full limit coded ps chunk also
