use Rattle.std.proofs.Common.{◌-◌, min, List, ℕ, length, take, drop, sym, ◌∙◌, ap, arith}
use Rattle.ts_io.specs.Sources.{MemSourceState}
use Rattle.ts_io.proofs.Reading.{read_front, read_none}
use Rattle.ts_io.proofs.mem_streams.MemSourceSource.read.Goals as goal

pub returns-clause-bytes : goal.returns-clause-bytes
returns-clause-bytes c =
    let bytes = c.self.inside.bytes.items in
    let place = c.self.inside.place in
    let piece = c.self.inside.piece in
    let n = c.copy_prefix-count.result in
    let room = length c.args.buf.now in
    let all = c.deref.ensures.value in
    let copied = c.copy_prefix-count.ensures.copied ∙ ap (λ (l : List ℕ). take n (take (length l - place) (drop place l))) all in
    let count = c.copy_prefix-count.ensures.count ∙ ap (λ (l : List ℕ). min piece (min room (length (take (length l - place) (drop place l))))) all in (
      ap (λ (s : MemSourceState). s.left) (sym c.self.view_is) ∙ read_front bytes c.copy_prefix-count.new.to place n copied,
      λ none asked. read_none bytes place piece room n c.self.invariant.1 count none (omega arith),
    )
