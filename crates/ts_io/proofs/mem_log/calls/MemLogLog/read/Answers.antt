use Rattle.std.proofs.Common.{◌≡◌, ◌+◌, ◌-◌, ◌^◌, ◌≤◌, min, List, ℕ, length, take, drop, sym, ◌∙◌, ap, arith}
use Rattle.ts_io.specs.Logs.{MemLogState}
use Rattle.ts_io.proofs.Reading.{read_from, read_none, read_on}
use Rattle.ts_io.proofs.mem_log.calls.MemLogLog.read.Goals as goal

pub returns-clause-bytes : goal.returns-clause-bytes
returns-clause-bytes c =
    let bytes = c.self.inside.content.items in
    let place = c.self.inside.place in
    let start = c.min-start.result in
    let new = c.saturating_add-self-inside.result in
    let n = c.copy_prefix-count.result in
    let room = length c.args.buf.now in
    let all = c.deref.ensures.value in
    let copied = c.copy_prefix-count.ensures.copied ∙ ap (λ (l : List ℕ). take n (take (length l - start) (drop start l))) all in
    let count = c.copy_prefix-count.ensures.count ∙ ap (λ (l : List ℕ). min room (min room (length (take (length l - start) (drop start l))))) all in
    let within : start ≡ min (length bytes) place = omega (arith, c.min-start.ensures, c.len.ensures, c.deref.ensures.len, ap length all) in
    let few : length bytes ≤ 2 ^ 64 - 1 = omega (arith, c.len.type_inv, c.len.ensures, c.deref.ensures.len, ap length all) in
    let left : n ≤ length (take (length bytes - start) (drop start bytes)) = omega (arith, count) in
    let on : drop new bytes ≡ drop (start + n) bytes = read_on bytes place start new n within few c.saturating_add-self-inside.ensures left in (
      ap (λ (s : MemLogState). drop s.place s.content) (sym c.self.view_is) ∙ read_from bytes place start new n within few c.saturating_add-self-inside.ensures left c.copy_prefix-count.new.to copied,
      λ none asked. on ∙ read_none bytes start room room n (omega arith) count none (omega arith),
    )
