use Rattle.std.proofs.Common.{◌∷◌, List, ℕ, ◌+◌, ◌-◌, length, drop, sym, ◌∙◌, ap, append_assoc, arith}
use Rattle.std.specs.Prelude.{slice_set}
use Rattle.ts_spec.specs.Text.{CRLF}
use Rattle.ts_resp.proofs.WrittenLines.{written}
use Rattle.ts_resp.proofs.parts.write_line.Goals as goal
use borrow.Rule.Slice.PartMut.{put_mid}

pub returns : goal.returns
returns c =
    let n = length c.args.others.now in
    let room = c.args.room.now in
    let first = c.args.first in
    ap (λ (l : List ℕ). put_mid (n + 1) (n + 1 + 2 - (n + 1)) (put_mid 1 (n + 1 - 1) (slice_set room 0 first) l) c.copy_from_slice-2.new.self) c.copy_from_slice.ensures.after
    ∙ ap (λ (l : List ℕ). put_mid (n + 1) (n + 1 + 2 - (n + 1)) (put_mid 1 (n + 1 - 1) (slice_set room 0 first) c.args.others.now) l) c.copy_from_slice-2.ensures.after
    ∙ written first c.args.others.now CRLF room (n + 1 - 1) (n + 1 + 2 - (n + 1)) c.requires (omega arith) (omega arith)
    ∙ ap (λ (l : List ℕ). first ∷ l) (sym (append_assoc c.args.others.now CRLF (drop (n + 3) room)))
