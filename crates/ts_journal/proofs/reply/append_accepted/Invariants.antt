use Rattle.std.proofs.Common.{◌≡◌, ◌+◌, ◌≤◌, ◌++◌, drop, length}
use Rattle.std.specs.Prelude.{sum}
use Rattle.ts_journal.specs.Lines.{pieces, accepted_pieces, joined, words_in}
use Rattle.ts_journal.proofs.reply.append_accepted.Given as goal

-- the accepted pieces so far, followed by those of the pieces left, are all accepted pieces
abbrev pub invariant-loop-len : goal.invariant-loop-len
invariant-loop-len l = record {
  bytes : l.room.items ++ joined (accepted_pieces l.items (pieces (drop l.len-index l.lens) l.bytes)) ≡ l.fn.room.items ++ joined (accepted_pieces l.fn.items (pieces l.lens l.fn.bytes));
  words : l.words + words_in (accepted_pieces l.items (pieces (drop l.len-index l.lens) l.bytes)) ≡ words_in (accepted_pieces l.fn.items (pieces l.lens l.fn.bytes));
  lens : sum (drop l.len-index l.lens) ≤ length l.bytes;
  room : length l.bytes ≤ l.room.spare;
  total : length l.room.items + l.room.spare ≡ length l.fn.room.items + l.fn.room.spare;
  few : l.words ≤ length l.room.items;
  count : l.words + length l.bytes ≤ length l.fn.bytes;
}
