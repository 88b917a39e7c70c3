-- What is known of a record before the reply.
use Rattle.std.specs.Prelude.{ℕ, List, [], drop, if◌then◌else◌}
use Rattle.ts_journal.specs.declared.record.Record.{Record}
use Rattle.ts_journal.specs.declared.record.Content.{Content}
use Rattle.ts_journal.specs.declared.record.Content.TheVariants as content
use Rattle.ts_journal.specs.declared.triples.Triples.{Triples}
use Rattle.ts_journal.specs.Lines.{items_text, pieces, accepted_pieces, accepted_text, begins_error}

-- the text of each triple's arguments
abbrev pub pieces_of : Triples → List (List ℕ)
pieces_of t = pieces t.lens.items (drop 24 t.words.bytes)

-- the bytes of the record, if the reply has this text and is not an error
abbrev pub written_by : Content → (reply : List ℕ) → List ℕ
written_by (content.Fixed out) reply = out.bytes
written_by (content.Addition text) reply = text.items
written_by (content.Triples t) reply = accepted_text (accepted_pieces (items_text reply) (pieces_of t))

-- the bytes of the record, if the reply has this text
abbrev pub written : Content → (reply : List ℕ) → List ℕ
written h reply = if begins_error reply then [] else written_by h reply

-- the same for a prepared record
abbrev pub bytes_after : Record → (reply : List ℕ) → List ℕ
bytes_after r reply = written r.held reply
