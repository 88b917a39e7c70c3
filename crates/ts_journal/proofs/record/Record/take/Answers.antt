use Rattle.std.proofs.Common.{map, if◌then◌else◌, [], List, ℕ, sym, ◌∙◌, ap}
use Rattle.ts_spec.specs.Text.{text}
use Rattle.ts_command.specs.Reading.{command_of, triples_of}
use Rattle.ts_journal.specs.Fixed.{triple_text}
use Rattle.ts_journal.specs.Lines.{begins_error, items_text, accepted_pieces, accepted_text}
use Rattle.ts_journal.specs.Record.{record_of}
use Rattle.ts_journal.proofs.Accepted.{record-of-triples}
use Rattle.ts_journal.proofs.record.Record.take.Goals as goal

pub returns-in-Madd-clause-record : goal.returns-in-Madd-clause-record
returns-in-Madd-clause-record c reply told =
    let reading = c.args.reading in
    ap (λ (ps : List (List ℕ)). if begins_error (text reply) then [] else accepted_text (accepted_pieces (items_text (text reply)) ps)) (c.in_ok-triples.ensures ∙ ap (λ ts. map (triple_text reading) (triples_of ts)) c.deref.ensures.value)
    ∙ record-of-triples reading (triples_of c.in-Madd.triples.items) reply told
    ∙ ap (λ command. record_of (command_of command) reading reply) (sym c.in-Madd.is)
