use Rattle.std.proofs.Common.{◌≡◌, length, map, take}
use Rattle.std.specs.Prelude.{flat_map}
use Rattle.ts_command.specs.Reading.{triples_of}
use Rattle.ts_journal.specs.Draft.{HasWords}
use Rattle.ts_journal.specs.Fixed.{triple_text}
use Rattle.ts_journal.specs.Record.{triple_words}
use Rattle.ts_journal.proofs.triples.draft_triples.Given as goal

-- the triples before this one were appended
abbrev pub invariant-loop-triple : goal.invariant-loop-triple
invariant-loop-triple l = record {
  words : HasWords (flat_map (triple_words l.reading) (triples_of (take l.triple-index l.triples))) l.draft;
  lens : l.lens.items ≡ map length (map (triple_text l.reading) (triples_of (take l.triple-index l.triples)));
}
