use Rattle.std.proofs.Common.{◌≤◌, length, drop, ap, arith}
use Rattle.std.proofs.lemmas.List.{length-drop}
use Rattle.ts_command.specs.Reading.{triples_of}
use Rattle.ts_journal.proofs.Putting.{has-gap, behind-gap}
use Rattle.ts_journal.proofs.TripleLemmas.{pieces-of-triples, sum-of-triples}
use Rattle.ts_journal.proofs.triples.Triples.take.Goals as goal

pub invariant_of-result : goal.invariant_of-result
invariant_of-result c =
    let has = c.in_ok-draft_triples.ensures.words in
    let bytes = c.draft_triples.new.draft.out.bytes in
    let gap : 24 ≤ length bytes = has-gap has in
    let sum = sum-of-triples c.args.reading (triples_of c.args.triples.now) c.draft_triples.new.lens.items (drop 24 bytes) c.in_ok-draft_triples.ensures.lens (behind-gap has) in
    record {
      gap = gap;
      parts = omega (arith, sum);
      has_capacity_for_record = omega (arith, gap, length-drop 24 bytes, ap length c.bytes.ensures, c.in_ok-room.ensures.spare);
    }

pub returns : goal.returns
returns c =
    pieces-of-triples c.args.reading (triples_of c.args.triples.now) c.draft_triples.new.lens.items (drop 24 c.draft_triples.new.draft.out.bytes) c.in_ok-draft_triples.ensures.lens (behind-gap c.in_ok-draft_triples.ensures.words)
