use Rattle.std.proofs.Common.{◌≡◌, ◌+◌, ◌-◌, suc, ◌∷◌, [], ◌++◌, ℕ, length, length-append, map, take, Some, subst, sym, ◌∙◌, ap, arith}
use Rattle.std.proofs.lemmas.Option.{slice_get-get_or}
use Rattle.std.specs.Prelude.{flat_map}
use Rattle.ts_command.specs.Reading.{triple_of, triples_of}
use Rattle.ts_journal.specs.Draft.{HasWords}
use Rattle.ts_journal.specs.Fixed.{triple_text}
use Rattle.ts_journal.specs.Record.{triple_words}
use Rattle.ts_journal.proofs.Putting.{has-more, items-next}
use Rattle.ts_journal.proofs.TripleLemmas.{map-next, flat-next}
use Rattle.ts_journal.proofs.triples.draft_triples.Goals as goal

pub loop-triple-preserved : goal.loop-triple-preserved
loop-triple-preserved c =
    let ts = c.args.triples.now in
    let i = c.loop-triple.triple-index in
    let t = c.triple-item.result in
    let words = triple_words c.args.reading in
    let text = triple_text c.args.reading in
    let before = triples_of (take i ts) in
    let put = c.in_ok-draft_triple.ensures in
    let same : suc i ≡ i + 1 = omega arith in
    let next : take (i + 1) ts ≡ take i ts ++ t ∷ [] = ap (λ (n : ℕ). take n ts) (sym same) ∙ items-next ts i t (slice_get-get_or ts i t (omega arith) ∙ ap Some (sym c.triple-item.is)) in
    let those : triples_of (take (i + 1) ts) ≡ before ++ triple_of t ∷ [] = ap triples_of next ∙ map-next triple_of (take i ts) t in
    let len : length c.bytes.result.now - length c.bytes-before.result.now ≡ length (text (triple_of t)) =
    omega (arith, ap length c.bytes.ensures, ap length c.bytes-before.ensures, ap length put.bytes, length-append c.loop-triple.draft.out.bytes (text (triple_of t))) in
    record {
      words = subst (λ ws. HasWords ws c.draft_triple.new.draft) (sym (ap (flat_map words) those ∙ flat-next words before (triple_of t))) (has-more c.loop-triple.invariant.words put);
      lens = c.in_ok-push.ensures.items
          ∙ ap (λ ls. ls ++ (length c.bytes.result.now - length c.bytes-before.result.now) ∷ []) c.loop-triple.invariant.lens
          ∙ ap (λ n. map length (map text before) ++ n ∷ []) len
          ∙ sym (ap (λ l. map length (map text l)) those ∙ ap (map length) (map-next text before (triple_of t)) ∙ map-next length (map text before) (text (triple_of t)));
    }
