use Rattle.std.proofs.Common.{◌∙◌, sym, take}
use Rattle.std.proofs.lemmas.Bool.{false≢true}
use Rattle.ts_index.specs.Index.{has_pair}
use Rattle.ts_index.proofs.PairLemmas.{has_pair-more}
use Rattle.ts_index.proofs.LosingLemmas.{loses-none, loses-more, loses-one, gone-more}
use Rattle.ts_index.proofs.clearing.clear_pairs.Goals as goal

pub loop-i-init : goal.loop-i-init
loop-i-init c = record { loses = loses-none c.args.ids.now c.args.lists.now c.requires.ascending; gone = λ p v h. absurd (false≢true h) }

pub remove_pair-requires-clause-ascending : goal.remove_pair-requires-clause-ascending
remove_pair-requires-clause-ascending c = c.loop-i.invariant.loses.ascending c.label_at.result.now c.value_at.result.now

pub loop-i-preserved : goal.loop-i-preserved
loop-i-preserved c =
    let name = c.label_at.result.now in
    let value = c.value_at.result.now in
    let one = loses-one c.args.ids.now c.args.id c.loop-i.lists c.remove_pair.new.lists name value c.loop-i.invariant.loses.ascending c.remove_pair.ensures in
    record {
      loses = loses-more c.args.ids.now c.args.lists.now c.loop-i.lists c.remove_pair.new.lists c.loop-i.invariant.loses one;
      gone = λ p v h. gone-more c.args.ids.now c.args.id c.loop-i.lists c.remove_pair.new.lists name value c.requires.among one c.remove_pair.ensures p v
          (has_pair p v (take c.loop-i.i c.args.labels.now)) (c.loop-i.invariant.gone p v)
          (sym (has_pair-more p v c.args.labels.now c.loop-i.i name value c.known.ensures c.label_at.ensures c.value_at.ensures) ∙ h);
    }
