use Rattle.std.proofs.Common.{◌∙◌, ap, sym, [], ◌∷◌}
use Rattle.ts_spec.specs.Key.{same}
use Rattle.ts_spec.specs.Filter.{has_one_of}
use Rattle.ts_labels.proofs.LabelLemmas.{pointwise-same}
use Rattle.ts_index.proofs.PairLemmas.{or-false}
use Rattle.ts_index.proofs.pairs.has_pair.Goals as goal

pub returns-in-Some : goal.returns-in-Some
returns-in-Some c =
    let value = c.args.value.now in
    c.eq.ensures ∙ pointwise-same c.in-Some.there.now value ∙ sym (or-false (same value c.in-Some.there.now)) ∙ ap (has_one_of (value ∷ [])) c.in-Some.ensures
