use Rattle.std.proofs.Common.{◌≡◌, sym, subst, MatchOption, ◌∷◌, []}
use Rattle.ts_spec.specs.Wire.{words_of}
use Rattle.ts_resp.proofs.TextWordLemmas.{words-none, words-at, words-last}
use Rattle.ts_resp.proofs.text.next_word.Goals as goal

pub returns-in_err-text-clause-words : goal.returns-in_err-text-clause-words
returns-in_err-text-clause-words c =
    subst (λ r. MatchOption r (words_of c.args.text.now ≡ []) (λ p. words_of c.args.text.now ≡ p.0.now ∷ words_of p.1.now)) (sym c.from_residual.ensures)
    (words-none c.args.text.now c.in_err-text.ensures.place)

pub returns-in-Some-clause-words : goal.returns-in-Some-clause-words
returns-in-Some-clause-words c =
    words-at c.in_ok-text.field-0 c.in-Some.end c.args.text.now _ _ c.in_ok-text.ensures.place c.in-Some.ensures.place c.split_at.ensures.front c.split_at.ensures.back

pub returns-in-None-clause-words : goal.returns-in-None-clause-words
returns-in-None-clause-words c = words-last c.in_ok-text.field-0 c.args.text.now c.in_ok-text.ensures.place c.in-None.ensures.place
