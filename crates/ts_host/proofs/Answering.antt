-- Lemmas about how answers go on.
use Rattle.std.proofs.Common.{◌≡◌, ℕ, ◌+◌, ◌==◌, if◌then◌else◌, List, ◌∷◌, ◌++◌, sym, ap, ◌∙◌, subst}
use Rattle.ts_spec.specs.Wire.{Request}
use Rattle.ts_mux.specs.declared.frame.Frame.{Frame}
use Rattle.ts_mux.specs.Order.{Item}
use Rattle.ts_host.specs.Answers.{Counts, Agree, weight_of, counted, forgotten, Ending, Answers, none, reply, leave}

counted_agree : (item : Item) (one two : Counts) → Agree one two → Agree (counted item one) (counted item two)
counted_agree item one two agree = λ link. ap (λ (n : ℕ). if link == item.link then n + weight_of item.event else n) (agree link)

pub forgotten_agree : (link : ℕ) (one two : Counts) → Agree one two → Agree (forgotten link one) (forgotten link two)
forgotten_agree link one two agree = λ at. ap (λ (n : ℕ). if at == link then 0 else n) (agree at)

module _ {World : Type 0} (handles : World → Request → List ℕ → World → Type 0) where
  -- the counts at the start may be others that agree
  pub answers_agree : {from to : World} {one two counts : Counts} {items left : List Item} {frames : List Frame} {endings : List Ending}
      → Agree one two → Answers handles from two items frames endings to counts left → Answers handles from one items frames endings to counts left
  answers_agree {one} {two} agree (none same) = none (λ link. same link ∙ agree link)
  answers_agree {one} {two} agree (reply {item} here counts others) = reply here (λ link. counts link ∙ counted_agree item one two agree link) others
  answers_agree {from} {to} {one} {two} {counts} {items} {left} {frames} agree (leave {endings} {link} {how} forgets others) =
      subst (λ (n : ℕ). Answers handles from one items frames (record { link = link; executed = n; how = how } ∷ endings) to counts left) (sym (agree link))
      (leave (λ at. forgets at ∙ forgotten_agree link one two agree at) others)

  -- two stretches of answers are one
  pub answers_on : {from mid to : World} {one two three : Counts} {items left rest : List Item} {some others : List Frame} {gone more : List Ending}
      → Answers handles from one items some gone mid two left → Answers handles mid two left others more to three rest
      → Answers handles from one items (some ++ others) (gone ++ more) to three rest
  answers_on (none same) second = answers_agree same second
  answers_on (reply here counts first) second = reply here counts (answers_on first second)
  answers_on (leave forgets first) second = leave forgets (answers_on first second)

  -- equal items have the same answers
  pub answers_as : {from to : World} {counts counts' : Counts} {items others left rest : List Item} {frames : List Frame} {endings : List Ending}
      → items ≡ others → left ≡ rest → Answers handles from counts items frames endings to counts' left → Answers handles from counts others frames endings to counts' rest
  answers_as {from} {to} {counts} {counts'} {items} {others} {left} {rest} {frames} {endings} same after all =
      subst (λ (l : List Item). Answers handles from counts others frames endings to counts' l) after
      (subst (λ (l : List Item). Answers handles from counts l frames endings to counts' left) same all)
