use Rattle.std.proofs.Common.{◌≡◌, [], ◌∷◌, refl, rules}
use Rattle.std.specs.Prelude.{IsTrue, Option, None, Some, IfSome, codes}
use Rattle.std.specs.Str.{str_eq_ignore_ascii_case}
use Rattle.ts_spec.specs.Names.{named, policies}
use Rattle.ts_spec.specs.Settings.{Word}
use Rattle.ts_spec.specs.SeriesOptions.{add_options, on_duplicate, policy_word}
use Rattle.ts_spec.specs.declared.series.Policy.{Policy}
use Rattle.ts_command.specs.OnDuplicate.{SayPolicy}
use Rattle.ts_command.proofs.TableLemmas.{named-as}
use Rattle.ts_command.proofs.simple_add.on_duplicate.Goals as goal

-- what the name finds
finds_on : (word : Word) → IsTrue (str_eq_ignore_ascii_case (codes "ON_DUPLICATE") word) → named add_options word ≡ Some on_duplicate
unfolding add_options
finds_on word is = named-as (codes "ON_DUPLICATE") word add_options is

-- the policy that a word is found to name
on-says : (option word : Word) (policy : Option Policy) → IsTrue (str_eq_ignore_ascii_case (codes "ON_DUPLICATE") option) → policy ≡ named policies word
    → IfSome policy (λ p. SayPolicy (Some p) (option ∷ word ∷ []))
unfolding policy_word
on-says option word None is_on is_policy = tt
on-says option word (Some p) is_on is_policy = rw (finds_on option is_on, ← is_policy) refl

pub returns : goal.returns
returns c = on-says c.args.option.now c.args.word.now c.policy_named.result (search rules) (rw c.bytes-2.ensures at c.policy_named.ensures)
