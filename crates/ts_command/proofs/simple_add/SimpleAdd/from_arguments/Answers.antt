use Rattle.std.proofs.Common.{◌≡◌, suc, ℤ, Bool, true, if◌then◌else◌, List, ◌∷◌, length, ap, arith, rules}
use Rattle.std.proofs.lemmas.Bool.Decides.{nat_tests}
use Rattle.std.specs.Prelude.{IsTrue, Option, Some, Ok, Err, codes, nat_le}
use Rattle.std.specs.Str.{str_eq_ignore_ascii_case}
use Rattle.ts_spec.specs.Command.{Add}
use Rattle.ts_spec.specs.Names.{named}
use Rattle.ts_spec.specs.Refusal.{Arity}
use Rattle.ts_spec.specs.Settings.{Word, at_word, value_word, nothing}
use Rattle.ts_spec.specs.SeriesOptions.{has_labels, spec}
use Rattle.ts_spec.specs.Grammar.{commands, option_form, add, command}
use Rattle.ts_spec.specs.declared.command.At.{At}
use Rattle.ts_spec.specs.declared.series.Policy.{Policy}
use Rattle.ts_command.specs.OnDuplicate.{SayPolicy}
use Rattle.ts_command.proofs.TableLemmas.{named-as}
use Rattle.ts_command.proofs.simple_add.SimpleAdd.from_arguments.Goals as goal

-- what the name finds
finds_add : (word : Word) → IsTrue (str_eq_ignore_ascii_case (codes "TS.ADD") word) → named commands word ≡ Some (option_form has_labels 3 (nat_le 4) add)
unfolding commands
finds_add word is = named-as (codes "TS.ADD") word commands is

-- the command that these words say with such options
add-says : (name key time amount : Word) (at : At) (v : ℤ) (on : Option Policy) (options : List Word)
    → IsTrue (str_eq_ignore_ascii_case (codes "TS.ADD") name) → at_word time ≡ Ok at → value_word amount ≡ Ok v → SayPolicy on options
    → command (name ∷ key ∷ time ∷ amount ∷ options) ≡ Ok (Add key at v on (spec nothing))
add-says name key time amount at v on options is_add is_at is_value says =
    let enough : nat_le 4 (suc (suc (suc (suc (length options))))) ≡ true = grind (arith, nat_tests) in
    rw (finds_add name is_add, is_at, is_value, says) (ap (λ (b : Bool). if b then Ok (Add key at v on (spec nothing)) else Err Arity) enough)

pub returns : goal.returns
returns c = λ options says.
    add-says c.args.name.now c.args.key.now c.args.time.now c.args.value.now c.in-Ok.at c.in-Ok-value_word.value c.args.on options (search rules)
    (rw c.bytes-2.ensures at c.in-Ok.ensures.answer) (rw c.bytes-3.ensures at c.in-Ok-value_word.ensures.answer) says
