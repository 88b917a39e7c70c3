-- Worked examples: parsing IGNORE.
use Rattle.std.specs.Prelude.{◌≡◌, refl, pos, [], ◌∷◌, codes, Some, None, Ok, Err}
use Rattle.ts_spec.specs.declared.series.Encoding.TheVariants.{Compressed}
use Rattle.ts_spec.specs.declared.series.Policy.TheVariants.{Last}
use Rattle.ts_spec.specs.declared.units.ValueFault.TheVariants.{NotANumber, OutOfRange}
use Rattle.ts_spec.specs.Command.{Create, Alter}
use Rattle.ts_spec.specs.Grammar.{commands, command}
use Rattle.ts_spec.specs.Names.{policies}
use Rattle.ts_spec.specs.Refusal.{BadOption, BadValue, RepeatedOption}
use Rattle.ts_spec.specs.SeriesOptions.{series_options, add_options, alter_options, policy_word, ignore_time_word, ignore_value_word}
use Rattle.ts_spec.specs.Settings.{at_word, time_word, value_word}
use Rattle.ts_spec.specs.Value.{decimal, value}

pub both_words : command (codes "TS.CREATE" ∷ codes "x" ∷ codes "DUPLICATE_POLICY" ∷ codes "LAST" ∷ codes "IGNORE" ∷ codes "10" ∷ codes "2" ∷ [])
    ≡ Ok (Create (codes "x") (record {
      options = record { retention = 0; encoding = Compressed; chunk_size = 4096; policy = Last; ignore = record { time = 10; value = pos 2000000 } };
      labels = [];
    }))
unfolding commands series_options policy_word policies ignore_time_word ignore_value_word value_word value decimal
both_words = refl

pub anew : command (codes "TS.ALTER" ∷ codes "x" ∷ codes "ignore" ∷ codes "0" ∷ codes "0" ∷ [])
    ≡ Ok (Alter (codes "x") (record { retention = None; chunk_size = None; policy = None; ignore = Some (record { time = 0; value = pos 0 }); labels = None }))
unfolding commands alter_options ignore_time_word ignore_value_word value_word value decimal
anew = refl

pub a_value_below_zero : command (codes "TS.CREATE" ∷ codes "y" ∷ codes "IGNORE" ∷ codes "1" ∷ codes "-1" ∷ []) ≡ Err BadOption
unfolding commands series_options ignore_time_word ignore_value_word value_word value decimal
a_value_below_zero = refl

pub one_word_alone : command (codes "TS.CREATE" ∷ codes "y" ∷ codes "IGNORE" ∷ codes "1" ∷ []) ≡ Err BadOption
unfolding commands series_options
one_word_alone = refl

pub no_time : command (codes "TS.ADD" ∷ codes "y" ∷ codes "1" ∷ codes "1" ∷ codes "IGNORE" ∷ codes "-1" ∷ codes "x" ∷ []) ≡ Err BadOption
unfolding commands add_options series_options at_word time_word ignore_time_word value_word value decimal
no_time = refl

pub no_value : command (codes "TS.CREATE" ∷ codes "y" ∷ codes "IGNORE" ∷ codes "1" ∷ codes "x" ∷ []) ≡ Err (BadValue NotANumber)
unfolding commands series_options ignore_time_word ignore_value_word value_word value decimal
no_value = refl

-- a value that is rounded to 0 is one, and one past the bound is none
pub rounded_to_zero : ignore_value_word (codes "-0.0000001") ≡ Ok (pos 0)
unfolding ignore_value_word value_word value decimal
rounded_to_zero = refl

pub rounded_below_zero : ignore_value_word (codes "-0.0000005") ≡ Err BadOption
unfolding ignore_value_word value_word value decimal
rounded_below_zero = refl

pub past_the_bound : ignore_value_word (codes "-1e20") ≡ Err (BadValue OutOfRange)
unfolding ignore_value_word value_word value decimal
past_the_bound = refl

pub given_twice : command (codes "TS.CREATE" ∷ codes "y" ∷ codes "IGNORE" ∷ codes "1" ∷ codes "1" ∷ codes "IGNORE" ∷ []) ≡ Err RepeatedOption
unfolding commands series_options ignore_time_word ignore_value_word value_word value decimal
given_twice = refl
