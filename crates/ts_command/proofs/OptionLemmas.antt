-- Options: their names, their arguments, and the options after them.
use Rattle.std.proofs.Common.{◌≡◌, ℕ, zero, suc, Bool, true, false, ◌||◌, List, [], ◌∷◌, take, drop, map, IsTrue, refl, sym, ap, ◌∙◌}
use Rattle.std.specs.Prelude.{Ok, Option, None, Some, option_map, IfSome}
use Rattle.std.specs.Str.{str_eq_ignore_ascii_case}
use Rattle.ts_spec.specs.Names.{Table, named}
use Rattle.ts_spec.specs.Settings.{Word, Given, Setting, new_setting, is_known, options, has_name}
use Rattle.ts_command.specs.declared.option_word.OptionWord.{OptionWord}
use Rattle.ts_command.specs.Options.{setting_of, is_list, may_have_list}
use Rattle.ts_command.proofs.TableLemmas.{named-map, each_named, named-so}

-- the options after an option's own words
options-drop : (known : Table Setting) (given : Given) (own : ℕ) (words : List Word) → options known given own words ≡ options known given 0 (drop own words)
options-drop known given zero words = refl
options-drop known given (suc own) [] = refl
options-drop known given (suc own) (word ∷ words) = options-drop known given own words

-- the option that stands first, its own words, and the options that follow
options-next : (known : Table Setting) (given more : Given) (setting : Setting) (word : Word) (words own rest : List Word)
    → new_setting given (named known word) ≡ Ok setting
    → own ≡ take (setting.size (is_known known) words) words
    → rest ≡ drop (setting.size (is_known known) words) words
    → setting.says own given ≡ Ok more
    → options known given 0 (word ∷ words) ≡ options known more 0 rest
options-next known given more setting word words own rest chosen mine others said =
    rw (chosen, ← mine, said, others) (options-drop known more (setting.size (is_known known) words) words)

either-second : (one two : Bool) → IsTrue two → IsTrue (one || two)
either-second true two h = refl
either-second false two h = h

-- a name among the last words is one among all
has_name-drop : (name : List ℕ) (n : ℕ) (words : List Word) → IsTrue (has_name name (drop n words)) → IsTrue (has_name name words)
has_name-drop name zero words h = h
has_name-drop name (suc n) [] h = h
has_name-drop name (suc n) (word ∷ words) h = either-second (str_eq_ignore_ascii_case name word) (has_name name words) (has_name-drop name n words h)

-- if the last words may make a list, all may
may_have_list-drop : (names : Option (List ℕ)) (n : ℕ) (words : List Word) → IsTrue (may_have_list names (drop n words)) → IsTrue (may_have_list names words)
may_have_list-drop None n words h = refl
may_have_list-drop (Some name) n words h = has_name-drop name n words h

-- What is given so far goes on to what all options say, added to what was given at first, and if words from here on may
-- make a list, all may
abbrev pub GoesOn : (known : Table Setting) → (names : Option (List ℕ)) → (first given : Given) → (rest words : List Word) → Type 0
GoesOn known names first given rest words = record {
  options : options known given 0 rest ≡ options known first 0 words;
  lists : IsTrue (may_have_list names rest) → IsTrue (may_have_list names words);
}

-- it goes on after an option and its own words
pub goes-on : (known : Table Setting) (names : Option (List ℕ)) (first given more : Given) (setting : Setting) (word : Word) (after own rest words : List Word)
    → GoesOn known names first given (word ∷ after) words
    → new_setting given (named known word) ≡ Ok setting
    → own ≡ take (setting.size (is_known known) after) after
    → rest ≡ drop (setting.size (is_known known) after) after
    → setting.says own given ≡ Ok more
    → GoesOn known names first more rest words
goes-on known names first given more setting word after own rest words so_far chosen mine others said = record {
  options = sym (options-next known given more setting word after own rest chosen mine others said) ∙ so_far.options;
  lists = λ h. so_far.lists (may_have_list-drop names 1 (word ∷ after) (may_have_list-drop names (setting.size (is_known known) after) after (rw others at h)));
}

-- The option that a word names in a table: what it says, and that a word that names one with a list is this name.
pub found : (name : List ℕ) (table : Table OptionWord) (known : Table Setting) (word : Word) (option : Option OptionWord)
    → option ≡ named table word
    → map (λ row. (row.0, setting_of row.1)) table ≡ known
    → IsTrue (each_named is_list name table)
    → record {
      setting : option_map setting_of option ≡ named known word;
      list : IfSome option (λ o. IsTrue (is_list o) → IsTrue (str_eq_ignore_ascii_case name word));
    }
found name table known word option is seen each = record {
  setting = ap (option_map setting_of) is ∙ named-map setting_of table word ∙ ap (λ rows. named rows word) seen;
  list = rw is (named-so is_list name word table each);
}

of_several : (option : Option OptionWord) → IfSome option (λ o. IsTrue (is_list o) → IsTrue true)
of_several None = tt
of_several (Some o) = λ h. refl

-- the same in a table of several options with a list
pub found_one : (table : Table OptionWord) (known : Table Setting) (word : Word) (option : Option OptionWord)
    → option ≡ named table word
    → map (λ row. (row.0, setting_of row.1)) table ≡ known
    → record {
      setting : option_map setting_of option ≡ named known word;
      list : IfSome option (λ o. IsTrue (is_list o) → IsTrue true);
    }
found_one table known word option is seen = record {
  setting = ap (option_map setting_of) is ∙ named-map setting_of table word ∙ ap (λ rows. named rows word) seen;
  list = of_several option;
}
