use Rattle.std.proofs.Common.{◌≡◌, ◌≤◌, ◌<◌, List, [], ◌∷◌, length, drop, get_or, refl, sym, ◌∙◌, ap, subst, arith}
use Rattle.std.proofs.lemmas.List.{drop_more, drop_all}
use Rattle.std.specs.Prelude.{Option, None, Some, IfSome, Ok}
use Rattle.ts_spec.specs.declared.series.Policy.{Policy}
use Rattle.ts_spec.specs.Settings.{Word}
use Rattle.ts_spec.specs.Grammar.{command}
use Rattle.ts_command.specs.declared.simple_add.SimpleAdd.{SimpleAdd}
use Rattle.ts_command.specs.SimpleAdd.{simple_add_of}
use Rattle.ts_command.specs.OnDuplicate.{SayPolicy}
use Rattle.ts_command.proofs.simple_add.SimpleAdd.read.Goals as goal

-- words begin with those at their first places
first_four : (words : List Word) (name key time amount : Word) → 4 ≤ length words
    → name ≡ get_or words 0 name → key ≡ get_or words 1 key → time ≡ get_or words 2 time → amount ≡ get_or words 3 amount
    → words ≡ name ∷ key ∷ time ∷ amount ∷ drop 4 words
first_four words name key time amount least is_name is_key is_time is_amount =
    drop_more words 0 name (omega arith)
    ∙ ap (λ (w : Word). w ∷ drop 1 words) (sym is_name)
    ∙ ap (λ (ws : List Word). name ∷ ws) (drop_more words 1 key (omega arith) ∙ ap (λ (w : Word). w ∷ drop 2 words) (sym is_key))
    ∙ ap (λ (ws : List Word). name ∷ key ∷ ws) (drop_more words 2 time (omega arith) ∙ ap (λ (w : Word). w ∷ drop 3 words) (sym is_time))
    ∙ ap (λ (ws : List Word). name ∷ key ∷ time ∷ ws) (drop_more words 3 amount (omega arith) ∙ ap (λ (w : Word). w ∷ drop 4 words) (sym is_amount))

-- and end with those at their last places
last_two : (words : List Word) (option policy : Word) → 6 ≤ length words → length words < 7
    → option ≡ get_or words 4 option → policy ≡ get_or words 5 policy → drop 4 words ≡ option ∷ policy ∷ []
last_two words option policy least most is_option is_policy =
    drop_more words 4 option (omega arith)
    ∙ ap (λ (w : Word). w ∷ drop 5 words) (sym is_option)
    ∙ ap (λ (ws : List Word). option ∷ ws) (drop_more words 5 policy (omega arith) ∙ ap (λ (w : Word). w ∷ drop 6 words) (sym is_policy))
    ∙ ap (λ (ws : List Word). option ∷ policy ∷ ws) (drop_all 6 words (omega arith))

-- what is so whatever options say this policy is so of these
so_of : (name key time amount : Word) (on : Option Policy) (options words : List Word) (result : Option SimpleAdd)
    → words ≡ name ∷ key ∷ time ∷ amount ∷ options → SayPolicy on options
    → IfSome result (λ a. (options : List Word) → SayPolicy on options → command (name ∷ key ∷ time ∷ amount ∷ options) ≡ Ok (simple_add_of a))
    → IfSome result (λ a. command words ≡ Ok (simple_add_of a))
so_of name key time amount on options words None are says each = tt
so_of name key time amount on options words (Some a) are says each = subst (λ (ws : List Word). command ws ≡ Ok (simple_add_of a)) (sym are) (each options says)

pub returns-in-len4 : goal.returns-in-len4
returns-in-len4 c =
    so_of c.name-item.result c.key-item.result c.time-item.result c.value-item.result None (drop 4 c.args.words.now) c.args.words.now c.from_arguments.result
    (first_four c.args.words.now c.name-item.result c.key-item.result c.time-item.result c.value-item.result c.in-len4.len_at_least
    c.name-item.is c.key-item.is c.time-item.is c.value-item.is)
    (subst (λ (ws : List Word). SayPolicy None ws) (sym (drop_all 4 c.args.words.now (omega (arith, c.in-len4.len_below)))) refl) c.from_arguments.ensures

pub returns-in_ok-policy-in-len6 : goal.returns-in_ok-policy-in-len6
returns-in_ok-policy-in-len6 c =
    let name = c.name-item-then-words-lt7.result in
    let key = c.key-item-then-words-lt7.result in
    let time = c.time-item-then-words-lt7.result in
    let amount = c.value-item-then-words-lt7.result in
    so_of name key time amount (Some c.in_ok-policy-in-len6.policy) (drop 4 c.args.words.now) c.args.words.now c.from_arguments-in-len6.result
    (first_four c.args.words.now name key time amount (omega (arith, c.in-len6.len_at_least))
    c.name-item-then-words-lt7.is c.key-item-then-words-lt7.is c.time-item-then-words-lt7.is c.value-item-then-words-lt7.is)
    (subst (λ (ws : List Word). SayPolicy (Some c.in_ok-policy-in-len6.policy) ws)
    (sym (last_two c.args.words.now c.option-item.result c.policy-item.result c.in-len6.len_at_least c.in-len6.len_below c.option-item.is c.policy-item.is))
    c.in_ok-policy-in-len6.ensures) c.from_arguments-in-len6.ensures
