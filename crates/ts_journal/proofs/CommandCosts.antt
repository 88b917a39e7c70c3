-- The record of a command is not much longer than the arguments that it was parsed from.
use Rattle.std.proofs.Common.{ℕ, suc, Bool, true, false, List, [], ◌∷◌, length}
use Rattle.std.proofs.lemmas.Result.{IfOk-weaker}
use Rattle.std.specs.Prelude.{neg_ℤ, Option, None, Some, IfSome, Ok, Err, IfOk}
use Rattle.ts_spec.specs.Command.{Get}
use Rattle.ts_spec.specs.Grammar.{range, many_ranges, last_of_many, query_index, is_latest, get_last, info, ping, echo, Form, commands, by_form, command}
use Rattle.ts_spec.specs.ManySeries.{filters_of, last_options, many_options, wanted, selecting}
use Rattle.ts_spec.specs.Names.{named}
use Rattle.ts_spec.specs.Ranges.{range_options, query}
use Rattle.ts_spec.specs.Refusal.{Arity, BadOption}
use Rattle.ts_spec.specs.Settings.{Word, end_word, nothing, options}
use Rattle.ts_spec.specs.Wire.{Request}
use Rattle.ts_journal.proofs.Costs.{costs-first}
use Rattle.ts_journal.proofs.Readable.{then-any, either-ok, neg-bounded}
use Rattle.ts_journal.proofs.ReadableOptions.{EachRow, named-holds}
use Rattle.ts_journal.proofs.ChangeCosts.{Costed, no-record, create-costed, alter-costed, add-costed, incr-costed, madd-costed, del_range-costed, create_rule-costed, delete_rule-costed, drop-costed}

-- ---- questions have no record

range-costed : (reverse : Bool) (words : List Word) → IfOk (range reverse words) (Costed words)
range-costed reverse [] = tt
range-costed reverse (key ∷ []) = tt
range-costed reverse (key ∷ from ∷ []) = tt
range-costed reverse (key ∷ from ∷ to ∷ words) =
    let all = key ∷ from ∷ to ∷ words in
    then-any (Costed all) (end_word from) _ (λ first. then-any (Costed all) (end_word to) _ (λ last.
    then-any (Costed all) (options range_options nothing 0 words) _ (λ given. then-any (Costed all) (query reverse from to first last given) _ (λ q reading reply. no-record all))))

many_ranges-costed : (reverse : Bool) (words : List Word) → IfOk (many_ranges reverse words) (Costed words)
many_ranges-costed reverse [] = tt
many_ranges-costed reverse (from ∷ []) = tt
many_ranges-costed reverse (from ∷ to ∷ words) =
    let all = from ∷ to ∷ words in
    then-any (Costed all) (end_word from) _ (λ first. then-any (Costed all) (end_word to) _ (λ last.
    then-any (Costed all) (options many_options nothing 0 words) _ (λ given. then-any (Costed all) (wanted given) _ (λ filters.
    then-any (Costed all) (query reverse from to first last given) _ (λ q. then-any (Costed all) (selecting filters) _ (λ some reading reply. no-record all))))))

last_of_many-costed : (words : List Word) → IfOk (last_of_many words) (Costed words)
last_of_many-costed words =
    then-any (Costed words) (options last_options nothing 0 words) _ (λ given. then-any (Costed words) (wanted given) _ (λ filters.
    then-any (Costed words) (selecting filters) _ (λ some reading reply. no-record words)))

query_index-costed : (words : List Word) → IfOk (query_index words) (Costed words)
query_index-costed words = then-any (Costed words) (filters_of words) _ (λ filters. then-any (Costed words) (selecting filters) _ (λ some reading reply. no-record words))

get_last-costed : (words : List Word) → IfOk (get_last words) (Costed words)
get_last-costed [] = tt
get_last-costed (key ∷ []) = λ reading reply. no-record (key ∷ [])
get_last-costed (key ∷ word ∷ words) =
    either-ok (Costed (key ∷ word ∷ words)) (is_latest word) (Ok (Get key true)) (Err BadOption) (λ reading reply. no-record (key ∷ word ∷ words)) tt

info-costed : (words : List Word) → IfOk (info words) (Costed words)
info-costed [] = tt
info-costed (key ∷ words) = λ reading reply. no-record (key ∷ words)

ping-costed : (words : List Word) → IfOk (ping words) (Costed words)
ping-costed [] = λ reading reply. no-record []
ping-costed (word ∷ words) = λ reading reply. no-record (word ∷ words)

echo-costed : (words : List Word) → IfOk (echo words) (Costed words)
echo-costed [] = tt
echo-costed (word ∷ words) = λ reading reply. no-record (word ∷ words)

-- ---- the commands

abbrev IsCosted : Form → Type 0
IsCosted f = (words : List Word) → IfOk (f.says words) (Costed words)

commands-costed : EachRow IsCosted commands
unfolding commands
commands-costed = (
  create-costed,
  (
    alter-costed,
    (
      add-costed,
      (
        madd-costed,
        (
          incr-costed (λ v. v) (λ v h. h),
          (
            incr-costed neg_ℤ neg-bounded,
            (
              del_range-costed,
              (
                create_rule-costed,
                (
                  delete_rule-costed,
                  (
                    range-costed false,
                    (
                      range-costed true,
                      (
                        many_ranges-costed false,
                        (
                          many_ranges-costed true,
                          (
                            get_last-costed,
                            (
                              last_of_many-costed,
                              (
                                query_index-costed,
                                (
                                  info-costed,
                                  (
                                    ping-costed,
                                    (
                                      echo-costed,
                                      (
                                        (λ words reading reply. no-record words),
                                        (
                                          (λ words. drop-costed words),
                                          (
                                            (λ words reading reply. no-record words),
                                            tt,
                                          ),
                                        ),
                                      ),
                                    ),
                                  ),
                                ),
                              ),
                            ),
                          ),
                        ),
                      ),
                    ),
                  ),
                ),
              ),
            ),
          ),
        ),
      ),
    ),
  ),
)

form-costed : (o : Option Form) → IfSome o IsCosted → (n : ℕ) (name : Word) (words : List Word) → IfOk (by_form o n words) (Costed (name ∷ words))
form-costed None h n name words = tt
form-costed (Some f) h n name words =
    either-ok (Costed (name ∷ words)) (f.words n) (f.says words) (Err Arity)
    (IfOk-weaker (f.says words) (Costed words) (Costed (name ∷ words)) (λ c cost reading reply. costs-first name (cost reading reply)) (h words)) tt

pub command-costed : (words : Request) → IfOk (command words) (Costed words)
command-costed [] = tt
command-costed (name ∷ words) = form-costed (named commands name) (named-holds IsCosted commands name commands-costed) (suc (length words)) name words
