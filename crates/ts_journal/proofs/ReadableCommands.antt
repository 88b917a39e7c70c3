-- The parts of a parsed command are in their ranges.
use Rattle.std.proofs.Common.{◌≡◌, ◌≢◌, suc, nat_le, Bool, true, false, if◌then◌else◌, List, [], ◌∷◌, length, refl}
use Rattle.std.proofs.lemmas.Bool.{false≢true}
use Rattle.std.specs.Prelude.{neg_ℤ, Option, None, Some, IfSome, Ok, Err, IfOk}
use Rattle.ts_spec.specs.Command.{Get}
use Rattle.ts_spec.specs.Grammar.{range, many_ranges, last_of_many, query_index, is_latest, get_last, info, ping, echo, Form, commands, by_form, command}
use Rattle.ts_spec.specs.ManySeries.{filters_of, last_options, many_options, wanted, selecting}
use Rattle.ts_spec.specs.Names.{named}
use Rattle.ts_spec.specs.Ranges.{range_options, query}
use Rattle.ts_spec.specs.Refusal.{Arity, BadOption}
use Rattle.ts_spec.specs.Settings.{Word, end_word, nothing, options}
use Rattle.ts_spec.specs.Wire.{Request}
use Rattle.ts_journal.proofs.Readable.{then-any, either-ok, neg-bounded}
use Rattle.ts_journal.proofs.ReadableOptions.{EachRow, named-holds}
use Rattle.ts_journal.proofs.ReadableChanges.{IsReadable, Reads, create-reads, alter-reads, add-reads, triples-read, incr-reads, del_range-reads, create_rule-reads, delete_rule-reads}

range-reads : (reverse : Bool) → Reads (range reverse)
range-reads reverse [] = tt
range-reads reverse (key ∷ []) = tt
range-reads reverse (key ∷ from ∷ []) = tt
range-reads reverse (key ∷ from ∷ to ∷ words) =
    then-any IsReadable (end_word from) _ (λ first. then-any IsReadable (end_word to) _ (λ last.
    then-any IsReadable (options range_options nothing 0 words) _ (λ given. then-any IsReadable (query reverse from to first last given) _ (λ q. tt))))

many_ranges-reads : (reverse : Bool) → Reads (many_ranges reverse)
many_ranges-reads reverse [] = tt
many_ranges-reads reverse (from ∷ []) = tt
many_ranges-reads reverse (from ∷ to ∷ words) =
    then-any IsReadable (end_word from) _ (λ first. then-any IsReadable (end_word to) _ (λ last.
    then-any IsReadable (options many_options nothing 0 words) _ (λ given. then-any IsReadable (wanted given) _ (λ filters.
    then-any IsReadable (query reverse from to first last given) _ (λ q. then-any IsReadable (selecting filters) _ (λ some. tt))))))

last_of_many-reads : Reads last_of_many
last_of_many-reads words =
    then-any IsReadable (options last_options nothing 0 words) _ (λ given. then-any IsReadable (wanted given) _ (λ filters.
    then-any IsReadable (selecting filters) _ (λ some. tt)))

query_index-reads : Reads query_index
query_index-reads words = then-any IsReadable (filters_of words) _ (λ filters. then-any IsReadable (selecting filters) _ (λ some. tt))

get_last-reads : Reads get_last
get_last-reads [] = tt
get_last-reads (key ∷ []) = tt
get_last-reads (key ∷ word ∷ words) = either-ok IsReadable (is_latest word) (Ok (Get key true)) (Err BadOption) tt tt

info-reads : Reads info
info-reads [] = tt
info-reads (key ∷ words) = tt

ping-reads : Reads ping
ping-reads [] = tt
ping-reads (word ∷ words) = tt

echo-reads : Reads echo
echo-reads [] = tt
echo-reads (word ∷ words) = tt

drop-reads : (keys : List Word) → nat_le 2 (suc (length keys)) ≡ true → keys ≢ []
drop-reads [] e = absurd (false≢true e)
drop-reads (key ∷ keys) e = λ none. cc

-- ---- the commands

-- of so many words as it may have
abbrev IsReading : Form → Type 0
IsReading f = (words : List Word) → f.words (suc (length words)) ≡ true → IfOk (f.says words) IsReadable

commands-read : EachRow IsReading commands
unfolding commands
commands-read = (
  (λ words e. create-reads words),
  (
    (λ words e. alter-reads words),
    (
      (λ words e. add-reads words),
      (
        (λ words e. triples-read words),
        (
          (λ words e. incr-reads (λ v. v) (λ v h. h) words),
          (
            (λ words e. incr-reads neg_ℤ neg-bounded words),
            (
              (λ words e. del_range-reads words),
              (
                (λ words e. create_rule-reads words),
                (
                  (λ words e. delete_rule-reads words),
                  (
                    (λ words e. range-reads false words),
                    (
                      (λ words e. range-reads true words),
                      (
                        (λ words e. many_ranges-reads false words),
                        (
                          (λ words e. many_ranges-reads true words),
                          (
                            (λ words e. get_last-reads words),
                            (
                              (λ words e. last_of_many-reads words),
                              (
                                (λ words e. query_index-reads words),
                                (
                                  (λ words e. info-reads words),
                                  (
                                    (λ words e. ping-reads words),
                                    (
                                      (λ words e. echo-reads words),
                                      (
                                        (λ words e. tt),
                                        (
                                          (λ words e. drop-reads words e),
                                          (
                                            (λ words e. tt),
                                            tt,
                                          ),
                                        ),
                                      ),
                                    ),
                                  ),
                                ),
                              ),
                            ),
                          ),
                        ),
                      ),
                    ),
                  ),
                ),
              ),
            ),
          ),
        ),
      ),
    ),
  ),
)

form-reads : (o : Option Form) → IfSome o IsReading → (words : List Word) → IfOk (by_form o (suc (length words)) words) IsReadable
form-reads None h words = tt
form-reads (Some f) h words = go (f.words (suc (length words))) refl
  where
    go : (b : Bool) → f.words (suc (length words)) ≡ b → IfOk (if b then f.says words else Err Arity) IsReadable
    go true e = h words e
    go false e = tt

pub command-readable : (words : Request) → IfOk (command words) IsReadable
command-readable [] = tt
command-readable (name ∷ words) = form-reads (named commands name) (named-holds IsReading commands name commands-read) words
