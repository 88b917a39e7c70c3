-- Arguments that make a list are not QUIT.
use Rattle.std.proofs.Common.{◌≡◌, refl, ℕ, suc, ℤ, Bool, true, false, List, [], ◌∷◌, length}
use Rattle.std.specs.Prelude.{◌&&◌, neg_ℤ, if◌then◌else◌, Option, Some, Result, Ok, Err, IsTrue, ⊤}
use Rattle.std.specs.Str.{str_eq_ignore_ascii_case}
use Rattle.ts_spec.specs.Wire.{Request}
use Rattle.ts_spec.specs.Names.{Table, named}
use Rattle.ts_spec.specs.Settings.{Word, and_then, end_word, at_word, value_word, options, nothing}
use Rattle.ts_spec.specs.SeriesOptions.{series_options, alter_options, add_options, incr_options}
use Rattle.ts_spec.specs.Ranges.{range_options, query}
use Rattle.ts_spec.specs.ManySeries.{filters_of, last_options, many_options, wanted, selecting}
use Rattle.ts_spec.specs.Command.{Command}
use Rattle.ts_spec.specs.Refusal.{Fault, Arity}
use Rattle.ts_spec.specs.Run.{says_quit, is_quit}
use Rattle.ts_spec.specs.Grammar.{Form, form, commands, by_form, lists_by_form, makes_list, create, alter, add, madd, incr, range, many_ranges, last_of_many, query_index}

-- a form that collects a list of arguments does not match QUIT
record IsNoQuit (form : Option Form) : Type 0 where
  pub each : (words : List Word) → IsTrue (lists_by_form form (suc (length words)) words) → says_quit (by_form form (suc (length words)) words) ≡ false

abbrev AllNoQuit : Table Form → Type 0
AllNoQuit [] = ⊤
AllNoQuit (row ∷ rows) = IsNoQuit (Some row.1) × AllNoQuit rows

either : (b : Bool) (x y : Option Form) → IsNoQuit x → IsNoQuit y → IsNoQuit (if b then x else y)
either true x y one two = one
either false x y one two = two

named-no-quit : (rows : Table Form) (word : List ℕ) → AllNoQuit rows → IsNoQuit (named rows word)
named-no-quit [] word all = record { each = λ words lists. (cc) }
named-no-quit (row ∷ rows) word all = either (str_eq_ignore_ascii_case row.0 word) (Some row.1) (named rows word) all.0 (named-no-quit rows word all.1)

no_list : (b : Bool) → IsTrue (b && false) → ⊥
no_list true lists = (cc)
no_list false lists = (cc)

-- a form of single arguments makes no list
single : (words : ℕ → Bool) (says : List Word → Result Command Fault) → IsNoQuit (Some (form words says))
single words says = record { each = λ own lists. absurd (no_list (words (suc (length own))) lists) }

fitting : (b : Bool) (r : Result Command Fault) → says_quit r ≡ false → says_quit (if b then r else Err Arity) ≡ false
fitting true r plain = plain
fitting false r plain = refl

-- any other form depends on what these arguments say
others : (words : ℕ → Bool) (says : List Word → Result Command Fault) (lists : List Word → Bool) → ((own : List Word) → says_quit (says own) ≡ false)
    → IsNoQuit (Some (record { words = words; says = says; lists = lists }))
others words says lists plain = record { each = λ own makes. fitting (words (suc (length own))) (says own) (plain own) }

next : {X : Type 0} (r : Result X Fault) (says : X → Result Command Fault) → ((x : X) → says_quit (says x) ≡ false) → says_quit (and_then r says) ≡ false
next (Ok x) says plain = plain x
next (Err fault) says plain = refl

-- ---- by command

created : (own : List Word) → says_quit (create own) ≡ false
created [] = refl
created (key ∷ words) = next (options series_options nothing 0 words) _ (λ given. refl)

altered : (own : List Word) → says_quit (alter own) ≡ false
altered [] = refl
altered (key ∷ words) = next (options alter_options nothing 0 words) _ (λ given. refl)

added : (own : List Word) → says_quit (add own) ≡ false
added [] = refl
added (key ∷ []) = refl
added (key ∷ time ∷ []) = refl
added (key ∷ time ∷ amount ∷ words) = next (at_word time) _ (λ at. next (value_word amount) _ (λ v. next (options add_options nothing 0 words) _ (λ given. refl)))

changed : (signed : ℤ → ℤ) (own : List Word) → says_quit (incr signed own) ≡ false
changed signed [] = refl
changed signed (key ∷ []) = refl
changed signed (key ∷ amount ∷ words) = next (value_word amount) _ (λ v. next (options incr_options nothing 0 words) _ (λ given. refl))

ranged : (reverse : Bool) (own : List Word) → says_quit (range reverse own) ≡ false
ranged reverse [] = refl
ranged reverse (key ∷ []) = refl
ranged reverse (key ∷ from ∷ []) = refl
ranged reverse (key ∷ from ∷ to ∷ words) =
    next (end_word from) _ (λ first. next (end_word to) _ (λ last. next (options range_options nothing 0 words) _ (λ given. next (query reverse from to first last given) _ (λ q. refl))))

ranged_many : (reverse : Bool) (own : List Word) → says_quit (many_ranges reverse own) ≡ false
ranged_many reverse [] = refl
ranged_many reverse (from ∷ []) = refl
ranged_many reverse (from ∷ to ∷ words) =
    next (end_word from) _ (λ first. next (end_word to) _ (λ last. next (options many_options nothing 0 words) _ (λ given. next (wanted given) _ (λ filters.
    next (query reverse from to first last given) _ (λ q. next (selecting filters) _ (λ chosen. refl))))))

last_ones : (own : List Word) → says_quit (last_of_many own) ≡ false
last_ones words = next (options last_options nothing 0 words) _ (λ given. next (wanted given) _ (λ filters. next (selecting filters) _ (λ chosen. refl)))

indexed : (own : List Word) → says_quit (query_index own) ≡ false
indexed words = next (filters_of words) _ (λ filters. next (selecting filters) _ (λ chosen. refl))

all_no_quit : AllNoQuit commands
unfolding commands
all_no_quit = (
  others _ create _ created,
  (
    others _ alter _ altered,
    (
      others _ add _ added,
      (
        others _ madd _ (λ own. refl),
        (
          others _ _ _ (changed (λ v. v)),
          (
            others _ _ _ (changed neg_ℤ),
            (
              single _ _,
              (
                single _ _,
                (
                  single _ _,
                  (
                    others _ _ _ (ranged false),
                    (
                      others _ _ _ (ranged true),
                      (
                        others _ _ _ (ranged_many false),
                        (
                          others _ _ _ (ranged_many true),
                          (single _ _, (others _ _ _ last_ones, (others _ _ _ indexed, (single _ _, (single _ _, (single _ _, (single _ _, (single _ _, (single _ _, tt))))))))),
                        ),
                      ),
                    ),
                  ),
                ),
              ),
            ),
          ),
        ),
      ),
    ),
  ),
)

pub lists_no_quit : (words : Request) → IsTrue (makes_list words) → is_quit words ≡ false
lists_no_quit [] lists = refl
lists_no_quit (name ∷ words) lists = (named-no-quit commands name all_no_quit).each words lists
