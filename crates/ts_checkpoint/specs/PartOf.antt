-- How the words of a record parse. A record that is damaged or has a number out of range says nothing.
use Rattle.std.specs.Prelude.{ℕ, ◌^◌, ◌-◌, Bool, false, not, ◌&&◌, ◌||◌, ◌==◌, nat_le, if◌then◌else◌, List, [], ◌∷◌, length, drop, codes, Option, None, Some, Result, Ok}
use Rattle.std.specs.Fmt.{decimal}
use Rattle.std.specs.Str.{bytes_eq}
use Rattle.ts_spec.specs.Aggregate.{Summary}
use Rattle.ts_spec.specs.Command.{Command, Create, CreateRule}
use Rattle.ts_spec.specs.Grammar.{command}
use Rattle.ts_spec.specs.Key.{same}
use Rattle.ts_spec.specs.Refusal.{Fault}
use Rattle.ts_spec.specs.Wire.{Request}
use Rattle.ts_sample.specs.Chunk.{least_limit, greatest_limit}
use Rattle.ts_restore.specs.CheckNumber.{check_number}
use Rattle.ts_checkpoint.specs.Numbers.{if_read, number_in, time_in, time_or_none, integer, value_in}
use Rattle.ts_checkpoint.specs.Parts.{Part, Head, Series, Samples, Rule}

-- the greatest number of rules and of pieces that a record can say
abbrev pub MOST_RULES : ℕ
MOST_RULES = 2 ^ 32 - 1

-- `1 records`: the version of the format, and how many records follow
unfoldable pub head_part : Request → Option Part
head_part (version ∷ records ∷ []) =
    if bytes_eq version (codes "1") then if_read (time_in records) (λ n. Some (Head n)) else None
head_part _ = None

-- a series that this command creates
abbrev pub created_series : (high : Option ℕ) → (born pieces : ℕ) → Result Command Fault → Option Part
created_series high born pieces (Ok (Create key spec)) =
    Some (Series (record { key = key; spec = spec; high = high; born = born; pieces = pieces }))
created_series high born pieces _ = None

-- `high born pieces`, then TS.CREATE
unfoldable pub series_part : Request → Option Part
series_part (high ∷ born ∷ pieces ∷ words) =
    if_read (time_or_none high) (λ top. if_read (number_in 0 MOST_RULES born) (λ rules.
    if_read (number_in 0 MOST_RULES pieces) (λ n. created_series top rules n (command words))))
series_part _ = None

-- samples in a chunk of this limit: at least one byte, and no more than the limit
abbrev pub fitting_samples : (samples : List ℕ) → (limit : ℕ) → Option Part
fitting_samples samples limit =
    if nat_le 1 (length samples) && nat_le (length samples) limit
    then Some (Samples (record { limit = limit; samples = samples })) else None

-- `limit samples`
unfoldable pub piece_part : Request → Option Part
piece_part (limit ∷ samples ∷ []) = if_read (number_in least_limit greatest_limit limit) (fitting_samples samples)
piece_part _ = None

-- whether a rule without an open bucket counts something there
abbrev pub counts_nowhere : Option ℕ → (count : ℕ) → Bool
counts_nowhere None count = not (count == 0)
counts_nowhere (Some b) count = false

-- A rule that this command creates. It has two different keys, and counts samples only if it has an open bucket.
abbrev pub created_rule : (made : ℕ) → (current : Option ℕ) → Summary → Result Command Fault → Option Part
created_rule made current running (Ok (CreateRule source dest agg grid)) =
    if same source dest || counts_nowhere current running.count then None
    else Some (Rule (record {
      source = source;
      rule = record {
        dest = dest;
        agg = agg;
        grid = grid;
        made = made;
        current = current;
        running = running;
      };
    }))
created_rule made current running _ = None

-- `count sum least greatest first last`; what follows is left alone
unfoldable pub summary_in : Request → Option Summary
summary_in (count ∷ sum ∷ least ∷ greatest ∷ first ∷ last ∷ words) =
    if_read (time_in count) (λ n. if_read (integer sum) (λ s. if_read (value_in least) (λ low.
    if_read (value_in greatest) (λ high. if_read (value_in first) (λ f. if_read (value_in last) (λ l.
    Some (record { count = n; sum = s; least = low; greatest = high; first = f; last = l })))))))
summary_in _ = None

-- the numbers of a rule
pub record RuleNumbers : Type 0 where
  pub made : ℕ
  pub current : Option ℕ
  pub running : Summary

-- `made start` and a summary; what follows is left alone
unfoldable pub rule_numbers : Request → Option RuleNumbers
rule_numbers (made ∷ start ∷ words) =
    if_read (number_in 1 MOST_RULES made) (λ n. if_read (time_or_none start) (λ b. if_read (summary_in words) (λ s.
    Some (record { made = n; current = b; running = s }))))
rule_numbers _ = None

-- the numbers of a rule, then TS.CREATERULE
unfoldable pub rule_part : Request → Option Part
rule_part words =
    if_read (rule_numbers words) (λ n. created_rule n.made n.current n.running (command (drop 8 words)))

-- what the words of a record without its check number say
unfoldable pub unchecked_part : Request → Option Part
unchecked_part [] = None
unchecked_part (name ∷ words) =
    if bytes_eq name (codes "TSD.CHECKPOINT") then head_part words
    else (if bytes_eq name (codes "TSD.SERIES") then series_part words
    else (if bytes_eq name (codes "TSD.PIECE") then piece_part words
    else (if bytes_eq name (codes "TSD.RULE") then rule_part words else None)))

-- what the words of a record say, if its check number is that of the other words
unfoldable pub part_of : Request → Option Part
part_of (name ∷ check ∷ words) =
    if bytes_eq check (decimal (check_number (name ∷ words))) then unchecked_part (name ∷ words) else None
part_of _ = None
