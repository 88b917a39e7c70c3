-- The head of a checkpoint has four words.
use Rattle.std.proofs.Common.{◌≡◌, ◌≢◌, ℕ, Bool, true, false, if◌then◌else◌, List, [], ◌∷◌, length, codes, refl, arith}
use Rattle.std.specs.Prelude.{Option, None, Some, Result, Ok, ◌&&◌, ◌||◌, nat_le, drop}
use Rattle.std.specs.Fmt.{decimal}
use Rattle.std.specs.Str.{bytes_eq}
use Rattle.ts_spec.specs.Aggregate.{Summary}
use Rattle.ts_spec.specs.Command.{Command, Create, CreateRule}
use Rattle.ts_spec.specs.Grammar.{command}
use Rattle.ts_spec.specs.Key.{same}
use Rattle.ts_spec.specs.Refusal.{Fault}
use Rattle.ts_spec.specs.Wire.{Request}
use Rattle.ts_sample.specs.Chunk.{least_limit, greatest_limit}
use Rattle.ts_restore.specs.CheckNumber.{check_number}
use Rattle.ts_checkpoint.specs.Loading.{parts_said}
use Rattle.ts_checkpoint.specs.Numbers.{if_read, number_in, time_or_none}
use Rattle.ts_checkpoint.specs.Parts.{Part, Samples, Rule}
use Rattle.ts_checkpoint.specs.PartOf.{MOST_RULES, RuleNumbers, head_part, series_part, piece_part, rule_numbers, rule_part, unchecked_part, part_of, created_series, created_rule, fitting_samples, counts_nowhere}

-- ---- the other records are none

-- whatever is read before
if-read : {X : Type 0} (o : Option X) (f : X → Option Part) → ((x : X) → parts_said (f x) ≡ None) → parts_said (if_read o f) ≡ None
if-read None f none = refl
if-read (Some x) f none = none x

if-then : (b : Bool) (p : Option Part) → parts_said p ≡ None → parts_said (if b then p else None) ≡ None
if-then true p none = none
if-then false p none = refl

if-else : (b : Bool) (p : Option Part) → parts_said p ≡ None → parts_said (if b then None else p) ≡ None
if-else true p none = refl
if-else false p none = none

if-both : (b : Bool) (p q : Option Part) → parts_said p ≡ None → parts_said q ≡ None → parts_said (if b then p else q) ≡ None
if-both true p q this that = this
if-both false p q this that = that

created-series : (high : Option ℕ) (born pieces : ℕ) (said : Result Command Fault) → parts_said (created_series high born pieces said) ≡ None
created-series high born pieces (Ok (Create key spec)) = refl
created-series high born pieces _ = refl

series-none : (words : Request) → parts_said (series_part words) ≡ None
unfolding series_part
series-none [] = refl
series-none (high ∷ []) = refl
series-none (high ∷ born ∷ []) = refl
series-none (high ∷ born ∷ pieces ∷ words) =
    if-read (time_or_none high) (λ top. if_read (number_in 0 MOST_RULES born) (λ rules. if_read (number_in 0 MOST_RULES pieces) (λ n. created_series top rules n (command words))))
    (λ top. if-read (number_in 0 MOST_RULES born) (λ rules. if_read (number_in 0 MOST_RULES pieces) (λ n. created_series top rules n (command words)))
    (λ rules. if-read (number_in 0 MOST_RULES pieces) (λ n. created_series top rules n (command words)) (λ n. created-series top rules n (command words))))

piece-none : (words : Request) → parts_said (piece_part words) ≡ None
unfolding piece_part
piece-none [] = refl
piece-none (limit ∷ []) = refl
piece-none (limit ∷ samples ∷ []) =
    if-read (number_in least_limit greatest_limit limit) (fitting_samples samples)
    (λ n. if-then (nat_le 1 (length samples) && nat_le (length samples) n) (Some (Samples (record { limit = n; samples = samples }))) refl)
piece-none (limit ∷ samples ∷ word ∷ words) = refl

created-rule : (made : ℕ) (current : Option ℕ) (running : Summary) (said : Result Command Fault) → parts_said (created_rule made current running said) ≡ None
created-rule made current running (Ok (CreateRule source dest agg grid)) =
    if-else (same source dest || counts_nowhere current running.count)
    (Some (Rule (record { source = source; rule = record { dest = dest; agg = agg; grid = grid; made = made; current = current; running = running } }))) refl
created-rule made current running _ = refl

rule-none : (words : Request) → parts_said (rule_part words) ≡ None
unfolding rule_part
rule-none words =
    if-read (rule_numbers words) (λ (n : RuleNumbers). created_rule n.made n.current n.running (command (drop 8 words)))
    (λ (n : RuleNumbers). created-rule n.made n.current n.running (command (drop 8 words)))

-- ---- a head

-- without its check number it has three
head-none : (words : Request) → length words ≢ 2 → parts_said (head_part words) ≡ None
unfolding head_part
head-none [] other = refl
head-none (version ∷ []) other = refl
head-none (version ∷ records ∷ []) other = absurd (other (omega arith))
head-none (version ∷ records ∷ word ∷ words) other = refl

unchecked-none : (name : List ℕ) (words : Request) → length words ≢ 2 → parts_said (unchecked_part (name ∷ words)) ≡ None
unfolding unchecked_part
unchecked-none name words other =
    if-both (bytes_eq name (codes "TSD.CHECKPOINT")) (head_part words)
    (if bytes_eq name (codes "TSD.SERIES") then series_part words else (if bytes_eq name (codes "TSD.PIECE") then piece_part words else (if bytes_eq name (codes "TSD.RULE") then rule_part words else None)))
    (head-none words other)
    (if-both (bytes_eq name (codes "TSD.SERIES")) (series_part words)
    (if bytes_eq name (codes "TSD.PIECE") then piece_part words else (if bytes_eq name (codes "TSD.RULE") then rule_part words else None))
    (series-none words)
    (if-both (bytes_eq name (codes "TSD.PIECE")) (piece_part words) (if bytes_eq name (codes "TSD.RULE") then rule_part words else None)
    (piece-none words) (if-then (bytes_eq name (codes "TSD.RULE")) (rule_part words) (rule-none words))))

-- other words are none
pub no-head : (words : Request) → length words ≢ 4 → parts_said (part_of words) ≡ None
unfolding part_of
no-head [] other = refl
no-head (name ∷ []) other = refl
no-head (name ∷ check ∷ words) other =
    if-then (bytes_eq check (decimal (check_number (name ∷ words)))) (unchecked_part (name ∷ words)) (unchecked-none name words (λ two. other (omega (arith, two))))
