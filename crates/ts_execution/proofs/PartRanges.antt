-- The numbers of a part are in range, since its record says them.
use Rattle.std.proofs.Common.{◌≡◌, ℕ, ◌≤◌, Bool, true, false, if◌then◌else◌, List, [], ◌∷◌, length, codes, refl, subst}
use Rattle.std.proofs.lemmas.Bool.{and_parts, leb-true}
use Rattle.std.specs.Fmt.{decimal}
use Rattle.std.specs.Str.{bytes_eq}
use Rattle.std.specs.Prelude.{◌&&◌, ◌||◌, nat_le, drop, Option, None, Some, IfSome, option_map, Result, Ok}
use Rattle.ts_spec.specs.Aggregate.{Summary}
use Rattle.ts_spec.specs.Command.{Command, Create, CreateRule}
use Rattle.ts_spec.specs.Grammar.{command}
use Rattle.ts_spec.specs.Key.{same}
use Rattle.ts_spec.specs.Refusal.{Fault}
use Rattle.ts_spec.specs.Sample.{MAX_TIME}
use Rattle.ts_spec.specs.Wire.{Request}
use Rattle.ts_sample.specs.Chunk.{least_limit, greatest_limit}
use Rattle.ts_restore.specs.CheckNumber.{check_number}
use Rattle.ts_checkpoint.specs.Numbers.{if_read, between, whole, number_in, time_in, time_or_none}
use Rattle.ts_checkpoint.specs.Parts.{Part, Head, Samples, Rule}
use Rattle.ts_checkpoint.specs.PartOf.{MOST_RULES, RuleNumbers, head_part, series_part, piece_part, summary_in, rule_numbers, rule_part, unchecked_part, part_of, created_series, created_rule, fitting_samples, counts_nowhere}
use Rattle.ts_checkpoint.specs.Sayable.{IsTimeIfAny}
use Rattle.ts_execution.specs.Stages.{IsInRange}

-- ---- if something was read

if-read : {X Y : Type 0} (P : Y → Type 0) (o : Option X) (f : X → Option Y) → ((x : X) → o ≡ Some x → IfSome (f x) P) → IfSome (if_read o f) P
if-read P None f each = tt
if-read P (Some x) f each = each x refl

if-then : {Y : Type 0} (P : Y → Type 0) (b : Bool) (o : Option Y) → IfSome o P → IfSome (if b then o else None) P
if-then P true o h = h
if-then P false o h = tt

if-else : {Y : Type 0} (P : Y → Type 0) (b : Bool) (o : Option Y) → IfSome o P → IfSome (if b then None else o) P
if-else P true o h = tt
if-else P false o h = h

if-both : {Y : Type 0} (P : Y → Type 0) (b : Bool) (o q : Option Y) → IfSome o P → IfSome q P → IfSome (if b then o else q) P
if-both P true o q this that = this
if-both P false o q this that = that

if-some : {Y : Type 0} (P : Y → Type 0) (o : Option Y) (y : Y) → o ≡ Some y → IfSome o P → P y
if-some {Y = Y} P o y is h = subst (λ (q : Option Y). IfSome q P) is h

-- ---- numbers

abbrev IsWithin : (least most : ℕ) → ℕ → Type 0
IsWithin least most n = (least ≤ n) × (n ≤ most)

within : (least most n : ℕ) → IfSome (between least most n) (IsWithin least most)
within least most n = go (nat_le least n && nat_le n most) refl
  where
    go : (b : Bool) → (nat_le least n && nat_le n most) ≡ b → IfSome (if b then Some n else None) (IsWithin least most)
    go true is = (let both = and_parts (nat_le least n) (nat_le n most) is in (leb-true least n both.0, leb-true n most both.1))
    go false is = tt

number-within : (least most : ℕ) (word : List ℕ) → IfSome (number_in least most word) (IsWithin least most)
unfolding number_in
number-within least most word = if-read (IsWithin least most) (whole word) (between least most) (λ n is. within least most n)

time-within : (word : List ℕ) → IfSome (time_or_none word) IsTimeIfAny
unfolding time_or_none
time-within word =
    if-both IsTimeIfAny (bytes_eq word (codes "-")) (Some None) (option_map Some (time_in word)) tt (mapped (time_in word) (number-within 0 MAX_TIME word))
  where
    mapped : (o : Option ℕ) → IfSome o (IsWithin 0 MAX_TIME) → IfSome (option_map Some o) IsTimeIfAny
    mapped None h = tt
    mapped (Some t) h = h.1

-- ---- the records

head-range : (words : Request) → IfSome (head_part words) IsInRange
unfolding head_part
head-range [] = tt
head-range (version ∷ []) = tt
head-range (version ∷ records ∷ []) =
    if-then IsInRange (bytes_eq version (codes "1")) (if_read (time_in records) (λ n. Some (Head n))) (if-read IsInRange (time_in records) (λ n. Some (Head n)) (λ n is. tt))
head-range (version ∷ records ∷ word ∷ words) = tt

created-series : (high : Option ℕ) (born pieces : ℕ) (said : Result Command Fault) → IfSome (created_series high born pieces said) IsInRange
created-series high born pieces (Ok (Create key spec)) = tt
created-series high born pieces _ = tt

series-range : (words : Request) → IfSome (series_part words) IsInRange
unfolding series_part
series-range [] = tt
series-range (high ∷ []) = tt
series-range (high ∷ born ∷ []) = tt
series-range (high ∷ born ∷ pieces ∷ words) =
    if-read IsInRange (time_or_none high) (λ top. if_read (number_in 0 MOST_RULES born) (λ rules. if_read (number_in 0 MOST_RULES pieces) (λ n. created_series top rules n (command words))))
    (λ top is. if-read IsInRange (number_in 0 MOST_RULES born) (λ rules. if_read (number_in 0 MOST_RULES pieces) (λ n. created_series top rules n (command words)))
    (λ rules is. if-read IsInRange (number_in 0 MOST_RULES pieces) (λ n. created_series top rules n (command words)) (λ n is. created-series top rules n (command words))))

piece-range : (words : Request) → IfSome (piece_part words) IsInRange
unfolding piece_part
piece-range [] = tt
piece-range (limit ∷ []) = tt
piece-range (limit ∷ samples ∷ []) =
    if-read IsInRange (number_in least_limit greatest_limit limit) (fitting_samples samples)
    (λ n is.
    let bounds : IsWithin least_limit greatest_limit n = if-some (IsWithin least_limit greatest_limit) (number_in least_limit greatest_limit limit) n is (number-within least_limit greatest_limit limit) in
    if-then IsInRange (nat_le 1 (length samples) && nat_le (length samples) n) (Some (Samples (record { limit = n; samples = samples }))) (record { least = bounds.0; greatest = bounds.1 }))
piece-range (limit ∷ samples ∷ word ∷ words) = tt

-- the numbers of a rule
abbrev IsOpenInTime : RuleNumbers → Type 0
IsOpenInTime n = IsTimeIfAny n.current

numbers-range : (words : Request) → IfSome (rule_numbers words) IsOpenInTime
unfolding rule_numbers
numbers-range [] = tt
numbers-range (made ∷ []) = tt
numbers-range (made ∷ start ∷ words) =
    if-read IsOpenInTime (number_in 1 MOST_RULES made) (λ n. if_read (time_or_none start) (λ b. if_read (summary_in words) (λ s. Some (record { made = n; current = b; running = s }))))
    (λ n is. if-read IsOpenInTime (time_or_none start) (λ b. if_read (summary_in words) (λ s. Some (record { made = n; current = b; running = s })))
    (λ b its. if-read IsOpenInTime (summary_in words) (λ s. Some (record { made = n; current = b; running = s }))
    (λ s is. if-some IsTimeIfAny (time_or_none start) b its (time-within start))))

created-rule : (made : ℕ) (current : Option ℕ) (running : Summary) (said : Result Command Fault) → IsTimeIfAny current → IfSome (created_rule made current running said) IsInRange
created-rule made current running (Ok (CreateRule source dest agg grid)) h =
    if-else IsInRange (same source dest || counts_nowhere current running.count)
    (Some (Rule (record { source = source; rule = record { dest = dest; agg = agg; grid = grid; made = made; current = current; running = running } }))) h
created-rule made current running _ h = tt

rule-range : (words : Request) → IfSome (rule_part words) IsInRange
unfolding rule_part
rule-range words =
    if-read IsInRange (rule_numbers words) (λ (n : RuleNumbers). created_rule n.made n.current n.running (command (drop 8 words)))
    (λ n is. created-rule n.made n.current n.running (command (drop 8 words)) (if-some IsOpenInTime (rule_numbers words) n is (numbers-range words)))

unchecked-range : (name : List ℕ) (words : Request) → IfSome (unchecked_part (name ∷ words)) IsInRange
unfolding unchecked_part
unchecked-range name words =
    if-both IsInRange (bytes_eq name (codes "TSD.CHECKPOINT")) (head_part words)
    (if bytes_eq name (codes "TSD.SERIES") then series_part words else (if bytes_eq name (codes "TSD.PIECE") then piece_part words else (if bytes_eq name (codes "TSD.RULE") then rule_part words else None)))
    (head-range words)
    (if-both IsInRange (bytes_eq name (codes "TSD.SERIES")) (series_part words)
    (if bytes_eq name (codes "TSD.PIECE") then piece_part words else (if bytes_eq name (codes "TSD.RULE") then rule_part words else None))
    (series-range words)
    (if-both IsInRange (bytes_eq name (codes "TSD.PIECE")) (piece_part words) (if bytes_eq name (codes "TSD.RULE") then rule_part words else None)
    (piece-range words) (if-then IsInRange (bytes_eq name (codes "TSD.RULE")) (rule_part words) (rule-range words))))

words-range : (words : Request) → IfSome (part_of words) IsInRange
unfolding part_of
words-range [] = tt
words-range (name ∷ []) = tt
words-range (name ∷ check ∷ words) =
    if-then IsInRange (bytes_eq check (decimal (check_number (name ∷ words)))) (unchecked_part (name ∷ words)) (unchecked-range name words)

pub in-range : (words : Request) (p : Part) → part_of words ≡ Some p → IsInRange p
in-range words p is = if-some IsInRange (part_of words) p is (words-range words)
