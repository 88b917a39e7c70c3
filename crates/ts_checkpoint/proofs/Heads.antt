-- The head of a checkpoint is no command.
use Rattle.std.proofs.Common.{◌≡◌, ◌≢◌, ℕ, suc, Bool, true, false, if◌then◌else◌, List, [], ◌∷◌, length, codes, refl, sym, ◌∙◌, ap, subst, arith}
use Rattle.std.proofs.lemmas.List.{length-map}
use Rattle.std.proofs.lemmas.Slice.Eq.{bytes_eq-Decides}
use Rattle.std.specs.Prelude.{Option, None, Some, Result, Ok, Err, ⊤, ◌&&◌, ◌||◌, nat_le, drop}
use Rattle.std.specs.Fmt.{decimal}
use Rattle.std.specs.Char.{to_ascii_lowercase}
use Rattle.std.specs.Str.{bytes_eq, str_eq_ignore_ascii_case, str_to_ascii_lowercase}
use Rattle.ts_spec.specs.Aggregate.{Summary}
use Rattle.ts_spec.specs.Command.{Command, Create, CreateRule}
use Rattle.ts_spec.specs.Grammar.{command, commands, by_form}
use Rattle.ts_spec.specs.Key.{same}
use Rattle.ts_spec.specs.Names.{Table, named}
use Rattle.ts_spec.specs.Refusal.{Fault, UnknownCommand}
use Rattle.ts_spec.specs.Wire.{Request}
use Rattle.ts_sample.specs.Chunk.{least_limit, greatest_limit}
use Rattle.ts_restore.specs.CheckNumber.{check_number}
use Rattle.ts_checkpoint.specs.Loading.{parts_said}
use Rattle.ts_checkpoint.specs.Numbers.{if_read, number_in, time_or_none}
use Rattle.ts_checkpoint.specs.Parts.{Part, Samples, Rule}
use Rattle.ts_checkpoint.specs.PartOf.{MOST_RULES, RuleNumbers, head_part, series_part, piece_part, rule_numbers, rule_part, unchecked_part, part_of, created_series, created_rule, fitting_samples, counts_nowhere}

-- ---- the other records are none

no-head-if : (b : Bool) (p : Option Part) → parts_said p ≡ None → parts_said (if b then p else None) ≡ None
no-head-if true p h = h
no-head-if false p h = refl

series-no_head : (words : Request) → parts_said (series_part words) ≡ None
unfolding series_part
series-no_head [] = refl
series-no_head (high ∷ []) = refl
series-no_head (high ∷ born ∷ []) = refl
series-no_head (high ∷ born ∷ pieces ∷ words) = highs (time_or_none high)
  where
    created : (high : Option ℕ) (born pieces : ℕ) (said : Result Command Fault) → parts_said (created_series high born pieces said) ≡ None
    created high born pieces (Ok (Create key spec)) = refl
    created high born pieces _ = refl

    counts : (top : Option ℕ) (rules : ℕ) (o : Option ℕ) → parts_said (if_read o (λ n. created_series top rules n (command words))) ≡ None
    counts top rules None = refl
    counts top rules (Some n) = created top rules n (command words)

    borns : (top : Option ℕ) (o : Option ℕ)
        → parts_said (if_read o (λ rules. if_read (number_in 0 MOST_RULES pieces) (λ n. created_series top rules n (command words)))) ≡ None
    borns top None = refl
    borns top (Some rules) = counts top rules (number_in 0 MOST_RULES pieces)

    highs : (o : Option (Option ℕ))
        → parts_said (if_read o (λ top. if_read (number_in 0 MOST_RULES born) (λ rules. if_read (number_in 0 MOST_RULES pieces) (λ n. created_series top rules n (command words))))) ≡ None
    highs None = refl
    highs (Some top) = borns top (number_in 0 MOST_RULES born)

piece-no_head : (words : Request) → parts_said (piece_part words) ≡ None
unfolding piece_part
piece-no_head [] = refl
piece-no_head (limit ∷ []) = refl
piece-no_head (limit ∷ samples ∷ []) = read (number_in least_limit greatest_limit limit)
  where
    read : (o : Option ℕ) → parts_said (if_read o (fitting_samples samples)) ≡ None
    read None = refl
    read (Some n) = no-head-if (nat_le 1 (length samples) && nat_le (length samples) n) (Some (Samples (record { limit = n; samples = samples }))) refl
piece-no_head (limit ∷ samples ∷ word ∷ words) = refl

rule-no_head : (words : Request) → parts_said (rule_part words) ≡ None
unfolding rule_part
rule-no_head words = read (rule_numbers words)
  where
    other : (b : Bool) (p : Option Part) → parts_said p ≡ None → parts_said (if b then None else p) ≡ None
    other true p h = refl
    other false p h = h

    created : (made : ℕ) (current : Option ℕ) (running : Summary) (said : Result Command Fault) → parts_said (created_rule made current running said) ≡ None
    created made current running (Ok (CreateRule source dest agg grid)) =
        other (same source dest || counts_nowhere current running.count)
        (Some (Rule (record { source = source; rule = record { dest = dest; agg = agg; grid = grid; made = made; current = current; running = running } }))) refl
    created made current running _ = refl

    read : (o : Option RuleNumbers) → parts_said (if_read o (λ n. created_rule n.made n.current n.running (command (drop 8 words)))) ≡ None
    read None = refl
    read (Some n) = created n.made n.current n.running (command (drop 8 words))

-- ---- a head has its own name

abbrev head_name : List ℕ
head_name = codes "TSD.CHECKPOINT"

unchecked-name : (name : List ℕ) (words : Request) (n : ℕ) → parts_said (unchecked_part (name ∷ words)) ≡ Some n → name ≡ head_name
unfolding unchecked_part
unchecked-name name words n = first (bytes_eq name head_name) refl
  where
    third : (b : Bool) → parts_said (if b then piece_part words else (if bytes_eq name (codes "TSD.RULE") then rule_part words else None)) ≡ None
    third true = piece-no_head words
    third false = no-head-if (bytes_eq name (codes "TSD.RULE")) (rule_part words) (rule-no_head words)

    second : (b : Bool) → parts_said (if b then series_part words else (if bytes_eq name (codes "TSD.PIECE") then piece_part words
        else (if bytes_eq name (codes "TSD.RULE") then rule_part words else None))) ≡ None
    second true = series-no_head words
    second false = third (bytes_eq name (codes "TSD.PIECE"))

    first : (b : Bool) → bytes_eq name head_name ≡ b
        → parts_said (if b then head_part words else (if bytes_eq name (codes "TSD.SERIES") then series_part words
        else (if bytes_eq name (codes "TSD.PIECE") then piece_part words else (if bytes_eq name (codes "TSD.RULE") then rule_part words else None)))) ≡ Some n
        → name ≡ head_name
    first true its e = (bytes_eq-Decides name head_name).0 its
    first false its e =
        let none : None ≡ Some n = sym (second (bytes_eq name (codes "TSD.SERIES"))) ∙ e in
        absurd cc

checked-name : (b : Bool) (name : List ℕ) (words : Request) (n : ℕ) → parts_said (if b then unchecked_part (name ∷ words) else None) ≡ Some n → name ≡ head_name
checked-name true name words n e = unchecked-name name words n e
checked-name false name words n e = absurd cc

-- ---- no command has a name of so many letters

-- the names of a table have other lengths
abbrev HaveOtherLengths : {X : Type 0} → (n : ℕ) → Table X → Type 0
HaveOtherLengths n [] = ⊤
HaveOtherLengths n (row ∷ rows) = (length row.0 ≢ n) × HaveOtherLengths n rows

named-none : {X : Type 0} (table : Table X) (word : List ℕ) → HaveOtherLengths (length word) table → named table word ≡ None
named-none [] word h = refl
named-none (row ∷ rows) word h = go (str_eq_ignore_ascii_case row.0 word) refl (named-none rows word h.1)
  where
    go : (b : Bool) → str_eq_ignore_ascii_case row.0 word ≡ b → named rows word ≡ None → (if b then Some row.1 else named rows word) ≡ None
    go true its others =
        let same = (bytes_eq-Decides (str_to_ascii_lowercase row.0) (str_to_ascii_lowercase word)).0 its in
        absurd (h.0 (sym (length-map row.0 to_ascii_lowercase) ∙ ap length same ∙ length-map word to_ascii_lowercase))
    go false its others = others

no-name : HaveOtherLengths (length head_name) commands
unfolding commands
no-name = search arith

unknown-name : (name : List ℕ) → length name ≡ length head_name → named commands name ≡ None
unknown-name name same = named-none commands name (subst (λ (n : ℕ). HaveOtherLengths n commands) (sym same) no-name)

-- a request whose name is as long as that of a head is no command
pub unknown-command : (name : List ℕ) (words : Request) → length name ≡ length head_name → command (name ∷ words) ≡ Err UnknownCommand
unknown-command name words same = ap (λ o. by_form o (suc (length words)) words) (unknown-name name same)

-- ---- heads

pub head-named : (name : List ℕ) (words : Request) (n : ℕ) → parts_said (part_of (name ∷ words)) ≡ Some n → name ≡ head_name
unfolding part_of
head-named name [] n e = absurd cc
head-named name (check ∷ words) n e = checked-name (bytes_eq check (decimal (check_number (name ∷ words)))) name words n e

-- a command is no head
pub command-no_head : (request : Request) (c : Command) → command request ≡ Ok c → parts_said (part_of request) ≡ None
command-no_head [] c e = absurd cc
command-no_head (name ∷ words) c e = go (parts_said (part_of (name ∷ words))) refl
  where
    go : (o : Option ℕ) → parts_said (part_of (name ∷ words)) ≡ o → o ≡ None
    go None its = refl
    go (Some n) its =
        let fault : Err UnknownCommand ≡ Ok c = sym (unknown-command name words (ap length (head-named name words n its))) ∙ e in
        absurd cc
