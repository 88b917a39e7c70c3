-- Parsed numbers and values are in their ranges.
use Rattle.std.proofs.Common.{◌≡◌, ℕ, zero, suc, ◌≤◌, ◌&&◌, nat_le, Bool, true, false, if◌then◌else◌, refl, arith}
use Rattle.std.proofs.lemmas.Bool.{leb-true, and_parts}
use Rattle.std.specs.Prelude.{ℤ, pos, negsuc, neg_ℤ, unsigned_abs, Option, None, Some, ok_or, unwrap_or, IfSome, Result, Ok, Err, IfOk}
use Rattle.std.specs.Str.{bytes_eq}
use Rattle.std.specs.Prelude.{codes}
use Rattle.ts_spec.specs.declared.command.At.{At}
use Rattle.ts_spec.specs.declared.command.At.TheVariants.{Clock, Time}
use Rattle.ts_spec.specs.declared.units.ValueFault.{ValueFault}
use Rattle.ts_spec.specs.Number.{digits_number, is_digits, number}
use Rattle.ts_spec.specs.Outcome.{time_of}
use Rattle.ts_spec.specs.Refusal.{Fault, BadTimestamp}
use Rattle.ts_spec.specs.Sample.{MAX_TIME}
use Rattle.ts_spec.specs.Settings.{Word, and_then, IsTime, time_word, end_word, at_word, value_of, value_word}
use Rattle.ts_spec.specs.Value.{Decimal, bound, signed, millionths, decimal, rounded, value}

-- ---- what is read after something else

pub then-ok : {X Y : Type 0} (P : X → Type 0) (Q : Y → Type 0) (r : Result X Fault) (next : X → Result Y Fault) → IfOk r P → ((x : X) → P x → IfOk (next x) Q) → IfOk (and_then r next) Q
then-ok P Q (Ok x) next h others = others x h
then-ok P Q (Err fault) next h others = tt

pub then-any : {X Y : Type 0} (Q : Y → Type 0) (r : Result X Fault) (next : X → Result Y Fault) → ((x : X) → IfOk (next x) Q) → IfOk (and_then r next) Q
then-any Q (Ok x) next others = others x
then-any Q (Err fault) next others = tt

pub either-ok : {X : Type 0} (P : X → Type 0) (test : Bool) (one other : Result X Fault) → IfOk one P → IfOk other P → IfOk (if test then one else other) P
either-ok P true one other h k = h
either-ok P false one other h k = k

pub or-fault : {X : Type 0} (P : X → Type 0) (o : Option X) (fault : Fault) → IfSome o P → IfOk (ok_or o fault) P
or-fault P None fault h = tt
or-fault P (Some x) fault h = h

pub or-usual : {X : Type 0} (P : X → Type 0) (o : Option X) (usual : X) → IfSome o P → P usual → P (unwrap_or o usual)
or-usual P None usual h k = k
or-usual P (Some x) usual h k = h

-- ---- numbers and times

abbrev pub IsSmall : ℕ → Type 0
IsSmall n = n ≤ MAX_TIME

pub number-small : (word : Word) → IfSome (number word) IsSmall
number-small word = go (is_digits word && nat_le (digits_number word) MAX_TIME) refl
  where
    go : (b : Bool) → (is_digits word && nat_le (digits_number word) MAX_TIME) ≡ b → IfSome (if b then Some (digits_number word) else None) IsSmall
    go true e = leb-true (digits_number word) MAX_TIME (and_parts (is_digits word) (nat_le (digits_number word) MAX_TIME) e).1
    go false e = tt

pub time-small : (word : Word) → IfOk (time_word word) IsSmall
unfolding time_word
time-small word = or-fault IsSmall (number word) BadTimestamp (number-small word)

pub end-small : (word : Word) → IfOk (end_word word) IsSmall
unfolding end_word
end-small word =
    either-ok IsSmall (bytes_eq word (codes "-")) (Ok 0) (if bytes_eq word (codes "+") then Ok MAX_TIME else time_word word) (omega arith)
    (either-ok IsSmall (bytes_eq word (codes "+")) (Ok MAX_TIME) (time_word word) (omega arith) (time-small word))

pub at-small : (word : Word) → IfOk (at_word word) IsTime
unfolding at_word
at-small word =
    either-ok IsTime (bytes_eq word (codes "*")) (Ok Clock) (and_then (time_word word) (λ t. Ok (Time t))) (λ t e. cc)
    (then-ok IsSmall IsTime (time_word word) (λ t. Ok (Time t)) (time-small word) (λ t h u e. let same : t ≡ u = cc in omega (arith, same, h)))

pub time-resolved : (reading : ℕ) (at : At) → IsTime at → time_of reading at ≤ MAX_TIME
time-resolved reading Clock h = omega arith
time-resolved reading (Time t) h = h t refl

-- ---- values

abbrev pub IsBounded : ℤ → Type 0
IsBounded v = unsigned_abs v ≤ bound

abs-neg : (v : ℤ) → unsigned_abs (neg_ℤ v) ≡ unsigned_abs v
abs-neg (pos zero) = refl
abs-neg (pos (suc n)) = refl
abs-neg (negsuc n) = refl

pub neg-bounded : (v : ℤ) → IsBounded v → IsBounded (neg_ℤ v)
neg-bounded v h = omega (arith, abs-neg v, h)

signed-abs : (negative : Bool) (n : ℕ) → unsigned_abs (signed negative n) ≡ n
signed-abs true n = abs-neg (pos n)
signed-abs false n = refl

rounded-bounded : (d : Option Decimal) → IfOk (rounded d) IsBounded
rounded-bounded None = tt
rounded-bounded (Some d) = go (nat_le (millionths d) bound) refl
  where
    go : (b : Bool) → nat_le (millionths d) bound ≡ b → IfOk (if b then Ok (signed d.negative (millionths d)) else Err Rattle.ts_spec.specs.declared.units.ValueFault.TheVariants.OutOfRange) IsBounded
    go true e = omega (arith, signed-abs d.negative (millionths d), leb-true (millionths d) bound e)
    go false e = tt

of-value : (r : Result ℤ ValueFault) → IfOk r IsBounded → IfOk (value_of r) IsBounded
of-value (Ok v) h = h
of-value (Err fault) h = tt

pub value-bounded : (word : Word) → IfOk (value_word word) IsBounded
unfolding value_word value
value-bounded word = of-value (value word) (rounded-bounded (decimal word))
