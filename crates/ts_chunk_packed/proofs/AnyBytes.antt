-- The numbers of a sample in bytes that may be anything.
use Rattle.std.proofs.Common.{◌≡◌, ℕ, ◌^◌, ◌≤◌, pos, ◌+ℤ◌, ◌-ℤ◌, List, ◌++◌, sym, ap, ◌∙◌, subst, append_assoc, arith}
use Rattle.std.specs.Prelude.{Option, None, IfNone}
use Rattle.std.proofs.lemmas.Int.{ints}
use Rattle.ts_spec.specs.Sample.{Point}
use Rattle.ts_chunk_packed.specs.Laws.{IsKnown, value_most}
use Rattle.ts_chunk_packed.specs.Packed.{State, gap, zigzag, unzigzag, number, number_of, coded}
use Rattle.ts_chunk_packed.specs.Reading.{Begins, Follows}
use Rattle.ts_chunk_packed.specs.Restoring.{IsCodedBy}
use Rattle.ts_chunk_packed.proofs.Coded.{three_numbers}
use Rattle.ts_chunk_packed.proofs.Decoding.{value_number, made_number, time_read, after_value, gap_of, value_of, made_of, begins_time, begins_made}
use Rattle.ts_chunk_packed.proofs.Grouping.{number_back}
use Rattle.ts_chunk_packed.proofs.Zigzags.{zigzag_forth}

pub none_if : {A X : Type 0} (o : Option A) → o ≡ None → X → IfNone o X
none_if {A} {X} o none x = subst (λ (it : Option A). IfNone it X) (sym none) x

-- ---- the sample of three numbers

module _ (s : State) (p : Point) (time value made : ℕ) (is : IsCodedBy s time value made p) where
  time_code : time ≡ zigzag (gap s p.time -ℤ s.step)
  time_code = let same : unzigzag time ≡ gap s p.time -ℤ s.step = omega (arith, ints, is.time_is) in sym (zigzag_forth time) ∙ ap zigzag same

  value_code : value ≡ zigzag (p.value -ℤ s.before.value)
  value_code = let same : unzigzag value ≡ p.value -ℤ s.before.value = omega (arith, ints, is.value_is) in sym (zigzag_forth value) ∙ ap zigzag same

  made_code : made ≡ zigzag (pos p.made -ℤ pos s.before.made)
  made_code = let same : unzigzag made ≡ pos p.made -ℤ pos s.before.made = omega (arith, ints, is.made_is) in sym (zigzag_forth made) ∙ ap zigzag same

  -- its bytes are those of the numbers, whatever comes after them
  pub their_bytes : (bytes one two rest : List ℕ) → bytes ≡ number time ++ one → one ≡ number value ++ two → two ≡ number made ++ rest → bytes ≡ coded s p ++ rest
  their_bytes bytes one two rest first second third =
      first ∙ ap (λ (l : List ℕ). number time ++ l) (second ∙ ap (λ (l : List ℕ). number value ++ l) third ∙ sym (append_assoc (number value) (number made) rest))
      ∙ sym (append_assoc (number time) (number value ++ number made) rest)
      ∙ ap (λ (l : List ℕ). l ++ rest) (three_numbers s p time value made time_code value_code made_code)

-- ---- where the bytes start with a sample

-- a number below a limit is below a greater one
begins_below : (small large : ℕ) (bytes : List ℕ) → small ≤ large → Begins small bytes → Begins large bytes
begins_below small large bytes most b = record { value = b.value; rest = b.rest; is = b.is; below = omega (arith, b.below) }

module _ (s : State) (bytes : List ℕ) (known : IsKnown s) (f : Follows s bytes) where
  pub time_any : Begins (2 ^ 113) bytes
  time_any = begins_below (2 ^ 64) (2 ^ 113) bytes (omega arith) (begins_time s bytes f known)

  value_any : Begins (2 ^ 113) (number_of bytes).1
  value_any = subst (λ (l : List ℕ). Begins (2 ^ 113) (number_of l).1) (sym f.is) (record {
    value = value_number s f.sample f.rest;
    rest = number (made_number s f.sample f.rest) ++ f.rest;
    is = ap (λ (r : ℕ × List ℕ). r.1) (time_read s f.sample f.rest);
    below = omega (arith, value_most s f.sample known f.fine);
  })

  made_any : Begins (2 ^ 113) (number_of (number_of bytes).1).1
  made_any = begins_below (2 ^ 64) (2 ^ 113) (after_value s bytes f) (omega arith) (begins_made s bytes f known)

  -- the sample of its three numbers
  coded_by : IsCodedBy s (number_of bytes).0 (number_of (number_of bytes).1).0 (number_of (number_of (number_of bytes).1).1).0 f.sample
  coded_by = record { time_is = omega (arith, ints, gap_of s bytes f); value_is = sym (value_of s bytes f); made_is = sym (made_of s bytes f) }

  -- and of three numbers that were read one after another
  module _ (time : ℕ) (one : List ℕ) (first : bytes ≡ number time ++ one) where
    first_read : number_of bytes ≡ (time, one)
    first_read = ap number_of first ∙ number_back time one

    pub one_any : Begins (2 ^ 113) one
    one_any = subst (λ (r : ℕ × List ℕ). Begins (2 ^ 113) r.1) first_read value_any

    module _ (value : ℕ) (two : List ℕ) (second : one ≡ number value ++ two) where
      second_read : number_of (number_of bytes).1 ≡ (value, two)
      second_read = ap (λ (r : ℕ × List ℕ). number_of r.1) first_read ∙ ap number_of second ∙ number_back value two

      pub two_any : Begins (2 ^ 113) two
      two_any = subst (λ (r : ℕ × List ℕ). Begins (2 ^ 113) r.1) second_read made_any

      module _ (made : ℕ) (three : List ℕ) (third : two ≡ number made ++ three) where
        third_read : number_of (number_of (number_of bytes).1).1 ≡ (made, three)
        third_read = ap (λ (r : ℕ × List ℕ). number_of r.1) second_read ∙ ap number_of third ∙ number_back made three

        pub all_coded : IsCodedBy s time value made f.sample
        all_coded = record {
          time_is = coded_by.time_is ∙ ap (λ (r : ℕ × List ℕ). pos s.before.time +ℤ (s.step +ℤ unzigzag r.0)) first_read;
          value_is = coded_by.value_is ∙ ap (λ (r : ℕ × List ℕ). s.before.value +ℤ unzigzag r.0) second_read;
          made_is = coded_by.made_is ∙ ap (λ (r : ℕ × List ℕ). pos s.before.made +ℤ unzigzag r.0) third_read;
        }
