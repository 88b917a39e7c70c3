-- The three numbers of a sample.
use Rattle.std.proofs.Common.{◌≡◌, ℕ, ◌+◌, List, ◌++◌, length, pos, ◌-ℤ◌, ap, ◌∙◌, append_assoc, arith, length-append}
use Rattle.ts_spec.specs.Sample.{Point}
use Rattle.ts_chunk_packed.specs.Packed.{State, gap, zigzag, number, coded}

module _ (s : State) (p : Point) (time value made : ℕ) (e : time ≡ zigzag (gap s p.time -ℤ s.step)) (f : value ≡ zigzag (p.value -ℤ s.before.value)) (g : made ≡ zigzag (pos p.made -ℤ pos s.before.made)) where
  pub three_numbers : number time ++ (number value ++ number made) ≡ coded s p
  unfolding coded
  three_numbers = λ i. number (e i) ++ (number (f i) ++ number (g i))

  pub their_lengths : length (number time) + length (number value) + length (number made) ≡ length (coded s p)
  their_lengths =
      omega (arith, ap length three_numbers, length-append (number time) (number value ++ number made), length-append (number value) (number made))

  -- written one after another
  pub written_on : (before : List ℕ) → ((before ++ number time) ++ number value) ++ number made ≡ before ++ coded s p
  written_on before =
      append_assoc (before ++ number time) (number value) (number made)
      ∙ append_assoc before (number time) (number value ++ number made) ∙ ap (λ (l : List ℕ). before ++ l) three_numbers
