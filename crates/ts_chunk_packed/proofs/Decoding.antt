-- Decoding the first sample of some bytes.
use Rattle.std.proofs.Common.{◌≡◌, ℕ, ◌^◌, ◌≤◌, pos, ◌+ℤ◌, ◌-ℤ◌, unsigned_abs, List, ◌++◌, sym, ap, ◌∙◌, subst, append_assoc, arith}
use Rattle.std.proofs.lemmas.Int.{ints}
use Rattle.ts_spec.specs.Sample.{Point}
use Rattle.ts_sample.specs.Sample.{IsInBounds}
use Rattle.ts_chunk_packed.specs.Laws.{IsKnown, time_most, value_most, made_most}
use Rattle.ts_chunk_packed.specs.Packed.{State, gap, zigzag, unzigzag, number, number_of, coded, point_of, sample_of}
use Rattle.ts_chunk_packed.specs.Reading.{Begins, Follows}
use Rattle.ts_chunk_packed.proofs.Grouping.{number_back}
use Rattle.ts_chunk_packed.proofs.Zigzags.{zigzag_back}

module _ (s : State) (p : Point) (rest : List ℕ) where
  abbrev pub time_number : ℕ
  time_number = zigzag (gap s p.time -ℤ s.step)

  abbrev pub value_number : ℕ
  value_number = zigzag (p.value -ℤ s.before.value)

  abbrev pub made_number : ℕ
  made_number = zigzag (pos p.made -ℤ pos s.before.made)

  in_turn : coded s p ++ rest ≡ number time_number ++ (number value_number ++ (number made_number ++ rest))
  unfolding coded
  in_turn =
      append_assoc (number time_number) (number value_number ++ number made_number) rest
      ∙ ap (λ (l : List ℕ). number time_number ++ l) (append_assoc (number value_number) (number made_number) rest)

  -- the numbers are read one after another
  pub time_read : number_of (coded s p ++ rest) ≡ (time_number, number value_number ++ (number made_number ++ rest))
  time_read = ap number_of in_turn ∙ number_back time_number (number value_number ++ (number made_number ++ rest))

  pub value_read : number_of (number_of (coded s p ++ rest)).1 ≡ (value_number, number made_number ++ rest)
  value_read = ap (λ (r : ℕ × List ℕ). number_of r.1) time_read ∙ number_back value_number (number made_number ++ rest)

  pub made_read : number_of (number_of (number_of (coded s p ++ rest)).1).1 ≡ (made_number, rest)
  made_read = ap (λ (r : ℕ × List ℕ). number_of r.1) value_read ∙ number_back made_number rest

  -- what they stand for
  pub gap_back : s.step +ℤ unzigzag time_number ≡ gap s p.time
  gap_back = omega (arith, ints, zigzag_back (gap s p.time -ℤ s.step))

  pub value_back : s.before.value +ℤ unzigzag value_number ≡ p.value
  value_back = omega (arith, ints, zigzag_back (p.value -ℤ s.before.value))

  pub made_back : pos s.before.made +ℤ unzigzag made_number ≡ pos p.made
  made_back = omega (arith, ints, zigzag_back (pos p.made -ℤ pos s.before.made))

  pub point_back : point_of s time_number value_number made_number ≡ p
  unfolding point_of
  point_back =
      let time : unsigned_abs (pos s.before.time +ℤ (s.step +ℤ unzigzag time_number)) ≡ p.time = omega (arith, ints, gap_back) in
      let made : unsigned_abs (pos s.before.made +ℤ unzigzag made_number) ≡ p.made = ap unsigned_abs made_back in
      λ i. record { time = time i; value = value_back i; made = made i }

  -- a sample that was written is read back, and what follows it is left
  pub sample_back : sample_of s (coded s p ++ rest) ≡ (p, rest)
  unfolding sample_of
  sample_back =
      let point : point_of s (number_of (coded s p ++ rest)).0 (number_of (number_of (coded s p ++ rest)).1).0 (number_of (number_of (number_of (coded s p ++ rest)).1).1).0 ≡ p =
      (λ i. point_of s (time_read i).0 (value_read i).0 (made_read i).0) ∙ point_back in
      λ i. (point i, (made_read i).1)

  pub time_begins : IsKnown s → IsInBounds p → s.before.time ≤ p.time → Begins (2 ^ 64) (coded s p ++ rest)
  time_begins known fine later =
      record { value = time_number; rest = number value_number ++ (number made_number ++ rest); is = in_turn; below = omega (arith, time_most s p known fine later) }

  pub value_begins : IsKnown s → IsInBounds p → Begins (2 ^ 120) (number_of (coded s p ++ rest)).1
  value_begins known fine =
      record { value = value_number; rest = number made_number ++ rest; is = ap (λ (r : ℕ × List ℕ). r.1) time_read; below = omega (arith, value_most s p known fine) }

  pub made_begins : IsKnown s → IsInBounds p → Begins (2 ^ 64) (number_of (number_of (coded s p ++ rest)).1).1
  made_begins known fine =
      record { value = made_number; rest = rest; is = ap (λ (r : ℕ × List ℕ). r.1) value_read; below = omega (arith, made_most s p known fine) }

-- what the bytes of a sample stand for, number by number
module _ (s : State) (bytes : List ℕ) (f : Follows s bytes) where
  abbrev pub after_time : List ℕ
  after_time = (number_of bytes).1

  abbrev pub after_value : List ℕ
  after_value = (number_of after_time).1

  pub gap_of : s.step +ℤ unzigzag (number_of bytes).0 ≡ gap s f.sample.time
  gap_of =
      ap (λ (l : List ℕ). s.step +ℤ unzigzag (number_of l).0) f.is ∙ ap (λ (r : ℕ × List ℕ). s.step +ℤ unzigzag r.0) (time_read s f.sample f.rest)
      ∙ gap_back s f.sample f.rest

  pub value_of : s.before.value +ℤ unzigzag (number_of after_time).0 ≡ f.sample.value
  value_of =
      ap (λ (l : List ℕ). s.before.value +ℤ unzigzag (number_of (number_of l).1).0) f.is
      ∙ ap (λ (r : ℕ × List ℕ). s.before.value +ℤ unzigzag r.0) (value_read s f.sample f.rest) ∙ value_back s f.sample f.rest

  pub made_of : pos s.before.made +ℤ unzigzag (number_of after_value).0 ≡ pos f.sample.made
  made_of =
      ap (λ (l : List ℕ). pos s.before.made +ℤ unzigzag (number_of (number_of (number_of l).1).1).0) f.is
      ∙ ap (λ (r : ℕ × List ℕ). pos s.before.made +ℤ unzigzag r.0) (made_read s f.sample f.rest) ∙ made_back s f.sample f.rest

  pub all_read : sample_of s bytes ≡ (f.sample, f.rest)
  all_read = ap (sample_of s) f.is ∙ sample_back s f.sample f.rest

  pub begins_time : IsKnown s → Begins (2 ^ 64) bytes
  begins_time known = subst (Begins (2 ^ 64)) (sym f.is) (time_begins s f.sample f.rest known f.fine f.later)

  pub begins_value : IsKnown s → Begins (2 ^ 120) after_time
  begins_value known = subst (λ (l : List ℕ). Begins (2 ^ 120) (number_of l).1) (sym f.is) (value_begins s f.sample f.rest known f.fine)

  pub begins_made : IsKnown s → Begins (2 ^ 64) after_value
  begins_made known = subst (λ (l : List ℕ). Begins (2 ^ 64) (number_of (number_of l).1).1) (sym f.is) (made_begins s f.sample f.rest known f.fine)
