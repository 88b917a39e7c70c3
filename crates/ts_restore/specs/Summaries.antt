-- Which six numbers are the summary of a list of samples, and a list that they are the summary of.
use Rattle.std.specs.Prelude.{◌≡◌, ℕ, zero, suc, ◌-◌, ◌^◌, ◌≤◌, min, ℤ, pos, ◌+ℤ◌, ◌-ℤ◌, ◌≤ℤ◌, unsigned_abs, ◌⊎◌, List, [], ◌∷◌, ◌++◌, map}
use Rattle.ts_spec.specs.Sample.{Point}
use Rattle.ts_spec.specs.Aggregate.{Summary, summary}
use Rattle.ts_restore.specs.declared.summary_parts.SummaryParts.{SummaryParts}

-- it is the summary of some list of samples
abbrev pub IsSummary : Summary → Type 0
IsSummary s = (ps : List Point) × (summary ps ≡ s)

-- the most samples that a summary may count
abbrev pub MOST : ℕ
MOST = 10 ^ 14

-- it is the summary of some list of at most that many samples
pub record IsShortSummary (s : Summary) : Type 0 where
  pub few : s.count ≤ MOST
  pub some : IsSummary s

-- the numbers of a record as a summary
abbrev pub summary_of : SummaryParts → Summary
summary_of parts = record {
  count = parts.count;
  sum = parts.sum;
  least = parts.least;
  greatest = parts.greatest;
  first = parts.first;
  last = parts.last;
}

-- ---- the test

-- n times a value
abbrev pub times : ℕ → ℤ → ℤ
times zero v = pos 0
times (suc n) v = v +ℤ times n v

-- the sum of all values but the first and the last
abbrev pub middle : Summary → ℤ
middle s = s.sum -ℤ s.first -ℤ s.last

-- the first and the last value are from the least to the greatest
pub record IsOrdered (s : Summary) : Type 0 where
  pub first_from : s.least ≤ℤ s.first
  pub first_to : s.first ≤ℤ s.greatest
  pub last_from : s.least ≤ℤ s.last
  pub last_to : s.last ≤ℤ s.greatest

-- n values from the least to the greatest may have the sum of those between the first and the last
pub record IsReachable (n : ℕ) (s : Summary) : Type 0 where
  pub from : times n s.least ≤ℤ middle s
  pub to : middle s ≤ℤ times n s.greatest

-- the first or the last is the least value, or one of the n values between them may be
abbrev pub HasLeast : ℕ → Summary → Type 0
HasLeast n s =
    (s.first ≡ s.least) ⊎ (s.last ≡ s.least) ⊎ ((1 ≤ n) × (middle s ≤ℤ (s.least +ℤ times (n - 1) s.greatest)))

-- the first or the last is the greatest value, or one of the n values between them may be
abbrev pub HasGreatest : ℕ → Summary → Type 0
HasGreatest n s =
    (s.first ≡ s.greatest) ⊎ (s.last ≡ s.greatest)
    ⊎ ((1 ≤ n) × ((s.greatest +ℤ times (n - 1) s.least) ≤ℤ middle s))

-- what holds of the summary of n + 2 values, and of no other six numbers
pub record IsSpread (n : ℕ) (s : Summary) : Type 0 where
  pub ordered : IsOrdered s
  pub reachable : IsReachable n s
  pub has_least : HasLeast n s
  pub has_greatest : HasGreatest n s

-- the sum and all values are this one
pub record IsSingle (v : ℤ) (s : Summary) : Type 0 where
  pub sum : s.sum ≡ v
  pub least : s.least ≡ v
  pub greatest : s.greatest ≡ v
  pub first : s.first ≡ v
  pub last : s.last ≡ v

-- the test, by the count
abbrev pub IsExactBy : ℕ → Summary → Type 0
IsExactBy zero s = IsSingle (pos 0) s
IsExactBy (suc zero) s = IsSingle s.first s
IsExactBy (suc (suc n)) s = IsSpread n s

-- the test
abbrev pub IsExact : Summary → Type 0
IsExact s = IsExactBy s.count s

-- ---- values with a given summary

-- n numbers up to `most` with this sum, if there are any: as many of the greatest as fit, what is left, and zeros
abbrev pub filling : (n most sum : ℕ) → List ℕ
filling zero most sum = []
filling (suc n) most sum = min most sum ∷ filling n most (sum - min most sum)

-- how much n values are above the least in all
abbrev pub excess : ℕ → Summary → ℕ
excess n s = unsigned_abs (middle s -ℤ times n s.least)

-- n values from the least to the greatest with the sum of those between the first and the last
abbrev pub inner_values : ℕ → Summary → List ℤ
inner_values n s = map (λ x. s.least +ℤ pos x) (filling n (unsigned_abs (s.greatest -ℤ s.least)) (excess n s))

-- that many values with this summary, if there are any
abbrev pub values_by : ℕ → Summary → List ℤ
values_by zero s = []
values_by (suc zero) s = s.first ∷ []
values_by (suc (suc n)) s = s.first ∷ (inner_values n s ++ s.last ∷ [])

-- values with this summary, if there are any
abbrev pub values_of : Summary → List ℤ
values_of s = values_by s.count s
