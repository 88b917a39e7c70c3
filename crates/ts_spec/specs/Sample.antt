-- Samples, and lists of them in ascending order of time.
use Rattle.std.specs.Prelude.{ℕ, ℤ, ◌-◌, ◌^◌, ◌<◌, Bool, not, ◌&&◌, ◌==◌, nat_lt, nat_le, if◌then◌else◌, ⊤, List, [], ◌∷◌, ◌++◌, filter, Option, Some, None}

-- the greatest time, in milliseconds
abbrev pub MAX_TIME : ℕ
MAX_TIME = 2 ^ 63 - 1

-- A sample: its time in milliseconds, its value in millionths, and how many rules its series had ever had when the
-- sample was last written.
pub record Point : Type 0 where
  pub time : ℕ
  pub value : ℤ
  pub made : ℕ

-- every sample is later than this time
abbrev pub IsAfter : ℕ → List Point → Type 0
IsAfter t [] = ⊤
IsAfter t (p ∷ ps) = (t < p.time) × IsAfter t ps

-- times are strictly ascending
abbrev pub IsAscending : List Point → Type 0
IsAscending [] = ⊤
IsAscending (p ∷ ps) = IsAfter p.time ps × IsAscending ps

-- the sample at this time, if there is one
abbrev pub at : ℕ → List Point → Option Point
at t [] = None
at t (p ∷ ps) = if p.time == t then Some p else at t ps

-- the samples whose times pass the test
abbrev pub at_times : (ℕ → Bool) → List Point → List Point
at_times test ps = filter (λ p. test p.time) ps

-- whether a time is in the interval, both ends included
abbrev pub is_within : (from to : ℕ) → ℕ → Bool
is_within from to t = nat_le from t && nat_le t to

-- the samples in the interval
abbrev pub between : (from to : ℕ) → List Point → List Point
between from to ps = at_times (is_within from to) ps

-- the samples outside the interval
abbrev pub outside : (from to : ℕ) → List Point → List Point
outside from to ps = at_times (λ t. not (is_within from to t)) ps

-- the list with p at its time; replaces a sample at the same time
abbrev pub put : Point → List Point → List Point
put p ps = at_times (λ t. nat_lt t p.time) ps ++ p ∷ at_times (nat_lt p.time) ps

-- the list after `put` of each of these samples
abbrev pub put_all : List Point → List Point → List Point
put_all [] ps = ps
put_all (q ∷ qs) ps = put q (put_all qs ps)

-- the first sample, if there is one
abbrev pub first_of : List Point → Option Point
first_of [] = None
first_of (p ∷ ps) = Some p

-- the later of two samples
abbrev pub later_or : Point → Option Point → Point
later_or p None = p
later_or p (Some q) = q

-- the last sample, if there is one
abbrev pub last_of : List Point → Option Point
last_of [] = None
last_of (p ∷ ps) = Some (later_or p (last_of ps))
