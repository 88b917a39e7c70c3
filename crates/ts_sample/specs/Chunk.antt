-- Chunks: lists of samples encoded in a bounded number of bytes.
use Rattle.std.specs.Prelude.{◌≡◌, ◌≢◌, ℕ, ◌/◌, ◌≤◌, ◌<◌, ⊤, List, [], ◌∷◌, ◌++◌, take, drop, length, Option, None, Some}
use Rattle.ts_spec.specs.Sample.{Point, IsAscending}
use Rattle.ts_sample.specs.Sample.{IsInBounds}

-- every sample is within its bounds
abbrev pub AreInBounds : List Point → Type 0
AreInBounds [] = ⊤
AreInBounds (p ∷ ps) = IsInBounds p × AreInBounds ps

-- every sample was written when at most `most` rules had been created
abbrev pub AreMade : (most : ℕ) → List Point → Type 0
AreMade most [] = ⊤
AreMade most (p ∷ ps) = (p.made ≤ most) × AreMade most ps

-- the least and the greatest limit of a chunk, in bytes
abbrev pub least_limit : ℕ
least_limit = 48

abbrev pub greatest_limit : ℕ
greatest_limit = 1048576

-- a valid limit, in bytes
pub record IsLimit (limit : ℕ) : Type 0 where
  pub least : least_limit ≤ limit
  pub greatest : limit ≤ greatest_limit

-- the encoding of the list is within the limit
abbrev pub Fits : (format : List Point → List ℕ) → (limit : ℕ) → List Point → Type 0
Fits format limit ps = length (format ps) ≤ limit

-- the invariant of a chunk: a valid limit, and samples that are ascending, within their bounds, and fit
pub record IsChunk (format : List Point → List ℕ) (limit : ℕ) (ps : List Point) : Type 0 where
  pub bounds : IsLimit limit
  pub ascending : IsAscending ps
  pub fine : AreInBounds ps
  pub fits : Fits format limit ps

-- the time is after the last sample
abbrev pub IsPast : Option Point → ℕ → Type 0
IsPast None t = ⊤
IsPast (Some p) t = p.time < t

-- How a list is split into lists that fit: an empty list into none, a list that fits into one. Any other list is
-- split after its first half, rounded down, and each part is split by the same rule.
pub data IsCut (format : List Point → List ℕ) (limit : ℕ) : List Point → List (List Point) → Type 0 where
  nothing : IsCut format limit [] []
  whole : (ps : List Point) → ps ≢ [] → Fits format limit ps → IsCut format limit ps (ps ∷ [])
  halves : (ps : List Point) (firsts lasts : List (List Point)) → limit < length (format ps)
      → IsCut format limit (take (length ps / 2) ps) firsts → IsCut format limit (drop (length ps / 2) ps) lasts
      → IsCut format limit ps (firsts ++ lasts)

-- the concatenation of the lists
abbrev pub joined : List (List Point) → List Point
joined [] = []
joined (ps ∷ pss) = ps ++ joined pss

-- every chunk has this limit
abbrev pub HaveLimit : {C : Type 0} → (most : C → ℕ) → (limit : ℕ) → List C → Type 0
HaveLimit most limit [] = ⊤
HaveLimit most limit (c ∷ cs) = (most c ≡ limit) × HaveLimit most limit cs
