-- Strictly ascending lists of numbers, such as the starts of buckets.
use Rattle.std.proofs.Common.{◌≡◌, ◌≢◌, ℕ, ◌<◌, ◌≤◌, Bool, true, false, cond, ◌==◌, List, [], ◌∷◌, filter, refl, sym, ◌∙◌, arith, eq-eqb}
use Rattle.std.specs.Bool.{⊤}
use Rattle.std.proofs.lemmas.Bool.{false≢true}
use Rattle.ts_spec.specs.Sample.{Point, IsAfter, IsAscending}
use Rattle.ts_spec.specs.Bucket.{Grid, start, starts, with_start}
use Rattle.ts_spec.proofs.Buckets.{start-order}

-- each of these numbers is past b
abbrev pub IsPast : ℕ → List ℕ → Type 0
IsPast b [] = ⊤
IsPast b (c ∷ cs) = (b < c) × IsPast b cs

-- each of these numbers is at least b
abbrev pub IsFrom : ℕ → List ℕ → Type 0
IsFrom b [] = ⊤
IsFrom b (c ∷ cs) = (b ≤ c) × IsFrom b cs

-- each of these numbers is past those before it
abbrev pub IsRising : List ℕ → Type 0
IsRising [] = ⊤
IsRising (b ∷ bs) = IsPast b bs × IsRising bs

past-less : (b c : ℕ) (cs : List ℕ) → b ≤ c → IsPast c cs → IsPast b cs
past-less b c [] h x = tt
past-less b c (d ∷ cs) h x = (let first : c < d = x.0 in omega arith, past-less b c cs h x.1)

from-with_start : (b c : ℕ) (cs : List ℕ) → b ≤ c → IsFrom b cs → IsFrom b (with_start c cs)
from-with_start b c [] h x = (h, tt)
from-with_start b c (d ∷ cs) h x = go (c == d)
  where
    go : (y : Bool) → IsFrom b (cond y (d ∷ cs) (c ∷ d ∷ cs))
    go true = x
    go false = (h, x)

starts-from : (g : Grid) (t : ℕ) (ps : List Point) → IsAfter t ps → IsFrom (start g t) (starts g ps)
starts-from g t [] x = tt
starts-from g t (p ∷ ps) x =
    let later : t < p.time = x.0 in
    from-with_start (start g t) (start g p.time) (starts g ps) (start-order g t p.time (omega arith)) (starts-from g t ps x.1)

rising-with_start : (b : ℕ) (cs : List ℕ) → IsFrom b cs → IsRising cs → IsRising (with_start b cs)
rising-with_start b [] h x = (tt, tt)
rising-with_start b (c ∷ cs) h x = go (b == c) refl
  where
    go : (y : Bool) → (b == c) ≡ y → IsRising (cond y (c ∷ cs) (b ∷ c ∷ cs))
    go true e = x
    go false e =
        let other : b ≢ c = λ k. absurd (false≢true (sym e ∙ eq-eqb b c k)) in
        let first : b ≤ c = h.0 in
        let less : b < c = omega arith in
        ((less, past-less b c cs first x.0), x)

pub starts-rising : (g : Grid) (ps : List Point) → IsAscending ps → IsRising (starts g ps)
starts-rising g [] a = tt
starts-rising g (p ∷ ps) a = rising-with_start (start g p.time) (starts g ps) (starts-from g p.time ps a.0) (starts-rising g ps a.1)

past-filter : (b : ℕ) (test : ℕ → Bool) (cs : List ℕ) → IsPast b cs → IsPast b (filter test cs)
past-filter b test [] x = tt
past-filter b test (c ∷ cs) x = go (test c) (past-filter b test cs x.1)
  where
    go : (y : Bool) → IsPast b (filter test cs) → IsPast b (cond y (c ∷ filter test cs) (filter test cs))
    go true ih = (x.0, ih)
    go false ih = ih

pub rising-filter : (test : ℕ → Bool) (cs : List ℕ) → IsRising cs → IsRising (filter test cs)
rising-filter test [] x = tt
rising-filter test (c ∷ cs) x = go (test c) (rising-filter test cs x.1)
  where
    go : (y : Bool) → IsRising (filter test cs) → IsRising (cond y (c ∷ filter test cs) (filter test cs))
    go true ih = (past-filter c test cs x.0, ih)
    go false ih = ih
