-- A bucket has at most as many samples as milliseconds.
use Rattle.std.proofs.Common.{◌≡◌, ℕ, suc, ◌+◌, ◌-◌, ◌*◌, ◌/◌, ◌<◌, ◌≤◌, Bool, true, false, cond, ◌==◌, List, [], ◌∷◌, length, ◌⊎◌, inl, inr, refl, sym, ◌∙◌, arith, eqb-true, mul-suc}
use Rattle.std.proofs.lemmas.Bool.{cases_lt}
use Rattle.std.proofs.Math.Nat.{mul-div-le}
use Rattle.ts_spec.specs.Sample.{Point, IsAfter, IsAscending}
use Rattle.ts_spec.specs.Bucket.{Grid, start, members}
use Rattle.ts_spec.proofs.Buckets.{start-late, start-early, start-le, past-div}
use Rattle.ts_spec.proofs.Samples.{IsBefore, ascending-times}

-- Two times of one bucket are less than its duration apart. A bucket that would begin before time 0 is cut there, so
-- it is shorter.
pub same-bucket : (g : Grid) (t u : ℕ) → 1 ≤ g.duration → start g t ≡ start g u → u < t + g.duration
same-bucket g t u h e = go (cases_lt u g.align) (start-le g t (omega arith))
  where
    go : (u < g.align) ⊎ (g.align ≤ u) → start g t ≤ t → u < t + g.duration
    go (inl x) low =
        let s : start g u ≡ g.align - g.duration * suc ((g.align - suc u) / g.duration) = start-early g u x in
        let k : g.duration * ((g.align - suc u) / g.duration) ≤ g.align - suc u = mul-div-le (g.align - suc u) g.duration in
        let w : g.duration * suc ((g.align - suc u) / g.duration) ≡ g.duration * ((g.align - suc u) / g.duration) + g.duration = mul-suc g.duration ((g.align - suc u) / g.duration) in
        omega arith
    go (inr x) low =
        let s : start g u ≡ g.align + g.duration * ((u - g.align) / g.duration) = start-late g u x in
        let k : u - g.align < g.duration * suc ((u - g.align) / g.duration) = past-div (u - g.align) g.duration (omega arith) in
        let w : g.duration * suc ((u - g.align) / g.duration) ≡ g.duration * ((u - g.align) / g.duration) + g.duration = mul-suc g.duration ((u - g.align) / g.duration) in
        omega arith

-- each sample is in the bucket that starts there
abbrev pub IsIn : Grid → ℕ → List Point → Type 0
IsIn g b [] = Unit {0}
IsIn g b (p ∷ ps) = (start g p.time ≡ b) × IsIn g b ps

pub members-in : (g : Grid) (b : ℕ) (ps : List Point) → IsIn g b (members g b ps)
members-in g b [] = tt
members-in g b (p ∷ ps) = go (start g p.time == b) refl (members-in g b ps)
  where
    go : (x : Bool) → (start g p.time == b) ≡ x → IsIn g b (members g b ps) → IsIn g b (cond x (p ∷ members g b ps) (members g b ps))
    go true e ih = (eqb-true (start g p.time) b e, ih)
    go false e ih = ih

in-before : (g : Grid) (b t : ℕ) (ps : List Point) → 1 ≤ g.duration → start g t ≡ b → IsIn g b ps → IsBefore (t + g.duration) ps
in-before g b t [] h e x = tt
in-before g b t (p ∷ ps) h e x = (same-bucket g t p.time h (e ∙ sym x.0), in-before g b t ps h e x.1)

-- between two times there are no more samples than milliseconds
pub few-between : (t u : ℕ) (ps : List Point) → IsAscending ps → IsAfter t ps → IsBefore u ps → length ps ≤ u - suc t
few-between t u [] h a b = omega arith
few-between t u (p ∷ ps) h a b =
    let after : t < p.time = a.0 in
    let before : p.time < u = b.0 in
    let rest : length ps ≤ u - suc p.time = few-between p.time u ps h.1 h.0 b.1 in
    omega arith

-- The members of a bucket are no more than it has milliseconds.
pub members-few : (g : Grid) (b : ℕ) (ps : List Point) → 1 ≤ g.duration → IsAscending ps → length (members g b ps) ≤ g.duration
members-few g b ps h a = go (members g b ps) (ascending-times (λ t. start g t == b) ps a) (members-in g b ps)
  where
    go : (qs : List Point) → IsAscending qs → IsIn g b qs → length qs ≤ g.duration
    go [] k x = omega arith
    go (q ∷ qs) k x =
        let rest : length qs ≤ q.time + g.duration - suc q.time = few-between q.time (q.time + g.duration) qs k.1 k.0 (in-before g b q.time qs h x.0 x.1) in
        omega arith
