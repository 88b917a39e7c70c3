-- No sample of an ascending list is later than the last one.
use Rattle.std.proofs.Common.{◌≡◌, ℕ, ◌≤◌, ◌<◌, Bool, true, false, ◌==◌, if◌then◌else◌, List, [], ◌∷◌, None, Some, refl, subst, arith}
use Rattle.ts_spec.specs.Sample.{Point, IsAscending, at, last_of, later_or}
use Rattle.ts_spec.specs.Valid.{Every}
use Rattle.ts_spec.proofs.Tidy.{some-same}

first-before : (x : Point) (ps : List Point) → IsAscending (x ∷ ps) → x.time ≤ (later_or x (last_of ps)).time
first-before x [] a = omega arith
first-before x (y ∷ ps) a =
    let next : x.time < y.time = a.0.0 in
    let rest : y.time ≤ (later_or y (last_of ps)).time = first-before y ps a.1 in
    omega arith

each-before : (x : Point) (ps : List Point) (t : ℕ) (p : Point) → IsAscending (x ∷ ps) → at t (x ∷ ps) ≡ Some p → p.time ≤ (later_or x (last_of ps)).time
each-before x [] t p a e = go (x.time == t) e
  where
    go : (b : Bool) → (if b then Some x else None) ≡ Some p → p.time ≤ x.time
    go true g = subst (λ (q : Point). q.time ≤ x.time) (some-same x p g) (omega arith)
    go false g = absurd (cc g)
each-before x (y ∷ ps) t p a e = go (x.time == t) e (each-before y ps t p a.1)
  where
    go : (b : Bool) → (if b then Some x else at t (y ∷ ps)) ≡ Some p → (at t (y ∷ ps) ≡ Some p → p.time ≤ (later_or y (last_of ps)).time) → p.time ≤ (later_or y (last_of ps)).time
    go true g ih = subst (λ (q : Point). q.time ≤ (later_or y (last_of ps)).time) (some-same x p g) (first-before x (y ∷ ps) a)
    go false g ih = ih g

-- What bounds the last sample bounds each.
pub each-upto : (bound : ℕ) (ps : List Point) → IsAscending ps → ((q : Point) → last_of ps ≡ Some q → q.time ≤ bound) → Every (λ p. p.time ≤ bound) ps
each-upto bound [] a h t p e = absurd (cc e)
each-upto bound (x ∷ ps) a h t p e =
    let one : p.time ≤ (later_or x (last_of ps)).time = each-before x ps t p a e in
    let two : (later_or x (last_of ps)).time ≤ bound = h (later_or x (last_of ps)) refl in
    omega arith
