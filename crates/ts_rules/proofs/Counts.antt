-- Counting one list after another with the same visitor, and the capacity it uses.
use Rattle.std.proofs.Common.{◌≡◌, ℕ, ◌+◌, ◌-◌, ◌^◌, ◌≤◌, Bool, true, false, nat_le, if◌then◌else◌, List, [], ◌∷◌, ◌++◌, length, sym, ap, arith}
use Rattle.std.proofs.lemmas.List.Sums.{fold-append}
use Rattle.ts_spec.specs.Sample.{Point}
use Rattle.ts_spec.specs.Aggregate.{nothing, push}
use Rattle.ts_sample.specs.Visit.{visited}
use Rattle.ts_agg.specs.Counted.{Counting, counted_one}

-- It counts no more samples than it takes.
pub count-visited : (c : Counting) (ps : List Point) → (visited counted_one c ps).running.count ≤ c.running.count + length ps
count-visited c [] = omega arith
count-visited c (p ∷ ps) =
    let rest : (visited counted_one (counted_one c p) ps).running.count ≤ (counted_one c p).running.count + length ps = count-visited (counted_one c p) ps in
    let one : (counted_one c p).running.count ≤ c.running.count + 1 = go (nat_le c.made p.made) in
    omega arith
  where
    go : (x : Bool) → (if x then push c.running p else c.running).count ≤ c.running.count + 1
    go true = omega arith
    go false = omega arith

pub visited-append : {V : Type 0} (step : V → Point → V) (v : V) (ps qs : List Point) → visited step (visited step v ps) qs ≡ visited step v (ps ++ qs)
visited-append step v ps qs = sym (fold-append step v ps qs)

-- There is room for as many more as with those before are no more than 10^14.
pub room-after : (c v : Counting) (made : ℕ) (ps : List Point) (n : ℕ) → c ≡ record { made = made; running = nothing } → v ≡ visited counted_one c ps → length ps + n ≤ 10 ^ 14 → n ≤ 10 ^ 14 - v.running.count
room-after c v made ps n fresh e h =
    let none : c.running.count ≡ 0 = ap (λ (x : Counting). x.running.count) fresh in
    let upto : (visited counted_one c ps).running.count ≤ c.running.count + length ps = count-visited c ps in
    let same : v.running.count ≡ (visited counted_one c ps).running.count = ap (λ (x : Counting). x.running.count) e in
    omega arith
