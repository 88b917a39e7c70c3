-- The smallest rule count at which samples of a list were written.
use Rattle.std.proofs.Common.{◌≡◌, ℕ, ◌≤◌, Bool, true, false, min, nat_lt, nat_le, cond, List, [], ◌∷◌, ◌++◌, Some, refl, ap, ◌∙◌, subst, arith, le-leb}
use Rattle.std.specs.Prelude.{⊤, filter}
use Rattle.ts_spec.specs.Sample.{Point, at_times, put}
use Rattle.ts_spec.specs.Aggregate.{nothing}
use Rattle.ts_sample.specs.Visit.{visited}
use Rattle.ts_rules.specs.CountedWith.{CountingWith, with_next}
use Rattle.ts_rules.specs.CountedLeft.{CountingLeft, with_left}

-- each was made at this number or later
abbrev AllMade : ℕ → List Point → Type 0
AllMade m [] = ⊤
AllMade m (p ∷ ps) = (m ≤ p.made) × AllMade m ps

-- then all of them count
all-count : (m : ℕ) (ps : List Point) → AllMade m ps → filter (λ q. nat_le m q.made) ps ≡ ps
all-count m [] h = refl
all-count m (p ∷ ps) h =
    ap (λ (x : Bool). cond x (p ∷ filter (λ q. nat_le m q.made) ps) (filter (λ q. nat_le m q.made) ps)) (le-leb m p.made h.0) ∙ ap (λ (qs : List Point). p ∷ qs) (all-count m ps h.1)

all-times : (m : ℕ) (test : ℕ → Bool) (ps : List Point) → AllMade m ps → AllMade m (at_times test ps)
all-times m test [] h = tt
all-times m test (p ∷ ps) h = go (test p.time) (all-times m test ps h.1)
  where
    go : (x : Bool) → AllMade m (at_times test ps) → AllMade m (cond x (p ∷ at_times test ps) (at_times test ps))
    go true ih = (h.0, ih)
    go false ih = ih

all-append : (m : ℕ) (ps qs : List Point) → AllMade m ps → AllMade m qs → AllMade m (ps ++ qs)
all-append m [] qs h k = k
all-append m (p ∷ ps) qs h k = (h.0, all-append m ps qs h.1 k)

-- the least of a number and of those at which the samples were made
abbrev lesser : ℕ → Point → ℕ
lesser n p = min n p.made

least-falls : (n : ℕ) (ps : List Point) → visited lesser n ps ≤ n
least-falls n [] = omega arith
least-falls n (p ∷ ps) = let rest : visited lesser (min n p.made) ps ≤ min n p.made = least-falls (min n p.made) ps in omega (arith, rest)

least-made : (m n : ℕ) (ps : List Point) → m ≤ visited lesser n ps → AllMade m ps
least-made m n [] h = tt
least-made m n (p ∷ ps) h =
    let rest : visited lesser (min n p.made) ps ≤ min n p.made = least-falls (min n p.made) ps in
    (omega (arith, rest, h), least-made m (min n p.made) ps h)

-- ---- with a written sample among them

least-with : (c : CountingWith) (ps : List Point) → (visited with_next c ps).least ≡ visited lesser c.least ps
least-with c [] = refl
least-with c (p ∷ ps) = least-with (with_next c p) ps

-- All of them count, from the least number on that a visitor found.
pub all-written : (made : ℕ) (p : Point) (c : CountingWith) → c ≡ record { counting = record { made = made; running = nothing }; held = Some p; least = p.made } → (ps : List Point) (m : ℕ) →
    m ≤ (visited with_next c ps).least → filter (λ q. nat_le m q.made) (put p ps) ≡ put p ps
all-written made p c fresh ps m h =
    let found : m ≤ visited lesser c.least ps = subst (λ (k : ℕ). m ≤ k) (least-with c ps) h in
    let all = least-made m c.least ps found in
    let low : visited lesser c.least ps ≤ c.least = least-falls c.least ps in
    let own : c.least ≡ p.made = ap (λ (x : CountingWith). x.least) fresh in
    all-count m (put p ps) (all-append m (at_times (λ t. nat_lt t p.time) ps) (p ∷ at_times (nat_lt p.time) ps) (all-times m (λ t. nat_lt t p.time) ps all) (omega (arith, low, own, found), all-times m (nat_lt p.time) ps all))

-- ---- of what a deletion leaves

least-left : (c : CountingLeft) (ps : List Point) → (visited with_left c ps).least ≡ visited lesser c.least ps
least-left c [] = refl
least-left c (p ∷ ps) = least-left (with_left c p) ps

-- All of them count in the same way.
pub all-left : (c : CountingLeft) (ps : List Point) (m : ℕ) → m ≤ (visited with_left c ps).least → filter (λ q. nat_le m q.made) ps ≡ ps
all-left c ps m h = all-count m ps (least-made m c.least ps (subst (λ (k : ℕ). m ≤ k) (least-left c ps) h))
