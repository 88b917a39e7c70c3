-- The limits of the chunks after a change, and how many samples such chunks can hold.
use Rattle.std.proofs.Common.{◌≡◌, inl, inr, ℕ, zero, suc, ◌-◌, ◌≤◌, List, [], ◌∷◌, ◌++◌, take, drop, refl, sym, ap, subst, arith}
use Rattle.std.specs.Prelude.{max, slice_range}
use Rattle.ts_series.specs.Stored.{Change, IsAmong, AreAmong, HasLimits, greatest, limits_after}
use Rattle.ts_series.specs.History.{History, reach, limit_for, KeepsLimits, KeepsReach}
use Rattle.ts_series.proofs.NewChunks.{among-one, among-append}

among-more : (one m : ℕ) (ms ns : List ℕ) → AreAmong one ms ns → AreAmong one (m ∷ ms) ns
among-more one m ms [] h = tt
among-more one m ms (n ∷ ns) h = (inr h.0, among-more one m ms ns h.1)

-- limits are among themselves
pub among-self : (one : ℕ) (ns : List ℕ) → AreAmong one ns ns
among-self one [] = tt
among-self one (n ∷ ns) = (inl refl, among-more one n ns ns (among-self one ns))

among-in : (one : ℕ) (ns ms : List ℕ) (k : ℕ) → IsAmong one ms k → AreAmong one ns ms → IsAmong one ns k
among-in one ns [] k h a = subst (IsAmong one ns) (sym h) (among-one one ns)
among-in one ns (m ∷ ms) k (inl is) a = subst (IsAmong one ns) (sym is) a.0
among-in one ns (m ∷ ms) k (inr h) a = among-in one ns ms k h a.1

-- limits that are among those that are among others are among the others
pub among-then : (one : ℕ) (ns ms ks : List ℕ) → AreAmong one ns ms → AreAmong one ms ks → AreAmong one ns ks
among-then one ns ms [] a h = tt
among-then one ns ms (k ∷ ks) a h = (among-in one ns ms k h.0 a, among-then one ns ms ks a h.1)

among-take : (one n : ℕ) (ns ms : List ℕ) → AreAmong one ns ms → AreAmong one ns (take n ms)
among-take one zero ns ms h = tt
among-take one (suc n) ns [] h = tt
among-take one (suc n) ns (m ∷ ms) h = (h.0, among-take one n ns ms h.1)

among-drop : (one n : ℕ) (ns ms : List ℕ) → AreAmong one ns ms → AreAmong one ns (drop n ms)
among-drop one zero ns ms h = h
among-drop one (suc n) ns [] h = tt
among-drop one (suc n) ns (m ∷ ms) h = among-drop one n ns ms h.1

-- those in whose place the new ones stand are among them
among-part : (one : ℕ) (c : Change) (ns : List ℕ) → AreAmong one ns (slice_range ns c.start c.end)
among-part one c ns = among-take one (c.end - c.start) ns (drop c.start ns) (among-drop one c.start ns ns (among-self one ns))

-- after a change whose new limits are among them
pub among-after : (one : ℕ) (c : Change) (ns : List ℕ) → HasLimits one ns c → AreAmong one ns (limits_after c ns)
among-after one c ns h =
    among-append one ns (take c.start ns ++ c.limits) (drop c.end ns)
    (among-append one ns (take c.start ns) c.limits (among-take one c.start ns ns (among-self one ns)) (among-then one ns (slice_range ns c.start c.end) c.limits (among-part one c ns) h))
    (among-drop one c.end ns ns (among-self one ns))

-- ---- how many samples a chunk of these limits can have

pub least : (one : ℕ) (ns : List ℕ) → one ≤ greatest one ns
least one [] = omega arith
least one (n ∷ ns) = omega (arith, least one ns)

among-less : (one n : ℕ) (ns : List ℕ) → IsAmong one ns n → n ≤ greatest one ns
among-less one n [] h = omega (arith, h)
among-less one n (m ∷ ns) (inl is) = omega (arith, is)
among-less one n (m ∷ ns) (inr h) = omega (arith, among-less one n ns h)

greatest-less : (one two : ℕ) (ns ms : List ℕ) → AreAmong one ns ms → greatest two ms ≤ max (greatest one ns) two
greatest-less one two ns [] h = omega arith
greatest-less one two ns (m ∷ ms) h = omega (arith, among-less one m ns h.0, greatest-less one two ns ms h.1)

pub keeps-reach : (h k : History) → KeepsLimits h k → KeepsReach h k
keeps-reach h k limits = omega (arith, greatest-less (limit_for h.options.chunk_size) (limit_for k.options.chunk_size) h.held.limits k.held.limits limits)

pub same-reach : (h k : History) → k.options ≡ h.options → KeepsLimits h k → reach k ≤ reach h
same-reach h k same limits =
    omega (
      arith,
      keeps-reach h k limits,
      ap (λ o. limit_for o.chunk_size) same,
      least (limit_for h.options.chunk_size) h.held.limits,
    )
