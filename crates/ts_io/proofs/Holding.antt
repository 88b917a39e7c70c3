-- How the bytes of a writer grow, by acknowledged bytes and by others.
use Rattle.std.proofs.Common.{ℕ, ◌+◌, ◌-◌, ◌^◌, ◌≤◌, min, List, [], ◌∷◌, ◌++◌, length, take, Option, IfSome, None, Some, refl, sym, subst, arith, append-nil, length-take}
use Rattle.std.specs.Io.KnownBytes.{Appends}
use Rattle.ts_io.specs.Adapters.{IsSubsequenceBut, none, ours, other, HoldsAcknowledged}
use Rattle.ts_io.specs.Sinks.{Grows}

pub all_ours : (bytes : List ℕ) → IsSubsequenceBut bytes bytes 0
all_ours [] = none
all_ours (b ∷ bytes) = ours (all_ours bytes)

all_other : (bytes : List ℕ) → IsSubsequenceBut [] bytes (length bytes)
all_other [] = none
all_other (b ∷ bytes) = other (all_other bytes)

ours_after : {w all : List ℕ} {more : ℕ} (bytes : List ℕ) → IsSubsequenceBut w all more → IsSubsequenceBut (w ++ bytes) (all ++ bytes) more
ours_after bytes none = all_ours bytes
ours_after bytes (ours a) = ours (ours_after bytes a)
ours_after bytes (other a) = other (ours_after bytes a)

other_after : {w all : List ℕ} {more : ℕ} (bytes : List ℕ) → IsSubsequenceBut w all more → IsSubsequenceBut w (all ++ bytes) (length bytes + more)
other_after bytes none = subst (IsSubsequenceBut [] bytes) (omega arith) (all_other bytes)
other_after bytes (ours a) = ours (other_after bytes a)
other_after bytes (other {b} {w} {all} {more} a) = subst (IsSubsequenceBut w (b ∷ all ++ bytes)) (omega arith) (other {b = b} (other_after bytes a))

-- the writer accepted these bytes and flushed them
pub holds_flushed : (old new : Option (List ℕ)) (missed : ℕ) (bytes : List ℕ) → Appends old new bytes → Grows (HoldsAcknowledged old missed) (HoldsAcknowledged new missed) bytes
holds_flushed old new missed bytes grew = record { each = each old new grew }
  where
    each : (old new : Option (List ℕ)) → Appends old new bytes → (w : List ℕ) → HoldsAcknowledged old missed w → HoldsAcknowledged new missed (w ++ bytes)
    each None new grew w had = absurd had
    each (Some xs) None grew w had = absurd grew
    each (Some xs) (Some ys) grew w had = (had.0, subst (λ (l : List ℕ). IsSubsequenceBut (w ++ bytes) l had.0) (sym grew) (ours_after bytes had.1), had.2)

-- the writer accepted the first n of these bytes and did not flush them
pub holds_unflushed : (old new : Option (List ℕ)) (missed n : ℕ) (bytes : List ℕ) → n ≤ length bytes → Appends old new (take n bytes) → Grows (HoldsAcknowledged old missed) (HoldsAcknowledged new (min (missed + n) (2 ^ 64 - 1))) []
holds_unflushed old new missed n bytes le grew = record { each = λ w had. subst (HoldsAcknowledged new (min (missed + n) (2 ^ 64 - 1))) (sym (append-nil w)) (each old new grew w had) }
  where
    each : (old new : Option (List ℕ)) → Appends old new (take n bytes) → (w : List ℕ) → HoldsAcknowledged old missed w → HoldsAcknowledged new (min (missed + n) (2 ^ 64 - 1)) w
    each None new grew w had = absurd had
    each (Some xs) None grew w had = absurd grew
    each (Some xs) (Some ys) grew w (more, among, counts) = (
      length (take n bytes) + more,
      subst (λ (l : List ℕ). IsSubsequenceBut w l (length (take n bytes) + more)) (sym grew) (other_after (take n bytes) among),
      omega (arith, length-take n bytes, le),
    )

-- a new writer
pub holds_all : (contents : Option (List ℕ)) → IfSome contents (λ w. HoldsAcknowledged contents 0 w)
holds_all None = tt
holds_all (Some all) = (0, all_ours all, refl)
