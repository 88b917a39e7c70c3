-- Whether a series has a sample in an interval, from the first sample at or after a time.
use Rattle.std.proofs.Common.{◌≡◌, ℕ, ◌<◌, ◌≤◌, Bool, true, false, cond, ◌&&◌, List, [], ◌∷◌, length, refl, sym, ◌∙◌, ap, arith, lt-ltb}
use Rattle.std.specs.Prelude.{nat_lt, nat_le, max, Option, None, Some}
use Rattle.std.proofs.lemmas.Bool.Decides.{nat_tests}
use Rattle.ts_spec.specs.Sample.{Point, IsAfter, IsAscending, at_times, between, first_of}
use Rattle.ts_spec.proofs.Samples.{ascending-times}
use Rattle.ts_sample.proofs.Between.{filter-filter}
use Rattle.ts_sample.proofs.Parted.{filter_alike}

-- whether a sample, if there is one, is up to a time
abbrev pub is_upto : (to : ℕ) → Option Point → Bool
is_upto to None = false
is_upto to (Some p) = nat_le p.time to

none-past : (to t : ℕ) (ps : List Point) → IsAfter t ps → to ≤ t → at_times (λ u. nat_le u to) ps ≡ []
none-past to t [] after le = refl
none-past to t (p ∷ ps) after le =
    let no : nat_le p.time to ≡ false = (let up : t < p.time = after.0 in grind (arith, nat_tests)) in
    ap (λ b. cond b (p ∷ at_times (λ u. nat_le u to) ps) (at_times (λ u. nat_le u to) ps)) no ∙ none-past to t ps after.1 le

first-upto : (to : ℕ) (ps : List Point) → IsAscending ps → is_upto to (first_of ps) ≡ nat_lt 0 (length (at_times (λ u. nat_le u to) ps))
first-upto to [] rises = refl
first-upto to (p ∷ ps) rises = go (nat_le p.time to) refl
  where
    rest : List Point
    rest = at_times (λ u. nat_le u to) ps

    go : (b : Bool) → nat_le p.time to ≡ b → nat_le p.time to ≡ nat_lt 0 (length (at_times (λ u. nat_le u to) (p ∷ ps)))
    go true is = is ∙ sym (ap (λ b. nat_lt 0 (length (cond b (p ∷ rest) rest))) is ∙ lt-ltb 0 (length (p ∷ rest)) (omega arith))
    go false is =
        let past : to ≤ p.time = grind (arith, nat_tests) in
        is ∙ sym (ap (λ b. nat_lt 0 (length (cond b (p ∷ rest) rest))) is ∙ ap (λ l. nat_lt 0 (length l)) (none-past to p.time ps rises.0 past))

from-both : (low from t : ℕ) → nat_le (max from low) t ≡ (nat_le low t && nat_le from t)
from-both low from t = grind (arith, nat_tests)

-- `first` is the first sample from a time on and from the edge on
pub has-between : (low from to : ℕ) (ps : List Point) (first : Option Point) → IsAscending (at_times (nat_le low) ps) → first ≡ first_of (at_times (nat_le (max from low)) ps)
    → is_upto to first ≡ nat_lt 0 (length (between from to (at_times (nat_le low) ps)))
has-between low from to ps first rises is =
    let l = at_times (nat_le low) ps in
    let start : at_times (nat_le (max from low)) ps ≡ at_times (nat_le from) l =
    filter_alike (λ (p : Point). nat_le (max from low) p.time) (λ (p : Point). nat_le low p.time && nat_le from p.time) (λ p. from-both low from p.time) ps
    ∙ sym (filter-filter (λ (p : Point). nat_le from p.time) (λ (p : Point). nat_le low p.time) ps) in
    ap (is_upto to) (is ∙ ap first_of start) ∙ first-upto to (at_times (nat_le from) l) (ascending-times (nat_le from) l rises)
    ∙ ap (λ m. nat_lt 0 (length m)) (filter-filter (λ (p : Point). nat_le p.time to) (λ (p : Point). nat_le from p.time) l)
