-- The samples of a list up to a time, one after another, and the remaining ones.
use Rattle.std.proofs.Common.{◌≡◌, ℕ, suc, ◌≤◌, Bool, true, false, nat_le, cond, if◌then◌else◌, List, [], ◌∷◌, drop, length, Option, None, Some, refl, sym, ap, ◌∙◌, arith, leb-true, le-leb, not, is_some}
use Rattle.std.proofs.lemmas.Bool.{false≢true}
use Rattle.ts_spec.specs.Sample.{Point, IsAscending, at_times, between, first_of}
use Rattle.ts_sample.proofs.Between.{times-both}
use Rattle.ts_rules.specs.IntervalReading.{first_up_to, remaining_up_to}
use Rattle.ts_rules.proofs.Times.{none-past, true-unless}

-- From one list on, the first sample up to the time and those past it are the samples up to that.
pub walk-all : (to : ℕ) (ps : List Point) → IsAscending ps → remaining_up_to to (first_up_to to ps) (drop 1 ps) ≡ at_times (λ t. nat_le t to) ps
walk-all to [] a = refl
walk-all to (p ∷ ps) a = go (nat_le p.time to) refl
  where
    go : (x : Bool) → nat_le p.time to ≡ x → remaining_up_to to (if x then Some p else None) ps ≡ cond x (p ∷ at_times (λ t. nat_le t to) ps) (at_times (λ t. nat_le t to) ps)
    go true e = refl
    go false e =
        sym (none-past (λ t. nat_le t to) p.time ps a.0 (λ t past. true-unless (nat_le t to)
        (λ f. (let upto : t ≤ to = leb-true t to f in absurd (false≢true (sym e ∙ le-leb p.time to (omega (arith, upto, past))))))))

-- From a time on, those are the samples between two times.
pub walk-between : (from to : ℕ) (ps rest new : List Point) (head : Option Point) → IsAscending rest → rest ≡ at_times (nat_le from) ps → head ≡ first_up_to to rest → new ≡ drop 1 rest →
    remaining_up_to to head new ≡ between from to ps
walk-between from to ps rest new head a from_is head_is new_is =
    (λ i. remaining_up_to to (head_is i) (new_is i)) ∙ walk-all to rest a ∙ ap (at_times (λ t. nat_le t to)) from_is ∙ times-both (λ t. nat_le t to) (nat_le from) ps

-- Once the first sample is left behind, the others are left.
pub walk-next : (to : ℕ) (rest new : List Point) (old head : Option Point) (none : Bool) → IsAscending rest → is_some old ≡ not none → none ≡ false → head ≡ first_up_to to rest → new ≡ drop 1 rest →
    remaining_up_to to head new ≡ drop 1 (remaining_up_to to old rest)
walk-next to rest new None head none a there is head_is new_is = absurd (false≢true (there ∙ ap not is))
walk-next to rest new (Some p) head none a there is head_is new_is = (λ i. remaining_up_to to (head_is i) (new_is i)) ∙ walk-all to rest a

pub ascending-rest : (ps : List Point) → IsAscending ps → IsAscending (drop 1 ps)
ascending-rest [] a = tt
ascending-rest (p ∷ ps) a = a.1

pub rest-length : (p : Point) (ps : List Point) → Some p ≡ first_of ps → length ps ≡ suc (length (drop 1 ps))
rest-length p [] e = absurd (cc e)
rest-length p (q ∷ ps) e = refl
