-- Samples that replace others.
use Rattle.std.proofs.Common.{◌≡◌, ℕ, zero, suc, ◌<◌, ◌≤◌, true, false, List, [], ◌∷◌, length, get_or, set, refl, ◌∙◌, ap, subst, arith}
use Rattle.std.specs.Prelude.{Option, None, Some, nat_lt, slice_get, IsSomeAnd}
use Rattle.std.proofs.lemmas.Bool.Decides.{nat_tests}
use Rattle.std.proofs.lemmas.Option.{slice_get_within, get_or_from_slice_get}
use Rattle.ts_spec.specs.Sample.{Point, MAX_TIME, IsAfter, IsAscending, at, at_times, is_within, between, put}
use Rattle.ts_spec.proofs.Samples.{at-time}
use Rattle.ts_sample.specs.Chunk.{AreInBounds}
use Rattle.ts_sample.proofs.Parted.{after_each}

-- each sample is up to MAX_TIME
pub between-all : (ps : List Point) → AreInBounds ps → between 0 MAX_TIME ps ≡ ps
between-all [] h = refl
between-all (p ∷ ps) h =
    let time : p.time ≤ MAX_TIME = h.0.time in
    let here : is_within 0 MAX_TIME p.time ≡ true = grind (arith, nat_tests) in
    rw here (ap (λ (l : List Point). p ∷ l) (between-all ps h.1))

pub none-before : (x : ℕ) (ps : List Point) → IsAfter x ps → at_times (λ t. nat_lt t x) ps ≡ []
none-before x [] h = refl
none-before x (p ∷ ps) h =
    let later : x < p.time = h.0 in
    let out : nat_lt p.time x ≡ false = grind (arith, nat_tests) in
    rw out (none-before x ps h.1)

pub all-past : (x : ℕ) (ps : List Point) → IsAfter x ps → at_times (nat_lt x) ps ≡ ps
all-past x [] h = refl
all-past x (p ∷ ps) h =
    let later : x < p.time = h.0 in
    let here : nat_lt x p.time ≡ true = grind (arith, nat_tests) in
    rw here (ap (λ (l : List Point). p ∷ l) (all-past x ps h.1))

-- overwriting the sample at its time is `put`
put-over : (ps : List Point) (i : ℕ) (p : Point) → IsAscending ps → i < length ps → (get_or ps i p).time ≡ p.time → set ps i p ≡ put p ps
put-over [] i p h lt same = absurd (omega arith)
put-over (q ∷ ps) zero p h lt same =
    let not_before : nat_lt q.time p.time ≡ false = grind (arith, nat_tests) in
    let not_past : nat_lt p.time q.time ≡ false = grind (arith, nat_tests) in
    let after : IsAfter p.time ps = subst (λ t. IsAfter t ps) same h.0 in
    rw (not_before, not_past, none-before p.time ps after, all-past p.time ps after) refl
put-over (q ∷ ps) (suc i) p h lt same =
    let earlier : q.time < p.time = subst (λ t. q.time < t) same (after_each q.time ps i p h.0 (omega arith)) in
    let before : nat_lt q.time p.time ≡ true = grind (arith, nat_tests) in
    let not_past : nat_lt p.time q.time ≡ false = grind (arith, nat_tests) in
    rw (before, not_past) (ap (λ (l : List Point). q ∷ l) (put-over ps i p h.1 (omega arith) same))

pub put-found : (x i : ℕ) (ps : List Point) (p : Point) → IsAscending ps → IsSomeAnd (at x ps) (λ q. slice_get ps i ≡ Some q) → x ≡ p.time → set ps i p ≡ put p ps
put-found x i ps p h found is = go (at x ps) refl found
  where
    go : (there : Option Point) → at x ps ≡ there → IsSomeAnd there (λ q. slice_get ps i ≡ Some q) → set ps i p ≡ put p ps
    go None e k = absurd k
    go (Some q) e k =
        put-over ps i p h (slice_get_within ps i q k) (ap (λ (r : Point). r.time) (get_or_from_slice_get ps i q p k) ∙ at-time x ps q e ∙ is)
