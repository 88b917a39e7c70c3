-- The least and the greatest value of a list, and bounds on its sum.
use Rattle.std.proofs.Common.{◌≡◌, ℕ, suc, ◌≤◌, Bool, true, false, List, [], ◌∷◌, length, fold, ◌⊎◌, inl, inr, refl, sym, ap, ◌∙◌, subst, arith, ◌+ℤ◌, ◌≤ℤ◌}
use Rattle.std.specs.Prelude.{ℤ, int_lt, if◌then◌else◌}
use Rattle.std.proofs.lemmas.Int.{ints}
use Rattle.ts_spec.specs.Aggregate.{Summary}
use Rattle.ts_restore.specs.Summaries.{times}
use Rattle.ts_restore.proofs.PushedValues.{push_value, AllFrom, AllTo, Has, total, old_later}

-- ---- the least and the greatest are below and above all, and are there

lower : (old v : ℤ) → ((if int_lt v old then v else old) ≤ℤ old) × ((if int_lt v old then v else old) ≤ℤ v)
lower old v = (grind (arith, ints), grind (arith, ints))

higher : (old v : ℤ) → (old ≤ℤ (if int_lt old v then v else old)) × (v ≤ℤ (if int_lt old v then v else old))
higher old v = (grind (arith, ints), grind (arith, ints))

one_of : (b : Bool) (v old : ℤ) → ((if b then v else old) ≡ old) ⊎ (v ≡ (if b then v else old))
one_of true v old = inr refl
one_of false v old = inl refl

pub least-below : (s : Summary) (vs : List ℤ) → 1 ≤ s.count → ((fold push_value s vs).least ≤ℤ s.least) × AllFrom (fold push_value s vs).least vs
least-below s [] some = (omega (arith, ints), tt)
least-below s (v ∷ vs) some =
    let ih = least-below (push_value s v) vs (omega arith) in
    let a : (fold push_value (push_value s v) vs).least ≤ℤ (push_value s v).least = ih.0 in
    let kept : (push_value s v).least ≡ (if int_lt v s.least then v else s.least) = old_later s.count _ v some in
    let low = lower s.least v in
    let b : (if int_lt v s.least then v else s.least) ≤ℤ s.least = low.0 in
    let c : (if int_lt v s.least then v else s.least) ≤ℤ v = low.1 in
    let d : (fold push_value (push_value s v) vs).least ≤ℤ (if int_lt v s.least then v else s.least) = subst (λ (x : ℤ). (fold push_value (push_value s v) vs).least ≤ℤ x) kept a in
    (omega (arith, ints, d, b), (omega (arith, ints, d, c), ih.1))

pub greatest-above : (s : Summary) (vs : List ℤ) → 1 ≤ s.count → (s.greatest ≤ℤ (fold push_value s vs).greatest) × AllTo (fold push_value s vs).greatest vs
greatest-above s [] some = (omega (arith, ints), tt)
greatest-above s (v ∷ vs) some =
    let ih = greatest-above (push_value s v) vs (omega arith) in
    let a : (push_value s v).greatest ≤ℤ (fold push_value (push_value s v) vs).greatest = ih.0 in
    let kept : (push_value s v).greatest ≡ (if int_lt s.greatest v then v else s.greatest) = old_later s.count _ v some in
    let high = higher s.greatest v in
    let b : s.greatest ≤ℤ (if int_lt s.greatest v then v else s.greatest) = high.0 in
    let c : v ≤ℤ (if int_lt s.greatest v then v else s.greatest) = high.1 in
    let d : (if int_lt s.greatest v then v else s.greatest) ≤ℤ (fold push_value (push_value s v) vs).greatest = subst (λ (x : ℤ). x ≤ℤ (fold push_value (push_value s v) vs).greatest) kept a in
    (omega (arith, ints, d, b), (omega (arith, ints, d, c), ih.1))

-- the least is the one so far, or there
pub least-there : (s : Summary) (vs : List ℤ) → 1 ≤ s.count → ((fold push_value s vs).least ≡ s.least) ⊎ Has (fold push_value s vs).least vs
least-there s [] some = inl refl
least-there s (v ∷ vs) some = go (least-there (push_value s v) vs (omega arith)) (one_of (int_lt v s.least) v s.least)
  where
    kept : (push_value s v).least ≡ (if int_lt v s.least then v else s.least)
    kept = old_later s.count _ v some

    go : ((fold push_value (push_value s v) vs).least ≡ (push_value s v).least) ⊎ Has (fold push_value (push_value s v) vs).least vs → ((if int_lt v s.least then v else s.least) ≡ s.least) ⊎ (v ≡ (if int_lt v s.least then v else s.least)) →
        ((fold push_value (push_value s v) vs).least ≡ s.least) ⊎ Has (fold push_value (push_value s v) vs).least (v ∷ vs)
    go (inr x) w = inr (inr x)
    go (inl e) (inl w) = inl (e ∙ kept ∙ w)
    go (inl e) (inr w) = inr (inl (w ∙ sym kept ∙ sym e))

pub greatest-there : (s : Summary) (vs : List ℤ) → 1 ≤ s.count → ((fold push_value s vs).greatest ≡ s.greatest) ⊎ Has (fold push_value s vs).greatest vs
greatest-there s [] some = inl refl
greatest-there s (v ∷ vs) some = go (greatest-there (push_value s v) vs (omega arith)) (one_of (int_lt s.greatest v) v s.greatest)
  where
    kept : (push_value s v).greatest ≡ (if int_lt s.greatest v then v else s.greatest)
    kept = old_later s.count _ v some

    go : ((fold push_value (push_value s v) vs).greatest ≡ (push_value s v).greatest) ⊎ Has (fold push_value (push_value s v) vs).greatest vs → ((if int_lt s.greatest v then v else s.greatest) ≡ s.greatest) ⊎ (v ≡ (if int_lt s.greatest v then v else s.greatest)) →
        ((fold push_value (push_value s v) vs).greatest ≡ s.greatest) ⊎ Has (fold push_value (push_value s v) vs).greatest (v ∷ vs)
    go (inr x) w = inr (inr x)
    go (inl e) (inl w) = inl (e ∙ kept ∙ w)
    go (inl e) (inr w) = inr (inl (w ∙ sym kept ∙ sym e))

-- ---- sums between bounds

pub total-from : (l : ℤ) (vs : List ℤ) → AllFrom l vs → times (length vs) l ≤ℤ total vs
total-from l [] all = omega (arith, ints)
total-from l (v ∷ vs) all = (let a : l ≤ℤ v = all.0 in let ih : times (length vs) l ≤ℤ total vs = total-from l vs all.1 in omega (arith, ints, a, ih))

pub total-to : (g : ℤ) (vs : List ℤ) → AllTo g vs → total vs ≤ℤ times (length vs) g
total-to g [] all = omega (arith, ints)
total-to g (v ∷ vs) all = (let a : v ≤ℤ g = all.0 in let ih : total vs ≤ℤ times (length vs) g = total-to g vs all.1 in omega (arith, ints, a, ih))

-- with one that is the least, the others are no more than the greatest each; and the same of the greatest
pub few-least : (l g : ℤ) (vs : List ℤ) → AllTo g vs → Has l vs → (k : ℕ) × (length vs ≡ suc k) × (total vs ≤ℤ (l +ℤ times k g))
few-least l g [] all h = absurd h
few-least l g (v ∷ vs) all (inl e) = (length vs, refl, (let ih : total vs ≤ℤ times (length vs) g = total-to g vs all.1 in omega (arith, ints, e, ih)))
few-least l g (v ∷ vs) all (inr h) =
    let r = few-least l g vs all.1 h in
    let a : v ≤ℤ g = all.0 in
    let b : total vs ≤ℤ (l +ℤ times r.0 g) = r.2 in
    (suc r.0, ap suc r.1, omega (arith, ints, a, b))

pub few-greatest : (l g : ℤ) (vs : List ℤ) → AllFrom l vs → Has g vs → (k : ℕ) × (length vs ≡ suc k) × ((g +ℤ times k l) ≤ℤ total vs)
few-greatest l g [] all h = absurd h
few-greatest l g (v ∷ vs) all (inl e) = (length vs, refl, (let ih : times (length vs) l ≤ℤ total vs = total-from l vs all.1 in omega (arith, ints, e, ih)))
few-greatest l g (v ∷ vs) all (inr h) =
    let r = few-greatest l g vs all.1 h in
    let a : l ≤ℤ v = all.0 in
    let b : (g +ℤ times r.0 l) ≤ℤ total vs = r.2 in
    (suc r.0, ap suc r.1, omega (arith, ints, a, b))
