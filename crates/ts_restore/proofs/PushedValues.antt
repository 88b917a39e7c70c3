-- The summary of a list of values, one value after another.
use Rattle.std.proofs.Common.{◌≡◌, ℕ, zero, suc, ◌+◌, ◌≤◌, List, [], ◌∷◌, ◌++◌, map, length, fold, ◌⊎◌, inl, inr, refl, sym, ap, ◌∙◌, subst, arith, ◌+ℤ◌, ◌≤ℤ◌}
use Rattle.std.specs.Prelude.{ℤ, pos, int_lt, if◌then◌else◌}
use Rattle.std.proofs.lemmas.Int.{ints}
use Rattle.ts_spec.specs.Sample.{Point}
use Rattle.ts_spec.specs.Aggregate.{Summary, nothing, old_unless_first, push, summary}

-- the summary after one more value
abbrev pub push_value : Summary → ℤ → Summary
push_value s v = push s (record { time = 0; value = v; made = 0 })

-- The summary of samples is that of their values.
pub fold-values : (s : Summary) (ps : List Point) → fold push s ps ≡ fold push_value s (map (λ p. p.value) ps)
fold-values s [] = refl
fold-values s (p ∷ ps) = fold-values (push_value s p.value) ps

pub summary-values : (ps : List Point) → summary ps ≡ fold push_value nothing (map (λ p. p.value) ps)
summary-values ps = fold-values nothing ps

-- ---- folds of values

abbrev pub AllFrom : ℤ → List ℤ → Type 0
AllFrom l [] = Unit {0}
AllFrom l (v ∷ vs) = (l ≤ℤ v) × AllFrom l vs

abbrev pub AllTo : ℤ → List ℤ → Type 0
AllTo g [] = Unit {0}
AllTo g (v ∷ vs) = (v ≤ℤ g) × AllTo g vs

abbrev pub Has : ℤ → List ℤ → Type 0
Has x [] = ⊥
Has x (v ∷ vs) = (v ≡ x) ⊎ Has x vs

abbrev pub total : List ℤ → ℤ
total [] = pos 0
total (v ∷ vs) = v +ℤ total vs

-- the lesser and the greater, where the second is no less, or no greater
low_stays : (l v : ℤ) → l ≤ℤ v → (if int_lt v l then v else l) ≡ l
low_stays l v h = grind (arith, ints)

low_new : (l old v : ℤ) → l ≤ℤ old → v ≡ l → (if int_lt v old then v else old) ≡ l
low_new l old v h e = grind (arith, ints)

low_from : (l old v : ℤ) → l ≤ℤ old → l ≤ℤ v → l ≤ℤ (if int_lt v old then v else old)
low_from l old v h k = grind (arith, ints)

high_stays : (g v : ℤ) → v ≤ℤ g → (if int_lt g v then v else g) ≡ g
high_stays g v h = grind (arith, ints)

high_new : (g old v : ℤ) → old ≤ℤ g → v ≡ g → (if int_lt old v then v else old) ≡ g
high_new g old v h e = grind (arith, ints)

high_to : (g old v : ℤ) → old ≤ℤ g → v ≤ℤ g → (if int_lt old v then v else old) ≤ℤ g
high_to g old v h k = grind (arith, ints)

pub old_later : (n : ℕ) (old new : ℤ) → 1 ≤ n → old_unless_first n old new ≡ old
old_later zero old new some = absurd (omega arith)
old_later (suc n) old new some = refl

-- the least and the greatest of the summary, once there is a value
pub fold-least : (s : Summary) (vs : List ℤ) (l : ℤ) → 1 ≤ s.count → l ≤ℤ s.least → AllFrom l vs → (s.least ≡ l) ⊎ Has l vs → (fold push_value s vs).least ≡ l
fold-least s [] l some from all (inl e) = e
fold-least s [] l some from all (inr x) = absurd x
fold-least s (v ∷ vs) l some from all (inl e) =
    let kept : (push_value s v).least ≡ (if int_lt v s.least then v else s.least) = old_later s.count _ v some in
    let is : (push_value s v).least ≡ l = kept ∙ ap (λ (x : ℤ). if int_lt v x then v else x) e ∙ low_stays l v all.0 in
    fold-least (push_value s v) vs l (omega arith) (omega (arith, ints, is)) all.1 (inl is)
fold-least s (v ∷ vs) l some from all (inr (inl e)) =
    let kept : (push_value s v).least ≡ (if int_lt v s.least then v else s.least) = old_later s.count _ v some in
    let is : (push_value s v).least ≡ l = kept ∙ low_new l s.least v from e in
    fold-least (push_value s v) vs l (omega arith) (omega (arith, ints, is)) all.1 (inl is)
fold-least s (v ∷ vs) l some from all (inr (inr x)) =
    let kept : (push_value s v).least ≡ (if int_lt v s.least then v else s.least) = old_later s.count _ v some in
    fold-least (push_value s v) vs l (omega arith) (subst (λ (x : ℤ). l ≤ℤ x) (sym kept) (low_from l s.least v from all.0)) all.1 (inr x)

pub fold-greatest : (s : Summary) (vs : List ℤ) (g : ℤ) → 1 ≤ s.count → s.greatest ≤ℤ g → AllTo g vs → (s.greatest ≡ g) ⊎ Has g vs → (fold push_value s vs).greatest ≡ g
fold-greatest s [] g some to all (inl e) = e
fold-greatest s [] g some to all (inr x) = absurd x
fold-greatest s (v ∷ vs) g some to all (inl e) =
    let kept : (push_value s v).greatest ≡ (if int_lt s.greatest v then v else s.greatest) = old_later s.count _ v some in
    let is : (push_value s v).greatest ≡ g = kept ∙ ap (λ (x : ℤ). if int_lt x v then v else x) e ∙ high_stays g v all.0 in
    fold-greatest (push_value s v) vs g (omega arith) (omega (arith, ints, is)) all.1 (inl is)
fold-greatest s (v ∷ vs) g some to all (inr (inl e)) =
    let kept : (push_value s v).greatest ≡ (if int_lt s.greatest v then v else s.greatest) = old_later s.count _ v some in
    let is : (push_value s v).greatest ≡ g = kept ∙ high_new g s.greatest v to e in
    fold-greatest (push_value s v) vs g (omega arith) (omega (arith, ints, is)) all.1 (inl is)
fold-greatest s (v ∷ vs) g some to all (inr (inr x)) =
    let kept : (push_value s v).greatest ≡ (if int_lt s.greatest v then v else s.greatest) = old_later s.count _ v some in
    fold-greatest (push_value s v) vs g (omega arith) (subst (λ (x : ℤ). x ≤ℤ g) (sym kept) (high_to g s.greatest v to all.0)) all.1 (inr x)

pub fold-count : (s : Summary) (vs : List ℤ) → (fold push_value s vs).count ≡ s.count + length vs
fold-count s [] = omega arith
fold-count s (v ∷ vs) = let ih : (fold push_value (push_value s v) vs).count ≡ s.count + 1 + length vs = fold-count (push_value s v) vs in omega arith

pub fold-sum : (s : Summary) (vs : List ℤ) → (fold push_value s vs).sum ≡ s.sum +ℤ total vs
fold-sum s [] = omega (arith, ints)
fold-sum s (v ∷ vs) = let ih : (fold push_value (push_value s v) vs).sum ≡ (s.sum +ℤ v) +ℤ total vs = fold-sum (push_value s v) vs in omega (arith, ints)

pub fold-first : (s : Summary) (vs : List ℤ) → 1 ≤ s.count → (fold push_value s vs).first ≡ s.first
fold-first s [] some = refl
fold-first s (v ∷ vs) some = fold-first (push_value s v) vs (omega arith) ∙ old_later s.count s.first v some

pub fold-last : (s : Summary) (vs : List ℤ) (x : ℤ) → (fold push_value s (vs ++ x ∷ [])).last ≡ x
fold-last s [] x = refl
fold-last s (v ∷ vs) x = fold-last (push_value s v) vs x
