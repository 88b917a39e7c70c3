-- A destination's samples in an interval after an update: the first bucket's row, the samples that stay, and the last
-- bucket's row.
use Rattle.std.proofs.Common.{◌≡◌, ◌≢◌, ◌⊎◌, inl, inr, ℕ, ◌<◌, ◌≤◌, Bool, true, false, not, nat_lt, cond, if◌then◌else◌, List, [], ◌∷◌, ◌++◌, Option, None, Some, refl, sym, ap, ◌∙◌, subst, arith, append-nil, lt-ltb, le-ltb, eq-eqb, ne_eqb}
use Rattle.std.proofs.lemmas.Bool.{cases_lt, false≢true}
use Rattle.ts_spec.specs.Sample.{Point, IsAfter, IsAscending, at, at_times, between, is_within, put, put_all}
use Rattle.ts_spec.specs.Valid.{Every}
use Rattle.ts_spec.proofs.Samples.{IsBefore, at-after, at-time, at-times, ascending-times, ascending-put_all}
use Rattle.ts_sample.specs.Chunk.{AreMade}
use Rattle.ts_series.specs.Plan.{AreWithin}
use Rattle.ts_rules.specs.Rules.{one_of}
use Rattle.ts_rules.proofs.Times.{within-from, within-to}

-- ---- a sample before all of a list, and one past them

all-past : (t : ℕ) (ps : List Point) → IsAfter t ps → (at_times (λ u. nat_lt u t) ps ≡ []) × (at_times (nat_lt t) ps ≡ ps)
all-past t [] h = (refl, refl)
all-past t (p ∷ ps) h =
    let past : t < p.time = h.0 in
    let rest : (at_times (λ u. nat_lt u t) ps ≡ []) × (at_times (nat_lt t) ps ≡ ps) = all-past t ps h.1 in (
      ap (λ (x : Bool). cond x (p ∷ at_times (λ u. nat_lt u t) ps) (at_times (λ u. nat_lt u t) ps)) (le-ltb p.time t (omega (arith, past))) ∙ rest.0,
      ap (λ (x : Bool). cond x (p ∷ at_times (nat_lt t) ps) (at_times (nat_lt t) ps)) (lt-ltb t p.time past) ∙ ap (λ (qs : List Point). p ∷ qs) rest.1,
    )

all-before : (t : ℕ) (ps : List Point) → IsBefore t ps → (at_times (λ u. nat_lt u t) ps ≡ ps) × (at_times (nat_lt t) ps ≡ [])
all-before t [] h = (refl, refl)
all-before t (p ∷ ps) h =
    let early : p.time < t = h.0 in
    let rest : (at_times (λ u. nat_lt u t) ps ≡ ps) × (at_times (nat_lt t) ps ≡ []) = all-before t ps h.1 in (
      ap (λ (x : Bool). cond x (p ∷ at_times (λ u. nat_lt u t) ps) (at_times (λ u. nat_lt u t) ps)) (lt-ltb p.time t early) ∙ ap (λ (qs : List Point). p ∷ qs) rest.0,
      ap (λ (x : Bool). cond x (p ∷ at_times (nat_lt t) ps) (at_times (nat_lt t) ps)) (le-ltb t p.time (omega (arith, early))) ∙ rest.1,
    )

pub put-first : (p : Point) (ps : List Point) → IsAfter p.time ps → put p ps ≡ p ∷ ps
put-first p ps h = λ i. (all-past p.time ps h).0 i ++ p ∷ (all-past p.time ps h).1 i

pub put-last : (p : Point) (ps : List Point) → IsBefore p.time ps → put p ps ≡ ps ++ p ∷ []
put-last p ps h = λ i. (all-before p.time ps h).0 i ++ p ∷ (all-before p.time ps h).1 i

-- ---- what holds of each sample

abbrev Each : (Point → Type 0) → List Point → Type 0
Each P [] = Unit {0}
Each P (p ∷ ps) = P p × Each P ps

each-from : (P : Point → Type 0) (ps : List Point) → IsAscending ps → Every P ps → Each P ps
each-from P [] a h = tt
each-from P (p ∷ ps) a h = (h p.time p (ap (λ (x : Bool). if x then Some p else at p.time ps) (eq-eqb p.time p.time refl)), each-from P ps a.1 (λ t q e. h t q (rest t q e)))
  where
    rest : (t : ℕ) (q : Point) → at t ps ≡ Some q → at t (p ∷ ps) ≡ Some q
    rest t q e = go (cases_lt p.time t)
      where
        go : (p.time < t) ⊎ (t ≤ p.time) → at t (p ∷ ps) ≡ Some q
        go (inl x) = ap (λ (y : Bool). if y then Some p else at t ps) (ne_eqb p.time t (λ f. absurd (omega arith))) ∙ e
        go (inr x) = absurd (cc (sym (at-after t p.time ps a.0 x) ∙ e))

each-append : (P : Point → Type 0) (ps qs : List Point) → Each P ps → Each P qs → Each P (ps ++ qs)
each-append P [] qs x y = y
each-append P (p ∷ ps) qs x y = (x.0, each-append P ps qs x.1 y)

-- a sample of an interval, made when at most so many rules had been made
abbrev IsIn : (low up born : ℕ) → Point → Type 0
IsIn low up born p = (low ≤ p.time) × (p.time ≤ up) × (p.made ≤ born)

each-within : (low up born : ℕ) (ps : List Point) → Each (IsIn low up born) ps → AreWithin low up ps
each-within low up born [] x = tt
each-within low up born (p ∷ ps) x = (x.0.0, (x.0.1, each-within low up born ps x.1))

each-made : (low up born : ℕ) (ps : List Point) → Each (IsIn low up born) ps → AreMade born ps
each-made low up born [] x = tt
each-made low up born (p ∷ ps) x = (x.0.2, each-made low up born ps x.1)

-- ---- a row at each end

-- a row, if there is one, at a time where no sample stays
abbrev pub IsRowAt : (gone : ℕ → Bool) → (b born : ℕ) → Option Point → Type 0
IsRowAt gone b born None = Unit {0}
IsRowAt gone b born (Some p) = (p.time ≡ b) × (gone b ≡ true) × (p.made ≤ born)

module _ (gone : ℕ → Bool) (low up born : ℕ) (ps : List Point) (a : IsAscending ps) (made : Every (λ p. p.made ≤ born) ps) where
  -- those that stay
  abbrev kept : List Point
  kept = at_times (λ t. not (gone t)) (between low up ps)

  kept-ascending : IsAscending kept
  kept-ascending = ascending-times (λ t. not (gone t)) (between low up ps) (ascending-times (is_within low up) ps a)

  abbrev IsKnown : Point → Type 0
  IsKnown p = (gone p.time ≡ false) × (is_within low up p.time ≡ true) × (p.made ≤ born)

  known : (t : ℕ) (p : Point) → at t kept ≡ Some p → IsKnown p
  known t p e = go (gone t) refl (is_within low up t) refl (sym (at-times t (λ u. not (gone u)) (between low up ps) ∙ ap (λ (o : Option Point). if not (gone t) then o else None) (at-times t (is_within low up) ps)) ∙ e)
    where
      here : p.time ≡ t
      here = at-time t kept p e

      go : (x : Bool) → gone t ≡ x → (y : Bool) → is_within low up t ≡ y → (if not x then (if y then at t ps else None) else None) ≡ Some p → IsKnown p
      go false f true g h = (ap gone here ∙ f, ap (is_within low up) here ∙ g, made t p h)
      go false f false g h = absurd (cc h)
      go true f y g h = absurd (cc h)

  each-known : Each IsKnown kept
  each-known = each-from IsKnown kept kept-ascending known

  none-at : (b : ℕ) (p : Point) → gone b ≡ true → IsKnown p → p.time ≢ b
  none-at b p h x = λ e. false≢true (sym x.0 ∙ ap gone e ∙ h)

  after-low : (qs : List Point) → gone low ≡ true → Each IsKnown qs → IsAfter low qs
  after-low [] h x = tt
  after-low (q ∷ qs) h x =
      let other : q.time ≢ low = none-at low q h x.0 in
      let since : low ≤ q.time = within-from low up q.time x.0.1 in
      (omega (arith, other, since), after-low qs h x.1)

  before-up : (qs : List Point) → gone up ≡ true → Each IsKnown qs → IsBefore up qs
  before-up [] h x = tt
  before-up (q ∷ qs) h x =
      let other : q.time ≢ up = none-at up q h x.0 in
      let until : q.time ≤ up = within-to low up q.time x.0.1 in
      (omega (arith, other, until), before-up qs h x.1)

  each-in : (qs : List Point) → Each IsKnown qs → Each (IsIn low up born) qs
  each-in [] x = tt
  each-in (q ∷ qs) x = ((within-from low up q.time x.0.1, within-to low up q.time x.0.1, x.0.2), each-in qs x.1)

  after-both : (qs : List Point) (q : Point) → IsAfter low qs → low < q.time → IsAfter low (qs ++ q ∷ [])
  after-both [] q x h = (h, tt)
  after-both (p ∷ qs) q x h = (x.0, after-both qs q x.1 h)

  -- The rows and what stays are put together in their order.
  pub span-put : (first last : Option Point) → IsRowAt gone low born first → IsRowAt gone up born last → (last ≡ None) ⊎ (low < up) →
      (one_of first ++ kept) ++ one_of last ≡ put_all (one_of first ++ one_of last) kept
  span-put None None x y h = append-nil kept
  span-put (Some p) None x y h = append-nil (p ∷ kept) ∙ sym (put-first p kept (subst (λ (t : ℕ). IsAfter t kept) (sym x.0) (after-low kept x.1 each-known)))
  span-put None (Some q) x y h = sym (put-last q kept (subst (λ (t : ℕ). IsBefore t kept) (sym y.0) (before-up kept y.1 each-known)))
  span-put (Some p) (Some q) x y (inl e) = absurd (cc e)
  span-put (Some p) (Some q) x y (inr h) =
      let past : low < q.time = omega (arith, h, y.0) in
      sym (ap (put p) (put-last q kept (subst (λ (t : ℕ). IsBefore t kept) (sym y.0) (before-up kept y.1 each-known)))
      ∙ put-first p (kept ++ q ∷ []) (subst (λ (t : ℕ). IsAfter t (kept ++ q ∷ [])) (sym x.0) (after-both kept q (after-low kept x.1 each-known) past)))

  pub span-ascending : (first last : Option Point) → IsRowAt gone low born first → IsRowAt gone up born last → (last ≡ None) ⊎ (low < up) →
      IsAscending ((one_of first ++ kept) ++ one_of last)
  span-ascending first last x y h = subst IsAscending (sym (span-put first last x y h)) (ascending-put_all (one_of first ++ one_of last) kept kept-ascending)

  span-each : (first last : Option Point) → low ≤ up → IsRowAt gone low born first → IsRowAt gone up born last → Each (IsIn low up born) ((one_of first ++ kept) ++ one_of last)
  span-each first last order x y = each-append (IsIn low up born) (one_of first ++ kept) (one_of last) (each-append (IsIn low up born) (one_of first) kept (at-low first x) (each-in kept each-known)) (at-up last y)
    where
      at-low : (o : Option Point) → IsRowAt gone low born o → Each (IsIn low up born) (one_of o)
      at-low None z = tt
      at-low (Some p) z = ((omega (arith, z.0, order), omega (arith, z.0, order), z.2), tt)

      at-up : (o : Option Point) → IsRowAt gone up born o → Each (IsIn low up born) (one_of o)
      at-up None z = tt
      at-up (Some p) z = ((omega (arith, z.0, order), omega (arith, z.0, order), z.2), tt)

  pub span-within : (first last : Option Point) → low ≤ up → IsRowAt gone low born first → IsRowAt gone up born last → AreWithin low up ((one_of first ++ kept) ++ one_of last)
  span-within first last order x y = each-within low up born ((one_of first ++ kept) ++ one_of last) (span-each first last order x y)

  pub span-made : (first last : Option Point) → low ≤ up → IsRowAt gone low born first → IsRowAt gone up born last → AreMade born ((one_of first ++ kept) ++ one_of last)
  span-made first last order x y = each-made low up born ((one_of first ++ kept) ++ one_of last) (span-each first last order x y)
