-- Ascending lists of distinct keys, and maps over them.
use Rattle.std.proofs.Common.{◌≡◌, ◌||◌, ◌⊎◌, Bool, true, false, cond, if◌then◌else◌, List, [], ◌∷◌, map, None, Some, inl, inr, refl, sym, ap, ◌∙◌}
use Rattle.std.specs.Prelude.{⊤}
use Rattle.std.proofs.lemmas.Bool.{false≢true}
use Rattle.std.specs.declared.cmp.Ordering.{Ordering}
use Rattle.std.specs.declared.cmp.Ordering.TheVariants.{Less, Equal, Greater}
use Rattle.std.specs.BTreeMap.{is_at, insert_entry}
use Rattle.std.specs.Map.{lookup, set_value}

-- keys are ordered, a map compares them so, and `put` puts one more into an ascending list
pub record IsOrder {K : Type 0} (before same : K → K → Bool) (cmp : K → K → Ordering) (put : K → List K → List K) : Type 0 where
  pub irrefl : (a : K) → before a a ≡ false
  pub trans : (a b c : K) → before a b ≡ true → before b c ≡ true → before a c ≡ true
  pub total : (a b : K) → before a b ≡ false → before b a ≡ false → a ≡ b
  pub itself : (a : K) → same a a ≡ true
  pub one : (a b : K) → same a b ≡ true → a ≡ b
  pub compares : (a b : K) → cmp a b ≡ cond (before a b) Less (cond (same a b) Equal Greater)
  pub put_nil : (a : K) → put a [] ≡ a ∷ []
  pub put_cons : (a b : K) (bs : List K) → put a (b ∷ bs) ≡ (if before a b then a ∷ b ∷ bs else (if same a b then b ∷ bs else b ∷ put a bs))

twice : (b c : Bool) → (b || c) ≡ (b || (b || c))
twice true c = refl
twice false c = refl

over : (a b c : Bool) → (a || (b || c)) ≡ (b || (a || c))
over true true c = refl
over true false c = refl
over false true c = refl
over false false c = refl

no-second : (b c : Bool) → (b || c) ≡ false → c ≡ false
no-second true c e = absurd (false≢true (sym e))
no-second false c e = e

no-first : (b c : Bool) → (b || c) ≡ false → b ≡ false
no-first true c e = absurd (false≢true (sym e))
no-first false c e = refl

module _ {K : Type 0} {before same : K → K → Bool} {cmp : K → K → Ordering} {put : K → List K → List K} (o : IsOrder before same cmp put) where
  -- ---- two keys

  not-after : (a b : K) → before a b ≡ true → before b a ≡ false
  not-after a b h = go (before b a) refl
    where
      go : (t : Bool) → before b a ≡ t → before b a ≡ false
      go true e = absurd (false≢true (sym (o.irrefl a) ∙ o.trans a b a h e))
      go false e = e

  pub apart : (a b : K) → before a b ≡ true → same a b ≡ false
  apart a b h = go (same a b) refl
    where
      go : (t : Bool) → same a b ≡ t → same a b ≡ false
      go true e = absurd (false≢true (sym (o.irrefl a) ∙ ap (before a) (o.one a b e) ∙ h))
      go false e = e

  pub apart-back : (a b : K) → before b a ≡ true → same a b ≡ false
  apart-back a b h = go (same a b) refl
    where
      go : (t : Bool) → same a b ≡ t → same a b ≡ false
      go true e = absurd (false≢true (sym (o.irrefl a) ∙ ap (λ (c : K). before c a) (o.one a b e) ∙ h))
      go false e = e

  pub three : (a b : K) → (a ≡ b) ⊎ ((before a b ≡ true) ⊎ (before b a ≡ true))
  three a b = go (before a b) (before b a) refl refl
    where
      go : (s t : Bool) → before a b ≡ s → before b a ≡ t → (a ≡ b) ⊎ ((before a b ≡ true) ⊎ (before b a ≡ true))
      go true t e d = inr (inl e)
      go false true e d = inr (inr d)
      go false false e d = inl (o.total a b e d)

  -- whether they compare as equal
  pub at-same : (a b : K) → is_at (cmp a) b ≡ same a b
  at-same a b = elim (three a b) [
    | inl e ↦ rw (o.compares a b) (go (before a b) (same a b) (ap (before a) (sym e) ∙ o.irrefl a))
    | inr (inl e) ↦ rw (o.compares a b, e, apart a b e) refl
    | inr (inr e) ↦ rw (o.compares a b, not-after b a e, apart-back a b e) refl
  ]
    where
      go : (s t : Bool) → s ≡ false → is_at (λ (c : K). cond s Less (cond t Equal Greater)) b ≡ t
      go true t e = absurd (false≢true (sym e))
      go false true e = refl
      go false false e = refl

  -- ---- one more

  pub put-before : (a b : K) (bs : List K) → before a b ≡ true → put a (b ∷ bs) ≡ a ∷ b ∷ bs
  put-before a b bs e = rw (o.put_cons a b bs, e) refl

  pub put-here : (a b : K) (bs : List K) → a ≡ b → put a (b ∷ bs) ≡ b ∷ bs
  put-here a b bs e =
      let none : before a b ≡ false = ap (before a) (sym e) ∙ o.irrefl a in
      let is : same a b ≡ true = ap (same a) (sym e) ∙ o.itself a in
      rw (o.put_cons a b bs, none, is) refl

  pub put-past : (a b : K) (bs : List K) → before b a ≡ true → put a (b ∷ bs) ≡ b ∷ put a bs
  put-past a b bs e = rw (o.put_cons a b bs, not-after b a e, apart-back a b e) refl

  put-earlier : (a b : K) (ks : List K) → before a b ≡ true → put a (put b ks) ≡ put b (put a ks)
  put-earlier a b [] l =
      ap (put a) (o.put_nil b) ∙ put-before a b [] l ∙ ap (λ (ks : List K). a ∷ ks) (sym (o.put_nil b))
      ∙ sym (put-past b a [] l) ∙ ap (put b) (sym (o.put_nil a))
  put-earlier a b (k ∷ ks) l = elim (three b k) [
    | inl e ↦
        let first : before a k ≡ true = ap (before a) (sym e) ∙ l in
        ap (put a) (put-here b k ks e) ∙ put-before a k ks first
        ∙ ap (λ (us : List K). a ∷ us) (sym (put-here b k ks e)) ∙ sym (put-past b a (k ∷ ks) l)
        ∙ ap (put b) (sym (put-before a k ks first))
    | inr (inl e) ↦
        let first : before a k ≡ true = o.trans a b k l e in
        ap (put a) (put-before b k ks e) ∙ put-before a b (k ∷ ks) l
        ∙ ap (λ (us : List K). a ∷ us) (sym (put-before b k ks e)) ∙ sym (put-past b a (k ∷ ks) l)
        ∙ ap (put b) (sym (put-before a k ks first))
    | inr (inr e) ↦ ap (put a) (put-past b k ks e) ∙ go e (put-earlier a b ks l)
  ]
    where
      go : before k b ≡ true → put a (put b ks) ≡ put b (put a ks) → put a (k ∷ put b ks) ≡ put b (put a (k ∷ ks))
      go e ih = elim (three a k) [
        | inl d ↦ put-here a k (put b ks) d ∙ sym (put-past b k ks e) ∙ ap (put b) (sym (put-here a k ks d))
        | inr (inl d) ↦
            put-before a k (put b ks) d ∙ ap (λ (us : List K). a ∷ us) (sym (put-past b k ks e))
            ∙ sym (put-past b a (k ∷ ks) l) ∙ ap (put b) (sym (put-before a k ks d))
        | inr (inr d) ↦
            put-past a k (put b ks) d ∙ ap (λ (us : List K). k ∷ us) ih
            ∙ sym (put-past b k (put a ks) e) ∙ ap (put b) (sym (put-past a k ks d))
      ]

  pub put-both : (a b : K) (ks : List K) → put a (put b ks) ≡ put b (put a ks)
  put-both a b ks = elim (three a b) [
    | inl e ↦ ap (λ (c : K). put c (put b ks)) e ∙ ap (λ (c : K). put b (put c ks)) (sym e)
    | inr (inl e) ↦ put-earlier a b ks e
    | inr (inr e) ↦ sym (put-earlier b a ks e)
  ]

  -- ---- ascending lists

  -- each key is past this one
  abbrev pub AreAfter : K → List K → Type 0
  AreAfter a [] = ⊤
  AreAfter a (b ∷ bs) = (before a b ≡ true) × AreAfter a bs

  -- each key is past those before it
  abbrev pub AreRising : List K → Type 0
  AreRising [] = ⊤
  AreRising (b ∷ bs) = AreAfter b bs × AreRising bs

  pub after-earlier : (a b : K) (ks : List K) → before a b ≡ true → AreAfter b ks → AreAfter a ks
  after-earlier a b [] l h = tt
  after-earlier a b (k ∷ ks) l h = (o.trans a b k l h.0, after-earlier a b ks l h.1)

  after-put : (a b : K) (ks : List K) → before a b ≡ true → AreAfter a ks → AreAfter a (put b ks)
  after-put a b [] l h = rw (o.put_nil b) (l, tt)
  after-put a b (k ∷ ks) l h = elim (three b k) [
    | inl e ↦ rw (put-here b k ks e) h
    | inr (inl e) ↦ rw (put-before b k ks e) (l, h)
    | inr (inr e) ↦ rw (put-past b k ks e) (h.0, after-put a b ks l h.1)
  ]

  pub rising-put : (a : K) (ks : List K) → AreRising ks → AreRising (put a ks)
  rising-put a [] h = rw (o.put_nil a) (tt, tt)
  rising-put a (k ∷ ks) h = elim (three a k) [
    | inl e ↦ rw (put-here a k ks e) h
    | inr (inl e) ↦ rw (put-before a k ks e) ((e, after-earlier a k ks e h.0), h)
    | inr (inr e) ↦ rw (put-past a k ks e) (after-put k a ks e h.0, rising-put a ks h.1)
  ]

  -- ---- which keys there are

  -- whether a key is among these
  abbrev pub has : K → List K → Bool
  has a [] = false
  has a (b ∷ bs) = same a b || has a bs

  pub none-before : (a : K) (ks : List K) → AreAfter a ks → has a ks ≡ false
  none-before a [] h = refl
  none-before a (k ∷ ks) h = rw (apart a k h.0) (none-before a ks h.1)

  pub has-put : (a b : K) (ks : List K) → has a (put b ks) ≡ (same a b || has a ks)
  has-put a b [] = rw (o.put_nil b) refl
  has-put a b (k ∷ ks) = elim (three b k) [
    | inl e ↦ rw (put-here b k ks e) (twice (same a k) (has a ks) ∙ ap (λ (c : K). same a c || (same a k || has a ks)) (sym e))
    | inr (inl e) ↦ rw (put-before b k ks e) refl
    | inr (inr e) ↦ rw (put-past b k ks e) (ap (λ (t : Bool). same a k || t) (has-put a b ks) ∙ over (same a k) (same a b) (has a ks))
  ]

  -- a key that is not among these with one more is neither
  pub not-same : (a b : K) (ks : List K) → has a (put b ks) ≡ false → same a b ≡ false
  not-same a b ks h = no-first (same a b) (has a ks) (sym (has-put a b ks) ∙ h)

  pub not-others : (a b : K) (ks : List K) → has a (put b ks) ≡ false → has a ks ≡ false
  not-others a b ks h = no-second (same a b) (has a ks) (sym (has-put a b ks) ∙ h)

  -- ---- a map that has something for each of some keys

  module _ {X : Type 0} where
    abbrev pub each : (K → X) → List K → List (K × X)
    each f ks = map (λ k. (k, f k)) ks

    each-has : (f : K → X) (a : K) (ks : List K) → lookup (is_at (cmp a)) (each f ks) ≡ (if has a ks then Some (f a) else None)
    each-has f a [] = refl
    each-has f a (k ∷ ks) = rw (at-same a k) (by (same a k) refl (each-has f a ks))
      where
        by : (b : Bool) → same a k ≡ b → lookup (is_at (cmp a)) (each f ks) ≡ (if has a ks then Some (f a) else None)
            → cond b (Some (f k)) (lookup (is_at (cmp a)) (each f ks)) ≡ (if b || has a ks then Some (f a) else None)
        by true e ih = ap (λ (c : K). Some (f c)) (sym (o.one a k e))
        by false e ih = ih

    found-or : (b : Bool) (x : X) → (if b then Some x else None) ≡ None → b ≡ false
    found-or true x e = cc
    found-or false x e = refl

    found-is : (b : Bool) (x y : X) → (if b then Some x else None) ≡ Some y → (b ≡ true) × (y ≡ x)
    found-is true x y e = (refl, cc)
    found-is false x y e = cc

    -- what a search among them finds
    pub each-none : (f : K → X) (a : K) (ks : List K) → lookup (is_at (cmp a)) (each f ks) ≡ None → has a ks ≡ false
    each-none f a ks none = found-or (has a ks) (f a) (sym (each-has f a ks) ∙ none)

    pub each-some : (f : K → X) (a : K) (ks : List K) (x : X) → lookup (is_at (cmp a)) (each f ks) ≡ Some x → (has a ks ≡ true) × (x ≡ f a)
    each-some f a ks x found = found-is (has a ks) (f a) x (sym (each-has f a ks) ∙ found)

    -- it is the same of functions that give the same
    pub each-alike : (f g : K → X) (ks : List K) → ((k : K) → g k ≡ f k) → each f ks ≡ each g ks
    each-alike f g [] same_as = refl
    each-alike f g (k ∷ ks) same_as =
        ap (λ (x : X). (k, x) ∷ each f ks) (sym (same_as k)) ∙ ap (λ (es : List (K × X)). (k, g k) ∷ es) (each-alike f g ks same_as)

    -- ---- something else at one key

    each-after : (f g : K → X) (a : K) (ks : List K) → AreAfter a ks → ((k : K) → same a k ≡ false → g k ≡ f k) → each f ks ≡ each g ks
    each-after f g a [] h rest = refl
    each-after f g a (k ∷ ks) h rest =
        ap (λ (x : X). (k, x) ∷ each f ks) (sym (rest k (apart a k h.0))) ∙ ap (λ (es : List (K × X)). (k, g k) ∷ es) (each-after f g a ks h.1 rest)

    each-here : (f g : K → X) (a k : K) (ks : List K) → a ≡ k → AreAfter k ks → ((c : K) → same a c ≡ false → g c ≡ f c) → (k, g a) ∷ each f ks ≡ each g (put a (k ∷ ks))
    each-here f g a k ks e h rest =
        ap (λ (c : K). (k, g c) ∷ each f ks) e
        ∙ ap (λ (es : List (K × X)). (k, g k) ∷ es) (each-after f g k ks h (λ c. λ d. rest c (ap (λ (b : K). same b c) e ∙ d)))
        ∙ ap (each g) (sym (put-here a k ks e))

    each-past : (f g : K → X) (a k : K) (ks : List K) (es : List (K × X)) → before k a ≡ true → ((c : K) → same a c ≡ false → g c ≡ f c)
        → es ≡ each g (put a ks) → (k, f k) ∷ es ≡ each g (put a (k ∷ ks))
    each-past f g a k ks es e rest ih =
        ap (λ (x : X). (k, x) ∷ es) (sym (rest k (apart-back a k e))) ∙ ap (λ (l : List (K × X)). (k, g k) ∷ l) ih
        ∙ ap (each g) (sym (put-past a k ks e))

    pub each-inserted : (f g : K → X) (a : K) (ks : List K) → AreRising ks → ((k : K) → same a k ≡ false → g k ≡ f k)
        → insert_entry cmp (each f ks) a (g a) ≡ each g (put a ks)
    each-inserted f g a [] h rest = ap (each g) (sym (o.put_nil a))
    each-inserted f g a (k ∷ ks) h rest = elim (three a k) [
      | inl e ↦
          let none : before a k ≡ false = ap (before a) (sym e) ∙ o.irrefl a in
          let is : same a k ≡ true = ap (same a) (sym e) ∙ o.itself a in
          rw (o.compares a k, none, is) (each-here f g a k ks e h.0 rest)
      | inr (inl e) ↦ rw (o.compares a k, e)
          (ap (λ (es : List (K × X)). (a, g a) ∷ es) (each-after f g a (k ∷ ks) (e, after-earlier a k ks e h.0) rest) ∙ ap (each g) (sym (put-before a k ks e)))
      | inr (inr e) ↦ rw (o.compares a k, not-after k a e, apart-back a k e)
          (each-past f g a k ks (insert_entry cmp (each f ks) a (g a)) e rest (each-inserted f g a ks h.1 rest))
    ]

    pub each-set : (f g : K → X) (a : K) (ks : List K) → AreRising ks → has a ks ≡ true → ((k : K) → same a k ≡ false → g k ≡ f k)
        → set_value (is_at (cmp a)) (each f ks) (g a) ≡ each g (put a ks)
    each-set f g a [] h there rest = cc
    each-set f g a (k ∷ ks) h there rest = elim (three a k) [
      | inl e ↦
          let is : same a k ≡ true = ap (same a) (sym e) ∙ o.itself a in
          rw (at-same a k, is) (each-here f g a k ks e h.0 rest)
      | inr (inl e) ↦ absurd (false≢true (sym (none-before a (k ∷ ks) (e, after-earlier a k ks e h.0)) ∙ there))
      | inr (inr e) ↦
          let later : has a ks ≡ true = ap (λ (b : Bool). b || has a ks) (sym (apart-back a k e)) ∙ there in
          rw (at-same a k, apart-back a k e)
          (each-past f g a k ks (set_value (is_at (cmp a)) (each f ks) (g a)) e rest (each-set f g a ks h.1 later rest))
    ]
