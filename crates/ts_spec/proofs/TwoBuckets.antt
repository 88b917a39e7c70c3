-- Of the buckets that a deletion overlaps, only the first and the last can keep samples. So it recomputes at most two
-- rows.
use Rattle.std.proofs.Common.{◌≡◌, ◌≢◌, ℕ, ◌<◌, ◌≤◌, Bool, true, false, cond, not, ◌==◌, nat_le, List, [], ◌∷◌, ◌⊎◌, inl, inr, refl, sym, ap, ◌∙◌, arith, eqb-true, leb-true, le-leb}
use Rattle.std.proofs.lemmas.Bool.{cases_lt, false≢true, and_parts, and_from}
use Rattle.ts_spec.specs.Sample.{Point, between, outside, is_within}
use Rattle.ts_spec.specs.Bucket.{Grid, start, members}
use Rattle.ts_spec.specs.Rules.{is_past}
use Rattle.ts_spec.specs.StoredSeries.{StoredRule}
use Rattle.ts_spec.specs.StoredUpdates.{lies_in, loses}
use Rattle.ts_spec.proofs.Buckets.{start-order}

-- ---- the samples that are left

-- a time of the interval in the bucket that starts there
pub record IsMet (g : Grid) (from to b : ℕ) : Type 0 where
  pub time : ℕ
  pub low : from ≤ time
  pub up : time ≤ to
  pub lies : start g time ≡ b

pub met : (g : Grid) (from to b : ℕ) (ps : List Point) → lies_in g (between from to ps) b ≡ true → IsMet g from to b
met g from to b [] h = absurd (false≢true h)
met g from to b (p ∷ ps) h = go (is_within from to p.time) refl (start g p.time == b) refl h (met g from to b ps)
  where
    go : (x : Bool) → is_within from to p.time ≡ x → (y : Bool) → (start g p.time == b) ≡ y → lies_in g (cond x (p ∷ between from to ps) (between from to ps)) b ≡ true →
        (lies_in g (between from to ps) b ≡ true → IsMet g from to b) → IsMet g from to b
    go true e true f k ih =
        let parts : (nat_le from p.time ≡ true) × (nat_le p.time to ≡ true) = and_parts (nat_le from p.time) (nat_le p.time to) e in
        record { time = p.time; low = leb-true from p.time parts.0; up = leb-true p.time to parts.1; lies = eqb-true (start g p.time) b f }
    go true e false f k ih = ih (rw f at k)
    go false e y f k ih = ih k

-- a time outside the interval whose bucket overlaps it is in the first bucket or in the last
pub met-outside : (g : Grid) (from to b t : ℕ) → IsMet g from to b → is_within from to t ≡ false → start g t ≡ b → (b ≡ start g from) ⊎ (b ≡ start g to)
met-outside g from to b t x e s = go (cases_lt t from) (cases_lt to t)
  where
    go : (t < from) ⊎ (from ≤ t) → (to < t) ⊎ (t ≤ to) → (b ≡ start g from) ⊎ (b ≡ start g to)
    go (inl y) z =
        let one : start g t ≤ start g from = start-order g t from (omega arith) in
        let two : start g from ≤ start g x.time = start-order g from x.time x.low in
        let lies : start g x.time ≡ b = x.lies in
        inl (omega arith)
    go (inr y) (inl z) =
        let one : start g to ≤ start g t = start-order g to t (omega arith) in
        let two : start g x.time ≤ start g to = start-order g x.time to x.up in
        let lies : start g x.time ≡ b = x.lies in
        inr (omega arith)
    go (inr y) (inr z) = absurd (false≢true (sym e ∙ and_from (nat_le from t) (nat_le t to) (le-leb from t y) (le-leb t to z)))

-- An overlapped bucket that is neither that of `from` nor that of `to` has no sample left.
pub emptied : (g : Grid) (from to b : ℕ) (ps : List Point) → lies_in g (between from to ps) b ≡ true → b ≢ start g from → b ≢ start g to →
    members g b (outside from to ps) ≡ []
emptied g from to b ps touched not_first not_last = all ps
  where
    all : (qs : List Point) → members g b (outside from to qs) ≡ []
    all [] = refl
    all (q ∷ qs) = go (is_within from to q.time) refl (start g q.time == b) refl (all qs)
      where
        no : (b ≡ start g from) ⊎ (b ≡ start g to) → ⊥
        no (inl x) = not_first x
        no (inr x) = not_last x

        go : (x : Bool) → is_within from to q.time ≡ x → (y : Bool) → (start g q.time == b) ≡ y → members g b (outside from to qs) ≡ [] →
            members g b (cond (not x) (q ∷ outside from to qs) (outside from to qs)) ≡ []
        go true e y f ih = ih
        go false e true f ih = absurd (no (met-outside g from to b q.time (met g from to b ps touched) e (eqb-true (start g q.time) b f)))
        go false e false f ih = ap (λ (y : Bool). cond y (q ∷ members g b (outside from to qs)) (members g b (outside from to qs))) f ∙ ih

-- The overlapped buckets start between the first and the last.
pub touched-within : (g : Grid) (from to b : ℕ) (ps : List Point) → lies_in g (between from to ps) b ≡ true → is_within (start g from) (start g to) b ≡ true
touched-within g from to b ps touched =
    let x : IsMet g from to b = met g from to b ps touched in
    let one : start g from ≤ start g x.time = start-order g from x.time x.low in
    let two : start g x.time ≤ start g to = start-order g x.time to x.up in
    let lies : start g x.time ≡ b = x.lies in
    and_from (nat_le (start g from) b) (nat_le b (start g to)) (le-leb (start g from) b (omega arith)) (le-leb b (start g to) (omega arith))

pub loses-within : (q : StoredRule) (from to b : ℕ) (ps : List Point) → loses (between from to ps) q b ≡ true → is_within (start q.grid from) (start q.grid to) b ≡ true
loses-within q from to b ps x = touched-within q.grid from to b ps (and_parts (is_past q.current b) (lies_in q.grid (between from to ps) b) x).1
