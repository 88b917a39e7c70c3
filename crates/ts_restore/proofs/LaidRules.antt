-- A rule whose counted samples are laid into its open bucket is sound, and has the stored form that it was made from.
use Rattle.std.proofs.Common.{◌≡◌, ℕ, suc, ◌+◌, ◌<◌, ◌≤◌, Bool, true, false, cond, nat_le, if◌then◌else◌, ◌==◌, List, [], ◌∷◌, length, Some, option_map, refl, sym, ap, ◌∙◌, subst, arith, le-leb}
use Rattle.std.specs.Prelude.{ℤ}
use Rattle.std.proofs.lemmas.Bool.Decides.{nat_tests}
use Rattle.ts_spec.specs.Sample.{Point, IsAfter, IsAscending, at}
use Rattle.ts_spec.specs.Bucket.{Grid, start, members}
use Rattle.ts_spec.specs.State.{Rule}
use Rattle.ts_spec.specs.Valid.{Every}
use Rattle.ts_spec.proofs.Buckets.{start-mono, start-start}
use Rattle.ts_restore.specs.Laid.{laid}
use Rattle.ts_restore.specs.Restored.{last_since}
use Rattle.ts_restore.proofs.OpenRules.{AllOpen}

laid-after : (t from made : ℕ) (vs : List ℤ) → t < from → IsAfter t (laid from made vs)
laid-after t from made [] h = tt
laid-after t from made (v ∷ vs) h = (h, laid-after t (suc from) made vs (omega arith))

pub laid-ascending : (from made : ℕ) (vs : List ℤ) → IsAscending (laid from made vs)
laid-ascending from made [] = tt
laid-ascending from made (v ∷ vs) = (laid-after from (suc from) made vs (omega arith), laid-ascending (suc from) made vs)

-- a laid sample lies between the first time and the last one
pub record IsLaid (from made to : ℕ) (p : Point) : Type 0 where
  pub first : from ≤ p.time
  pub last : p.time < to
  pub number : p.made ≡ made

pub one-laid : (from made to t : ℕ) (p : Point) (vs : List ℤ) → from + length vs ≤ to → at t (laid from made vs) ≡ Some p → IsLaid from made to p
one-laid from made to t p [] h e = absurd (cc e)
one-laid from made to t p (v ∷ vs) h e = go (from == t) (λ x. one-laid (suc from) made to t p vs (omega arith) x) e
  where
    go : (b : Bool) → (at t (laid (suc from) made vs) ≡ Some p → IsLaid (suc from) made to p) →
        cond b (Some (record { time = from; value = v; made = made })) (at t (laid (suc from) made vs)) ≡ Some p → IsLaid from made to p
    go true rest x =
        let is : record { time = from; value = v; made = made } ≡ p = cc x in
        let time : from ≡ p.time = ap (λ (q : Point). q.time) is in
        let number : made ≡ p.made = ap (λ (q : Point). q.made) is in
        record { first = omega arith; last = omega arith; number = sym number }
    go false rest x =
        let r : IsLaid (suc from) made to p = rest x in
        let a : suc from ≤ p.time = r.first in
        record { first = omega arith; last = r.last; number = r.number }

-- a time between the start of a bucket and a time in it is in it
pub within-bucket : (g : Grid) (b t u : ℕ) → 1 ≤ g.duration → start g t ≡ b → b ≤ u → u ≤ t → start g u ≡ b
within-bucket g b t u h e low up =
    let again : start g b ≡ b = ap (start g) (sym e) ∙ start-start g t (omega arith) ∙ e in
    let one : start g b ≤ start g u = start-mono g b u (omega arith) low in
    let two : start g u ≤ start g t = start-mono g u t (omega arith) up in
    omega arith

-- the laid samples are in the open bucket
pub laid-open : (r : Rule) (b t from made : ℕ) (vs : List ℤ) → 1 ≤ r.grid.duration → r.top ≡ Some t → start r.grid t ≡ b → b ≤ from → from + length vs ≤ suc t → AllOpen r (laid from made vs)
laid-open r b t from made [] h e s low up = tt
laid-open r b t from made (v ∷ vs) h e s low up =
    let here : start r.grid from ≡ b = within-bucket r.grid b t from h s low (omega arith) in
    (ap (option_map (start r.grid)) e ∙ ap (λ (n : ℕ). Some n) (s ∙ sym here), laid-open r b t (suc from) made vs h e s (omega arith) (omega arith))

pub laid-members : (g : Grid) (b t from made : ℕ) (vs : List ℤ) → 1 ≤ g.duration → start g t ≡ b → b ≤ from → from + length vs ≤ suc t → members g b (laid from made vs) ≡ laid from made vs
laid-members g b t from made [] h s low up = refl
laid-members g b t from made (v ∷ vs) h s low up =
    let here : start g from ≡ b = within-bucket g b t from h s low (omega arith) in
    let test : (start g from == b) ≡ true = grind (arith, nat_tests) in
    ap (λ (x : Bool). cond x (record { time = from; value = v; made = made } ∷ members g b (laid (suc from) made vs)) (members g b (laid (suc from) made vs))) test
    ∙ ap (λ (ps : List Point). record { time = from; value = v; made = made } ∷ ps) (laid-members g b t (suc from) made vs h s (omega arith) (omega arith))

-- ---- the last sample that was written since a rule was created

pub last-low : (made low : ℕ) (ps : List Point) → low ≤ last_since made low ps
last-low made low [] = omega arith
last-low made low (p ∷ ps) = let ih : low ≤ last_since made low ps = last-low made low ps in omega arith

pub last-all : (made low : ℕ) (ps : List Point) → Every (λ p. made ≤ p.made → p.time ≤ last_since made low ps) ps
last-all made low [] t p e since = absurd (cc e)
last-all made low (q ∷ qs) t p e since = go (q.time == t) (λ x. last-all made low qs t p x since) e
  where
    go : (b : Bool) → (at t qs ≡ Some p → p.time ≤ last_since made low qs) → cond b (Some q) (at t qs) ≡ Some p → p.time ≤ last_since made low (q ∷ qs)
    go false ih x = let rest : p.time ≤ last_since made low qs = ih x in omega arith
    go true ih x =
        let is : q ≡ p = cc x in
        let time : q.time ≡ p.time = ap (λ (r : Point). r.time) is in
        let number : made ≤ q.made = subst (λ (r : Point). made ≤ r.made) (sym is) since in
        let here : (if nat_le made q.made then q.time else low) ≡ q.time = ap (λ (b : Bool). if b then q.time else low) (le-leb made q.made number) in
        omega arith
