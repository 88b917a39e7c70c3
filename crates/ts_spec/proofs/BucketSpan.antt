-- The samples of a bucket are contiguous in an ascending list.
use Rattle.std.proofs.Common.{◌≡◌, ℕ, ◌≤◌, Bool, true, false, ◌==◌, nat_le, if◌then◌else◌, List, Option, Some, None, refl, sym, ◌∙◌, arith, eqb-true, eq-eqb, leb-true, le-leb}
use Rattle.std.proofs.lemmas.Bool.{false≢true, and_parts, and_from}
use Rattle.ts_spec.specs.Sample.{Point, IsAscending, at, between, is_within}
use Rattle.ts_spec.specs.Bucket.{Grid, start, members}
use Rattle.ts_spec.proofs.Buckets.{start-le, start-start, start-order}
use Rattle.ts_spec.proofs.Samples.{at-times, ascending-times, ascending-same}

-- The members of the bucket of a time are the samples between its start and its last time. A bucket that would begin
-- before time 0, or
-- end past MAX_TIME, is shorter than its duration: so its last time is not told by that.
pub members-between : (g : Grid) (t last : ℕ) (ps : List Point) → 1 ≤ g.duration → IsAscending ps → start g last ≡ start g t →
    ((u : ℕ) (p : Point) → at u ps ≡ Some p → start g u ≡ start g t → u ≤ last) → members g (start g t) ps ≡ between (start g t) last ps
members-between g t last ps h a same latest =
    ascending-same (members g (start g t) ps) (between (start g t) last ps) (ascending-times (λ u. start g u == start g t) ps a) (ascending-times (is_within (start g t) last) ps a)
    (λ u. at-times u (λ w. start g w == start g t) ps ∙ go u (at u ps) refl (start g u == start g t) refl (is_within (start g t) last u) refl ∙ sym (at-times u (is_within (start g t) last) ps))
  where
    inside : (u : ℕ) → is_within (start g t) last u ≡ true → start g u ≡ start g t
    inside u e =
        let parts : (nat_le (start g t) u ≡ true) × (nat_le u last ≡ true) = and_parts (nat_le (start g t) u) (nat_le u last) e in
        let one : start g (start g t) ≤ start g u = start-order g (start g t) u (leb-true (start g t) u parts.0) in
        let two : start g u ≤ start g last = start-order g u last (leb-true u last parts.1) in
        let three : start g (start g t) ≡ start g t = start-start g t (omega arith) in
        omega arith

    lies : (u : ℕ) (p : Point) → at u ps ≡ Some p → start g u ≡ start g t → is_within (start g t) last u ≡ true
    lies u p x e =
        let low : start g u ≤ u = start-le g u (omega arith) in
        and_from (nat_le (start g t) u) (nat_le u last) (le-leb (start g t) u (omega arith)) (le-leb u last (latest u p x e))

    go : (u : ℕ) (o : Option Point) → at u ps ≡ o → (b : Bool) → (start g u == start g t) ≡ b → (c : Bool) → is_within (start g t) last u ≡ c → (if b then at u ps else None) ≡ (if c then at u ps else None)
    go u o x true e true f = refl
    go u o x false e false f = refl
    go u None x true e false f = x
    go u None x false e true f = sym x
    go u (Some p) x true e false f = absurd (false≢true (sym f ∙ lies u p x (eqb-true (start g u) (start g t) e)))
    go u (Some p) x false e true f = absurd (false≢true (sym e ∙ eq-eqb (start g u) (start g t) (inside u f)))
