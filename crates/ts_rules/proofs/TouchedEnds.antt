-- Whether the first and the last bucket of a deletion lose a sample, and the rows of both.
use Rattle.std.proofs.Common.{◌≡◌, ℕ, suc, ◌<◌, ◌≤◌, Bool, true, false, ◌&&◌, ◌||◌, ◌==◌, max, nat_lt, cond, if◌then◌else◌, List, [], ◌∷◌, ◌++◌, length, refl, sym, ap, ◌∙◌, arith, eqb-true, eq-eqb, lt-ltb}
use Rattle.std.proofs.lemmas.Bool.{false≢true}
use Rattle.ts_spec.specs.Sample.{Point, IsAfter, IsAscending, at_times, between, is_within}
use Rattle.ts_spec.specs.Bucket.{Grid, start}
use Rattle.ts_spec.specs.Aggregate.{Summary}
use Rattle.ts_spec.specs.Rules.{is_past}
use Rattle.ts_spec.specs.StoredUpdates.{bucket_row, recounted_bucket, lies_in}
use Rattle.ts_spec.proofs.Buckets.{start-le, start-order, start-start}
use Rattle.ts_spec.proofs.TwoRows.{two-rows}
use Rattle.ts_series.specs.History.{History, list_of}
use Rattle.ts_rules.specs.declared.rule.Rule.{Rule}
use Rattle.ts_rules.specs.Rules.{stored_rule_for}
use Rattle.ts_rules.specs.Deletions.{gone_of, left_of, rows_left}
use Rattle.ts_rules.specs.Ends.{is_first_in}
use Rattle.ts_rules.proofs.Meeting.{lies-past}
use Rattle.ts_rules.proofs.Times.{within, within-from, within-to, true-unless}

after-times : (u : ℕ) (test : ℕ → Bool) (ps : List Point) → IsAfter u ps → IsAfter u (at_times test ps)
after-times u test [] a = tt
after-times u test (p ∷ ps) a = go (test p.time) (after-times u test ps a.1)
  where
    go : (x : Bool) → IsAfter u (at_times test ps) → IsAfter u (cond x (p ∷ at_times test ps) (at_times test ps))
    go true ih = (a.0, ih)
    go false ih = ih

-- The first bucket has one where the first of them is in it.
pub lies-first : (g : Grid) (from to : ℕ) (ps : List Point) → IsAscending ps → is_first_in g (start g from) (between from to ps) ≡ lies_in g (between from to ps) (start g from)
lies-first g from to [] a = refl
lies-first g from to (p ∷ ps) a = go (is_within from to p.time) refl (lies-first g from to ps a.1)
  where
    here : from ≤ p.time → (x : Bool) → (start g p.time == start g from) ≡ x → x ≡ (x || lies_in g (between from to ps) (start g from))
    here low true e = refl
    here low false e =
        let rises : start g from ≤ start g p.time = start-order g from p.time low in
        let past : start g from < start g p.time = beyond (start g p.time) (start g from) e rises in
        sym (lies-past g (start g from) (between from to ps) p.time (after-times p.time (is_within from to) ps a.0) past)
      where
        beyond : (b c : ℕ) → (b == c) ≡ false → c ≤ b → c < b
        beyond b c f h = let other : b ≡ c → ⊥ = λ k. false≢true (sym f ∙ eq-eqb b c k) in omega (arith, other, h)

    go : (x : Bool) → is_within from to p.time ≡ x → is_first_in g (start g from) (between from to ps) ≡ lies_in g (between from to ps) (start g from) →
        is_first_in g (start g from) (cond x (p ∷ between from to ps) (between from to ps)) ≡ lies_in g (cond x (p ∷ between from to ps) (between from to ps)) (start g from)
    go true e ih = here (within-from from to p.time e) (start g p.time == start g from) refl
    go false e ih = ih

-- The last bucket has one where there is one from its start on.
abbrev late : (g : Grid) (from to : ℕ) → List Point → List Point
late g from to ps = between (max (start g to) from) to ps

pub lies-last : (g : Grid) (from to : ℕ) (ps : List Point) → 1 ≤ g.duration → nat_lt 0 (length (between (max (start g to) from) to ps)) ≡ lies_in g (between from to ps) (start g to)
lies-last g from to [] some = refl
lies-last g from to (p ∷ ps) some = go (is_within from to p.time) refl (start g p.time == start g to) refl (lies-last g from to ps some)
  where
    none-late : (is_within (max (start g to) from) to p.time ≡ true → ⊥) → nat_lt 0 (length (late g from to ps)) ≡ nat_lt 0 (length (between (max (start g to) from) to (p ∷ ps)))
    none-late never = ap (λ (x : Bool). nat_lt 0 (length (cond x (p ∷ late g from to ps) (late g from to ps)))) (sym (true-unless (is_within (max (start g to) from) to p.time) never))

    go : (x : Bool) → is_within from to p.time ≡ x → (y : Bool) → (start g p.time == start g to) ≡ y → nat_lt 0 (length (late g from to ps)) ≡ lies_in g (between from to ps) (start g to) →
        nat_lt 0 (length (between (max (start g to) from) to (p ∷ ps))) ≡ lies_in g (cond x (p ∷ between from to ps) (between from to ps)) (start g to)
    go false e y f ih =
        sym (none-late (λ h. (let low : max (start g to) from ≤ p.time = within-from (max (start g to) from) to p.time h in
        absurd (false≢true (sym e ∙ within from to p.time (omega (arith, low)) (within-to (max (start g to) from) to p.time h)))))) ∙ ih
    go true e true f ih =
        let same : start g p.time ≡ start g to = eqb-true (start g p.time) (start g to) f in
        let upto : start g p.time ≤ p.time = start-le g p.time some in
        let since : from ≤ p.time = within-from from to p.time e in
        ap (λ (x : Bool). nat_lt 0 (length (cond x (p ∷ late g from to ps) (late g from to ps)))) (within (max (start g to) from) to p.time (omega (arith, same, upto, since)) (within-to from to p.time e))
        ∙ lt-ltb 0 (suc (length (late g from to ps))) (omega arith)
        ∙ sym (ap (λ (x : Bool). x || lies_in g (between from to ps) (start g to)) f)
    go true e false f ih =
        sym (none-late (λ h. (let low : max (start g to) from ≤ p.time = within-from (max (start g to) from) to p.time h in
        let one : start g (start g to) ≤ start g p.time = start-order g (start g to) p.time (omega (arith, low)) in
        let two : start g p.time ≤ start g to = start-order g p.time to (within-to from to p.time e) in
        let same : start g (start g to) ≡ start g to = start-start g to some in
        absurd (false≢true (sym f ∙ eq-eqb (start g p.time) (start g to) (omega (arith, one, two, same)))))))
        ∙ ih ∙ sym (ap (λ (x : Bool). x || lies_in g (between from to ps) (start g to)) f)

-- ---- the rows of both

and-order : {X : Type 0} (x y : Bool) (one none : X) → (if x && y then one else none) ≡ (if y && x then one else none)
and-order true true one none = refl
and-order true false one none = refl
and-order false true one none = refl
and-order false false one none = refl

module _ (r : Rule) (source : History) (from to born : ℕ) (order : from ≤ to) (ascending : IsAscending (list_of source)) (some : 1 ≤ r.grid.duration) where
  abbrev lost : ℕ → Bool
  lost b = lies_in r.grid (gone_of source from to) b

  pub ends-are : (first last : ℕ) (gone one two : List Point) (early late : Summary) (x y : Bool) → first ≡ start r.grid from → last ≡ start r.grid to → gone ≡ gone_of source from to →
      early ≡ recounted_bucket (stored_rule_for [] r) (start r.grid from) (left_of source from to) → late ≡ recounted_bucket (stored_rule_for [] r) (start r.grid to) (left_of source from to) →
      x ≡ is_first_in r.grid first gone → y ≡ nat_lt 0 (length (between (max last from) to (list_of source))) →
      one ≡ (if x && is_past r.current first then bucket_row r.agg born first early else []) →
      two ≡ (if first == last then [] else (if y && is_past r.current last then bucket_row r.agg born last late else [])) → one ++ two ≡ rows_left r source from to born
  ends-are first last gone one two early late x y begins ends is_gone is_early is_late is_x is_y is_one is_two =
      (λ i. first-row i ++ last-row i) ∙ sym (two-rows from to (list_of source) born (stored_rule_for [] r) order ascending)
    where
      first-x : x ≡ lost (start r.grid from)
      first-x = is_x ∙ (λ i. is_first_in r.grid (begins i) (is_gone i)) ∙ lies-first r.grid from to (list_of source) ascending

      last-y : y ≡ lost (start r.grid to)
      last-y = is_y ∙ ap (λ b. nat_lt 0 (length (between (max b from) to (list_of source)))) ends ∙ lies-last r.grid from to (list_of source) some

      first-row : one ≡ (if is_past r.current (start r.grid from) && lost (start r.grid from) then bucket_row r.agg born (start r.grid from) (recounted_bucket (stored_rule_for [] r) (start r.grid from) (left_of source from to)) else [])
      first-row =
          is_one ∙ (λ i. if first-x i && is_past r.current (begins i) then bucket_row r.agg born (begins i) (is_early i) else [])
          ∙ and-order (lost (start r.grid from)) (is_past r.current (start r.grid from)) (bucket_row r.agg born (start r.grid from) (recounted_bucket (stored_rule_for [] r) (start r.grid from) (left_of source from to))) []

      last-row : two ≡ (if start r.grid from == start r.grid to then []
          else (if is_past r.current (start r.grid to) && lost (start r.grid to) then bucket_row r.agg born (start r.grid to) (recounted_bucket (stored_rule_for [] r) (start r.grid to) (left_of source from to)) else []))
      last-row =
          is_two ∙ (λ i. if begins i == ends i then [] else (if last-y i && is_past r.current (ends i) then bucket_row r.agg born (ends i) (is_late i) else []))
          ∙ ap (λ (row : List Point). if start r.grid from == start r.grid to then [] else row)
          (and-order (lost (start r.grid to)) (is_past r.current (start r.grid to)) (bucket_row r.agg born (start r.grid to) (recounted_bucket (stored_rule_for [] r) (start r.grid to) (left_of source from to))) [])
