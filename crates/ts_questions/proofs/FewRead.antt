-- The first samples of an interval, read one by one; and the last one.
use Rattle.std.proofs.Common.{◌≡◌, ℕ, zero, suc, ◌<◌, ◌≤◌, Bool, true, false, cond, List, [], ◌∷◌, ◌++◌, map, take, drop, refl, sym, ◌∙◌, ap, subst, append_assoc, append-nil, arith}
use Rattle.std.specs.Prelude.{nat_le, reverse, None, Some}
use Rattle.std.proofs.lemmas.Bool.Decides.{nat_tests}
use Rattle.std.proofs.lemmas.List.{map-append, reverse-append}
use Rattle.std.proofs.lemmas.List.Elements.{filter-append}
use Rattle.ts_spec.specs.Answer.{Row, row_of}
use Rattle.ts_spec.specs.Sample.{Point, IsAfter, IsAscending, at_times, is_within, between, first_of, last_of}
use Rattle.ts_sample.proofs.Between.{filter-filter}

-- the rows of the samples up to a time
abbrev pub upto : ℕ → List Point → List Row
upto to ps = map row_of (at_times (λ t. nat_le t to) ps)

-- what was handed on, and what of the samples not read yet is still wanted, are all rows
pub record Reads (has : List Row → Type 0) (all : List Row) (to left : ℕ) (rest : List Point) : Type 0 where
  pub done : List Row
  pub emitted : has done
  pub split : all ≡ done ++ take left (upto to rest)
  pub rises : IsAscending rest

past : (t u to : ℕ) → t < u → to ≤ t → nat_le u to ≡ true → ⊥
past t u to less le is = grind (arith, nat_tests)

none-after : (t to : ℕ) → to ≤ t → (ps : List Point) → IsAfter t ps → at_times (λ u. nat_le u to) ps ≡ []
none-after t to le [] after = refl
none-after t to le (p ∷ ps) after = go (nat_le p.time to) refl (none-after t to le ps after.1)
  where
    go : (b : Bool) → nat_le p.time to ≡ b → at_times (λ u. nat_le u to) ps ≡ [] → cond b (p ∷ at_times (λ u. nat_le u to) ps) (at_times (λ u. nat_le u to) ps) ≡ []
    go true is none = absurd (past t p.time to after.0 le is)
    go false is none = none

none-from : (to : ℕ) (p : Point) (ps : List Point) → to < p.time → IsAscending (p ∷ ps) → upto to (p ∷ ps) ≡ []
none-from to p ps less rises =
    let fails : nat_le p.time to ≡ false = grind (arith, nat_tests) in
    let none : at_times (λ u. nat_le u to) ps ≡ [] = none-after p.time to (omega arith) ps rises.0 in
    ap (λ (b : Bool). map row_of (cond b (p ∷ at_times (λ u. nat_le u to) ps) (at_times (λ u. nat_le u to) ps))) fails ∙ ap (map row_of) none

some-from : (to : ℕ) (p : Point) (ps : List Point) → p.time ≤ to → upto to (p ∷ ps) ≡ row_of p ∷ upto to ps
some-from to p ps le =
    let passes : nat_le p.time to ≡ true = grind (arith, nat_tests) in
    ap (λ (b : Bool). map row_of (cond b (p ∷ at_times (λ u. nat_le u to) ps) (at_times (λ u. nat_le u to) ps))) passes

take-none : (left : ℕ) (rows : List Row) → rows ≡ [] → take left rows ≡ []
take-none zero rows none = refl
take-none (suc left) [] none = refl
take-none (suc left) (r ∷ rs) none = absurd (cc none)

module _ (has : List Row → Type 0) (all : List Row) (to : ℕ) where
  done-all : (left : ℕ) (rest : List Point) → Reads has all to left rest → take left (upto to rest) ≡ [] → has all
  done-all left rest reads none = subst has (sym (reads.split ∙ ap (λ (rs : List Row). reads.done ++ rs) none ∙ append-nil reads.done)) reads.emitted

  -- no sample is left
  pub reads-none : (left : ℕ) (rest : List Point) → Reads has all to left rest → first_of rest ≡ None → has all
  reads-none left [] reads is = done-all left [] reads (take-none left [] refl)
  reads-none left (p ∷ ps) reads is = absurd (cc is)

  -- the next one is past the time
  pub reads-past : (left : ℕ) (rest : List Point) (p : Point) → Reads has all to left rest → first_of rest ≡ Some p → to < p.time → has all
  reads-past left [] p reads is less = absurd (cc is)
  reads-past left (q ∷ qs) p reads is less =
      let same : q ≡ p = cc is in
      done-all left (q ∷ qs) reads (take-none left (upto to (q ∷ qs)) (none-from to q qs (subst (λ (x : Point). to < x.time) (sym same) less) reads.rises))

  -- no more are wanted
  pub reads-all : (rest : List Point) → Reads has all to 0 rest → has all
  reads-all rest reads = done-all 0 rest reads refl

  -- the next one is handed on
  pub reads-more : (later : List Row → Type 0) (left : ℕ) (rest : List Point) (p : Point) (row : Row) → Reads has all to (suc left) rest → first_of rest ≡ Some p → p.time ≤ to → row ≡ row_of p
      → ((rows : List Row) → has rows → later (rows ++ row ∷ [])) → Reads later all to left (drop 1 rest)
  reads-more later left [] p row reads is le same taken = absurd (cc is)
  reads-more later left (q ∷ qs) p row reads is le same taken =
      let first : q ≡ p = cc is in
      let told : row ≡ row_of q = same ∙ ap row_of (sym first) in
      record {
        done = reads.done ++ row ∷ [];
        emitted = taken reads.done reads.emitted;
        split =
            reads.split
            ∙ ap (λ (rs : List Row). reads.done ++ take (suc left) rs) (some-from to q qs (subst (λ (x : Point). x.time ≤ to) (sym first) le))
            ∙ ap (λ (r : Row). reads.done ++ r ∷ take left (upto to qs)) (sym told)
            ∙ sym (append_assoc reads.done (row ∷ []) (take left (upto to qs)));
        rises = reads.rises.1;
      }

-- those from a time on, up to another, are those of the interval
pub upto-between : (from to : ℕ) (l : List Point) → upto to (at_times (nat_le from) l) ≡ map row_of (between from to l)
upto-between from to l = ap (map row_of) (filter-filter (λ (p : Point). nat_le p.time to) (λ (p : Point). nat_le from p.time) l)

-- a list ends with its last sample
ends-with : (l : List Point) (p : Point) → last_of l ≡ Some p → (front : List Point) × (l ≡ front ++ p ∷ [])
ends-with [] p is = absurd (cc is)
ends-with (q ∷ []) p is = ([], ap (λ (x : Point). x ∷ []) (cc is))
ends-with (q ∷ r ∷ rs) p is =
    let rest = ends-with (r ∷ rs) p is in
    (q ∷ rest.0, ap (λ (xs : List Point). q ∷ xs) rest.1)

-- the row of the last sample, where it is in the interval
pub last-row : (from to : ℕ) (l : List Point) (p : Point) → last_of l ≡ Some p → from ≤ p.time → p.time ≤ to → take 1 (reverse (map row_of (between from to l))) ≡ row_of p ∷ []
last-row from to l p is low high =
    let cut = ends-with l p is in
    let within : is_within from to p.time ≡ true = grind (arith, nat_tests) in
    let front = between from to cut.0 in
    let split : between from to l ≡ front ++ p ∷ [] =
    ap (between from to) cut.1 ∙ filter-append (λ (x : Point). is_within from to x.time) cut.0 (p ∷ [])
    ∙ ap (λ (b : Bool). front ++ cond b (p ∷ []) []) within in
    ap (λ (ps : List Point). take 1 (reverse (map row_of ps))) split
    ∙ ap (λ (rs : List Row). take 1 (reverse rs)) (map-append row_of front (p ∷ []))
    ∙ ap (take 1) (reverse-append (map row_of front) (row_of p ∷ []))
