-- A rule that counts samples in its open bucket alone writes no row, hides no sample and drops none.
use Rattle.std.proofs.Common.{◌≡◌, ℕ, Bool, true, false, cond, not, ◌&&◌, ◌==◌, nat_lt, nat_le, if◌then◌else◌, List, [], ◌∷◌, map, filter, Option, Some, refl, sym, ap, ◌∙◌, arith}
use Rattle.std.specs.Bool.{⊤}
use Rattle.std.proofs.Math.Bool.{and-true}
use Rattle.std.proofs.lemmas.Bool.Decides.{nat_tests}
use Rattle.ts_spec.specs.Sample.{Point, at_times, put_all}
use Rattle.ts_spec.specs.Bucket.{start, starts, with_start}
use Rattle.ts_spec.specs.State.{Rule, Record, edge, edge_of}
use Rattle.ts_spec.specs.Rules.{tidied_by, risen, expired, shown_by, open_of, is_past, is_closed, has_row_of, bucket_sample, closed_rows}
use Rattle.ts_spec.proofs.Unmoved.{times-same}
use Rattle.ts_spec.proofs.Shows.{has, has-told}

-- each of these samples is in the open bucket of the rule
abbrev pub AllOpen : Rule → List Point → Type 0
AllOpen r [] = ⊤
AllOpen r (p ∷ ps) = (open_of r ≡ Some (start r.grid p.time)) × AllOpen r ps

open-not-closed : (r : Rule) (b : ℕ) → open_of r ≡ Some b → is_closed r b ≡ false
open-not-closed r b e = ap (λ (o : Option ℕ). is_past o b) e ∙ grind (arith, nat_tests)

none-closed : (r : Rule) (ps : List Point) → AllOpen r ps → filter (is_closed r) (starts r.grid ps) ≡ []
none-closed r [] all = refl
none-closed r (p ∷ ps) all = go (starts r.grid ps) (none-closed r ps all.1)
  where
    not : is_closed r (start r.grid p.time) ≡ false
    not = open-not-closed r (start r.grid p.time) all.0

    both : (b : Bool) (c : ℕ) (cs : List ℕ) → filter (is_closed r) (c ∷ cs) ≡ [] → filter (is_closed r) (if b then c ∷ cs else start r.grid p.time ∷ c ∷ cs) ≡ []
    both true c cs ih = ih
    both false c cs ih = ap (λ (x : Bool). cond x (start r.grid p.time ∷ filter (is_closed r) (c ∷ cs)) (filter (is_closed r) (c ∷ cs))) not ∙ ih

    go : (bs : List ℕ) → filter (is_closed r) bs ≡ [] → filter (is_closed r) (with_start (start r.grid p.time) bs) ≡ []
    go [] ih = ap (λ (x : Bool). cond x (start r.grid p.time ∷ []) []) not
    go (c ∷ cs) ih = both (start r.grid p.time == c) c cs ih

no-row : (r : Rule) (t : ℕ) → AllOpen r r.seen → has_row_of r t ≡ false
no-row r t all = sym (has-told r t) ∙ ap (λ (bs : List ℕ). has bs t) (none-closed r r.seen all)

no-rows : (r : Rule) (born : ℕ) → AllOpen r r.seen → closed_rows r born ≡ []
no-rows r born all = ap (map (bucket_sample r born)) (none-closed r r.seen all)

-- nothing of it expires
pub unexpired : (low : ℕ) (r : Rule) → AllOpen r r.seen → expired low r ≡ r
unexpired low r all = (λ i. record r { seen = stays (λ b. nat_lt b low) r.seen all i })
  where
    stays : (test : ℕ → Bool) (ps : List Point) → AllOpen r ps → at_times (λ t. not (test (start r.grid t) && is_closed r (start r.grid t))) ps ≡ ps
    stays test [] x = refl
    stays test (p ∷ ps) x = go (test (start r.grid p.time)) (is_closed r (start r.grid p.time)) (open-not-closed r (start r.grid p.time) x.0) (stays test ps x.1)
      where
        go : (a b : Bool) → b ≡ false → at_times (λ t. not (test (start r.grid t) && is_closed r (start r.grid t))) ps ≡ ps →
            cond (not (a && b)) (p ∷ at_times (λ t. not (test (start r.grid t) && is_closed r (start r.grid t))) ps) (at_times (λ t. not (test (start r.grid t) && is_closed r (start r.grid t))) ps) ≡ p ∷ ps
        go true true e ih = absurd (cc e)
        go true false e ih = ap (λ (qs : List Point). p ∷ qs) ih
        go false b e ih = ap (λ (qs : List Point). p ∷ qs) ih

-- a destination stays as it is
pub tidy-open : (r : Rule) (d : Record) → AllOpen r r.seen → at_times (nat_le (edge d)) d.plain ≡ d.plain → tidied_by (Some r) d ≡ d
tidy-open r d all h = ap with_high (ap (risen d.high) (none-closed r r.seen all)) ∙ (λ i. record d { plain = plain i })
  where
    with_high : Option ℕ → Record
    with_high high = record d { high = high; plain = at_times (λ t. nat_le (edge_of d.options.retention high) t && not (has_row_of r t)) d.plain }

    plain : at_times (λ t. nat_le (edge d) t && not (has_row_of r t)) d.plain ≡ d.plain
    plain = times-same (λ t. nat_le (edge d) t && not (has_row_of r t)) (nat_le (edge d)) d.plain (λ t. ap (λ (x : Bool). nat_le (edge d) t && not x) (no-row r t all) ∙ and-true (nat_le (edge d) t)) ∙ h

-- and shows what it showed
pub shown-open : (r : Rule) (d : Record) → AllOpen r r.seen → at_times (nat_le (edge d)) d.plain ≡ d.plain → shown_by (Some r) d ≡ d.plain
shown-open r d all h = ap (λ (qs : List Point). at_times (nat_le (edge d)) (put_all qs d.plain)) (no-rows r d.born all) ∙ h
