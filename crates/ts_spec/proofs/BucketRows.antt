-- The row of a bucket, and the rows of a rule at each time.
use Rattle.std.proofs.Common.{◌≡◌, ℕ, ◌<◌, ◌≤◌, Bool, true, false, ◌&&◌, ◌==◌, nat_lt, if◌then◌else◌, List, [], ◌∷◌, Option, Some, None, refl, sym, ap, ◌∙◌, ltb-true, eqb-true, eq-eqb, ne_eqb, lt-ltb, le-ltb}
use Rattle.std.specs.Option.{option_or}
use Rattle.ts_spec.specs.declared.bucket.Aggregator.{Aggregator}
use Rattle.ts_spec.specs.Sample.{Point, at}
use Rattle.ts_spec.specs.Bucket.{members}
use Rattle.ts_spec.specs.Aggregate.{summary, aggregate}
use Rattle.ts_spec.specs.State.{Rule}
use Rattle.ts_spec.specs.Rules.{is_past, has_any, open_of}
use Rattle.ts_spec.specs.StoredUpdates.{bucket_row}
use Rattle.ts_spec.proofs.ShownAfter.{tells}
use Rattle.ts_spec.proofs.DeletedRules.{at-row, at-other_row}

-- ---- the row of a bucket

-- the sample of a bucket with these members, if there are any
abbrev pub row_over : Aggregator → (born b : ℕ) → List Point → Option Point
row_over agg born b ps = if has_any ps then Some (record { time = b; value = aggregate agg ps; made = born }) else None

pub at-bucket : (agg : Aggregator) (born b c : ℕ) (ps : List Point) → at c (bucket_row agg born b (summary ps)) ≡ (if b == c then row_over agg born b ps else None)
at-bucket agg born b c ps = go (b == c) refl
  where
    go : (x : Bool) → (b == c) ≡ x → at c (bucket_row agg born b (summary ps)) ≡ (if x then row_over agg born b ps else None)
    go true e = ap (λ (n : ℕ). at n (bucket_row agg born b (summary ps))) (sym (eqb-true b c e)) ∙ at-row agg born b ps
    go false e = at-other_row agg born b c (summary ps) e

-- the row of a rule at a time, by its open bucket
pub tells-row : (r : Rule) (born c : ℕ) → tells r born c ≡ (if is_past (open_of r) c then row_over r.agg born c (members r.grid c r.seen) else None)
tells-row r born c = go (is_past (open_of r) c)
  where
    go : (b : Bool) → (if b && has_any (members r.grid c r.seen) then Some (record { time = c; value = aggregate r.agg (members r.grid c r.seen); made = born }) else None) ≡
        (if b then row_over r.agg born c (members r.grid c r.seen) else None)
    go true = refl
    go false = refl

-- a list with a sample has one
pub any-at : (ps : List Point) (t : ℕ) (p : Point) → at t ps ≡ Some p → has_any ps ≡ true
any-at [] t p h = absurd (cc h)
any-at (q ∷ ps) t p h = refl

-- ---- tests of times

-- no number passes both tests
pub unmet : (a : Bool) (c b x : ℕ) → (c ≡ b → c < x → ⊥) → ((a && (c == b)) && nat_lt c x) ≡ false
unmet a c b x f = go a (c == b) (nat_lt c x) refl refl
  where
    go : (a y z : Bool) → (c == b) ≡ y → nat_lt c x ≡ z → ((a && y) && z) ≡ false
    go false y z u w = refl
    go true false z u w = refl
    go true true false u w = refl
    go true true true u w = absurd (f (eqb-true c b u) (ltb-true c x w))

-- the row at a time before the open bucket, and from it on
pub closed : (c o : ℕ) (x : Option Point) → c < o → (if nat_lt c o then x else None) ≡ x
closed c o x h = ap (λ (b : Bool). if b then x else None) (lt-ltb c o h)

pub unclosed : (c o : ℕ) (x : Option Point) → o ≤ c → (if nat_lt c o then x else None) ≡ None
unclosed c o x h = ap (λ (b : Bool). if b then x else None) (le-ltb c o h)

pub here-only : (b c : ℕ) (x : Option Point) → (b ≡ c → ⊥) → (if b == c then x else None) ≡ None
here-only b c x h = ap (λ (y : Bool). if y then x else None) (ne_eqb b c h)

pub here-same : (b c : ℕ) (x : Option Point) → b ≡ c → (if b == c then x else None) ≡ x
here-same b c x h = ap (λ (y : Bool). if y then x else None) (eq-eqb b c h)

pub or-none : (x : Option Point) → option_or x None ≡ x
or-none None = refl
or-none (Some p) = refl
