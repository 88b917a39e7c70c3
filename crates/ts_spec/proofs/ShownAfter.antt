-- What a key shows after a command of a client on it.
use Rattle.std.proofs.Common.{◌≡◌, ℕ, ◌≤◌, Bool, true, false, cond, not, ◌&&◌, ◌==◌, nat_lt, nat_le, if◌then◌else◌, List, [], ◌∷◌, length, Option, Some, None, refl, sym, ap, ◌∙◌, arith, leb-true, eqb-true, le-ltb, suc}
use Rattle.std.specs.Option.{option_or}
use Rattle.std.proofs.lemmas.Bool.{false≢true}
use Rattle.ts_spec.specs.Sample.{Point, at, at_times}
use Rattle.ts_spec.specs.Bucket.{Grid, start, members}
use Rattle.ts_spec.specs.State.{Rule, Record, edge, edge_of}
use Rattle.ts_spec.specs.Aggregate.{aggregate}
use Rattle.ts_spec.specs.Rules.{is_closed, has_any, has_row_of, bucket_sample, shown_by, cleared, high_by, tidied_by, expired}
use Rattle.ts_spec.specs.Valid.{IsUpTo}
use Rattle.ts_spec.proofs.Samples.{at-times}
use Rattle.ts_spec.proofs.Shows.{at-shown}
use Rattle.ts_spec.proofs.Settles.{stays, high-same}

-- ---- cleared rules

-- the members of a bucket that a test takes away, or leaves
pub members-cleared : (g : Grid) (gone : ℕ → Bool) (b : ℕ) (ps : List Point) → members g b (at_times (λ t. not (gone (start g t))) ps) ≡ (if gone b then [] else members g b ps)
members-cleared g gone b [] = go (gone b)
  where
    go : (x : Bool) → members g b [] ≡ (if x then [] else members g b [])
    go true = refl
    go false = refl
members-cleared g gone b (p ∷ ps) = go (gone (start g p.time)) (start g p.time == b) (gone b) refl refl refl (members-cleared g gone b ps)
  where
    go : (x y z : Bool) → gone (start g p.time) ≡ x → (start g p.time == b) ≡ y → gone b ≡ z → members g b (at_times (λ t. not (gone (start g t))) ps) ≡ (if gone b then [] else members g b ps) →
        members g b (cond (not x) (p ∷ at_times (λ t. not (gone (start g t))) ps) (at_times (λ t. not (gone (start g t))) ps)) ≡ (if z then [] else cond y (p ∷ members g b ps) (members g b ps))
    go true true true e f h ih = ih ∙ ap (λ (c : Bool). if c then [] else members g b ps) h
    go true true false e f h ih = absurd (false≢true (sym h ∙ sym (ap gone (eqb-true (start g p.time) b f)) ∙ e))
    go true false z e f h ih = ih ∙ ap (λ (c : Bool). if c then [] else members g b ps) h
    go false true true e f h ih = absurd (false≢true (sym e ∙ ap gone (eqb-true (start g p.time) b f) ∙ h))
    go false true false e f h ih = ap (λ (c : Bool). cond c (p ∷ members g b (at_times (λ t. not (gone (start g t))) ps)) (members g b (at_times (λ t. not (gone (start g t))) ps))) f ∙ ap (λ (qs : List Point). p ∷ qs) (ih ∙ ap (λ (c : Bool). if c then [] else members g b ps) h)
    go false false z e f h ih = ap (λ (c : Bool). cond c (p ∷ members g b (at_times (λ t. not (gone (start g t))) ps)) (members g b (at_times (λ t. not (gone (start g t))) ps))) f ∙ ih ∙ ap (λ (c : Bool). if c then [] else members g b ps) h

-- the row of a rule at a time
abbrev pub tells : Rule → (born : ℕ) → ℕ → Option Point
tells r born t = if has_row_of r t then Some (bucket_sample r born t) else None

-- the sample of a bucket with these members
abbrev pub sample_over : Rule → (born : ℕ) → ℕ → List Point → Point
sample_over r born t ps = record { time = t; value = aggregate r.agg ps; made = born }

-- its row after clearing: none if the test holds
pub tells-cleared : (test : ℕ → Bool) (r : Rule) (born t : ℕ) → tells (cleared test r) born t ≡ (if test t then None else tells r born t)
tells-cleared test r born t =
    ap (λ (ps : List Point). if is_closed r t && has_any ps then Some (sample_over r born t ps) else None)
    (members-cleared r.grid (λ b. test b && is_closed r b) t r.seen)
    ∙ go (is_closed r t) (test t)
  where
    go : (c x : Bool) → (if c && has_any (if x && c then [] else members r.grid t r.seen) then Some (sample_over r born t (if x && c then [] else members r.grid t r.seen)) else None) ≡
        (if x then None else (if c && has_any (members r.grid t r.seen) then Some (sample_over r born t (members r.grid t r.seen)) else None))
    go true true = refl
    go true false = refl
    go false true = refl
    go false false = refl

pub told-cleared_at : (test : ℕ → Bool) (r : Rule) (t : ℕ) → has_row_of (cleared test r) t ≡ (not (test t) && has_row_of r t)
told-cleared_at test r t =
    ap (λ (ps : List Point). is_closed r t && has_any ps) (members-cleared r.grid (λ b. test b && is_closed r b) t r.seen) ∙ go (is_closed r t) (test t)
  where
    go : (c x : Bool) → (c && has_any (if x && c then [] else members r.grid t r.seen)) ≡ (not x && (c && has_any (members r.grid t r.seen)))
    go true true = refl
    go true false = refl
    go false true = refl
    go false false = refl

-- expiry takes away nothing that would be shown
pub tells-expired : (low : ℕ) (r : Rule) (born t : ℕ) → nat_le low t ≡ true → tells (expired low r) born t ≡ tells r born t
tells-expired low r born t h =
    tells-cleared (λ b. nat_lt b low) r born t
    ∙ ap (λ (b : Bool). if b then None else tells r born t) (le-ltb t low (leb-true low t h))

-- ---- a destination that a client changes

-- the record is tidied by a cleared rule, and the rule expired: what is then shown at a time
pub shown-tidied : (test : ℕ → Bool) (r : Rule) (d : Record) (t : ℕ) → ((b : ℕ) → has_row_of r b ≡ true → test b ≡ false → IsUpTo d.high b) →
    at t (shown_by (Some (expired (edge (tidied_by (Some (cleared test r)) d)) (cleared test r))) (tidied_by (Some (cleared test r)) d)) ≡
    (if nat_le (edge d) t then option_or (if test t then None else tells r d.born t) (at t d.plain) else None)
shown-tidied test r d t up =
    at-shown (expired (edge (tidied_by (Some (cleared test r)) d)) (cleared test r)) (tidied_by (Some (cleared test r)) d) t
    ∙ ap (λ (n : ℕ). if nat_le n t then option_or (tells (expired n (cleared test r)) d.born t) (at t (at_times (stays n (Some (cleared test r))) d.plain)) else None) low
    ∙ go (nat_le (edge d) t) refl
  where
    high : high_by (Some (cleared test r)) d.high ≡ d.high
    high = high-same (Some (cleared test r)) d.high (λ b x. covered b (not (test b)) refl (sym (told-cleared_at test r b) ∙ x))
      where
        untrue : (b : Bool) → not b ≡ true → b ≡ false
        untrue true e = absurd (false≢true e)
        untrue false e = refl

        covered : (b : ℕ) (x : Bool) → not (test b) ≡ x → (x && has_row_of r b) ≡ true → IsUpTo d.high b
        covered b true e y = up b y (untrue (test b) e)
        covered b false e y = absurd (false≢true y)

    low : edge (tidied_by (Some (cleared test r)) d) ≡ edge d
    low = ap (edge_of d.options.retention) high

    go : (b : Bool) → nat_le (edge d) t ≡ b →
        (if b then option_or (tells (expired (edge d) (cleared test r)) d.born t) (at t (at_times (stays (edge d) (Some (cleared test r))) d.plain)) else None) ≡
        (if b then option_or (if test t then None else tells r d.born t) (at t d.plain) else None)
    go false e = refl
    go true e =
        ap (λ (o : Option Point). option_or o (at t (at_times (stays (edge d) (Some (cleared test r))) d.plain))) (tells-expired (edge d) (cleared test r) d.born t e)
        ∙ ap (option_or (tells (cleared test r) d.born t)) (at-times t (stays (edge d) (Some (cleared test r))) d.plain ∙ ap (λ (b : Bool). if b && not (has_row_of (cleared test r) t) then at t d.plain else None) e)
        ∙ hidden (has_row_of (cleared test r) t)
        ∙ ap (λ (o : Option Point). option_or o (at t d.plain)) (tells-cleared test r d.born t)
      where
        hidden : (c : Bool) → option_or (if c then Some (bucket_sample (cleared test r) d.born t) else None) (if not c then at t d.plain else None) ≡ option_or (if c then Some (bucket_sample (cleared test r) d.born t) else None) (at t d.plain)
        hidden true = refl
        hidden false = refl

-- ---- lengths

pub length-times : (test : ℕ → Bool) (ps : List Point) → length (at_times test ps) ≤ length ps
length-times test [] = omega arith
length-times test (p ∷ ps) = go (test p.time) (length-times test ps)
  where
    go : (b : Bool) → length (at_times test ps) ≤ length ps → length (cond b (p ∷ at_times test ps) (at_times test ps)) ≤ suc (length ps)
    go true ih = omega arith
    go false ih = omega arith
