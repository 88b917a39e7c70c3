-- What a destination shows at a time.
use Rattle.std.proofs.Common.{◌≡◌, ℕ, Bool, true, false, cond, ◌&&◌, ◌||◌, ◌==◌, nat_le, if◌then◌else◌, List, [], ◌∷◌, map, filter, Option, Some, None, refl, sym, ap, ◌∙◌, eqb-true}
use Rattle.std.specs.Option.{option_or}
use Rattle.std.proofs.lemmas.Bool.{false≢true}
use Rattle.ts_spec.specs.Sample.{Point, IsAscending, at, put_all}
use Rattle.ts_spec.specs.Bucket.{Grid, start, members, starts, with_start}
use Rattle.ts_spec.specs.State.{Rule, Record, edge}
use Rattle.ts_spec.specs.Rules.{is_closed, has_any, has_row_of, bucket_sample, closed_rows, shown_by}
use Rattle.ts_spec.proofs.Samples.{at-times, at-put_all, ascending-put_all, ascending-times}

-- whether a number is in a list
abbrev pub has : List ℕ → ℕ → Bool
has [] b = false
has (c ∷ cs) b = (c == b) || has cs b

has-with_start : (c : ℕ) (cs : List ℕ) (b : ℕ) → has (with_start c cs) b ≡ ((c == b) || has cs b)
has-with_start c [] b = refl
has-with_start c (d ∷ cs) b = go (c == d) refl
  where
    go : (x : Bool) → (c == d) ≡ x → has (cond x (d ∷ cs) (c ∷ d ∷ cs)) b ≡ ((c == b) || has (d ∷ cs) b)
    go true e = rw (eqb-true c d e) (again (d == b) (has cs b))
      where
        again : (x y : Bool) → (x || y) ≡ (x || (x || y))
        again true y = refl
        again false y = refl
    go false e = refl

-- the starts of a list are those of the buckets with members
pub has-starts : (g : Grid) (ps : List Point) (b : ℕ) → has (starts g ps) b ≡ has_any (members g b ps)
has-starts g [] b = refl
has-starts g (p ∷ ps) b = has-with_start (start g p.time) (starts g ps) b ∙ go (start g p.time == b) (has-starts g ps b)
  where
    go : (x : Bool) → has (starts g ps) b ≡ has_any (members g b ps) → (x || has (starts g ps) b) ≡ has_any (cond x (p ∷ members g b ps) (members g b ps))
    go true ih = refl
    go false ih = ih

pub has-filter : (test : ℕ → Bool) (bs : List ℕ) (b : ℕ) → has (filter test bs) b ≡ (test b && has bs b)
has-filter test [] b = go (test b)
  where
    go : (x : Bool) → false ≡ (x && false)
    go true = refl
    go false = refl
has-filter test (c ∷ bs) b = go (test c) (c == b) (test b) refl refl refl (has-filter test bs b)
  where
    go : (x y z : Bool) → test c ≡ x → (c == b) ≡ y → test b ≡ z → has (filter test bs) b ≡ (test b && has bs b) →
        has (cond x (c ∷ filter test bs) (filter test bs)) b ≡ (z && (y || has bs b))
    go true true true e f h ih = rw f refl
    go true true false e f h ih = absurd (false≢true (sym h ∙ sym (ap test (eqb-true c b f)) ∙ e))
    go true false z e f h ih = rw (f, ← h) ih
    go false true true e f h ih = absurd (false≢true (sym e ∙ ap test (eqb-true c b f) ∙ h))
    go false true false e f h ih = rw h at ih
    go false false z e f h ih = rw (← h) ih

-- the times of the rows of a rule
pub has-told : (r : Rule) (b : ℕ) → has (filter (is_closed r) (starts r.grid r.seen)) b ≡ has_row_of r b
has-told r b = has-filter (is_closed r) (starts r.grid r.seen) b ∙ ap (λ (x : Bool). is_closed r b && x) (has-starts r.grid r.seen b)

at-samples : (r : Rule) (born t : ℕ) (bs : List ℕ) → at t (map (bucket_sample r born) bs) ≡ (if has bs t then Some (bucket_sample r born t) else None)
at-samples r born t [] = refl
at-samples r born t (b ∷ bs) = go (b == t) refl (at-samples r born t bs)
  where
    go : (x : Bool) → (b == t) ≡ x → at t (map (bucket_sample r born) bs) ≡ (if has bs t then Some (bucket_sample r born t) else None) →
        cond x (Some (bucket_sample r born b)) (at t (map (bucket_sample r born) bs)) ≡ (if x || has bs t then Some (bucket_sample r born t) else None)
    go true e ih = ap (λ (c : ℕ). Some (bucket_sample r born c)) (eqb-true b t e)
    go false e ih = ih

-- a closed bucket with counted samples has one row, at its start
pub at-told : (r : Rule) (born t : ℕ) → at t (closed_rows r born) ≡ (if has_row_of r t then Some (bucket_sample r born t) else None)
at-told r born t =
    at-samples r born t (filter (is_closed r) (starts r.grid r.seen)) ∙ ap (λ (x : Bool). if x then Some (bucket_sample r born t) else None) (has-told r t)

-- the sample that a destination shows at a time
pub at-shown : (r : Rule) (d : Record) (t : ℕ) → at t (shown_by (Some r) d) ≡
    (if nat_le (edge d) t then option_or (if has_row_of r t then Some (bucket_sample r d.born t) else None) (at t d.plain) else None)
at-shown r d t =
    at-times t (nat_le (edge d)) (put_all (closed_rows r d.born) d.plain)
    ∙ ap (λ (x : Option Point). if nat_le (edge d) t then x else None)
    (at-put_all t (closed_rows r d.born) d.plain ∙ ap (λ (x : Option Point). option_or x (at t d.plain)) (at-told r d.born t))

pub ascending-shown : (o : Option Rule) (d : Record) → IsAscending d.plain → IsAscending (shown_by o d)
ascending-shown None d h = h
ascending-shown (Some r) d h = ascending-times (nat_le (edge d)) (put_all (closed_rows r d.born) d.plain) (ascending-put_all (closed_rows r d.born) d.plain h)
