-- What a deletion does to a stored rule and to its rows.
use Rattle.std.proofs.Common.{◌≡◌, ℕ, suc, ◌+◌, Bool, true, false, ◌&&◌, ◌||◌, ◌==◌, if◌then◌else◌, List, [], ◌∷◌, length, filter, Option, Some, None, fold, refl, sym, ap, ◌∙◌, arith, eqb-true, eq-eqb, ne_eqb}
use Rattle.std.specs.Option.{option_or}
use Rattle.ts_spec.specs.declared.bucket.Aggregator.{Aggregator}
use Rattle.ts_spec.specs.Sample.{Point, IsAscending, at}
use Rattle.ts_spec.specs.Bucket.{members, starts}
use Rattle.ts_spec.specs.Aggregate.{Summary, nothing, push, summary, result_of}
use Rattle.ts_spec.specs.Key.{Key}
use Rattle.ts_spec.specs.State.{Rule}
use Rattle.ts_spec.specs.Rules.{open_of, is_closed, has_any, is_eligible, recounted, meets, lost_by}
use Rattle.ts_spec.specs.StoredSeries.{StoredRule, summary_at, stored_rule}
use Rattle.ts_spec.specs.StoredUpdates.{bucket_row, recounted_bucket, running_without, deleted_rule, loses, rows_of, deleted_rows}
use Rattle.ts_spec.proofs.Keys.{same-refl}
use Rattle.ts_spec.proofs.Samples.{at-append}
use Rattle.ts_spec.proofs.Shows.{has, has-starts, has-filter}
use Rattle.ts_spec.proofs.ShownAfter.{tells, sample_over}
use Rattle.ts_spec.proofs.Touching.{members-touched}

-- ---- the open bucket

-- The running summary is recounted if the open bucket lost a sample, and stays otherwise.
pub kept-recounted : (gone left : List Point) (r : Rule) → IsAscending left → IsAscending r.seen → stored_rule (recounted gone left r) ≡ deleted_rule gone left (stored_rule r)
kept-recounted gone left r h k =
    let running : summary_at (recounted gone left r) (open_of r) ≡ running_without gone left (stored_rule r) (open_of r) = go (open_of r) refl in
    λ i. record (stored_rule r) { running = running i }
  where
    go : (o : Option ℕ) → open_of r ≡ o → summary_at (recounted gone left r) o ≡ running_without gone left (stored_rule r) o
    go None e = sym (ap (summary_at r) e)
    go (Some b) e = ap summary (members-touched (meets gone r) left r b h k) ∙ either (meets gone r b)
      where
        either : (x : Bool) → summary (if x then filter (is_eligible r) (members r.grid b left) else members r.grid b r.seen) ≡ (if x then recounted_bucket (stored_rule r) b left else summary_at r (open_of r))
        either true = refl
        either false = sym (ap (summary_at r) e)

-- ---- rows

count-from : (s : Summary) (ps : List Point) → (fold push s ps).count ≡ s.count + length ps
count-from s [] = omega arith
count-from s (p ∷ ps) = count-from (push s p) ps ∙ omega arith

-- a summary counts each sample of the list
pub count-summary : (ps : List Point) → (summary ps).count ≡ length ps
count-summary ps = let whole : (fold push nothing ps).count ≡ 0 + length ps = count-from nothing ps in whole ∙ omega arith

-- the row of a bucket, at its start: that of its samples, if there are any
pub at-row : (agg : Aggregator) (born t : ℕ) (ps : List Point) →
    at t (bucket_row agg born t (summary ps)) ≡ (if has_any ps then Some (record { time = t; value = result_of agg (summary ps); made = born }) else None)
at-row agg born t [] = refl
at-row agg born t (p ∷ ps) =
    ap (λ (x : Bool). at t (if x then [] else record { time = t; value = result_of agg (summary (p ∷ ps)); made = born } ∷ []))
    (let count : (summary (p ∷ ps)).count ≡ suc (length ps) = count-summary (p ∷ ps) in ne_eqb (summary (p ∷ ps)).count 0 (λ e. absurd (omega arith)))
    ∙ ap (λ (x : Bool). if x then Some (record { time = t; value = result_of agg (summary (p ∷ ps)); made = born }) else None) (eq-eqb t t refl)

-- and none at another time
pub at-other_row : (agg : Aggregator) (born b t : ℕ) (s : Summary) → (b == t) ≡ false → at t (bucket_row agg born b s) ≡ None
at-other_row agg born b t s h = go (s.count == 0)
  where
    go : (x : Bool) → at t (if x then [] else record { time = b; value = result_of agg s; made = born } ∷ []) ≡ None
    go true = refl
    go false = ap (λ (y : Bool). if y then Some (record { time = b; value = result_of agg s; made = born }) else None) h

-- the rows of some buckets, at a time
pub at-rows : (left : List Point) (born : ℕ) (q : StoredRule) (t : ℕ) (bs : List ℕ) →
    at t (rows_of left born q bs) ≡ (if has bs t then at t (bucket_row q.agg born t (recounted_bucket q t left)) else None)
at-rows left born q t [] = refl
at-rows left born q t (b ∷ bs) = at-append t (bucket_row q.agg born b (recounted_bucket q b left)) (rows_of left born q bs) ∙ go (b == t) refl (at-rows left born q t bs)
  where
    twice : (o : Option Point) (x : Bool) → option_or o (if x then o else None) ≡ o
    twice None true = refl
    twice None false = refl
    twice (Some p) x = refl

    go : (x : Bool) → (b == t) ≡ x → at t (rows_of left born q bs) ≡ (if has bs t then at t (bucket_row q.agg born t (recounted_bucket q t left)) else None) →
        option_or (at t (bucket_row q.agg born b (recounted_bucket q b left))) (at t (rows_of left born q bs)) ≡ (if x || has bs t then at t (bucket_row q.agg born t (recounted_bucket q t left)) else None)
    go true e ih =
        ap (λ (c : ℕ). option_or (at t (bucket_row q.agg born c (recounted_bucket q c left))) (at t (rows_of left born q bs))) (eqb-true b t e)
        ∙ ap (option_or (at t (bucket_row q.agg born t (recounted_bucket q t left)))) ih
        ∙ twice (at t (bucket_row q.agg born t (recounted_bucket q t left))) (has bs t)
    go false e ih = ap (λ (o : Option Point). option_or o (at t (rows_of left born q bs))) (at-other_row q.agg born b t (recounted_bucket q b left) e) ∙ ih

any-filter : (test : Point → Bool) (ps : List Point) → has_any ps ≡ false → has_any (filter test ps) ≡ false
any-filter test [] h = refl
any-filter test (p ∷ ps) h = absurd (cc h)

-- the rows that a deletion sends to a destination, at a time
pub at-deleted_rows : (gone left : List Point) (born : ℕ) (r : Rule) (t : ℕ) →
    at t (deleted_rows gone left born (stored_rule r)) ≡
    (if is_closed r t && meets gone r t
    then (if has_any (filter (is_eligible r) (members r.grid t left)) then Some (sample_over r born t (filter (is_eligible r) (members r.grid t left))) else None) else None)
at-deleted_rows gone left born r t =
    at-rows left born (stored_rule r) t (filter (loses gone (stored_rule r)) (starts r.grid left))
    ∙ ap (λ (x : Bool). if x then at t (bucket_row r.agg born t (recounted_bucket (stored_rule r) t left)) else None)
    (has-filter (loses gone (stored_rule r)) (starts r.grid left) t ∙ ap (λ (x : Bool). (is_closed r t && meets gone r t) && x) (has-starts r.grid left t))
    ∙ ap (λ (o : Option Point). if (is_closed r t && meets gone r t) && has_any (members r.grid t left) then o else None) (at-row r.agg born t (filter (is_eligible r) (members r.grid t left)))
    ∙ go (is_closed r t && meets gone r t) (has_any (members r.grid t left)) refl
  where
    go : (x y : Bool) → has_any (members r.grid t left) ≡ y →
        (if x && y then (if has_any (filter (is_eligible r) (members r.grid t left)) then Some (sample_over r born t (filter (is_eligible r) (members r.grid t left))) else None) else None) ≡
        (if x then (if has_any (filter (is_eligible r) (members r.grid t left)) then Some (sample_over r born t (filter (is_eligible r) (members r.grid t left))) else None) else None)
    go false y e = refl
    go true true e = refl
    go true false e =
        ap (λ (z : Bool). if z then Some (sample_over r born t (filter (is_eligible r) (members r.grid t left))) else None) (sym (any-filter (is_eligible r) (members r.grid t left) e))

-- ---- the rows of the rule

-- A recounted rule has the new rows at closed buckets that lost a sample, and its old ones elsewhere.
pub tells-recounted : (gone left : List Point) (born : ℕ) (r : Rule) (t : ℕ) → IsAscending left → IsAscending r.seen →
    tells (recounted gone left r) born t ≡ option_or (at t (deleted_rows gone left born (stored_rule r))) (if loses gone (stored_rule r) t then None else tells r born t)
tells-recounted gone left born r t h k =
    ap (λ (ps : List Point). if is_closed r t && has_any ps then Some (sample_over r born t ps) else None) (members-touched (meets gone r) left r t h k)
    ∙ go (is_closed r t) (meets gone r t)
    ∙ ap (λ (o : Option Point). option_or o (if loses gone (stored_rule r) t then None else tells r born t)) (sym (at-deleted_rows gone left born r t))
  where
    or_none : (x : Option Point) → x ≡ option_or x None
    or_none None = refl
    or_none (Some p) = refl

    go : (c x : Bool) →
        (if c && has_any (if x then filter (is_eligible r) (members r.grid t left) else members r.grid t r.seen) then Some (sample_over r born t (if x then filter (is_eligible r) (members r.grid t left) else members r.grid t r.seen)) else None) ≡
        option_or (if c && x then (if has_any (filter (is_eligible r) (members r.grid t left)) then Some (sample_over r born t (filter (is_eligible r) (members r.grid t left))) else None) else None)
        (if c && x then None else (if c && has_any (members r.grid t r.seen) then Some (sample_over r born t (members r.grid t r.seen)) else None))
    go true true = or_none (if has_any (filter (is_eligible r) (members r.grid t left)) then Some (sample_over r born t (filter (is_eligible r) (members r.grid t left))) else None)
    go true false = refl
    go false true = refl
    go false false = refl

-- a destination loses its own samples at the starts of the closed buckets that lost one
pub lost-loses : (gone left : List Point) (key : Key) (r : Rule) (t : ℕ) → lost_by key (meets gone) (Some (record { source = key; rule = recounted gone left r })) t ≡ loses gone (stored_rule r) t
lost-loses gone left key r t = ap (λ (b : Bool). b && (meets gone r t && is_closed r t)) (same-refl key) ∙ swap (meets gone r t) (is_closed r t)
  where
    swap : (x y : Bool) → (x && y) ≡ (y && x)
    swap true true = refl
    swap true false = refl
    swap false true = refl
    swap false false = refl
