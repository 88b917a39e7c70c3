-- The rows that a deletion sends to a destination are those of the first and the last bucket that it overlaps.
use Rattle.std.proofs.Common.{◌≡◌, ◌≢◌, ℕ, ◌<◌, ◌≤◌, Bool, true, false, not, ◌&&◌, ◌==◌, nat_le, if◌then◌else◌, List, [], ◌∷◌, ◌++◌, filter, Option, Some, None, refl, sym, ap, ◌∙◌, arith, eqb-true, eq-eqb}
use Rattle.std.specs.Option.{option_or}
use Rattle.std.proofs.lemmas.Bool.{false≢true, and_parts}
use Rattle.ts_spec.specs.Sample.{Point, IsAfter, IsAscending, at, between, outside, is_within}
use Rattle.ts_spec.specs.Bucket.{start, starts, members}
use Rattle.ts_spec.specs.Aggregate.{summary, result_of}
use Rattle.ts_spec.specs.Rules.{is_past, has_any}
use Rattle.ts_spec.specs.StoredSeries.{StoredRule}
use Rattle.ts_spec.specs.StoredUpdates.{bucket_row, recounted_bucket, lies_in, loses, rows_of, deleted_rows}
use Rattle.ts_spec.proofs.Buckets.{start-order}
use Rattle.ts_spec.proofs.Rising.{IsPast, IsRising, starts-rising, rising-filter}
use Rattle.ts_spec.proofs.Samples.{at-append, ascending-times, ascending-same}
use Rattle.ts_spec.proofs.Shows.{has-starts, has-filter}
use Rattle.ts_spec.proofs.DeletedRules.{at-other_row, at-rows}
use Rattle.ts_spec.proofs.TwoBuckets.{emptied}

-- ---- the rows are ascending

-- a row, or none, before later rows
row-first : (x : Bool) (p : Point) (ps : List Point) → IsAfter p.time ps → IsAscending ps → IsAscending ((if x then [] else p ∷ []) ++ ps)
row-first true p ps h k = k
row-first false p ps h k = (h, k)

row-after : (u : ℕ) (x : Bool) (p : Point) (ps : List Point) → u < p.time → IsAfter u ps → IsAfter u ((if x then [] else p ∷ []) ++ ps)
row-after u true p ps h k = k
row-after u false p ps h k = (h, k)

rows-after : (u : ℕ) (left : List Point) (born : ℕ) (q : StoredRule) (bs : List ℕ) → IsPast u bs → IsAfter u (rows_of left born q bs)
rows-after u left born q [] x = tt
rows-after u left born q (b ∷ bs) x =
    row-after u ((recounted_bucket q b left).count == 0) (record { time = b; value = result_of q.agg (recounted_bucket q b left); made = born }) (rows_of left born q bs) x.0 (rows-after u left born q bs x.1)

rows-ascending : (left : List Point) (born : ℕ) (q : StoredRule) (bs : List ℕ) → IsRising bs → IsAscending (rows_of left born q bs)
rows-ascending left born q [] x = tt
rows-ascending left born q (b ∷ bs) x =
    row-first ((recounted_bucket q b left).count == 0) (record { time = b; value = result_of q.agg (recounted_bucket q b left); made = born }) (rows_of left born q bs)
    (rows-after b left born q bs x.0) (rows-ascending left born q bs x.1)

-- The rows of a deletion are ascending.
pub deleted_rows-ascending : (gone left : List Point) (born : ℕ) (q : StoredRule) → IsAscending left → IsAscending (deleted_rows gone left born q)
deleted_rows-ascending gone left born q a =
    rows-ascending left born q (filter (loses gone q) (starts q.grid left)) (rising-filter (loses gone q) (starts q.grid left) (starts-rising q.grid left a))

-- ---- two buckets

-- the row of one bucket, if it is closed and lost a sample
abbrev pub row_at : (gone left : List Point) → (born : ℕ) → StoredRule → ℕ → List Point
row_at gone left born q b = if loses gone q b then bucket_row q.agg born b (recounted_bucket q b left) else []

-- those of two buckets, or of one
abbrev pub end_rows : (gone left : List Point) → (born : ℕ) → StoredRule → (first last : ℕ) → List Point
end_rows gone left born q first last = row_at gone left born q first ++ (if first == last then [] else row_at gone left born q last)

ends-ascending : (gone left : List Point) (born : ℕ) (q : StoredRule) (first last : ℕ) → first ≤ last → IsAscending (end_rows gone left born q first last)
ends-ascending gone left born q first last h = go (first == last) refl (loses gone q first) (loses gone q last)
  where
    two : first < last → (x y : Bool) → IsAscending ((if x then [] else record { time = first; value = result_of q.agg (recounted_bucket q first left); made = born } ∷ []) ++ (if y then [] else record { time = last; value = result_of q.agg (recounted_bucket q last left); made = born } ∷ []))
    two l true true = tt
    two l true false = (tt, tt)
    two l false true = (tt, tt)
    two l false false = ((l, tt), (tt, tt))

    go : (x : Bool) → (first == last) ≡ x → (y z : Bool) →
        IsAscending ((if y then bucket_row q.agg born first (recounted_bucket q first left) else []) ++ (if x then [] else (if z then bucket_row q.agg born last (recounted_bucket q last left) else [])))
    go true e true z = row-first ((recounted_bucket q first left).count == 0) (record { time = first; value = result_of q.agg (recounted_bucket q first left); made = born }) [] tt tt
    go true e false z = tt
    go false e true true =
        let other : first ≢ last = λ k. absurd (false≢true (sym e ∙ eq-eqb first last k)) in
        two (omega arith) ((recounted_bucket q first left).count == 0) ((recounted_bucket q last left).count == 0)
    go false e true false = row-first ((recounted_bucket q first left).count == 0) (record { time = first; value = result_of q.agg (recounted_bucket q first left); made = born }) [] tt tt
    go false e false true = two_alone ((recounted_bucket q last left).count == 0)
      where
        two_alone : (y : Bool) → IsAscending (if y then [] else record { time = last; value = result_of q.agg (recounted_bucket q last left); made = born } ∷ [])
        two_alone true = tt
        two_alone false = (tt, tt)
    go false e false false = tt

at-row_at : (gone left : List Point) (born : ℕ) (q : StoredRule) (b t : ℕ) →
    at t (row_at gone left born q b) ≡ (if (b == t) && loses gone q t then at t (bucket_row q.agg born t (recounted_bucket q t left)) else None)
at-row_at gone left born q b t = go (b == t) refl (loses gone q b) refl
  where
    go : (x : Bool) → (b == t) ≡ x → (y : Bool) → loses gone q b ≡ y →
        at t (if y then bucket_row q.agg born b (recounted_bucket q b left) else []) ≡ (if x && loses gone q t then at t (bucket_row q.agg born t (recounted_bucket q t left)) else None)
    go true e true f =
        ap (λ (c : ℕ). at t (bucket_row q.agg born c (recounted_bucket q c left))) (eqb-true b t e)
        ∙ ap (λ (y : Bool). if y then at t (bucket_row q.agg born t (recounted_bucket q t left)) else None) (sym f ∙ ap (loses gone q) (eqb-true b t e))
    go true e false f = ap (λ (y : Bool). if y then at t (bucket_row q.agg born t (recounted_bucket q t left)) else None) (sym f ∙ ap (loses gone q) (eqb-true b t e))
    go false e true f = at-other_row q.agg born b t (recounted_bucket q b left) e
    go false e false f = refl

-- The rows of a deletion are the row of the bucket of `from` and that of `to`, each if the bucket is closed and lost
-- a sample.
pub two-rows : (from to : ℕ) (ps : List Point) (born : ℕ) (q : StoredRule) → from ≤ to → IsAscending ps →
    deleted_rows (between from to ps) (outside from to ps) born q ≡ end_rows (between from to ps) (outside from to ps) born q (start q.grid from) (start q.grid to)
two-rows from to ps born q order a =
    ascending-same (deleted_rows (between from to ps) (outside from to ps) born q) (end_rows (between from to ps) (outside from to ps) born q (start q.grid from) (start q.grid to))
    (deleted_rows-ascending (between from to ps) (outside from to ps) born q (ascending-times (λ t. not (is_within from to t)) ps a))
    (ends-ascending (between from to ps) (outside from to ps) born q (start q.grid from) (start q.grid to) (start-order q.grid from to order))
    (λ t. at-rows (outside from to ps) born q t (filter (loses (between from to ps) q) (starts q.grid (outside from to ps)))
    ∙ ap (λ (x : Bool). if x then row t else None)
    (has-filter (loses (between from to ps) q) (starts q.grid (outside from to ps)) t ∙ ap (λ (x : Bool). loses (between from to ps) q t && x) (has-starts q.grid (outside from to ps) t))
    ∙ go t (loses (between from to ps) q t) refl (members q.grid t (outside from to ps)) refl (start q.grid from == t) refl (start q.grid to == t) refl (start q.grid from == start q.grid to) refl
    ∙ sym (ends t))
  where
    row : ℕ → Option Point
    row t = at t (bucket_row q.agg born t (recounted_bucket q t (outside from to ps)))

    ends : (t : ℕ) → at t (end_rows (between from to ps) (outside from to ps) born q (start q.grid from) (start q.grid to)) ≡
        option_or (if (start q.grid from == t) && loses (between from to ps) q t then row t else None)
        (if start q.grid from == start q.grid to then None else (if (start q.grid to == t) && loses (between from to ps) q t then row t else None))
    ends t =
        at-append t (row_at (between from to ps) (outside from to ps) born q (start q.grid from)) (if start q.grid from == start q.grid to then [] else row_at (between from to ps) (outside from to ps) born q (start q.grid to))
        ∙ ap (λ (o : Option Point). option_or o (at t (if start q.grid from == start q.grid to then [] else row_at (between from to ps) (outside from to ps) born q (start q.grid to)))) (at-row_at (between from to ps) (outside from to ps) born q (start q.grid from) t)
        ∙ ap (option_or (if (start q.grid from == t) && loses (between from to ps) q t then row t else None)) (last (start q.grid from == start q.grid to))
      where
        last : (x : Bool) → at t (if x then [] else row_at (between from to ps) (outside from to ps) born q (start q.grid to)) ≡
            (if x then None else (if (start q.grid to == t) && loses (between from to ps) q t then row t else None))
        last true = refl
        last false = at-row_at (between from to ps) (outside from to ps) born q (start q.grid to) t

    -- of an empty bucket
    no_row : (t : ℕ) → members q.grid t (outside from to ps) ≡ [] → row t ≡ None
    no_row t e = ap (λ (qs : List Point). at t (bucket_row q.agg born t (summary (filter (λ p. nat_le q.made p.made) qs)))) e

    no_rows_shown : (o : Option Point) → o ≡ None → (x y z : Bool) → None ≡ option_or (if x then o else None) (if y then None else (if z then o else None))
    no_rows_shown None e true true z = refl
    no_rows_shown None e true false true = refl
    no_rows_shown None e true false false = refl
    no_rows_shown None e false true z = refl
    no_rows_shown None e false false true = refl
    no_rows_shown None e false false false = refl
    no_rows_shown (Some p) e x y z = absurd (cc e)

    first_told : (o : Option Point) (y z : Bool) → o ≡ option_or o (if y then None else (if z then o else None))
    first_told None true z = refl
    first_told None false true = refl
    first_told None false false = refl
    first_told (Some p) y z = refl

    unequal : (b c : ℕ) → (b == c) ≡ false → c ≢ b
    unequal b c e k = absurd (false≢true (sym e ∙ eq-eqb b c (sym k)))

    go : (t : ℕ) (l : Bool) → loses (between from to ps) q t ≡ l → (qs : List Point) → members q.grid t (outside from to ps) ≡ qs → (x : Bool) → (start q.grid from == t) ≡ x → (y : Bool) → (start q.grid to == t) ≡ y →
        (z : Bool) → (start q.grid from == start q.grid to) ≡ z →
        (if l && has_any qs then row t else None) ≡ option_or (if x && l then row t else None) (if z then None else (if y && l then row t else None))
    go t false e qs f x u y w z k = none x y z
      where
        none : (x y z : Bool) → None ≡ option_or (if x && false then row t else None) (if z then None else (if y && false then row t else None))
        none true y true = refl
        none true true false = refl
        none true false false = refl
        none false y true = refl
        none false true false = refl
        none false false false = refl
    go t true e [] f x u y w z k = no_rows_shown (row t) (no_row t f) (x && true) z (y && true)
    go t true e (p ∷ qs) f true u y w z k = first_told (row t) z (y && true)
    go t true e (p ∷ qs) f false u true w true k = absurd (false≢true (sym u ∙ eq-eqb (start q.grid from) t (eqb-true (start q.grid from) (start q.grid to) k ∙ eqb-true (start q.grid to) t w)))
    go t true e (p ∷ qs) f false u true w false k = refl
    go t true e (p ∷ qs) f false u false w z k =
        let touched : lies_in q.grid (between from to ps) t ≡ true = (and_parts (is_past q.current t) (lies_in q.grid (between from to ps) t) e).1 in
        let none : p ∷ qs ≡ [] = sym f ∙ emptied q.grid from to t ps touched (unequal (start q.grid from) t u) (unequal (start q.grid to) t w) in
        absurd (cc none)
