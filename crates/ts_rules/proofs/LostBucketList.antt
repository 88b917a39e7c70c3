-- The bucket starts that a visitor collects: their order, and which buckets they are.
use Rattle.std.proofs.Common.{◌≡◌, ℕ, zero, suc, ◌<◌, ◌≤◌, Bool, true, false, ◌||◌, ◌==◌, if◌then◌else◌, List, [], ◌∷◌, ◌++◌, length, get_or, append-nil, append_assoc, Option, None, Some, refl, sym, ap, ◌∙◌, subst, arith, eqb-true}
use Rattle.std.specs.List.Sorted.{IsNonDecreasing}
use Rattle.ts_spec.specs.Sample.{Point, IsAfter, IsAscending}
use Rattle.ts_spec.specs.Bucket.{Grid, start}
use Rattle.ts_spec.specs.Answer.{contains_time}
use Rattle.ts_spec.specs.StoredUpdates.{lies_in}
use Rattle.ts_spec.proofs.Buckets.{start-order}
use Rattle.ts_spec.proofs.Rising.{IsFrom}
use Rattle.ts_sample.specs.Visit.{visited}
use Rattle.ts_rules.specs.LostBuckets.{LostBucketList, is_last, with_bucket}

-- the starts of the buckets of these samples, but for those that are the one before, of which this is the last so far
abbrev pub fresh : Grid → Option ℕ → List Point → List ℕ
fresh g last [] = []
fresh g last (p ∷ ps) = if is_last last (start g p.time) then fresh g (Some (start g p.time)) ps else start g p.time ∷ fresh g (Some (start g p.time)) ps

pub starts-visited : (l : LostBucketList) (ps : List Point) → (visited with_bucket l ps).starts ≡ l.starts ++ fresh l.grid l.last ps
starts-visited l [] = sym (append-nil l.starts)
starts-visited l (p ∷ ps) = starts-visited (with_bucket l p) ps ∙ go (is_last l.last (start l.grid p.time))
  where
    go : (x : Bool) → (if x then l.starts else l.starts ++ start l.grid p.time ∷ []) ++ fresh l.grid (Some (start l.grid p.time)) ps
        ≡ l.starts ++ (if x then fresh l.grid (Some (start l.grid p.time)) ps else start l.grid p.time ∷ fresh l.grid (Some (start l.grid p.time)) ps)
    go true = refl
    go false = append_assoc l.starts (start l.grid p.time ∷ []) (fresh l.grid (Some (start l.grid p.time)) ps)

-- ---- which buckets they are

twice : (x y : Bool) → (x || y) ≡ (x || (x || y))
twice true y = refl
twice false y = refl

listed : (g : Grid) (last : Option ℕ) (ps : List Point) (b : ℕ) → (is_last last b || contains_time (fresh g last ps) b) ≡ (is_last last b || lies_in g ps b)
listed g last [] b = refl
listed g last (p ∷ ps) b = go last (listed g (Some (start g p.time)) ps b)
  where
    go : (o : Option ℕ) → ((start g p.time == b) || contains_time (fresh g (Some (start g p.time)) ps) b) ≡ ((start g p.time == b) || lies_in g ps b) →
        (is_last o b || contains_time (if is_last o (start g p.time) then fresh g (Some (start g p.time)) ps else start g p.time ∷ fresh g (Some (start g p.time)) ps) b)
        ≡ (is_last o b || ((start g p.time == b) || lies_in g ps b))
    go None ih = ih
    go (Some d) ih = pick (d == start g p.time) refl
      where
        pick : (x : Bool) → (d == start g p.time) ≡ x →
            ((d == b) || contains_time (if x then fresh g (Some (start g p.time)) ps else start g p.time ∷ fresh g (Some (start g p.time)) ps) b)
            ≡ ((d == b) || ((start g p.time == b) || lies_in g ps b))
        pick true e =
            let same : d ≡ start g p.time = eqb-true d (start g p.time) e in
            ap (λ n. (n == b) || contains_time (fresh g (Some (start g p.time)) ps) b) same ∙ ih ∙ twice (start g p.time == b) (lies_in g ps b)
            ∙ ap (λ n. (n == b) || ((start g p.time == b) || lies_in g ps b)) (sym same)
        pick false e = ap (λ (y : Bool). (d == b) || y) ih

-- ---- their order

from-at : (b : ℕ) (bs : List ℕ) (k d : ℕ) → IsFrom b bs → k < length bs → b ≤ get_or bs k d
from-at b [] k d h lt = absurd (omega arith)
from-at b (c ∷ cs) zero d h lt = h.0
from-at b (c ∷ cs) (suc k) d h lt = from-at b cs k d h.1 (omega arith)

rises-with : (b : ℕ) (bs : List ℕ) → IsFrom b bs → IsNonDecreasing bs → IsNonDecreasing (b ∷ bs)
rises-with b bs h x zero zero d le lt = omega arith
rises-with b bs h x zero (suc j) d le lt = from-at b bs j d h (omega arith)
rises-with b bs h x (suc i) zero d le lt = absurd (omega arith)
rises-with b bs h x (suc i) (suc j) d le lt = x i j d (omega arith) (omega arith)

fresh-from : (g : Grid) (t : ℕ) (last : Option ℕ) (ps : List Point) → IsAfter t ps → IsFrom (start g t) (fresh g last ps)
fresh-from g t last [] x = tt
fresh-from g t last (p ∷ ps) x = go (is_last last (start g p.time)) (fresh-from g t (Some (start g p.time)) ps x.1)
  where
    go : (y : Bool) → IsFrom (start g t) (fresh g (Some (start g p.time)) ps) → IsFrom (start g t) (if y then fresh g (Some (start g p.time)) ps else start g p.time ∷ fresh g (Some (start g p.time)) ps)
    go true ih = ih
    go false ih = (let later : t < p.time = x.0 in start-order g t p.time (omega arith), ih)

fresh-rises : (g : Grid) (last : Option ℕ) (ps : List Point) → IsAscending ps → IsNonDecreasing (fresh g last ps)
fresh-rises g last [] a = λ i j d le lt. absurd (omega arith)
fresh-rises g last (p ∷ ps) a = go (is_last last (start g p.time)) (fresh-rises g (Some (start g p.time)) ps a.1)
  where
    go : (y : Bool) → IsNonDecreasing (fresh g (Some (start g p.time)) ps) → IsNonDecreasing (if y then fresh g (Some (start g p.time)) ps else start g p.time ∷ fresh g (Some (start g p.time)) ps)
    go true ih = ih
    go false ih = rises-with (start g p.time) (fresh g (Some (start g p.time)) ps) (fresh-from g p.time (Some (start g p.time)) ps a.0) ih

-- ---- from no samples on

module _ (g : Grid) (l new : LostBucketList) (ps : List Point) (grid : l.grid ≡ g) (none : l.last ≡ None) (empty : l.starts ≡ []) (is : new ≡ visited with_bucket l ps) where
  starts-are : new.starts ≡ fresh g None ps
  starts-are = ap (λ (x : LostBucketList). x.starts) is ∙ starts-visited l ps ∙ (λ i. empty i ++ fresh (grid i) (none i) ps)

  pub lost-rising : IsAscending ps → IsNonDecreasing new.starts
  lost-rising a = subst IsNonDecreasing (sym starts-are) (fresh-rises g None ps a)

  pub lost-listed : (b : ℕ) → contains_time new.starts b ≡ lies_in g ps b
  lost-listed b = ap (λ (bs : List ℕ). contains_time bs b) starts-are ∙ listed g None ps b
