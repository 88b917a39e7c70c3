-- The rows of samples are those of the earlier and then those of the later ones, if a bucket begins between them.
use Rattle.std.proofs.Common.{◌≡◌, ◌⊎◌, inl, inr, ℕ, zero, suc, ◌-◌, ◌<◌, ◌≤◌, max, Bool, true, false, not, cond, ◌&&◌, List, [], ◌∷◌, ◌++◌, length, take, refl, sym, ◌∙◌, ap, subst, append_assoc, append-nil, arith}
use Rattle.std.specs.Prelude.{nat_lt, filter, reverse, option_map, Option, None, Some, ⊤}
use Rattle.std.specs.List.{All}
use Rattle.std.specs.Option.{ForSome}
use Rattle.std.proofs.lemmas.Bool.Decides.{nat_tests}
use Rattle.std.proofs.lemmas.List.{length-take, map-append, reverse-append, take-append-le}
use Rattle.std.proofs.lemmas.List.Elements.{All-filter, All-weaker, filter_passes, filter-append}
use Rattle.ts_sample.proofs.Between.{filter-filter}
use Rattle.ts_sample.proofs.Parted.{filter_alike}
use Rattle.ts_spec.specs.Answer.{Row, row_of, passes_filters}
use Rattle.ts_spec.specs.Bucket.{Grid, start}
use Rattle.ts_spec.specs.Command.{Buckets}
use Rattle.ts_spec.specs.Sample.{Point, IsAscending, at_times, is_within, between}
use Rattle.ts_spec.proofs.Buckets.{start-le, start-order, start-start}
use Rattle.ts_range.specs.declared.query.Buckets.{Buckets as Asked}
use Rattle.ts_range.specs.declared.query.Query.{Query}
use Rattle.ts_range.specs.Query.{buckets_of, query_of}
use Rattle.ts_range.specs.RowScanState.{rows_passing}
use Rattle.ts_range.proofs.Groups.{rows-append}
use Rattle.ts_questions.specs.Asking.{rows_in}
use Rattle.ts_questions.proofs.ReachingBack.{parts}

-- ---- at the start of a bucket

before-start : (g : Grid) (t u : ℕ) → 0 < g.duration → nat_lt u t ≡ true → start g u < t
before-start g t u some is = let less : u < t = grind (arith, nat_tests) in omega (arith, start-le g u some)

from-start : (g : Grid) (t u : ℕ) → start g t ≡ t → not (nat_lt u t) ≡ true → t ≤ start g u
from-start g t u same is = let on : t ≤ u = grind (arith, nat_tests) in omega (arith, same, start-order g t u on)

-- samples before a start of a bucket, and those from it on
rows-parted : (o : Option Buckets) (asked early late : List Point) (t : ℕ) → ForSome o (λ bs. (0 < bs.grid.duration) × (start bs.grid t ≡ t))
    → All (λ p. nat_lt p.time t ≡ true) early → All (λ p. not (nat_lt p.time t) ≡ true) late
    → rows_passing o asked (early ++ late) ≡ rows_passing o asked early ++ rows_passing o asked late
rows-parted None asked early late t starts below above = map-append row_of early late
rows-parted (Some bs) asked early late t starts below above =
    let at = starts bs refl in
    rows-append bs asked t early late
    (All-weaker (λ p. nat_lt p.time t ≡ true) (λ p. start bs.grid p.time < t) (λ p is. before-start bs.grid t p.time at.0 is) early below)
    (All-weaker (λ p. not (nat_lt p.time t) ≡ true) (λ p. t ≤ start bs.grid p.time) (λ p is. from-start bs.grid t p.time at.1 is) late above)

upto-before : (from to t u : ℕ) → from < t → t ≤ to → (is_within from to u && nat_lt u t) ≡ is_within from (t - 1) u
upto-before from to t u less le = grind (arith, nat_tests)

within-from : (t to u : ℕ) → is_within t to u ≡ true → not (nat_lt u t) ≡ true
within-from t to u is = grind (arith, nat_tests)

-- the rows of an interval, where a bucket begins in it
pub rows-split : (o : Option Buckets) (lets : Point → Bool) (from to t : ℕ) (l : List Point) → IsAscending l → from < t → t ≤ to → ForSome o (λ bs. (0 < bs.grid.duration) × (start bs.grid t ≡ t))
    → rows_passing o l (filter lets (between from to l)) ≡ rows_passing o l (filter lets (between from (t - 1) l)) ++ rows_passing o l (filter lets (between t to l))
rows-split o lets from to t l rises less le starts =
    let front = at_times (λ u. nat_lt u t) (between from to l) in
    let same : front ≡ between from (t - 1) l =
    filter-filter (λ (p : Point). nat_lt p.time t) (λ (p : Point). is_within from to p.time) l
    ∙ filter_alike (λ (p : Point). is_within from to p.time && nat_lt p.time t) (λ (p : Point). is_within from (t - 1) p.time) (λ p. upto-before from to t p.time less le) l in
    let early = filter lets front in
    let late = filter lets (between t to l) in
    ap (λ (ps : List Point). rows_passing o l (filter lets ps)) (parts from to t l rises (omega arith))
    ∙ ap (rows_passing o l) (filter-append lets front (between t to l))
    ∙ rows-parted o l early late t starts
    (All-filter lets (λ p. nat_lt p.time t ≡ true) front (filter_passes (λ (p : Point). nat_lt p.time t) (between from to l)))
    (All-filter lets (λ p. not (nat_lt p.time t) ≡ true) (between t to l)
    (All-weaker (λ p. is_within t to p.time ≡ true) (λ p. not (nat_lt p.time t) ≡ true) (λ p is. within-from t to p.time is) (between t to l) (filter_passes (λ (p : Point). is_within t to p.time) l)))
    ∙ ap (λ (ps : List Point). rows_passing o l (filter lets ps) ++ rows_passing o l late) same

-- a bucket begins at a time, where there are buckets
abbrev pub Begins : Query → ℕ → Type 0
Begins q t = ForSome q.buckets (λ bs. (0 < bs.grid.duration) × (start bs.grid t ≡ t))

holds-at : {X : Type 0} (P : X → Type 0) (x y : X) → Some x ≡ Some y → P x → P y
holds-at {X} P x y e h = subst at e h
  where
    at : Option X → Type 0
    at None = ⊤
    at (Some z) = P z

begins-of : (o : Option Asked) (t : ℕ) → ForSome o (λ bs. (0 < bs.grid.duration) × (start bs.grid t ≡ t)) → ForSome (option_map buckets_of o) (λ bs. (0 < bs.grid.duration) × (start bs.grid t ≡ t))
begins-of None t h bs is = absurd (cc is)
begins-of (Some asked) t h bs is = holds-at (λ (b : Buckets). (0 < b.grid.duration) × (start b.grid t ≡ t)) (buckets_of asked) bs is (h asked refl)

-- the later of a time and the start of a bucket
pub begins-at : (q : Query) (asked : Asked) (from t u : ℕ) → q.buckets ≡ Some asked → 0 < asked.grid.duration → t ≡ max from (start asked.grid u) → (t ≡ from) ⊎ Begins q t
begins-at q asked from t u has some is = go (either from (start asked.grid u))
  where
    either : (a b : ℕ) → (a ≤ b) ⊎ (b ≤ a)
    either a b = grind arith

    go : (from ≤ start asked.grid u) ⊎ (start asked.grid u ≤ from) → (t ≡ from) ⊎ Begins q t
    go (inl le) =
        let same : t ≡ start asked.grid u = omega (arith, is) in
        let fixed : start asked.grid t ≡ t = ap (start asked.grid) same ∙ start-start asked.grid u some ∙ sym same in
        inr (λ bs e. holds-at (λ (b : Asked). (0 < b.grid.duration) × (start b.grid t ≡ t)) asked bs (sym has ∙ e) (some, fixed))
    go (inr le) = inl (omega (arith, is))

pub in-parts : (q : Query) (l : List Point) → IsAscending l → (from to t : ℕ) → from < t → t ≤ to → Begins q t → rows_in q l from to ≡ rows_in q l from (t - 1) ++ rows_in q l t to
in-parts q l rises from to t less le begins = rows-split (option_map buckets_of q.buckets) (passes_filters (query_of q)) from to t l rises less le (begins-of q.buckets t begins)

-- there are none before an interval begins
outside : (from to t : ℕ) → to < from → is_within from to t ≡ false
outside from to t less = grind (arith, nat_tests)

none-within : (from to : ℕ) (l : List Point) → to < from → between from to l ≡ []
none-within from to [] less = refl
none-within from to (p ∷ ps) less = ap (λ (b : Bool). cond b (p ∷ between from to ps) (between from to ps)) (outside from to p.time less) ∙ none-within from to ps less

pub in-none : (q : Query) (l : List Point) (from to : ℕ) → to < from → rows_in q l from to ≡ []
in-none q l from to less = ap (λ (ps : List Point). rows_passing (option_map buckets_of q.buckets) l (filter (passes_filters (query_of q)) ps)) (none-within from to l less) ∙ no-rows (option_map buckets_of q.buckets)
  where
    no-rows : (o : Option Buckets) → rows_passing o l [] ≡ []
    no-rows None = refl
    no-rows (Some bs) = refl

-- ---- so many rows of the end

take-front : (n : ℕ) (xs ys : List Row) → take n (take n xs ++ ys) ≡ take n (xs ++ ys)
take-front zero xs ys = refl
take-front (suc n) [] ys = refl
take-front (suc n) (x ∷ xs) ys = ap (λ (rs : List Row). x ∷ rs) (take-front n xs ys)

take-take : (n m : ℕ) (xs : List Row) → n ≤ m → take n (take m xs) ≡ take n xs
take-take zero m xs le = refl
take-take (suc n) zero xs le = absurd (omega arith)
take-take (suc n) (suc m) [] le = refl
take-take (suc n) (suc m) (x ∷ xs) le = ap (λ (rs : List Row). x ∷ rs) (take-take n m xs (omega arith))

-- no more of the second list are needed than are taken
pub take-back : (n m : ℕ) (xs ys : List Row) → n ≤ m → take n (xs ++ take m ys) ≡ take n (xs ++ ys)
take-back n m [] ys le = take-take n m ys le
take-back zero m (x ∷ xs) ys le = refl
take-back (suc n) m (x ∷ xs) ys le = ap (λ (rs : List Row). x ∷ rs) (take-back n m xs ys (omega arith))

-- the rows that were found, of which there are no more than are wanted, and those that are left, all of them the last
-- one first
pub record AreFound (n : ℕ) (found left all : List Row) : Type 0 where
  pub few : length found ≤ n
  pub same : take n (found ++ reverse left) ≡ take n (reverse all)

pub found-none : (n : ℕ) (found all : List Row) → found ≡ [] → AreFound n found all all
found-none n found all none = record { few = omega (arith, ap length none); same = ap (λ (rs : List Row). take n (rs ++ reverse all)) none }

-- those of the end of what is left were found too
pub found-more : (n : ℕ) (found front back left all more : List Row) → AreFound n found left all → left ≡ front ++ back → more ≡ take n (found ++ reverse back) → AreFound n more front all
found-more n found front back left all more so_far parted is = record {
  few = omega (arith, ap length is, length-take n (found ++ reverse back));
  same =
      ap (λ (rs : List Row). take n (rs ++ reverse front)) is
      ∙ take-front n (found ++ reverse back) (reverse front)
      ∙ ap (take n) (append_assoc found (reverse back) (reverse front))
      ∙ ap (λ (rs : List Row). take n (found ++ rs)) (sym (ap reverse parted ∙ reverse-append front back))
      ∙ so_far.same;
}

take-few : (n : ℕ) (xs : List Row) → length xs ≤ n → take n xs ≡ xs
take-few zero [] le = refl
take-few zero (x ∷ xs) le = absurd (omega arith)
take-few (suc n) [] le = refl
take-few (suc n) (x ∷ xs) le = ap (λ (rs : List Row). x ∷ rs) (take-few n xs (omega arith))

-- as many as are wanted were found
pub found-enough : (n : ℕ) (found left all : List Row) → AreFound n found left all → n ≤ length found → found ≡ take n (reverse all)
found-enough n found left all so_far enough = sym (take-few n found so_far.few) ∙ sym (take-append-le n found (reverse left) enough) ∙ so_far.same

-- nothing is left
pub found-all : (n : ℕ) (found left all : List Row) → AreFound n found left all → left ≡ [] → found ≡ take n (reverse all)
found-all n found left all so_far none =
    sym (take-few n found so_far.few) ∙ ap (take n) (sym (append-nil found)) ∙ ap (λ (rs : List Row). take n (found ++ reverse rs)) (sym none) ∙ so_far.same

-- the rest was found
pub found-rest : (n : ℕ) (found left all more : List Row) → AreFound n found left all → more ≡ take n (found ++ reverse left) → more ≡ take n (reverse all)
found-rest n found left all more so_far is = is ∙ so_far.same
