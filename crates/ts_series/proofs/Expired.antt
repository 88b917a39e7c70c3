-- Chunks whose samples are all before the retention edge.
use Rattle.std.proofs.Common.{◌≡◌, ◌≢◌, ℕ, ◌-◌, ◌<◌, ◌≤◌, Bool, true, false, cond, List, [], ◌∷◌, ◌++◌, length, get_or, drop, map, refl, sym, ◌∙◌, ap, subst, arith, length-append}
use Rattle.std.specs.Prelude.{nat_le, None, Some}
use Rattle.std.proofs.lemmas.Bool.Decides.{nat_tests}
use Rattle.ts_spec.specs.Sample.{Point, IsAfter, IsAscending, at_times, last_of}
use Rattle.ts_sample.specs.Chunk.{joined}
use Rattle.ts_sample.proofs.Lists.{ascending-right}
use Rattle.ts_series.specs.Stored.{AreStoredChunks, IsTrimmed}
use Rattle.ts_series.proofs.Counting.{times-append}

after-last : (t : ℕ) (ps : List Point) (q : Point) → IsAfter t ps → last_of ps ≡ Some q → t < q.time
after-last t [] q h is = absurd (cc is)
after-last t (p ∷ []) q h is = let same : p ≡ q = cc is in subst (λ (r : Point). t < r.time) same h.0
after-last t (p ∷ r ∷ ps) q h is = after-last t (r ∷ ps) q h.1 is

-- an empty list has none from the edge on
pub none-last : (edge : ℕ) (ps : List Point) → None ≡ last_of ps → at_times (nat_le edge) ps ≡ []
none-last edge [] is = refl
none-last edge (p ∷ ps) is = absurd (cc is)

-- none is from the edge on where the last is before it
pub none-kept : (edge : ℕ) (ps : List Point) (q : Point) → IsAscending ps → last_of ps ≡ Some q → q.time < edge → at_times (nat_le edge) ps ≡ []
none-kept edge [] q up is less = refl
none-kept edge (p ∷ []) q up is less =
    let same : p ≡ q = cc is in
    let early : p.time < edge = subst (λ (r : Point). r.time < edge) (sym same) less in
    let no : nat_le edge p.time ≡ false = grind (arith, nat_tests) in
    ap (λ b. cond b (p ∷ []) []) no
none-kept edge (p ∷ r ∷ ps) q up is less =
    let early : p.time < edge = omega (arith, after-last p.time (r ∷ ps) q up.0 is) in
    let no : nat_le edge p.time ≡ false = grind (arith, nat_tests) in
    ap (λ b. cond b (p ∷ at_times (nat_le edge) (r ∷ ps)) (at_times (nat_le edge) (r ∷ ps))) no ∙ none-kept edge (r ∷ ps) q up.1 is less

-- the last is from the edge on
pub last-kept : (edge : ℕ) (ps : List Point) (q : Point) → last_of ps ≡ Some q → edge ≤ q.time → at_times (nat_le edge) ps ≢ []
last-kept edge [] q is le = absurd (cc is)
last-kept edge (p ∷ []) q is le =
    let same : p ≡ q = cc is in
    let late : edge ≤ p.time = subst (λ (r : Point). edge ≤ r.time) (sym same) le in
    let yes : nat_le edge p.time ≡ true = grind (arith, nat_tests) in
    let all : at_times (nat_le edge) (p ∷ []) ≡ p ∷ [] = ap (λ b. cond b (p ∷ []) []) yes in
    λ e. absurd (cc (sym all ∙ e))
last-kept edge (p ∷ r ∷ ps) q is le = go (nat_le edge p.time) (last-kept edge (r ∷ ps) q is le)
  where
    go : (b : Bool) → at_times (nat_le edge) (r ∷ ps) ≢ [] → cond b (p ∷ at_times (nat_le edge) (r ∷ ps)) (at_times (nat_le edge) (r ∷ ps)) ≢ []
    go true rest = λ e. absurd (cc e)
    go false rest = rest

-- a list of which it is false that it has a sample has none
nothing-left : (ps : List Point) → ¬ (ps ≢ []) → ps ≡ []
nothing-left [] h = refl
nothing-left (p ∷ ps) h = absurd (h (λ e. absurd (cc e)))

-- a queue begins with its first one
pub begins-with : {X : Type 0} (xs : List X) (n : ℕ) (x : X) → n ≡ length xs → 0 < n → x ≡ get_or xs 0 x → xs ≡ x ∷ drop 1 xs
begins-with [] n x many some is = absurd (omega arith)
begins-with (y ∷ ys) n x many some is = ap (λ z. z ∷ ys) (sym is)

-- without a first chunk before the edge the samples from it on are the same
pub kept-past : {X : Type 0} (list : X → List Point) (edge : ℕ) (x : X) (xs : List X) → ¬ IsTrimmed edge (map list (x ∷ xs))
    → at_times (nat_le edge) (joined (map list xs)) ≡ at_times (nat_le edge) (joined (map list (x ∷ xs)))
kept-past list edge x xs gone =
    sym (times-append (nat_le edge) (list x) (joined (map list xs))
    ∙ ap (λ (l : List Point). l ++ at_times (nat_le edge) (joined (map list xs))) (nothing-left (at_times (nat_le edge) (list x)) gone))

-- what is kept without the first chunk
pub kept-rest : {X : Type 0} (format : List Point → List ℕ) (list : X → List Point) (most : X → ℕ) (x : X) (xs : List X) (count : ℕ)
    → AreStoredChunks format (map list (x ∷ xs)) (map most (x ∷ xs)) count → AreStoredChunks format (map list xs) (map most xs) (count - length (list x))
kept-rest format list most x xs count kept = record {
  chunks = kept.chunks.1.1;
  ascending = ascending-right (list x) (joined (map list xs)) kept.ascending;
  counted = omega (arith, kept.counted, length-append (list x) (joined (map list xs)));
}
