-- The values of a filter, one after another.
use Rattle.std.proofs.Common.{◌≡◌, ℕ, suc, ◌<◌, ◌+◌, List, [], ◌∷◌, ◌++◌, drop, length, get_or, refl, sym, ◌∙◌, ap, arith}
use Rattle.std.proofs.Math.Seq.{drop-cons}
use Rattle.ts_spec.specs.Key.{Key}
use Rattle.ts_sample.specs.declared.sample.Id.{Id}
use Rattle.ts_index.specs.Index.{Labelled, ids_where, has_pair}
use Rattle.ts_index.specs.Candidates.{postings}

-- the list of the next value, and those of the values after it
pub postings-next : (label : List ℕ) (vs : List Key) (k : ℕ) (v : Key) (es : Labelled) → k < length vs → v ≡ get_or vs k v
    → postings label (drop k vs) es ≡ ids_where (has_pair label v) es ++ postings label (drop (k + 1) vs) es
postings-next label vs k v es inside is =
    let one : suc k ≡ k + 1 = omega arith in
    let next : drop k vs ≡ v ∷ drop (k + 1) vs = drop-cons vs k v inside ∙ (λ j. (sym is) j ∷ drop (one j) vs) in
    ap (λ (r : List Key). postings label r es) next

pub none-left : (xs : List Id) → length xs ≡ 0 → xs ≡ []
none-left [] h = refl
none-left (x ∷ xs) h = absurd (omega arith)
