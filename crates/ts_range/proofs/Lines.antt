-- The rows of consecutive buckets, empty or not.
use Rattle.std.proofs.Common.{◌≡◌, ℕ, ◌+◌, List, [], ◌∷◌, ◌++◌, map, take, refl, ◌∙◌, ap, arith}
use Rattle.std.specs.Prelude.{Option, Some, slice_get}
use Rattle.std.proofs.lemmas.List.{length-map, take_more, get_or-map}
use Rattle.std.proofs.lemmas.Option.{slice_get_within, get_or_from_slice_get}
use Rattle.ts_spec.specs.declared.bucket.Aggregator.{Aggregator}
use Rattle.ts_spec.specs.declared.bucket.Aggregator.TheVariants.{Avg, Sum, Min, Max, Range, Count, First, Last}
use Rattle.ts_spec.specs.Sample.{Point, first_of, last_of}
use Rattle.ts_spec.specs.Answer.{Row, empty_cell}
use Rattle.ts_range.specs.Empty.{empty_cell_of}
use Rattle.ts_range.specs.AskedSamples.{times_of, last_before}

-- ---- cells

pub empty-told : (a : Aggregator) (b : ℕ) (asked : List Point) → empty_cell a b asked ≡ empty_cell_of a (last_before b asked)
empty-told Avg b asked = refl
empty-told Sum b asked = refl
empty-told Min b asked = refl
empty-told Max b asked = refl
empty-told Range b asked = refl
empty-told Count b asked = refl
empty-told First b asked = refl
empty-told Last b asked = refl

-- ---- rows by place

-- one row more
pub row-more : (f : ℕ → Row) (xs : List ℕ) (i b : ℕ) → slice_get xs i ≡ Some b → take (i + 1) (map f xs) ≡ take i (map f xs) ++ f b ∷ []
row-more f xs i b is =
    let within = slice_get_within xs i b is in
    take_more (map f xs) i (f b) (omega (arith, length-map xs f))
    ∙ ap (λ (x : Row). take i (map f xs) ++ x ∷ []) (get_or-map f xs i b (f b) within ∙ ap f (get_or_from_slice_get xs i b b is))

-- ---- the last sample before a bucket

pub first-asked : (a : List Point) (o : Option (ℕ × ℕ)) (e : ℕ × ℕ) → o ≡ Some e → o ≡ times_of (first_of a) (last_of a) → (p : Point) × (first_of a ≡ Some p) × (p.time ≡ e.0)
first-asked [] o e is ends = absurd (cc)
first-asked (p ∷ ps) o e is ends = (p, refl, (cc))
