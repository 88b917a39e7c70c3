-- The state of a single aggregator after one more sample.
use Rattle.std.proofs.Common.{◌≡◌, ℕ, zero, suc, ◌+◌, ◌<◌, refl, sym, ◌∙◌, ap, arith, List, [], ◌∷◌, ◌++◌, length-append}
use Rattle.std.specs.Prelude.{ℤ, int_lt, if◌then◌else◌}
use Rattle.ts_spec.specs.declared.bucket.Aggregator.{Aggregator}
use Rattle.ts_spec.specs.declared.bucket.Aggregator.TheVariants as agg
use Rattle.ts_spec.specs.Sample.{Point}
use Rattle.ts_spec.specs.Aggregate.{Summary, summary, push}
use Rattle.ts_spec.proofs.Aggregates.{summary-push, summary-count}
use Rattle.ts_agg.specs.declared.tally.Tally.{Tally}
use Rattle.ts_agg.specs.declared.tally.Tally.TheVariants.{Avg, Sum, Min, Max, Range, Count, First, Last}
use Rattle.ts_agg.specs.Amounts.{added}
use Rattle.ts_agg.specs.Tally.{tally_of, IsTallyOf}

-- the state after one more sample
abbrev pub pushed : Tally → Point → Tally
pushed (Avg total) p = Avg (added total p.value)
pushed (Sum total) p = Sum (added total p.value)
pushed (Min least) p = Min (if int_lt p.value least then p.value else least)
pushed (Max greatest) p = Max (if int_lt greatest p.value then p.value else greatest)
pushed (Range least greatest) p = Range (if int_lt p.value least then p.value else least) (if int_lt greatest p.value then p.value else greatest)
pushed (Count amount) p = Count (amount + 1)
pushed (First first) p = First first
pushed (Last last) p = Last p.value

-- the state of a range, from its equal ends
pub same_range : (l g least greatest : ℤ) → l ≡ least → g ≡ greatest → Range l g ≡ Range least greatest
same_range l g least greatest low high = ap (λ (x : ℤ). Range x g) low ∙ ap (λ (x : ℤ). Range least x) high

-- a summary from its parts
abbrev summary_of : (count : ℕ) (sum least greatest first last : ℤ) → Summary
summary_of count sum least greatest first last = record { count = count; sum = sum; least = least; greatest = greatest; first = first; last = last }

-- of some samples: the first one is stored, and the others are compared with it
kept-pushed : (a : Aggregator) (n : ℕ) (sum least greatest first last : ℤ) (p : Point)
    → pushed (tally_of a (summary_of (suc n) sum least greatest first last)) p ≡ tally_of a (push (summary_of (suc n) sum least greatest first last) p)
kept-pushed agg.Avg n sum least greatest first last p = refl
kept-pushed agg.Sum n sum least greatest first last p = refl
kept-pushed agg.Min n sum least greatest first last p = refl
kept-pushed agg.Max n sum least greatest first last p = refl
kept-pushed agg.Range n sum least greatest first last p = refl
kept-pushed agg.Count n sum least greatest first last p = refl
kept-pushed agg.First n sum least greatest first last p = refl
kept-pushed agg.Last n sum least greatest first last p = refl

kept-push : (a : Aggregator) (count : ℕ) (sum least greatest first last : ℤ) (p : Point) → 0 < count
    → pushed (tally_of a (summary_of count sum least greatest first last)) p ≡ tally_of a (push (summary_of count sum least greatest first last) p)
kept-push a zero sum least greatest first last p some = absurd (omega arith)
kept-push a (suc n) sum least greatest first last p some = kept-pushed a n sum least greatest first last p

-- it describes the list with the sample
pub one-more : (a : Aggregator) (t new : Tally) (p : Point) (ps : List Point) → new ≡ pushed t p → IsTallyOf a t ps → IsTallyOf a new (ps ++ p ∷ [])
one-more a t new p ps is told =
    let s = summary ps in
    let some : 0 < s.count = omega (arith, summary-count ps, told.some) in
    record {
      some = omega (arith, length-append ps (p ∷ []));
      kept = is ∙ ap (λ (u : Tally). pushed u p) told.kept ∙ kept-push a s.count s.sum s.least s.greatest s.first s.last p some ∙ ap (tally_of a) (sym (summary-push ps p));
    }
