-- What a visitor has counted.
use Rattle.std.proofs.Common.{◌≡◌, Bool, true, false, List, [], ◌∷◌, refl, ◌∙◌, fold}
use Rattle.std.specs.Prelude.{nat_le, if◌then◌else◌, filter}
use Rattle.ts_spec.specs.Sample.{Point}
use Rattle.ts_spec.specs.Aggregate.{Summary, push}
use Rattle.ts_sample.specs.Visit.{visited}
use Rattle.ts_agg.specs.Counted.{Counting, counted_one}

counted_by : (s : Summary) (p : Point) (ps : List Point) (test : Bool) → fold push (if test then push s p else s) ps ≡ fold push s (if test then p ∷ ps else ps)
counted_by s p ps true = refl
counted_by s p ps false = refl

-- after a list it has pushed the samples of the list that count, and no others
pub running-visited : (c : Counting) (ps : List Point) → (visited counted_one c ps).running ≡ fold push c.running (filter (λ p. nat_le c.made p.made) ps)
running-visited c [] = refl
running-visited c (p ∷ ps) = running-visited (counted_one c p) ps ∙ counted_by c.running p (filter (λ p. nat_le c.made p.made) ps) (nat_le c.made p.made)
