-- The arguments of TS.RANGE and TS.REVRANGE.
use Rattle.std.proofs.Common.{◌≡◌, ◌≤◌, ◌-◌, ℕ, Bool, List, [], ◌∷◌, length, take, drop, get_or, refl, arith}
use Rattle.std.proofs.Math.Seq.{take-length}
use Rattle.std.specs.Prelude.{Ok, Err}
use Rattle.ts_spec.specs.Refusal.{Fault}
use Rattle.ts_spec.specs.Command.{Query, Range}
use Rattle.ts_spec.specs.Settings.{Word, Given, end_word, nothing, options}
use Rattle.ts_spec.specs.Ranges.{range_options, query}
use Rattle.ts_spec.specs.Grammar.{range}

-- the command of words that were taken apart by their places, and read one by one
pub range-read : (reverse : Bool) (words : List Word) (key from to : Word) (first last : ℕ) (given : Given) (asked : Query)
    → 4 ≤ length words → key ≡ get_or words 1 key → from ≡ get_or words 2 from → to ≡ get_or words 3 to
    → end_word from ≡ Ok first → end_word to ≡ Ok last
    → options range_options nothing 0 (take (length words - 4) (drop 4 words)) ≡ Ok given
    → query reverse from to first last given ≡ Ok asked
    → range reverse (drop 1 words) ≡ Ok (Range key given.latest asked)
range-read reverse [] key from to first last given asked some is_key is_from is_to at_first at_last said is_asked = absurd (omega arith)
range-read reverse (name ∷ []) key from to first last given asked some is_key is_from is_to at_first at_last said is_asked = absurd (omega arith)
range-read reverse (name ∷ one ∷ []) key from to first last given asked some is_key is_from is_to at_first at_last said is_asked = absurd (omega arith)
range-read reverse (name ∷ one ∷ two ∷ []) key from to first last given asked some is_key is_from is_to at_first at_last said is_asked = absurd (omega arith)
range-read reverse (name ∷ one ∷ two ∷ three ∷ words) key from to first last given asked some is_key is_from is_to at_first at_last said is_asked =
    let rest : length (name ∷ one ∷ two ∷ three ∷ words) - 4 ≡ length words = omega arith in
    rw (← is_key, ← is_from, ← is_to, at_first, at_last, rw (rest, take-length words) at said, is_asked) refl

-- the fault of such words of which each by itself has none
pub range-refused : (reverse : Bool) (words : List Word) (from to : Word) (first last : ℕ) (given : Given) (fault : Fault)
    → 4 ≤ length words → from ≡ get_or words 2 from → to ≡ get_or words 3 to
    → end_word from ≡ Ok first → end_word to ≡ Ok last
    → options range_options nothing 0 (take (length words - 4) (drop 4 words)) ≡ Ok given
    → query reverse from to first last given ≡ Err fault
    → range reverse (drop 1 words) ≡ Err fault
range-refused reverse [] from to first last given fault some is_from is_to at_first at_last said is_asked = absurd (omega arith)
range-refused reverse (name ∷ []) from to first last given fault some is_from is_to at_first at_last said is_asked = absurd (omega arith)
range-refused reverse (name ∷ one ∷ []) from to first last given fault some is_from is_to at_first at_last said is_asked = absurd (omega arith)
range-refused reverse (name ∷ one ∷ two ∷ []) from to first last given fault some is_from is_to at_first at_last said is_asked = absurd (omega arith)
range-refused reverse (name ∷ one ∷ two ∷ three ∷ words) from to first last given fault some is_from is_to at_first at_last said is_asked =
    let rest : length (name ∷ one ∷ two ∷ three ∷ words) - 4 ≡ length words = omega arith in
    rw (← is_from, ← is_to, at_first, at_last, rw (rest, take-length words) at said, is_asked) refl
