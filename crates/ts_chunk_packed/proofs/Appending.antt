-- Concatenated lists, and their bytes.
use Rattle.std.proofs.Common.{◌≡◌, ℕ, ◌<◌, ◌==◌, if◌then◌else◌, List, [], ◌∷◌, ◌++◌, length, refl, sym, ap, ◌∙◌, append_assoc, arith, eq-eqb, ne_eqb}
use Rattle.std.specs.Prelude.{Option, None}
use Rattle.ts_spec.specs.Sample.{Point, first_of}
use Rattle.ts_chunk_packed.specs.Packed.{State, next, coded, packed_from, state_from}

pub packed-append : (s : State) (ps qs : List Point) → packed_from s (ps ++ qs) ≡ packed_from s ps ++ packed_from (state_from s ps) qs
packed-append s [] qs = refl
packed-append s (p ∷ ps) qs =
    ap (λ (l : List ℕ). coded s p ++ l) (packed-append (next s p) ps qs) ∙ sym (append_assoc (coded s p) (packed_from (next s p) ps) (packed_from (state_from (next s p) ps) qs))

pub state-append : (s : State) (ps qs : List Point) → state_from s (ps ++ qs) ≡ state_from (state_from s ps) qs
state-append s [] qs = refl
state-append s (p ∷ ps) qs = state-append (next s p) ps qs

-- the first of two lists, where the one has any, and the first of the one
pub first-both : (ps qs : List Point) → 0 < length ps → first_of ps ≡ first_of (ps ++ qs)
first-both [] qs some = absurd (omega arith)
first-both (p ∷ ps) qs some = refl

pub first-front : (begins : Option Point) (count : ℕ) (ps qs : List Point) → count ≡ length ps → begins ≡ first_of (ps ++ qs) → (if count == 0 then None else begins) ≡ first_of ps
first-front begins count [] qs few is = rw (eq-eqb count 0 few) refl
first-front begins count (p ∷ ps) qs few is = rw (ne_eqb count 0 (λ none. absurd (omega (arith, few, none)))) is
