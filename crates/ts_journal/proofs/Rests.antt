-- What stands behind the whole requests of a journal.
use Rattle.std.proofs.Common.{◌≡◌, ℕ, ◌+◌, ◌-◌, ◌<◌, ◌≤◌, Bool, true, false, if◌then◌else◌, List, [], ◌∷◌, ◌++◌, length, drop, refl, sym, ap, ◌∙◌, arith}
use Rattle.std.proofs.Math.Seq.{drop-append-add}
use Rattle.std.proofs.lemmas.List.{drop_all, drop-append-le, length-drop}
use Rattle.ts_spec.specs.State.{State}
use Rattle.ts_journal.specs.Loading.{Load, Loads, BreaksAt, begins_as_record, unless_foreign}

-- it loads, so its rest may be the start of a record
pub rest-of : (bytes : List ℕ) (l : Load) (m : State) (place : ℕ) → unless_foreign bytes l ≡ Loads m place
    → (l ≡ Loads m place) × (begins_as_record (drop place bytes) ≡ true)
rest-of bytes (Loads n at) m place e = go (begins_as_record (drop at bytes)) refl e
  where
    go : (b : Bool) → begins_as_record (drop at bytes) ≡ b → (if b then Loads n at else BreaksAt at) ≡ Loads m place
        → (Loads n at ≡ Loads m place) × (begins_as_record (drop place bytes) ≡ true)
    go true its e =
        let same : at ≡ place = cc in
        (e, ap (λ (k : ℕ). begins_as_record (drop k bytes)) (sym same) ∙ its)
    go false its e = absurd cc
rest-of bytes (BreaksAt at) m place e = absurd cc

-- its rest decides
pub by-rest : (bytes : List ℕ) (l : Load) (m : State) (place : ℕ) (b : Bool) → l ≡ Loads m place → begins_as_record (drop place bytes) ≡ b
    → unless_foreign bytes l ≡ (if b then Loads m place else BreaksAt place)
by-rest bytes l m place b e its = ap (unless_foreign bytes) e ∙ ap (λ (b : Bool). if b then Loads m place else BreaksAt place) its

-- there is none
pub no-rest : (bytes : List ℕ) (place : ℕ) → length bytes ≤ place → begins_as_record (drop place bytes) ≡ true
no-rest bytes place all = ap begins_as_record (drop_all place bytes all)

pub loads-alone : (bytes : List ℕ) (l : Load) (m : State) (place : ℕ) → length bytes ≤ place → l ≡ Loads m place → unless_foreign bytes l ≡ Loads m place
loads-alone bytes l m place all e = by-rest bytes l m place true e (no-rest bytes place all)

-- ---- the rest of more bytes

more-begins : (bytes more : List ℕ) → 0 < length bytes → begins_as_record (bytes ++ more) ≡ begins_as_record bytes
more-begins [] more some = absurd (omega arith)
more-begins (byte ∷ bytes) more some = refl

-- it begins before them
pub rest-before : (bytes more : List ℕ) (at : ℕ) → at < length bytes → begins_as_record (drop at (bytes ++ more)) ≡ begins_as_record (drop at bytes)
rest-before bytes more at less =
    ap begins_as_record (drop-append-le at bytes more (omega (arith, less))) ∙ more-begins (drop at bytes) more (omega (arith, less, length-drop at bytes))

-- it begins among them
pub rest-among : (bytes more : List ℕ) (at : ℕ) → length bytes ≤ at → begins_as_record (drop at (bytes ++ more)) ≡ begins_as_record (drop (at - length bytes) more)
rest-among bytes more at past =
    let there : at ≡ length bytes + (at - length bytes) = omega (arith, past) in
    ap (λ (k : ℕ). begins_as_record (drop k (bytes ++ more))) there ∙ ap begins_as_record (drop-append-add bytes more (at - length bytes))
