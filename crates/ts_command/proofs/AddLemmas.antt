-- The arguments of TS.ADD, TS.INCRBY and TS.DECRBY.
use Rattle.std.proofs.Common.{◌≡◌, ◌≤◌, ◌-◌, ℤ, List, [], ◌∷◌, length, take, drop, get_or, refl, arith}
use Rattle.std.proofs.Math.Seq.{take-length}
use Rattle.std.specs.Prelude.{Ok}
use Rattle.std.specs.Option.{unwrap_or}
use Rattle.ts_spec.specs.declared.command.At.{At}
use Rattle.ts_spec.specs.declared.command.At.TheVariants.{Clock}
use Rattle.ts_spec.specs.Command.{Spec, Add, Incr}
use Rattle.ts_spec.specs.Settings.{Word, Given, at_word, value_word, nothing, options}
use Rattle.ts_spec.specs.SeriesOptions.{add_options, incr_options, spec}
use Rattle.ts_spec.specs.Grammar.{add, incr}

-- the command of words that were taken apart by their places, and read one by one
pub add-read : (words : List Word) (key time amount : Word) (at : At) (v : ℤ) (given : Given) (made : Spec)
    → 4 ≤ length words → key ≡ get_or words 1 key → time ≡ get_or words 2 time → amount ≡ get_or words 3 amount
    → at_word time ≡ Ok at → value_word amount ≡ Ok v
    → options add_options nothing 0 (take (length words - 4) (drop 4 words)) ≡ Ok given
    → made ≡ spec given
    → add (drop 1 words) ≡ Ok (Add key at v given.on made)
add-read [] key time amount at v given made some is_key is_time is_amount at_time at_amount said is_made = absurd (omega arith)
add-read (name ∷ []) key time amount at v given made some is_key is_time is_amount at_time at_amount said is_made = absurd (omega arith)
add-read (name ∷ one ∷ []) key time amount at v given made some is_key is_time is_amount at_time at_amount said is_made = absurd (omega arith)
add-read (name ∷ one ∷ two ∷ []) key time amount at v given made some is_key is_time is_amount at_time at_amount said is_made = absurd (omega arith)
add-read (name ∷ one ∷ two ∷ three ∷ words) key time amount at v given made some is_key is_time is_amount at_time at_amount said is_made =
    let rest : length (name ∷ one ∷ two ∷ three ∷ words) - 4 ≡ length words = omega arith in
    rw (← is_key, ← is_time, ← is_amount, at_time, at_amount, rw (rest, take-length words) at said, is_made) refl

-- the same of a change
pub incr-read : (signed : ℤ → ℤ) (words : List Word) (key amount : Word) (v change : ℤ) (given : Given) (at : At) (made : Spec)
    → 3 ≤ length words → key ≡ get_or words 1 key → amount ≡ get_or words 2 amount
    → value_word amount ≡ Ok v
    → options incr_options nothing 0 (take (length words - 3) (drop 3 words)) ≡ Ok given
    → change ≡ signed v → at ≡ unwrap_or given.at Clock → made ≡ spec given
    → incr signed (drop 1 words) ≡ Ok (Incr key change at made)
incr-read signed [] key amount v change given at made some is_key is_amount at_amount said is_change is_at is_made = absurd (omega arith)
incr-read signed (name ∷ []) key amount v change given at made some is_key is_amount at_amount said is_change is_at is_made = absurd (omega arith)
incr-read signed (name ∷ one ∷ []) key amount v change given at made some is_key is_amount at_amount said is_change is_at is_made = absurd (omega arith)
incr-read signed (name ∷ one ∷ two ∷ words) key amount v change given at made some is_key is_amount at_amount said is_change is_at is_made =
    let rest : length (name ∷ one ∷ two ∷ words) - 3 ≡ length words = omega arith in
    rw (← is_key, ← is_amount, at_amount, rw (rest, take-length words) at said, is_change, is_at, is_made) refl
