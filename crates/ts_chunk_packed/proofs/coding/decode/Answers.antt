use Rattle.std.proofs.Common.{◌≡◌, ◌≤◌, ◌+ℤ◌, ◌^◌, List, ℕ, ℤ, sym, ap, ◌∙◌, subst, unsigned_abs, arith}
use Rattle.std.proofs.lemmas.Int.{ints, to_z-of_z, fits_signed_from_abs}
use Rattle.std.specs.Int.{w128, cast_signed, cast_unsigned}
use Rattle.ts_spec.specs.Sample.{Point}
use Rattle.ts_spec.specs.Value.{bound}
use Rattle.ts_chunk_packed.specs.Packed.{number_of, unzigzag, sample_of}
use Rattle.ts_chunk_packed.specs.Reading.{Begins}
use Rattle.ts_chunk_packed.proofs.Decoding.{gap_of, value_of, made_of, begins_time, begins_value, begins_made, all_read}
use Rattle.ts_chunk_packed.proofs.coding.decode.Goals as goal
use Rattle.ts_chunk_packed.proofs.coding.decode.Goals.{After-value_after-value}

shown : (z : ℤ) → unsigned_abs z ≤ bound → cast_signed w128 (cast_unsigned w128 z) ≡ z
shown z small = to_z-of_z w128 z (fits_signed_from_abs w128 z (omega arith))

pub time_after-time-requires-clause-begins : goal.time_after-time-requires-clause-begins
time_after-time-requires-clause-begins c = begins_time c.args.context.now c.args.bytes.now c.requires c.known.ensures

pub time_after-time-requires-clause-least : goal.time_after-time-requires-clause-least
time_after-time-requires-clause-least c = omega (arith, ints, gap_of c.args.context.now c.args.bytes.now c.requires, c.requires.later)

pub time_after-time-requires-clause-most : goal.time_after-time-requires-clause-most
time_after-time-requires-clause-most c = omega (arith, ints, gap_of c.args.context.now c.args.bytes.now c.requires, c.requires.fine.time)

pub value_after-value-requires-clause-begins : goal.value_after-value-requires-clause-begins
value_after-value-requires-clause-begins c =
    subst (Begins (2 ^ 120)) (sym c.time_after-time.ensures.rest) (begins_value c.args.context.now c.args.bytes.now c.requires c.known.ensures)

pub made_after-made-requires-clause-begins : goal.made_after-made-requires-clause-begins
made_after-made-requires-clause-begins c =
    let rest = c.value_after-value.ensures.rest ∙ ap (λ (l : List ℕ). (number_of l).1) c.time_after-time.ensures.rest in
    subst (Begins (2 ^ 64)) (sym rest) (begins_made c.args.context.now c.args.bytes.now c.requires c.known.ensures)

pub made_after-made-requires-clause-least : goal.made_after-made-requires-clause-least
made_after-made-requires-clause-least c =
    let rest = c.value_after-value.ensures.rest ∙ ap (λ (l : List ℕ). (number_of l).1) c.time_after-time.ensures.rest in
    let made = ap (λ (q : Point). q.made) (c.before-2.view_is ∙ c.before-before.ensures) in
    omega (arith, ints, ap (λ (l : List ℕ). unzigzag (number_of l).0) rest, made_of c.args.context.now c.args.bytes.now c.requires, made)

pub made_after-made-requires-clause-most : goal.made_after-made-requires-clause-most
made_after-made-requires-clause-most c =
    let rest = c.value_after-value.ensures.rest ∙ ap (λ (l : List ℕ). (number_of l).1) c.time_after-time.ensures.rest in
    let made = ap (λ (q : Point). q.made) (c.before-2.view_is ∙ c.before-before.ensures) in
    omega (arith, ints, ap (λ (l : List ℕ). unzigzag (number_of l).0) rest, made_of c.args.context.now c.args.bytes.now c.requires, made, c.requires.fine.made)

value : (c : After-value_after-value) → c.value_after-value.result.0 ≡ c.requires.sample.value
value c =
    let before = c.get.ensures.value ∙ ap (λ (q : Point). q.value) (c.before-2.view_is ∙ c.before-before.ensures) in
    c.value_after-value.ensures.value ∙ ap (λ (z : ℤ). z +ℤ unzigzag (number_of c.time_after-time.result.1.now).0) (shown c.get.result c.get.ensures.bounded ∙ before)
    ∙ ap (λ (l : List ℕ). c.args.context.now.before.value +ℤ unzigzag (number_of l).0) c.time_after-time.ensures.rest ∙ value_of c.args.context.now c.args.bytes.now c.requires

small : (c : After-value_after-value) → unsigned_abs c.value_after-value.result.0 ≤ bound
small c = subst (λ (z : ℤ). unsigned_abs z ≤ bound) (sym (value c)) c.requires.fine.value

pub of_millionths-value-requires : goal.of_millionths-value-requires
of_millionths-value-requires c =
    let here = small (goal.at.of_millionths-value-requires c).After-value_after-value in
    subst (λ (z : ℤ). unsigned_abs z ≤ bound) (sym (shown c.value_after-value.result.0 here)) here

pub invariant_of-result : goal.invariant_of-result
invariant_of-result c = omega (arith, ints, c.time_after-time.ensures.time, gap_of c.args.context.now c.args.bytes.now c.requires, c.requires.fine.time)

pub returns-clause-sample : goal.returns-clause-sample
returns-clause-sample c =
    let f = c.requires in
    let before = c.before-2.view_is ∙ c.before-before.ensures in
    let rest = c.value_after-value.ensures.rest ∙ ap (λ (l : List ℕ). (number_of l).1) c.time_after-time.ensures.rest in
    let at = (goal.at.returns-clause-sample c).After-value_after-value in
    let same = c.of_millionths-value.ensures ∙ shown c.value_after-value.result.0 (small at) ∙ value at in
    let time : c.time_after-time.result.0 ≡ f.sample.time = omega (arith, ints, c.time_after-time.ensures.time, gap_of c.args.context.now c.args.bytes.now f) in
    let made : c.made_after-made.result.0 ≡ f.sample.made =
    omega (arith, ints, c.made_after-made.ensures.made, ap (λ (l : List ℕ). unzigzag (number_of l).0) rest, made_of c.args.context.now c.args.bytes.now f, ap (λ (q : Point). q.made) before) in
    (λ i. record { time = time i; value = same i; made = made i }) ∙ sym (ap (λ (r : Point × List ℕ). r.0) (all_read c.args.context.now c.args.bytes.now f))

pub returns-clause-rest : goal.returns-clause-rest
unfolding sample_of
returns-clause-rest c =
    c.made_after-made.ensures.rest
    ∙ ap (λ (l : List ℕ). (number_of l).1) (c.value_after-value.ensures.rest ∙ ap (λ (l : List ℕ). (number_of l).1) c.time_after-time.ensures.rest)
