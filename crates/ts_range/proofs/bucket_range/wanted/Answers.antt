use Rattle.std.proofs.Common.{◌≡◌, ℕ, ◌-◌, ◌≤◌, Bool, List, map, length, sym, ◌∙◌, ap, subst, arith}
use Rattle.std.specs.Prelude.{Some, slice_get}
use Rattle.ts_spec.specs.Answer.{starts_between, limit_rows, in_requested_order}
use Rattle.ts_range.specs.Starts.{starts_of}
use Rattle.ts_range.specs.AskedSamples.{most_of}
use Rattle.ts_range.proofs.Parts.{most-within, upto-within, first-wanted, from-past, from-within, from-whole, last-wanted}
use Rattle.ts_range.proofs.bucket_range.wanted.Goals as goal
use Rattle.ts_range.proofs.bucket_range.wanted.Goals.{After-at, After-at-2}

-- ---- the last ones are wanted

apart : (c : After-at) → 1 ≤ c.wanted-all.result - c.wanted-some.result
apart c =
    let e = most-within c.args.count (length (starts_of c.between-starts.result)) in
    let other = c.if-some-all.false in
    omega (arith, c.wanted-all.ensures, c.wanted-some.ensures)

there : (c : After-at) → slice_get (starts_between c.args.grid.now c.args.first c.args.last) (c.wanted-all.result - c.wanted-some.result) ≡ Some c.at.result
there c = ap (λ (xs : List ℕ). slice_get xs (c.wanted-all.result - c.wanted-some.result)) (sym c.between-starts.ensures) ∙ c.at.ensures.start

pub returns-then-reverse-clause-rows : goal.returns-then-reverse-clause-rows
returns-then-reverse-clause-rows c = λ f.
    let g = c.args.grid.now in
    let at = (goal.at.returns-then-reverse-clause-rows c).After-at in
    let long : length (starts_of c.between-starts.result) ≡ length (starts_between g c.args.first c.args.last) = ap length c.between-starts.ensures in
    let some : c.wanted-some.result ≡ most_of c.args.count (length (starts_between g c.args.first c.args.last)) = c.wanted-some.ensures ∙ ap (most_of c.args.count) long in
    let less = apart at in
    subst (λ (r : Bool). limit_rows c.args.count (in_requested_order r (map f (starts_between g c.args.first c.args.last))) ≡ in_requested_order r (map f (starts_between g c.at.result c.args.last))) (sym c.if-reverse.true)
    (last-wanted g c.known.ensures.some c.args.first c.args.last c.requires.ordered (c.wanted-all.result - c.wanted-some.result) c.at.result less (there at) c.args.count f
    (omega (arith, c.wanted-all.ensures)))

pub returns-then-reverse-clause-ordered : goal.returns-then-reverse-clause-ordered
returns-then-reverse-clause-ordered c =
    let g = c.args.grid.now in
    let at = (goal.at.returns-then-reverse-clause-ordered c).After-at in
    let past = from-past g c.known.ensures.some c.args.first c.args.last c.requires.ordered (c.wanted-all.result - c.wanted-some.result) c.at.result (apart at) (there at) in
    (omega arith, from-within g c.known.ensures.some c.args.first c.args.last c.requires.ordered (c.wanted-all.result - c.wanted-some.result) c.at.result (apart at) (there at), omega arith)

pub returns-then-reverse-clause-whole : goal.returns-then-reverse-clause-whole
returns-then-reverse-clause-whole c = λ t low not-before.
    let at = (goal.at.returns-then-reverse-clause-whole c).After-at in
    from-whole c.args.grid.now c.known.ensures.some c.args.first c.args.last c.requires.ordered (c.wanted-all.result - c.wanted-some.result) c.at.result (apart at) (there at) t not-before

-- ---- the first ones are wanted

front : (c : After-at-2) → slice_get (starts_between c.args.grid.now c.args.first c.args.last) (c.wanted-some.result - 1) ≡ Some c.at-2.result
front c = ap (λ (xs : List ℕ). slice_get xs (c.wanted-some.result - 1)) (sym c.between-starts.ensures) ∙ c.at-2.ensures.start

few : (c : After-at-2) → c.wanted-some.result ≤ length (starts_between c.args.grid.now c.args.first c.args.last)
few c =
    let e = most-within c.args.count (length (starts_of c.between-starts.result)) in
    let long : length (starts_of c.between-starts.result) ≡ length (starts_between c.args.grid.now c.args.first c.args.last) = ap length c.between-starts.ensures in
    omega (arith, c.wanted-some.ensures)

pub returns-clause-rows : goal.returns-clause-rows
returns-clause-rows c = λ f.
    let g = c.args.grid.now in
    let at = (goal.at.returns-clause-rows c).After-at-2 in
    let long : length (starts_of c.between-starts.result) ≡ length (starts_between g c.args.first c.args.last) = ap length c.between-starts.ensures in
    let one : 1 ≤ c.wanted-some.result = omega (arith, c.if-some-eq0.false) in
    subst (λ (r : Bool). limit_rows c.args.count (in_requested_order r (map f (starts_between g c.args.first c.args.last))) ≡ in_requested_order r (map f (starts_between g c.args.first c.max.result))) (sym c.if-reverse.false)
    (first-wanted g c.known.ensures.some c.args.first c.args.last c.requires.ordered c.wanted-some.result c.at-2.result one (few at) (front at) c.args.count f
    (c.wanted-some.ensures ∙ ap (most_of c.args.count) long)
    ∙ ap (λ (t : ℕ). map f (starts_between g c.args.first t)) (sym c.max.ensures))

pub returns-clause-ordered : goal.returns-clause-ordered
returns-clause-ordered c =
    let g = c.args.grid.now in
    let at = (goal.at.returns-clause-ordered c).After-at-2 in
    let one : 1 ≤ c.wanted-some.result = omega (arith, c.if-some-eq0.false) in
    let within = upto-within g c.known.ensures.some c.args.first c.args.last c.requires.ordered c.wanted-some.result c.at-2.result one (few at) (front at) in
    (omega arith, omega (arith, c.max.ensures), omega (arith, c.max.ensures, c.requires.ordered))
