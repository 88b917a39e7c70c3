use Rattle.std.proofs.Common.{◌+◌, ◌-◌, ◌*◌, ◌/◌, ℕ, [], ◌∷◌, map, ◌∙◌, ap}
use Rattle.std.specs.List.{range_with_len}
use Rattle.ts_range.proofs.Later.{line-last, line-short, line-many}
use Rattle.ts_range.proofs.starts.Starts.between.Goals as goal

pub returns-in_default : goal.returns-in_default
returns-in_default c =
    c.one.ensures ∙ ap (λ (b : ℕ). b ∷ []) c.start_of-first.ensures
    ∙ line-last c.args.grid.now c.known.ensures.some c.args.from c.args.to c.requires.ordered c.requires.time c.in_default.ensures.none

pub returns-then-to-second : goal.returns-then-to-second
returns-then-to-second c =
    c.one-then-to-second.ensures ∙ ap (λ (b : ℕ). b ∷ []) c.start_of-first.ensures
    ∙ line-short c.args.grid.now c.known.ensures.some c.args.from c.args.to c.requires.ordered c.in-Some.second c.in-Some.ensures.next c.if-to-second.true

pub returns : goal.returns
returns c =
    ap (λ (b : ℕ). b ∷ map (λ i. c.in-Some.second + i * c.duration-duration.result) (range_with_len 0 ((c.args.to - c.in-Some.second) / c.duration-duration.result + 2 - 1))) c.start_of-first.ensures
    ∙ line-many c.args.grid.now c.known.ensures.some c.args.from c.args.to c.requires.ordered c.in-Some.second c.duration-duration.result c.in-Some.ensures.next c.if-to-second.false c.duration-duration.ensures
