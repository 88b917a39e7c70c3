use Rattle.std.proofs.Common.{ℕ, ◌-◌, Bool, ◌∙◌, ap, arith}
use Rattle.std.specs.Prelude.{slice_get}
use Rattle.ts_range.specs.Order.{in_order}
use Rattle.ts_range.specs.Starts.{starts_of}
use Rattle.ts_range.proofs.Order.{length-starts, reverse-at}
use Rattle.ts_range.proofs.starts.Starts.number.Goals as goal

pub overflow_sub-result-then-reverse : goal.overflow_sub-result-then-reverse
overflow_sub-result-then-reverse c = let long = length-starts c.args.self.now in omega arith

pub returns-then-reverse-clause-same : goal.returns-then-reverse-clause-same
returns-then-reverse-clause-same c =
    let starts = starts_of c.args.self.now in
    ap (λ (r : Bool). slice_get (in_order r starts) c.args.i) c.if-reverse.true
    ∙ reverse-at starts c.args.i c.requires
    ∙ ap (λ (n : ℕ). slice_get starts (n - 1 - c.args.i)) (length-starts c.args.self.now)

pub returns-else-reverse-clause-within : goal.returns-else-reverse-clause-within
returns-else-reverse-clause-within c = let long = length-starts c.args.self.now in omega arith
