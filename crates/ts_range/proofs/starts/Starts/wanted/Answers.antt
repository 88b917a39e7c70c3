use Rattle.std.proofs.Common.{ℕ, min, length, sym, ◌∙◌, ap}
use Rattle.std.specs.Prelude.{Option}
use Rattle.ts_range.specs.Starts.{starts_of}
use Rattle.ts_range.specs.AskedSamples.{most_of}
use Rattle.ts_range.proofs.Order.{length-starts}
use Rattle.ts_range.proofs.starts.Starts.wanted.Goals as goal

pub returns-in-None : goal.returns-in-None
returns-in-None c =
    sym (length-starts c.args.self.now) ∙ ap (λ (o : Option ℕ). most_of o (length (starts_of c.args.self.now))) (sym c.in-None.is)

pub returns-in-Some : goal.returns-in-Some
returns-in-Some c =
    c.min.ensures ∙ ap (λ (n : ℕ). min n c.in-Some.count) (sym (length-starts c.args.self.now))
    ∙ ap (λ (o : Option ℕ). most_of o (length (starts_of c.args.self.now))) (sym c.in-Some.is)
