use Rattle.std.proofs.Common.{ℕ, max, min, List, map, refl, sym, ◌∙◌, ap, arith}
use Rattle.std.specs.Prelude.{Option}
use Rattle.ts_spec.specs.Answer.{starts_between, limit_rows, in_requested_order}
use Rattle.ts_range.specs.Starts.{starts_within}
use Rattle.ts_range.proofs.Parts.{part-is}
use Rattle.ts_range.proofs.bucket_range.BucketRange.of.Goals as goal

pub returns-clause-bucket_range : goal.returns-clause-bucket_range
returns-clause-bucket_range c =
    let q = c.args.query.now in
    let g = c.args.buckets.now.grid in
    let fits = q.to_fits in
    record {
      buckets = refl;
      some = c.known.ensures.some;
      rows = λ f.
          ap (λ (o : Option (ℕ × ℕ)). limit_rows q.count (in_requested_order q.reverse (map f (starts_within g q.from q.to o)))) c.in_ok-first.was
          ∙ ap (λ (t : ℕ). limit_rows q.count (in_requested_order q.reverse (map f (starts_between g t (min q.to c.in_ok-first.last))))) (sym c.max-first.ensures)
          ∙ ap (λ (t : ℕ). limit_rows q.count (in_requested_order q.reverse (map f (starts_between g c.max-first.result t)))) (sym c.min-last.ensures)
          ∙ c.in_ok-from.ensures.rows f
          ∙ ap (λ (xs : List ℕ). in_requested_order q.reverse (map f xs)) (sym c.between.ensures);
      times = (c.in_ok-first.first, c.in_ok-first.last);
      are = c.in_ok-first.was;
      upto = c.in_ok-from.upto;
      starts = c.between.ensures;
      part = part-is g c.known.ensures.some (max q.from c.in_ok-first.first) (min q.to c.in_ok-first.last) c.in_ok-from.from c.in_ok-from.upto c.last_of.result c.min.result
          (omega (arith, c.in_ok-from.ensures.ordered, c.max-first.ensures)) (omega (arith, c.in_ok-from.ensures.ordered)) (omega (arith, c.in_ok-from.ensures.ordered, c.min-last.ensures)) (omega arith)
          c.last_of.ensures (c.min.ensures ∙ ap (λ (t : ℕ). min t c.last_of.result) c.min-last.ensures) (λ t low not-before. c.in_ok-from.ensures.whole t (omega (arith, c.max-first.ensures)) not-before);
    }
