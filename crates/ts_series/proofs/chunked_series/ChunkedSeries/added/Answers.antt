use Rattle.std.proofs.Common.{length, sym, ◌∙◌, ltb-false}
use Rattle.ts_series.specs.Put.{list_after}
use Rattle.ts_series.proofs.chunked_series.ChunkedSeries.added.Goals as goal

pub returns-clause-answer : goal.returns-clause-answer
returns-clause-answer g c =
    c.written.ensures.answer c.args.limit (λ none. ltb-false c.args.limit (length (list_after c.args.sample c.args.self.now)) (sym c.is_full.ensures.full ∙ c.if-is_full.false))
