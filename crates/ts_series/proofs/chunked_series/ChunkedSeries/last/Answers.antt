use Rattle.std.proofs.Common.{◌∙◌, ap}
use Rattle.ts_spec.specs.Sample.{last_of}
use Rattle.ts_series.specs.History.{history_of, low, list_of}
use Rattle.ts_series.proofs.Trimmed.{last-trimmed}
use Rattle.ts_series.proofs.chunked_series.ChunkedSeries.last.Goals as goal

pub returns : goal.returns
returns g c =
    c.last.ensures.last ∙ last-trimmed (low (history_of c.self.inside.options c.self.inside.high c.self.inside.born c.self.inside.chunks)) c.self.inside.chunks.pieces c.self.invariant.chunks.ascending c.self.invariant.trimmed
    ∙ ap (λ h. last_of (list_of h)) c.self.view_is
