use Rattle.std.proofs.Common.{◌≡◌, ◌≤◌, Some, None, sym, ap, ◌∙◌, subst}
use Rattle.ts_spec.specs.Sample.{Point, MAX_TIME, last_of}
use Rattle.ts_spec.proofs.Tidy.{some-same}
use Rattle.ts_series.specs.History.{history_of, low, list_of, IsKeptIn}
use Rattle.ts_series.proofs.Latest.{each-upto}
use Rattle.ts_series.proofs.Trimmed.{last-trimmed}
use Rattle.ts_series.proofs.chunked_series.ChunkedSeries.known.Goals as goal

pub returns-in-Some-clause-times : goal.returns-in-Some-clause-times
returns-in-Some-clause-times g c =
    let kept : IsKeptIn g.C.Chunk.format c.args.self.now = subst (IsKeptIn g.C.Chunk.format) c.self.view_is c.self.invariant in
    let last_is = c.last.ensures.last ∙ last-trimmed (low (history_of c.self.inside.options c.self.inside.high c.self.inside.born c.self.inside.chunks)) c.self.inside.chunks.pieces c.self.invariant.chunks.ascending c.self.invariant.trimmed ∙ ap (λ h. last_of (list_of h)) c.self.view_is in
    each-upto MAX_TIME (list_of c.args.self.now) kept.ascending (λ q x. subst (λ (p : Point). p.time ≤ MAX_TIME) (some-same c.in-Some.last q (sym c.in-Some.is ∙ last_is ∙ x)) c.known.ensures.time)

pub returns-in_default-clause-times : goal.returns-in_default-clause-times
returns-in_default-clause-times g c =
    let kept : IsKeptIn g.C.Chunk.format c.args.self.now = subst (IsKeptIn g.C.Chunk.format) c.self.view_is c.self.invariant in
    let last_is = c.last.ensures.last ∙ last-trimmed (low (history_of c.self.inside.options c.self.inside.high c.self.inside.born c.self.inside.chunks)) c.self.inside.chunks.pieces c.self.invariant.chunks.ascending c.self.invariant.trimmed ∙ ap (λ h. last_of (list_of h)) c.self.view_is in
    each-upto MAX_TIME (list_of c.args.self.now) kept.ascending (λ q x. (let none : None ≡ Some q = sym c.in_default.is ∙ last_is ∙ x in absurd (cc none)))
