use Rattle.std.proofs.Common.{◌≡◌, refl, sym, subst}
use Rattle.ts_series.specs.History.{history_of, IsKeptIn}
use Rattle.ts_series.specs.Restoring.{CanFollow, with_chunk}
use Rattle.ts_series.proofs.Ready.{Shows}
use Rattle.ts_series.proofs.Restoring.{kept-with, with-is}
use Rattle.ts_series.proofs.chunked_series.ChunkedSeries.restore_chunk.Goals as goal
use Rattle.ts_series.proofs.chunked_series.ChunkedSeries.restore_chunk.Goals.{In_ok-push}

-- the series has the chunk
added : (g : _) (c : In_ok-push g) → history_of c.self.inside.options c.self.inside.high c.self.inside.born c.push.new.self ≡ with_chunk c.args.self.now (g.C.Chunk.most c.args.chunk) (g.C.Chunk.list c.args.chunk) c.push.new.self.room
added g c =
    with-is c.self.inside.options c.self.inside.high c.self.inside.born c.self.inside.chunks c.push.new.self c.args.self.now (g.C.Chunk.most c.args.chunk) (g.C.Chunk.list c.args.chunk) c.self.view_is
    c.in_ok-push.ensures.pieces c.in_ok-push.ensures.limits

pub invariant_of-self-2 : goal.invariant_of-self-2
invariant_of-self-2 g c =
    let h = c.args.self.now in
    let ps = g.C.Chunk.list c.args.chunk in
    let shows : Shows h = subst Shows c.self.view_is refl in
    let kept : IsKeptIn g.C.Chunk.format h = subst (IsKeptIn g.C.Chunk.format) c.self.view_is c.self.invariant in
    let follows : CanFollow h ps = c.accepts.ensures.0 c.if-not-accepts.false in
    subst (IsKeptIn g.C.Chunk.format) (sym (added g (goal.at.invariant_of-self-2 g c).In_ok-push)) (kept-with h (g.C.Chunk.most c.args.chunk) ps c.push.new.self.room shows kept c.known.ensures follows)

pub returns-clause-added : goal.returns-clause-added
returns-clause-added g c = λ _. added g (goal.at.returns-clause-added g c).In_ok-push

pub returns-clause-kept : goal.returns-clause-kept
returns-clause-kept g c = invariant_of-self-2 g c
