use Rattle.std.proofs.Common.{ℕ, ◌/◌, List, length, map, take, drop, sym, subst}
use Rattle.ts_spec.specs.Sample.{Point}
use Rattle.ts_sample.specs.Chunk.{IsCut, HaveLimit}
use Rattle.ts_sample.proofs.Fitting.{limits-append, cut-halves}
use Rattle.ts_sample.proofs.changed.both.Goals as goal

pub returns-clause-cut : goal.returns-clause-cut
returns-clause-cut g c = λ ps more first second.
    let format = g.C.Chunk.format in
    let list = g.C.Chunk.list in
    let most = g.C.Chunk.most c.args.first in
    let cs = c.in_ok-chunks.chunks.items in
    let ds = c.in_ok-seconds.seconds.items in
    let early : IsCut format most (take (length ps / 2) ps) (map list cs) =
    subst (λ (l : List Point). IsCut format most l (map list cs)) first c.in_ok-chunks.ensures.cut in
    let late : IsCut format most (list c.args.second) (map list ds) =
    subst (λ (n : ℕ). IsCut format n (list c.args.second) (map list ds)) c.requires.alike c.in_ok-seconds.ensures.cut in
    cut-halves format list most ps cs ds c.append.new.self.items more early (subst (λ (l : List Point). IsCut format most l (map list ds)) second late) c.in_ok-append.ensures.items

pub returns-clause-limits : goal.returns-clause-limits
returns-clause-limits g c =
    let most = g.C.Chunk.most in
    let late : HaveLimit most (most c.args.first) c.in_ok-seconds.seconds.items =
    subst (λ (n : ℕ). HaveLimit most n c.in_ok-seconds.seconds.items) c.requires.alike c.in_ok-seconds.ensures.limits in
    subst (HaveLimit most (most c.args.first)) (sym c.in_ok-append.ensures.items)
    (limits-append most (most c.args.first) c.in_ok-chunks.chunks.items c.in_ok-seconds.seconds.items c.in_ok-chunks.ensures.limits late)
