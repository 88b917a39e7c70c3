use Rattle.std.proofs.Common.{◌≡◌, ◌∷◌, ◌+◌, take, drop, sym, ◌∙◌, ap, subst, arith}
use Rattle.std.proofs.lemmas.List.{take_rest}
use Rattle.ts_spec.specs.Sample.{IsAscending}
use Rattle.ts_series.proofs.FilledChunks.{rest-rises, filled-within, filled-list, filled-chunks, filled-limits}
use Rattle.ts_series.proofs.updated_list.filled.Goals as goal

pub front_of-requires-clause-ascending : goal.front_of-requires-clause-ascending
front_of-requires-clause-ascending g c =
    subst IsAscending c.in-Some.ensures.cases.0 (rest-rises c.loop-first.count c.args.samples.now c.requires.ascending)

pub loop-first-preserved : goal.loop-first-preserved
loop-first-preserved g c =
    let samples = c.args.samples.now in
    let kept = c.loop-first.invariant in
    let count = c.loop-first.count in
    let cs = c.loop-first.chunks.items in
    let all = c.push.new.self.items in
    let chunk = c.in_ok-chunk.chunk in
    let first = c.in-Some.first.now in
    let rest = c.in-Some.rest.now in
    let left : drop count samples ≡ first ∷ rest = sym (take_rest samples count) ∙ c.in-Some.ensures.cases.0 in
    let is = c.in_ok-push.ensures.items in
    let front = c.in_ok-chunk.ensures.list in
    record {
      list = filled-list g.C.Chunk.list cs all chunk count samples first rest is kept.within left front kept.list ∙ ap (λ n. take (count + n) samples) (sym c.len-count.ensures);
      within = omega (arith, c.len-count.ensures, filled-within g.C.Chunk.list cs all chunk count samples first rest is kept.within left front);
      chunks = filled-chunks g.C.Chunk.list cs all chunk count samples first rest is kept.within left front g.C.Chunk.format g.C.Chunk.most c.known.ensures kept.chunks;
      limits = filled-limits g.C.Chunk.list cs all chunk count samples first rest is kept.within left front g.C.Chunk.most c.args.limit c.in_ok-chunk.ensures.limit kept.limits;
    }
