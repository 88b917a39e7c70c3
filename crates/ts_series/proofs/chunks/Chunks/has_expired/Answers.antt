use Rattle.std.proofs.Common.{◌≡◌, ◌∷◌, ◌<◌, ◌≤◌, drop, map, refl, sym, ◌∙◌, ap, subst, arith}
use Rattle.std.proofs.lemmas.Bool.Decides.{nat_tests}
use Rattle.std.specs.VecDeque.{deque_len}
use Rattle.ts_spec.specs.Sample.{Point, IsAscending}
use Rattle.ts_sample.specs.Chunk.{joined}
use Rattle.ts_sample.proofs.Lists.{ascending-left}
use Rattle.ts_series.specs.Stored.{Stored, IsTrimmed}
use Rattle.ts_series.proofs.Expired.{begins-with, none-last, none-kept, last-kept}
use Rattle.ts_series.proofs.chunks.Chunks.has_expired.Goals as goal
use Rattle.ts_series.proofs.chunks.Chunks.has_expired.Goals.{In-Some}

-- the first chunk, and those after it
first : (g : _) (c : In-Some g) → c.self.inside.chunks.items ≡ c.in-Some.chunk.now ∷ drop 1 c.self.inside.chunks.items
first g c = begins-with c.self.inside.chunks.items (deque_len c.self.inside.chunks) c.in-Some.chunk.now c.self.inside.chunks.ok.0 (c.in-Some.ensures.variant.0 refl) c.in-Some.ensures.lookup

pieces : (g : _) (c : In-Some g) → c.args.self.now.pieces ≡ g.C.Chunk.list c.in-Some.chunk.now ∷ map g.C.Chunk.list (drop 1 c.self.inside.chunks.items)
pieces g c = sym (ap (λ (h : Stored). h.pieces) c.self.view_is) ∙ ap (map g.C.Chunk.list) (first g c)

pub returns-in-None-last-clause-expired : goal.returns-in-None-last-clause-expired
returns-in-None-last-clause-expired g c =
    let some = (goal.at.returns-in-None-last-clause-expired g c).In-Some in
    λ _ trimmed. subst (IsTrimmed c.args.edge) (pieces g some) trimmed (none-last c.args.edge (g.C.Chunk.list c.in-Some.chunk.now) c.in-None-last.ensures)

pub returns-in-Some-last : goal.returns-in-Some-last
returns-in-Some-last g c =
    let some = (goal.at.returns-in-Some-last g c).In-Some in
    let chunk = g.C.Chunk.list c.in-Some.chunk.now in
    let up = ascending-left chunk (joined (map g.C.Chunk.list (drop 1 c.self.inside.chunks.items)))
    (subst (λ ks. IsAscending (joined (map g.C.Chunk.list ks))) (first g some) c.self.invariant.ascending) in
    record {
      trimmed = λ no. (
          let late : c.args.edge ≤ c.last-in-Some-last.inside.time = grind (arith, nat_tests) in
          subst (IsTrimmed c.args.edge) (sym (pieces g some))
          (last-kept c.args.edge chunk c.in-Some-last.last (sym c.in-Some-last.ensures) (subst (λ (p : Point). c.args.edge ≤ p.time) c.last-in-Some-last.view_is late)));
      expired = λ yes trimmed. (
          let early : c.last-in-Some-last.inside.time < c.args.edge = grind (arith, nat_tests) in
          subst (IsTrimmed c.args.edge) (pieces g some) trimmed
          (none-kept c.args.edge chunk c.in-Some-last.last up (sym c.in-Some-last.ensures) (subst (λ (p : Point). p.time < c.args.edge) c.last-in-Some-last.view_is early)));
    }
