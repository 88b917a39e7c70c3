use Rattle.std.proofs.Common.{◌≡◌, ◌-◌, nat_le, List, ◌∷◌, length, map, refl, sym, ◌∙◌, ap, subst, arith}
use Rattle.std.proofs.lemmas.List.{length-map}
use Rattle.ts_spec.specs.Sample.{Point, at_times}
use Rattle.ts_sample.specs.Chunk.{joined}
use Rattle.ts_series.specs.Stored.{Stored, AreAmong, AreStoredChunks, IsTrimmed}
use Rattle.ts_series.proofs.Expired.{kept-past, kept-rest}
use Rattle.ts_series.proofs.Limits.{among-self}
use Rattle.ts_series.proofs.chunks.Chunks.expire.Goals as goal

pub loop-self-init : goal.loop-self-init
loop-self-init g c = record { kept = refl; limits = λ one. among-self one c.args.self.now.limits; room = refl }

pub invariant_of-self : goal.invariant_of-self
invariant_of-self g c =
    let count = c.self.inside.count in
    subst (λ n. AreStoredChunks g.C.Chunk.format (map g.C.Chunk.list c.pop_front.new.self.items) (map g.C.Chunk.most c.pop_front.new.self.items) (count - n)) (sym c.len.ensures)
    (kept-rest g.C.Chunk.format g.C.Chunk.list g.C.Chunk.most c.in-Some.chunk c.pop_front.new.self.items count
    (subst (λ ks. AreStoredChunks g.C.Chunk.format (map g.C.Chunk.list ks) (map g.C.Chunk.most ks) count) c.in-Some.ensures.items c.self.invariant))

pub loop-self-preserved-in-Some : goal.loop-self-preserved-in-Some
loop-self-preserved-in-Some g c =
    let edge = c.args.edge in
    let before = c.self.inside.chunks in
    let after = c.pop_front.new.self in
    let pieces : map g.C.Chunk.list (c.in-Some.chunk ∷ after.items) ≡ c.loop-self.self.pieces = ap (map g.C.Chunk.list) (sym c.in-Some.ensures.items) ∙ ap (λ (h : Stored). h.pieces) c.self.view_is in
    let gone = subst (λ (pss : List (List Point)). ¬ IsTrimmed edge pss) (sym pieces) (c.has_expired.ensures.expired c.loop-self-test.true) in
    record {
      kept = kept-past g.C.Chunk.list edge c.in-Some.chunk after.items gone ∙ ap (λ (pss : List (List Point)). at_times (nat_le edge) (joined pss)) pieces ∙ c.loop-self.invariant.kept;
      limits = λ one. (subst (AreAmong one c.args.self.now.limits) (ap (λ (h : Stored). h.limits) (sym c.self.view_is) ∙ ap (map g.C.Chunk.most) c.in-Some.ensures.items)
          (c.loop-self.invariant.limits one)).1;
      room = omega (
        arith,
        c.loop-self.invariant.room,
        ap (λ (h : Stored). length h.pieces) c.self.view_is,
        ap (λ (h : Stored). h.room) c.self.view_is,
        length-map before.items g.C.Chunk.list,
        length-map after.items g.C.Chunk.list,
        before.ok.0,
        before.ok.1,
        after.ok.0,
        c.in-Some.ensures.len,
        c.in-Some.ensures.capacity,
      );
    }
