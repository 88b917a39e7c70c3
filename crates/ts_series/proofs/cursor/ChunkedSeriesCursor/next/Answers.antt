use Rattle.std.proofs.Common.{◌≡◌, ◌+◌, ◌<◌, ◌≤◌, [], drop, take, get_or, length, sym, ◌∙◌, ap, subst, arith}
use Rattle.std.specs.Prelude.{is_some}
use Rattle.std.proofs.lemmas.List.{length-take, length-drop}
use Rattle.ts_spec.specs.Sample.{first_of}
use Rattle.ts_series.proofs.ReadingOn.{some-first, none-first, first-left, left-on, next-piece, nothing-at}
use Rattle.ts_series.proofs.cursor.ChunkedSeriesCursor.next.Goals as goal

pub read_at-next-requires : goal.read_at-next-requires
read_at-next-requires g c = c.self.invariant.place

pub invariant_of-self : goal.invariant_of-self
invariant_of-self g c =
    let f = c.self.inside in
    let piece = get_or f.chunks.now.pieces f.at [] in
    let n = g.C.Chunk.passed f.place in
    record {
      within = c.self.invariant.within;
      few = omega (arith, c.read_at-next.ensures.passed, c.self.invariant.few, length-take 1 (drop n piece), length-drop n piece);
      place = c.read_at-next.ensures.place;
    }

pub returns-then-is_some-clause-next : goal.returns-then-is_some-clause-next
returns-then-is_some-clause-next g c =
    let f = c.self.inside in
    let pss = f.chunks.now.pieces in
    let n = g.C.Chunk.passed f.place in
    let some = some-first (drop n (get_or pss f.at [])) (ap is_some (sym c.read_at-next.ensures.next) ∙ sym c.is_some.ensures ∙ c.if-is_some.true) in
    c.read_at-next.ensures.next ∙ first-left pss f.at n c.self.invariant.few (λ _. some) ∙ ap first_of c.self.view_is

pub returns-then-is_some-clause-left : goal.returns-then-is_some-clause-left
returns-then-is_some-clause-left g c =
    let f = c.self.inside in
    let pss = f.chunks.now.pieces in
    let n = g.C.Chunk.passed f.place in
    let some = some-first (drop n (get_or pss f.at [])) (ap is_some (sym c.read_at-next.ensures.next) ∙ sym c.is_some.ensures ∙ c.if-is_some.true) in
    left-on pss f.at n c.self.invariant.few (λ _. some) (g.C.Chunk.passed c.read_at-next.new.place) c.read_at-next.ensures.passed ∙ ap (drop 1) c.self.view_is

pub returns-then-is_some-clause-steps : goal.returns-then-is_some-clause-steps
returns-then-is_some-clause-steps g c =
    let f = c.self.inside in
    let one = length-take 1 (drop (g.C.Chunk.passed f.place) (get_or f.chunks.now.pieces f.at [])) in
    record {
      counted = omega (arith, c.read_at-next.ensures.counted);
      bounded = omega (arith, c.read_at-next.ensures.counted, one);
    }

pub invariant_of-self-then-self-chunk_count : goal.invariant_of-self-then-self-chunk_count
invariant_of-self-then-self-chunk_count g c =
    let f = c.self.inside in
    let piece = get_or f.chunks.now.pieces f.at [] in
    let n = g.C.Chunk.passed f.place in
    record {
      within = c.self.invariant.within;
      few = omega (arith, c.read_at-next.ensures.passed, c.self.invariant.few, length-take 1 (drop n piece), length-drop n piece);
      place = c.read_at-next.ensures.place;
    }

pub returns-then-self-chunk_count-clause-next : goal.returns-then-self-chunk_count-clause-next
returns-then-self-chunk_count-clause-next g c =
    let f = c.self.inside in
    let past : length f.chunks.now.pieces ≤ f.at = omega (arith, c.chunk_count.ensures, c.if-self-chunk_count.true) in
    ap first_of (sym (nothing-at f.chunks.now.pieces f.at (g.C.Chunk.passed f.place) past) ∙ c.self.view_is)

pub returns-then-self-chunk_count-clause-left : goal.returns-then-self-chunk_count-clause-left
returns-then-self-chunk_count-clause-left g c =
    let f = c.self.inside in
    let pss = f.chunks.now.pieces in
    let past : length pss ≤ f.at = omega (arith, c.chunk_count.ensures, c.if-self-chunk_count.true) in
    nothing-at pss f.at (g.C.Chunk.passed c.read_at-next.new.place) past ∙ ap (drop 1) (sym (nothing-at pss f.at (g.C.Chunk.passed f.place) past) ∙ c.self.view_is)

pub returns-then-self-chunk_count-clause-steps : goal.returns-then-self-chunk_count-clause-steps
returns-then-self-chunk_count-clause-steps g c =
    let f = c.self.inside in
    let one = length-take 1 (drop (g.C.Chunk.passed f.place) (get_or f.chunks.now.pieces f.at [])) in
    record {
      counted = omega (arith, c.read_at-next.ensures.counted);
      bounded = omega (arith, c.read_at-next.ensures.counted, one);
    }

pub overflow_add-self : goal.overflow_add-self
overflow_add-self g c = omega (arith, c.self.invariant.within, c.chunk_count.ensures, c.chunk_count.type_inv, c.if-self-chunk_count.false)

pub read_at-requires : goal.read_at-requires
read_at-requires g c = c.start.ensures.place (get_or c.self.inside.chunks.now.pieces (c.self.inside.at + 1) [])

pub invariant_of-self-2 : goal.invariant_of-self-2
invariant_of-self-2 g c =
    let f = c.self.inside in
    let piece = get_or f.chunks.now.pieces (f.at + 1) [] in
    let n = g.C.Chunk.passed c.start.result in
    record {
      within = omega (arith, c.self.invariant.within, c.chunk_count.ensures, c.if-self-chunk_count.false);
      few = omega (arith, c.read_at.ensures.passed, c.start.ensures.passed, length-take 1 (drop n piece), length-drop n piece);
      place = c.read_at.ensures.place;
    }

pub returns-clause-next : goal.returns-clause-next
returns-clause-next g c =
    let f = c.self.inside in
    let pss = f.chunks.now.pieces in
    let n = g.C.Chunk.passed f.place in
    let less : f.at < length pss = omega (arith, c.self.invariant.within, c.chunk_count.ensures, c.if-self-chunk_count.false) in
    let none = none-first (drop n (get_or pss f.at [])) (ap is_some (sym c.read_at-next.ensures.next) ∙ sym c.is_some.ensures ∙ c.if-is_some.false) in
    let began : drop (g.C.Chunk.passed c.start.result) (get_or pss (f.at + 1) []) ≡ get_or pss (f.at + 1) [] =
    ap (λ k. drop k (get_or pss (f.at + 1) [])) c.start.ensures.passed in
    c.read_at.ensures.next ∙ ap first_of began
    ∙ first-left pss (f.at + 1) 0 (omega arith) c.read_at.ensures.filled
    ∙ ap first_of (sym (next-piece pss f.at n c.self.invariant.few less none) ∙ c.self.view_is)

pub returns-clause-left : goal.returns-clause-left
returns-clause-left g c =
    let f = c.self.inside in
    let pss = f.chunks.now.pieces in
    let n = g.C.Chunk.passed f.place in
    let m = g.C.Chunk.passed c.read_at.new.place in
    let less : f.at < length pss = omega (arith, c.self.invariant.within, c.chunk_count.ensures, c.if-self-chunk_count.false) in
    let none = none-first (drop n (get_or pss f.at [])) (ap is_some (sym c.read_at-next.ensures.next) ∙ sym c.is_some.ensures ∙ c.if-is_some.false) in
    left-on pss (f.at + 1) 0 (omega arith) c.read_at.ensures.filled m
    (subst (λ k. m ≡ k + length (take 1 (drop k (get_or pss (f.at + 1) [])))) c.start.ensures.passed c.read_at.ensures.passed)
    ∙ ap (drop 1) (sym (next-piece pss f.at n c.self.invariant.few less none) ∙ c.self.view_is)

pub returns-clause-steps : goal.returns-clause-steps
returns-clause-steps g c =
    let f = c.self.inside in
    let pss = f.chunks.now.pieces in
    let none = none-first (drop (g.C.Chunk.passed f.place) (get_or pss f.at [])) (ap is_some (sym c.read_at-next.ensures.next) ∙ sym c.is_some.ensures ∙ c.if-is_some.false) in
    let one = length-take 1 (drop (g.C.Chunk.passed c.start.result) (get_or pss (f.at + 1) [])) in
    record {
      counted = omega (arith, c.read_at-next.ensures.counted, c.read_at.ensures.counted);
      bounded = omega (arith, c.read_at-next.ensures.counted, c.read_at.ensures.counted, ap (λ l. length (take 1 l)) none, one);
    }
