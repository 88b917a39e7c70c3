use Rattle.std.proofs.Common.{◌≡◌, ◌+◌, ◌≤◌, List, ◌++◌, ◌∷◌, [], ◌∙◌, ap, sym, subst, length, rules, arith}
use Rattle.std.specs.Prelude.{vec_capacity, vec_len}
use Rattle.ts_spec.specs.Sample.{Point, last_of}
use Rattle.ts_sample.specs.Chunk.{IsPast}
use Rattle.ts_chunk_packed.specs.Chunk.{Samples}
use Rattle.ts_chunk_packed.specs.Marks.{AreMarks, EndsAt}
use Rattle.ts_chunk_packed.specs.Packed.{State, begin, coded, next, packed, samples_of, state_from}
use Rattle.ts_chunk_packed.proofs.Marking.{marks_on}
use Rattle.ts_chunk_packed.proofs.Pushing.{few, fits_here, later, length_more, list-pushed, packed-pushed, past_here, state_here}
use Rattle.ts_chunk_packed.proofs.chunk.PackedChunkChunk.try_append.Goals as goal
use Rattle.ts_chunk_packed.proofs.chunk.PackedChunkChunk.try_append.Goals.{After-context-context, After-encode}

-- its time is not before the last one's
not-before : (c : After-context-context) → c.context-context.result.before.time ≤ c.args.sample.now.time
not-before c = omega (arith, ap (λ (s : State). s.before.time) c.context-context.ensures, later c.self.invariant.packed c.self.view_is c.args.sample.now.time c.requires.past)

pub encode-requires-clause-later : goal.encode-requires-clause-later
encode-requires-clause-later c = not-before (goal.at.encode-requires-clause-later c).After-context-context

pub encode-requires-clause-room : goal.encode-requires-clause-room
encode-requires-clause-room c =
    let was = c.self.invariant.packed in
    let p = c.args.sample.now in
    let len : vec_len c.self.inside.bytes ≡ length c.self.inside.bytes.items = search rules in
    let fits = fits_here was c.self.view_is p (sym c.fits.ensures ∙ c.if-not-fits.false) in
    let state = state_here was c.self.view_is c.context-context.result c.context-context.ensures in
    omega (arith, fits, was.room, length_more was p, ap (λ (s : State). length (coded s p)) state)

pub overflow_add-self : goal.overflow_add-self
overflow_add-self c = omega (arith, few c.self.invariant.packed, c.self.invariant.packed.chunk.bounds.greatest)

pub step_to-self-inside-requires : goal.step_to-self-inside-requires
step_to-self-inside-requires c = not-before (goal.at.step_to-self-inside-requires c).After-context-context

-- the bytes with the sample's are those of the samples with it
module _ (c : After-encode) where
  abbrev list : List Point
  list = samples_of c.self.inside.count c.self.inside.bytes.items

  state : c.context-context.result ≡ state_from begin list
  state = state_here c.self.invariant.packed c.self.view_is c.context-context.result c.context-context.ensures

  past : IsPast (last_of list) c.args.sample.now.time
  past = past_here c.self.invariant.packed c.self.view_is c.args.sample.now.time c.requires.past

  fits : length (packed (list ++ c.args.sample.now ∷ [])) ≤ c.self.inside.limit
  fits = fits_here c.self.invariant.packed c.self.view_is c.args.sample.now (sym c.fits.ensures ∙ c.if-not-fits.false)

  items : c.encode.new.bytes.items ≡ c.self.inside.bytes.items ++ coded (state_from begin list) c.args.sample.now
  items = c.encode.ensures.items ∙ ap (λ (s : State). c.self.inside.bytes.items ++ coded s c.args.sample.now) state

  more : samples_of (c.self.inside.count + 1) c.encode.new.bytes.items ≡ list ++ c.args.sample.now ∷ []
  more = ap (samples_of (c.self.inside.count + 1)) items ∙ list-pushed c.self.invariant.packed c.args.sample.now c.known.ensures past fits

pub invariant_of-self : goal.invariant_of-self
invariant_of-self c =
    let f = c.self.inside in
    let p = c.args.sample.now in
    let at = (goal.at.invariant_of-self c).After-encode in
    let len : vec_len f.bytes ≡ length f.bytes.items = search rules in
    let ends : EndsAt (list at) c.len.result f.count = record { bytes = omega (arith, c.len.ensures, len, ap length c.self.invariant.packed.bytes); samples = c.self.invariant.packed.count } in
    record {
      packed = packed-pushed c.self.invariant.packed p c.known.ensures (past at) (fits at) (vec_capacity c.encode.new.bytes) c.encode.new.bytes.items c.step_to-self-inside.result
          c.keep_first.new.first (omega (arith, c.encode.ensures.capacity)) (items at) (c.step_to-self-inside.ensures.step ∙ ap (λ (s : State). (next s p).step) (state at))
          c.keep_first.ensures;
      marks = subst (λ l. AreMarks l c.set.new.self) (sym (more at)) (marks_on (list at) (p ∷ []) c.set.new.self (c.set.ensures (list at) (state at) ends c.self.invariant.marks));
    }

pub returns-clause-list : goal.returns-clause-list
returns-clause-list c = more (goal.at.returns-clause-list c).After-encode ∙ ap (λ (x : Samples). x.list ++ c.args.sample.now ∷ []) c.self.view_is
