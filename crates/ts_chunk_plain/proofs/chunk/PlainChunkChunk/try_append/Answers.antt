use Rattle.std.proofs.Common.{◌≡◌, ◌+◌, ◌≤◌, ◌++◌, ◌∷◌, [], ◌∙◌, ap, sym, subst, cond, true, length, nat_le, rules, arith, List, ℕ}
use Rattle.std.specs.Prelude.{vec_len, is_ok}
use Rattle.std.proofs.lemmas.Bool.Decides.{nat_tests}
use Rattle.ts_spec.specs.Sample.{last_of}
use Rattle.ts_sample.specs.Chunk.{IsPast}
use Rattle.ts_chunk_plain.specs.Chunk.{Samples}
use Rattle.ts_chunk_plain.specs.Laws.{length-bytes_of}
use Rattle.ts_chunk_plain.specs.Plain.{bytes_of, samples_of}
use Rattle.ts_chunk_plain.proofs.Pushing.{fits_more, list-pushed, plain-pushed}
use Rattle.ts_chunk_plain.proofs.chunk.PlainChunkChunk.try_append.Goals as goal
use Rattle.ts_chunk_plain.proofs.chunk.PlainChunkChunk.try_append.Goals.{After-known, After-unwrap}

-- its bytes fit
fits : (c : After-known) → length c.self.inside.bytes.items + 28 ≤ c.self.inside.limit
fits c =
    let f = c.self.inside in
    let test : nat_le (length f.bytes.items + 28) f.limit ≡ true =
    fits_more f.bytes.items c.self.invariant.bytes c.self.view_is c.args.sample.now ∙ sym c.fits.ensures ∙ c.if-not-fits.false in
    grind (arith, nat_tests)

past : (c : After-known) → IsPast (last_of (samples_of c.self.inside.bytes.items)) c.args.sample.now.time
past c = subst (λ (x : Samples). IsPast (last_of x.list) c.args.sample.now.time) (sym c.self.view_is) c.requires.past

grown : (c : After-unwrap) → c.extend_from_slice.new.self.items ≡ c.self.inside.bytes.items ++ bytes_of c.args.sample.now
grown c =
    let written = c.self.inside.bytes.items in
    c.extend_from_slice.ensures.items ∙ ap (λ r. cond (is_ok r) (written ++ c.encode.result) written) c.unwrap.ensures ∙ ap (λ (l : List ℕ). written ++ l) c.encode.ensures

pub unwrap-requires : goal.unwrap-requires
unwrap-requires c =
    let f = c.self.inside in
    let len : vec_len f.bytes ≡ length f.bytes.items = search rules in
    c.extend_from_slice.ensures.succeeds
    (omega (arith, len, fits (goal.at.unwrap-requires c).After-known, c.self.invariant.room, ap length c.encode.ensures, length-bytes_of c.args.sample.now))

pub invariant_of-self : goal.invariant_of-self
invariant_of-self c =
    let at = goal.at.invariant_of-self c in
    plain-pushed c.args.sample.now c.self.invariant c.known.ensures (past at.After-known) c.extend_from_slice.ensures.capacity (fits at.After-known) (grown at.After-unwrap) c.or-self-inside.ensures

pub returns-clause-list : goal.returns-clause-list
returns-clause-list c =
    let at = goal.at.returns-clause-list c in
    ap samples_of (grown at.After-unwrap) ∙ list-pushed c.args.sample.now c.self.invariant c.known.ensures (past at.After-known) c.extend_from_slice.ensures.capacity (fits at.After-known)
    ∙ ap (λ (x : Samples). x.list ++ c.args.sample.now ∷ []) c.self.view_is
