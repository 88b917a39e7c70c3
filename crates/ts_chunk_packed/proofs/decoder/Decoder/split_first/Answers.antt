use Rattle.std.proofs.Common.{ap, sym, ◌∙◌, arith}
use Rattle.ts_chunk_packed.specs.Decoder.{UndecodedList}
use Rattle.ts_chunk_packed.proofs.Resting.{none_left, follows, no_earlier, first_then, left_then}
use Rattle.ts_chunk_packed.proofs.decoder.Decoder.split_first.Goals as goal

pub returns-then-self-eq0-clause-ended : goal.returns-then-self-eq0-clause-ended
returns-then-self-eq0-clause-ended c =
    let f = c.self.inside in
    ap (λ (l : UndecodedList). l.list) (sym c.self.view_is) ∙ none_left f.context f.count f.bytes.now (omega (arith, c.if-self-eq0.true))

pub decode-sample-requires : goal.decode-sample-requires
decode-sample-requires c =
    follows (omega (arith, c.if-self-eq0.false)) c.self.invariant

pub after-context-requires : goal.after-context-requires
after-context-requires c =
    let read = c.decode-sample in
    no_earlier (omega (arith, c.if-self-eq0.false)) c.self.invariant read.ensures.sample read.ensures.rest

pub invariant_of-result : goal.invariant_of-result
invariant_of-result c =
    let read = c.decode-sample in
    left_then (omega (arith, c.if-self-eq0.false)) c.self.invariant read.ensures.sample read.ensures.rest c.after-context.result c.after-context.ensures

pub returns-clause-list : goal.returns-clause-list
returns-clause-list c =
    let read = c.decode-sample in
    ap (λ (l : UndecodedList). l.list) (sym c.self.view_is)
    ∙ first_then (omega (arith, c.if-self-eq0.false)) c.self.invariant read.ensures.sample read.ensures.rest c.after-context.result c.after-context.ensures
