use Rattle.std.proofs.Common.{◌≡◌, Some, None, true, false, if◌then◌else◌, sym, subst}
use Rattle.std.proofs.lemmas.Bool.{false≢true}
use Rattle.ts_spec.specs.Sample.{Point}
use Rattle.ts_sample.specs.Chunk.{IsPast}
use Rattle.ts_chunk_packed.proofs.AnyBytes.{none_if, their_bytes, time_any, one_any, two_any, all_coded}
use Rattle.ts_chunk_packed.proofs.untrusted.read_sample.Goals as goal

same-some : (p q : Point) → Some p ≡ Some q → p ≡ q
same-some p q e = cc

pub returns-in_err-time-clause-none : goal.returns-in_err-time-clause-none
returns-in_err-time-clause-none c = none_if c.from_residual.result c.from_residual.ensures (λ f past. c.in_err-time.ensures.none (time_any c.args.context.now c.args.bytes.now c.known.ensures f))

pub returns-in_err-value-clause-none : goal.returns-in_err-value-clause-none
returns-in_err-value-clause-none c =
    none_if c.from_residual-in_err-value.result c.from_residual-in_err-value.ensures (λ f past. c.in_err-value.ensures.none (one_any c.args.context.now c.args.bytes.now c.known.ensures f c.in_ok-time.time c.in_ok-time.bytes.now c.in_ok-time.ensures.is))

pub returns-in_err-made-clause-none : goal.returns-in_err-made-clause-none
returns-in_err-made-clause-none c =
    none_if c.from_residual-in_err-made.result c.from_residual-in_err-made.ensures (λ f past. c.in_err-made.ensures.none (two_any c.args.context.now c.args.bytes.now c.known.ensures f c.in_ok-time.time c.in_ok-time.bytes.now c.in_ok-time.ensures.is c.in_ok-value.value c.in_ok-value.bytes.now c.in_ok-value.ensures.is))

pub returns-in_err-sample-clause-none : goal.returns-in_err-sample-clause-none
returns-in_err-sample-clause-none c =
    none_if c.from_residual-in_err-sample.result c.from_residual-in_err-sample.ensures (λ f past.
    let none = c.in_err-sample.ensures.all f.sample f.fine (all_coded c.args.context.now c.args.bytes.now c.known.ensures f c.in_ok-time.time c.in_ok-time.bytes.now c.in_ok-time.ensures.is c.in_ok-value.value c.in_ok-value.bytes.now c.in_ok-value.ensures.is c.in_ok-made.made c.in_ok-made.bytes.now c.in_ok-made.ensures.is) in
    absurd cc)

pub returns-clause-is : goal.returns-clause-is
returns-clause-is c =
    their_bytes c.args.context.now c.in_ok-sample.sample c.in_ok-time.time c.in_ok-value.value c.in_ok-made.made c.in_ok-sample.ensures.is c.args.bytes.now c.in_ok-time.bytes.now c.in_ok-value.bytes.now c.in_ok-made.bytes.now c.in_ok-time.ensures.is c.in_ok-value.ensures.is c.in_ok-made.ensures.is

pub returns-then-not-is_past-clause-none : goal.returns-then-not-is_past-clause-none
returns-then-not-is_past-clause-none c =
    λ f past.
    let same = same-some c.in_ok-sample.sample f.sample
    (c.in_ok-sample.ensures.all f.sample f.fine (all_coded c.args.context.now c.args.bytes.now c.known.ensures f c.in_ok-time.time c.in_ok-time.bytes.now c.in_ok-time.ensures.is c.in_ok-value.value c.in_ok-value.bytes.now c.in_ok-value.ensures.is c.in_ok-made.made c.in_ok-made.bytes.now c.in_ok-made.ensures.is)) in
    let late : false ≡ true = c.if-not-is_past.ensures.1 (subst (λ (p : Point). IsPast (if c.args.context.now.begun then Some c.args.context.now.before else None) p.time) (sym same) past) in
    false≢true late
