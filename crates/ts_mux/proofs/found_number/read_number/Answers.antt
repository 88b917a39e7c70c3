use Rattle.std.proofs.Common.{sym, subst, arith}
use Rattle.ts_mux.specs.Headers.{IsNumber}
use Rattle.ts_mux.proofs.HeaderLemmas.{digits_none, digits_more, no_digit, number_open, number_ended}
use Rattle.ts_mux.proofs.found_number.read_number.Goals as goal

pub loop-at-init : goal.loop-at-init
loop-at-init c = record { digits = digits_none c.args.least c.args.most c.args.last c.args.bytes.now c.args.from c.requires }

pub loop-at-preserved : goal.loop-at-preserved
loop-at-preserved c =
    let l = c.loop-at in
    record {
      digits = digits_more c.args.least c.args.most c.args.last c.args.bytes.now c.args.from l.at l.number l.invariant.digits
          c.in-Some.next (omega arith) c.if-byte-last.false (sym c.in-Some.ensures.number) c.in-Some.ensures.range;
    }

pub returns-then-byte-last : goal.returns-then-byte-last
returns-then-byte-last c =
    let l = c.loop-at in
    subst (λ found. IsNumber found c.args.least c.args.most c.args.last c.args.bytes.now c.args.from) (sym c.end_number.ensures)
    (number_ended c.args.least c.args.most c.args.last c.args.bytes.now c.args.from l.at l.number l.invariant.digits (omega arith) c.if-byte-last.true)

pub returns-in-None : goal.returns-in-None
returns-in-None c =
    let l = c.loop-at in
    no_digit c.args.least c.args.most c.args.last c.args.bytes.now c.args.from l.at l.number l.invariant.digits (omega arith) c.if-byte-last.false (sym c.in-None.ensures.number)

pub returns : goal.returns
returns c =
    let l = c.loop-at in
    number_open c.args.least c.args.most c.args.last c.args.bytes.now c.args.from l.at l.number l.invariant.digits (omega arith)
