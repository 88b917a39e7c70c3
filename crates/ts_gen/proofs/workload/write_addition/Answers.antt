use Rattle.std.proofs.Common.{◌%◌, ap, refl}
use Rattle.std.proofs.lemmas.Result.{on_ok_weaker}
use Rattle.std.specs.Fmt.{decimal}
use Rattle.std.specs.Prelude.{codes}
use Rattle.ts_gen.specs.Workload.{raw, time, value}
use Rattle.ts_gen.proofs.Appending.{begun, then_word, then_this, whole}
use Rattle.ts_gen.proofs.workload.write_addition.Goals as goal

pub returns : goal.returns
returns c =
    let p0 = begun {n = 6} {old = c.args.bytes.now.items} c.in_ok-write_request_start.ensures in
    let p1 = then_word (codes "TS.ADD") p0 c.in_ok-write_request_word.ensures in
    let p2 = then_this (raw (c.args.k % 4)) c.raw.result c.raw.ensures p1 c.in_ok-write_request_word-2.ensures in
    let p3 = then_this (decimal (time c.args.k c.args.r)) (decimal c.time.result) (ap decimal c.time.ensures) p2 c.in_ok-write_request_number.ensures in
    let p4 = then_word (value c.args.r) p3 c.in_ok-write_request_value.ensures in
    let p5 = then_word (codes "ON_DUPLICATE") p4 c.in_ok-write_request_word-3.ensures in
    on_ok_weaker c.write_request_word-4.result (λ e. whole (then_word (codes "LAST") p5 e) refl) c.write_request_word-4.ensures
