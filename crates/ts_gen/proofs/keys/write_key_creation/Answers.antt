use Rattle.std.proofs.Common.{ap, refl}
use Rattle.std.proofs.lemmas.Result.{on_ok_weaker}
use Rattle.std.specs.Fmt.{decimal}
use Rattle.std.specs.Prelude.{codes}
use Rattle.ts_gen.specs.Workload.{key}
use Rattle.ts_gen.proofs.Appending.{begun, then_word, then_this, whole}
use Rattle.ts_gen.proofs.keys.write_key_creation.Goals as goal

pub returns : goal.returns
returns c =
    let p0 = begun {n = 7} {old = c.args.bytes.now.items} c.in_ok-write_request_start.ensures in
    let p1 = then_word (codes "TS.CREATE") p0 c.in_ok-write_request_word.ensures in
    let p2 = then_this (key c.args.kind.now c.args.unit) c.key.result c.key.ensures p1 c.in_ok-write_request_word-2.ensures in
    let p3 = then_word (codes "LABELS") p2 c.in_ok-write_request_word-3.ensures in
    let p4 = then_word (codes "kind") p3 c.in_ok-write_request_word-4.ensures in
    let p5 = then_word c.args.kind.now p4 c.in_ok-write_request_word-5.ensures in
    let p6 = then_word (codes "unit") p5 c.in_ok-write_request_word-6.ensures in
    on_ok_weaker c.write_request_number.result (λ e. whole (then_this (decimal c.args.unit) (decimal c.into.result) (ap decimal c.into.ensures) p6 e) refl) c.write_request_number.ensures
