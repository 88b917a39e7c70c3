use Rattle.std.proofs.Common.{refl}
use Rattle.std.proofs.lemmas.Result.{on_ok_weaker}
use Rattle.std.specs.Prelude.{codes}
use Rattle.ts_gen.specs.Workload.{key, raw}
use Rattle.ts_gen.proofs.Appending.{begun, then_word, then_this, whole}
use Rattle.ts_gen.proofs.keys.write_rule_creation.Goals as goal

pub returns : goal.returns
returns c =
    let p0 = begun {n = 6} {old = c.args.bytes.now.items} c.in_ok-write_request_start.ensures in
    let p1 = then_word (codes "TS.CREATERULE") p0 c.in_ok-write_request_word.ensures in
    let p2 = then_this (raw c.args.unit) c.key.result c.key.ensures p1 c.in_ok-write_request_word-2.ensures in
    let p3 = then_this (key c.args.kind.now c.args.unit) c.key-2.result c.key-2.ensures p2 c.in_ok-write_request_word-3.ensures in
    let p4 = then_word (codes "AGGREGATION") p3 c.in_ok-write_request_word-4.ensures in
    let p5 = then_word c.args.kind.now p4 c.in_ok-write_request_word-5.ensures in
    on_ok_weaker c.write_request_word-6.result (λ e. whole (then_word (codes "60000") p5 e) refl) c.write_request_word-6.ensures
