use Rattle.std.proofs.Common.{refl}
use Rattle.std.proofs.lemmas.Result.{on_ok_weaker}
use Rattle.std.specs.Prelude.{codes}
use Rattle.ts_gen.proofs.Appending.{begun, then_word, whole}
use Rattle.ts_gen.proofs.workload.write_final_query.Goals as goal

pub returns : goal.returns
returns c =
    let p0 = begun {n = 5} {old = c.args.bytes.now.items} c.in_ok-write_request_start.ensures in
    let p1 = then_word (codes "TS.MRANGE") p0 c.in_ok-write_request_word.ensures in
    let p2 = then_word (codes "-") p1 c.in_ok-write_request_word-2.ensures in
    let p3 = then_word (codes "+") p2 c.in_ok-write_request_word-3.ensures in
    let p4 = then_word (codes "FILTER") p3 c.in_ok-write_request_word-4.ensures in
    on_ok_weaker c.write_request_word-5.result (λ e. whole (then_word (codes "kind=(avg,max)") p4 e) refl) c.write_request_word-5.ensures
