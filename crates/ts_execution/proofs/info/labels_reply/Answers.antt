use Rattle.std.proofs.Common.{map, ap, arith}
use Rattle.std.proofs.lemmas.Grind.{common_steps}
use Rattle.ts_spec.specs.Replies as spec
use Rattle.ts_execution.proofs.InfoTexts.{next_label}
use Rattle.ts_execution.proofs.info.labels_reply.Goals as goal

pub loop-i-preserved : goal.loop-i-preserved
loop-i-preserved c =
    let next = ap (map spec.label_reply) (next_label c.args.labels.now c.loop-i.i c.label_at.result.now c.value_at.result.now c.label_at.ensures c.value_at.ensures) in
    record {
      so_far = grind (arith, common_steps, next, c.in_ok-label_reply.ensures);
      count = omega arith;
      room = omega arith;
    }
