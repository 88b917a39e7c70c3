use Rattle.std.proofs.Common.{map, ap, arith}
use Rattle.std.proofs.lemmas.Grind.{common_steps}
use Rattle.ts_spec.specs.Replies.{shown_label_reply}
use Rattle.ts_multi.specs.Members.{label_of}
use Rattle.ts_multi.proofs.LabelLists.{drop-next}
use Rattle.ts_multi.proofs.replies.labels_reply.Goals as goal

pub loop-list_index-preserved : goal.loop-list_index-preserved
loop-list_index-preserved g c =
    let next = ap (map shown_label_reply) (drop-next (g.S.ReplyLabelList.shown c.args.labels.now) c.loop-list_index.list_index (label_of c.label.result) c.label.ensures) in
    record {
      so_far = grind (arith, common_steps, next, c.in_ok-label_reply.ensures);
      count = omega arith;
      room = omega arith;
    }
