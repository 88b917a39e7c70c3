use Rattle.std.proofs.Common.{◌+◌, drop, refl, arith}
use Rattle.std.proofs.Math.ListN.{drop_of_length-le}
use Rattle.ts_spec.specs.Replies.{shown_label_reply}
use Rattle.ts_multi.specs.Members.{label_of}
use Rattle.ts_multi.proofs.LabelLists.{drop-next}
use Rattle.ts_multi.proofs.Texts.{whole, goes-on}
use Rattle.ts_multi.proofs.member_texts.encode_labels.Goals as goal

pub loop-list_index-init : goal.loop-list_index-init
loop-list_index-init g c = record { texts = refl; room = omega arith }

pub loop-list_index-preserved : goal.loop-list_index-preserved
loop-list_index-preserved g c =
    let all = g.S.ReplyLabelList.shown c.args.labels.now in
    record {
      texts = goes-on shown_label_reply c.encode_count.new.out.bytes c.loop-list_index.out.bytes c.encode_label.new.out.bytes (label_of c.label.result)
          (drop c.loop-list_index.list_index all) (drop (c.loop-list_index.list_index + 1) all) all
          c.loop-list_index.invariant.texts (drop-next all c.loop-list_index.list_index (label_of c.label.result) c.label.ensures) c.in_ok-encode_label.ensures.ok;
      room = omega (arith, c.loop-list_index.invariant.room, c.encode_label.ensures.room);
    }

pub returns-clause-ok : goal.returns-clause-ok
returns-clause-ok g c =
    let all = g.S.ReplyLabelList.shown c.args.labels.now in
    whole shown_label_reply c.args.out.now.bytes c.encode_count.new.out.bytes c.loop-list_index.out.bytes c.count-count.result
    (drop c.loop-list_index.list_index all) all c.loop-list_index.invariant.texts
    (drop_of_length-le all (rw c.count-count.ensures at c.loop-list_index-test.false)) c.in_ok-encode_count.ensures.ok c.count-count.ensures
