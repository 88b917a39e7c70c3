use Rattle.std.proofs.Common.{[], ◌∷◌, length, map, ap, ◌∙◌, arith}
use Rattle.std.proofs.lemmas.List.{map-append}
use Rattle.ts_spec.specs.Replies.{array}
use Rattle.ts_resp.specs.Replies.{reply_of}
use Rattle.ts_labels.specs.Show.{show_of}
use Rattle.ts_command.specs.GroupBy.{group_of}
use Rattle.ts_group.specs.Grouped.{labelled_of}
use Rattle.ts_group.proofs.Gathered.{left-first, left-next, left-none}
use Rattle.ts_group.proofs.group_replies.group.Goals as goal

pub loop-value-init : goal.loop-value-init
loop-value-init c =
    let entries = c.into_iter-value-iterator.ensures.into_iter_gives ∙ c.iter-value-items.ensures.rest in
    record {
      so_far = left-first (group_of c.args.by.now) (show_of c.args.show.now) c.args.count c.args.reverse (map labelled_of c.args.members.now)
          c.into_iter-value-iterator.result (map reply_of c.in_ok-shown.shown.items) (entries ∙ c.in_ok-groups.ensures) (ap (map reply_of) c.in_ok-shown.ensures.items);
      room = omega (arith, ap length entries, c.len.ensures.len, c.in_ok-shown.ensures.len, c.in_ok-shown.ensures.capacity);
    }

pub loop-value-preserved : goal.loop-value-preserved
loop-value-preserved c = record {
  so_far = left-next (group_of c.args.by.now) (show_of c.args.show.now) c.args.count c.args.reverse (map labelled_of c.args.members.now)
      c.loop-value.value-iterator c.next.new.self (c.in-Some.value.now, c.in-Some.group.now) (map reply_of c.loop-value.shown.items) (map reply_of c.push_reserved.new.self.items) (reply_of c.in_ok-reply_to.field-0)
      c.loop-value.invariant.so_far c.in-Some.ensures.steps c.in_ok-reply_to.ensures
      (ap (map reply_of) c.push_reserved.ensures.items ∙ map-append reply_of c.loop-value.shown.items (c.in_ok-reply_to.field-0 ∷ []));
  room = omega (arith, c.loop-value.invariant.room, ap length c.in-Some.ensures.steps, c.push_reserved.ensures.len, c.push_reserved.ensures.capacity);
}

pub returns : goal.returns
returns c =
    c.array.ensures ∙ ap array (left-none (group_of c.args.by.now) (show_of c.args.show.now) c.args.count c.args.reverse (map labelled_of c.args.members.now)
    c.loop-value.value-iterator (map reply_of c.loop-value.shown.items) c.loop-value.invariant.so_far c.in-None.ensures.steps.0)
