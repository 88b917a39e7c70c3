use Rattle.std.proofs.Common.{vec_len, vec_capacity}
use Rattle.ts_index.specs.Bounds.{fewest}
use Rattle.ts_index.proofs.SelectLemmas.{matching-start, few-matching, room-start}
use Rattle.ts_index.proofs.index.Index.collect_matching.Goals as goal

pub loop-id-init : goal.loop-id-init
loop-id-init c =
    let es = c.args.self.now in
    let f = c.args.filter.now in
    let fs = c.args.filters.now in
    let is = c.into_iter-id-iterator.result in
    let all = c.by_value-id-items.result in
    let gives = c.into_iter-id-iterator.ensures.into_iter_gives in
    record {
      selected = matching-start f fs es c.args.ids.now.items is all c.requires.same c.requires.none gives c.by_value-id-items.ensures.selected;
      room = room-start (vec_len c.args.ids.now) is (fewest es fs) (vec_capacity c.args.ids.now) c.requires.len
          (few-matching f fs es is all c.requires.same gives c.by_value-id-items.ensures.count) c.requires.room;
    }
