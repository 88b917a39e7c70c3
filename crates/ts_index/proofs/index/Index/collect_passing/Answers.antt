use Rattle.std.proofs.Common.{◌≤◌, length, subst, sym, vec_len, vec_capacity}
use Rattle.ts_spec.specs.Filter.{all_hold}
use Rattle.ts_index.specs.Bounds.{fewest}
use Rattle.ts_index.specs.Selecting.{lent}
use Rattle.ts_index.proofs.SelectLemmas.{selected-start, room-start, steps-start}
use Rattle.ts_index.proofs.index.Index.collect_passing.Goals as goal

pub loop-id-init : goal.loop-id-init
loop-id-init g c =
    let es = c.args.self.now in
    let fs = c.args.filters.now in
    let tests = lent c.args.tests.now in
    let all = c.into_iter-id-iterator.ensures.into_iter_gives in
    let few : length c.into_iter-id-iterator.result ≤ fewest es fs = subst (λ is. length is ≤ fewest es fs) (sym all) c.candidates-id-items.ensures.few in
    record {
      selected = selected-start (all_hold tests) fs es c.args.ids.now.items c.candidates-id-items.result c.into_iter-id-iterator.result c.requires.same c.requires.none all
          c.candidates-id-items.ensures.once c.candidates-id-items.ensures.covers;
      room = room-start (vec_len c.args.ids.now) c.into_iter-id-iterator.result (fewest es fs) (vec_capacity c.args.ids.now) c.requires.len few c.requires.room;
      steps = steps-start (length c.args.tests.now) (length fs) c.into_iter-id-iterator.result (fewest es fs) c.args.steps.now c.requires.few few;
    }
