use Rattle.std.proofs.Common.{List, Vec, sym, ◌∙◌, ap, subst}
use Rattle.std.specs.declared.alloc.Global.{Global}
use Rattle.std.specs.List.{All}
use Rattle.std.proofs.lemmas.List.Sorted.{All-permutation}
use Rattle.ts_sample.specs.declared.sample.Id.{Id}
use Rattle.ts_db.specs.Dropping.{IsIdOf}
use Rattle.ts_db.proofs.Unlabelling.{any-at, ids-more}
use Rattle.ts_db.proofs.store.Store.sorted_ids.Goals as goal
use Rattle.ts_db.proofs.store.Store.sorted_ids.Goals.{in-Some+in_ok-push, in_default}

pub loop-key-preserved : goal.loop-key-preserved
loop-key-preserved c = elim c.match-get.branch [
  | in-Some+in_ok-push w ↦ ids-more c.args.keys.now c.args.self.now.keys.entries c.key-item.result w.in-Some.id.now c.loop-key.ids.items c.match-get.ids.items
      (any-at c.args.keys.now c.loop-key.key-index c.key-item.result c.loop-key-test.true c.key-item.is) (sym w.in-Some.ensures.value) c.loop-key.invariant
      (ap (λ (v : Vec Id Global). v.items) w.ids-is ∙ w.in_ok-push.ensures.items)
  | in_default w ↦ subst (λ (is : List Id). All (IsIdOf c.args.keys.now c.args.self.now.keys.entries) is) (sym (ap (λ (v : Vec Id Global). v.items) w.ids-is)) c.loop-key.invariant
]

pub returns-clause-known : goal.returns-clause-known
returns-clause-known c =
    All-permutation (IsIdOf c.args.keys.now c.args.self.now.keys.entries) c.loop-key.ids.items c.sort_unstable.new.self.items c.sort_unstable.ensures.permutation c.loop-key.invariant
