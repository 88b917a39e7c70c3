use Rattle.std.proofs.Common.{refl, sym, ◌∙◌, ap}
use Rattle.ts_spec.specs.Response.{Done}
use Rattle.ts_spec.specs.StoredStep.{stored_delete_rule_at}
use Rattle.ts_db.specs.Store.{db_view_of, Contents, Holds}
use Rattle.ts_db.proofs.Storing.{missing}
use Rattle.ts_db.proofs.Freed.{live-after}
use Rattle.ts_db.proofs.OldRules.{to-missing, to-none, to-one, both-ended}
use Rattle.ts_db.proofs.store.Store.delete_rule.Goals as goal

pub returns-in_default-clause-ended : goal.returns-in_default-clause-ended
returns-in_default-clause-ended c =
    let s = c.args.self.now in (
      ap (stored_delete_rule_at (db_view_of s).keys c.args.source.now c.args.dest.now) (missing s.limits s.nodes s.keys.entries c.requires.store c.args.source.now (sym (c.in_default.ensures ∙ c.get.ensures.value))),
      refl,
    )

pub returns-in_default-copied-clause-ended : goal.returns-in_default-copied-clause-ended
returns-in_default-copied-clause-ended c =
    let from = sym (c.in-Some.ensures ∙ c.get.ensures.value) in
    let n = c.requires.store.stored c.args.source.now c.in-Some.from from in (
      to-missing c.args.self.now c.requires c.args.source.now c.args.dest.now c.in-Some.from n.0 (record { number = from; node = n.1 }) (sym (c.in_default-copied.ensures ∙ c.get-2.ensures.value)),
      refl,
    )

pub has_rule-requires : goal.has_rule-requires
has_rule-requires c = let n = c.requires.store.stored c.args.source.now c.in-Some.from (sym (c.in-Some.ensures ∙ c.get.ensures.value)) in record { node = n.0; there = n.1 }

pub returns-then-not-has_rule-clause-ended : goal.returns-then-not-has_rule-clause-ended
returns-then-not-has_rule-clause-ended c =
    let from = sym (c.in-Some.ensures ∙ c.get.ensures.value) in
    let to = sym (c.in-Some-copied.ensures ∙ c.get-2.ensures.value) in
    let n = c.requires.store.stored c.args.source.now c.in-Some.from from in
    let d = c.requires.store.stored c.args.dest.now c.in-Some-copied.to to in (
      to-none c.args.self.now c.requires c.args.source.now c.args.dest.now c.in-Some.from n.0 (record { number = from; node = n.1 }) c.in-Some-copied.to d.0 (record { number = to; node = d.1 })
          c.has_rule.result (c.has_rule.ensures n.0 n.1) c.if-not-has_rule.true,
      refl,
    )

pub remove_rule-requires-clause-live : goal.remove_rule-requires-clause-live
remove_rule-requires-clause-live c = let n = c.requires.store.stored c.args.source.now c.in-Some.from (sym (c.in-Some.ensures ∙ c.get.ensures.value)) in record { node = n.0; there = n.1 }

pub remove_rule-requires-clause-dest : goal.remove_rule-requires-clause-dest
remove_rule-requires-clause-dest c =
    let d = c.requires.store.stored c.args.dest.now c.in-Some-copied.to (sym (c.in-Some-copied.ensures ∙ c.get-2.ensures.value)) in record { node = d.0; there = d.1 }

pub set_source-requires-clause-live : goal.set_source-requires-clause-live
set_source-requires-clause-live c =
    let d = c.requires.store.stored c.args.dest.now c.in-Some-copied.to (sym (c.in-Some-copied.ensures ∙ c.get-2.ensures.value)) in
    live-after c.args.self.now c.remove_rule.new.self c.requires.store c.remove_rule.ensures.store c.remove_rule.ensures.elsewhere.entries c.in-Some-copied.to (record { node = d.0; there = d.1 })

pub returns-clause-ended : goal.returns-clause-ended
returns-clause-ended c =
    let s = c.args.self.now in
    let from = sym (c.in-Some.ensures ∙ c.get.ensures.value) in
    let to = sym (c.in-Some-copied.ensures ∙ c.get-2.ensures.value) in
    let n = c.requires.store.stored c.args.source.now c.in-Some.from from in
    let d = c.requires.store.stored c.args.dest.now c.in-Some-copied.to to in
    let holds : Holds s c.args.source.now c.in-Some.from n.0 = record { number = from; node = n.1 } in
    let other : Holds s c.args.dest.now c.in-Some-copied.to d.0 = record { number = to; node = d.1 } in
    let done = both-ended s c.requires c.args.source.now c.args.dest.now c.in-Some.from n.0 holds c.in-Some-copied.to d.0 other c.remove_rule.new.self c.set_source.new.self c.has_rule.result
    (c.has_rule.ensures n.0 n.1) c.if-not-has_rule.false c.remove_rule.ensures.elsewhere c.remove_rule.ensures.removed c.set_source.ensures.set in (
      to-one s c.requires c.args.source.now c.args.dest.now c.in-Some.from n.0 holds c.in-Some-copied.to d.0 other c.has_rule.result (c.has_rule.ensures n.0 n.1) c.if-not-has_rule.false
          ∙ ap (λ (x : Contents). record { keys = x.keys; response = Done }) (sym done),
      ap (λ (x : Contents). x.limits) done,
    )
