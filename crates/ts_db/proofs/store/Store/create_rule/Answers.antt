use Rattle.std.proofs.Common.{◌≡◌, false, refl, sym, ◌∙◌, ap}
use Rattle.ts_spec.specs.Key.{same}
use Rattle.ts_spec.specs.Response.{Done}
use Rattle.ts_db.specs.Store.{db_view_of, Contents, Holds}
use Rattle.ts_db.proofs.Applying.{there}
use Rattle.ts_db.proofs.Storing.{missing}
use Rattle.ts_db.proofs.Freed.{live-after}
use Rattle.ts_db.proofs.NewRules.{keys-apart, no-source, no-dest, rule_conflict-answer, unbarred-answer, unbarred-yields, both-ruled}
use Rattle.ts_db.proofs.store.Store.create_rule.Goals as goal

pub returns-in_default-clause-ruled : goal.returns-in_default-clause-ruled
returns-in_default-clause-ruled c =
    let s = c.args.self.now in (
      no-source s.limits (db_view_of s).keys c.args.source.now c.args.dest.now c.args.agg c.args.grid (keys-apart c.args.source.now c.args.dest.now c.eq.result c.eq.ensures c.if-eq.false)
          (missing s.limits s.nodes s.keys.entries c.requires.store c.args.source.now (sym (c.in_default.ensures ∙ c.get.ensures.value))),
      refl,
    )

pub returns-in_default-copied-clause-ruled : goal.returns-in_default-copied-clause-ruled
returns-in_default-copied-clause-ruled c =
    let s = c.args.self.now in
    let from = sym (c.in-Some.ensures ∙ c.get.ensures.value) in
    let n = c.requires.store.stored c.args.source.now c.in-Some.from from in (
      no-dest s.limits (db_view_of s).keys c.args.source.now c.args.dest.now c.args.agg c.args.grid _ (keys-apart c.args.source.now c.args.dest.now c.eq.result c.eq.ensures c.if-eq.false)
          (there s c.requires.store c.args.source.now c.in-Some.from n.0 (record { number = from; node = n.1 }))
          (missing s.limits s.nodes s.keys.entries c.requires.store c.args.dest.now (sym (c.in_default-copied.ensures ∙ c.get-2.ensures.value))),
      refl,
    )

pub rule_conflict-requires-clause-live : goal.rule_conflict-requires-clause-live
rule_conflict-requires-clause-live c =
    let n = c.requires.store.stored c.args.source.now c.in-Some.from (sym (c.in-Some.ensures ∙ c.get.ensures.value)) in record { node = n.0; there = n.1 }

pub rule_conflict-requires-clause-dest : goal.rule_conflict-requires-clause-dest
rule_conflict-requires-clause-dest c =
    let d = c.requires.store.stored c.args.dest.now c.in-Some-copied.to (sym (c.in-Some-copied.ensures ∙ c.get-2.ensures.value)) in record { node = d.0; there = d.1 }

pub returns-in-Some-rule_conflict-clause-ruled : goal.returns-in-Some-rule_conflict-clause-ruled
returns-in-Some-rule_conflict-clause-ruled c =
    let s = c.args.self.now in
    let from = sym (c.in-Some.ensures ∙ c.get.ensures.value) in
    let to = sym (c.in-Some-copied.ensures ∙ c.get-2.ensures.value) in
    let n = c.requires.store.stored c.args.source.now c.in-Some.from from in
    let d = c.requires.store.stored c.args.dest.now c.in-Some-copied.to to in (
      rule_conflict-answer s c.requires.store c.args.source.now c.args.dest.now c.in-Some.from c.in-Some-copied.to n.0 d.0 (record { number = from; node = n.1 }) (record { number = to; node = d.1 })
          (keys-apart c.args.source.now c.args.dest.now c.eq.result c.eq.ensures c.if-eq.false) c.args.agg c.args.grid c.in-Some-rule_conflict.fault (c.in-Some-rule_conflict.ensures.rule_conflict n.0 d.0 n.1 d.1),
      refl,
    )

pub add_rule-requires-clause-live : goal.add_rule-requires-clause-live
add_rule-requires-clause-live c =
    let n = c.requires.store.stored c.args.source.now c.in-Some.from (sym (c.in-Some.ensures ∙ c.get.ensures.value)) in record { node = n.0; there = n.1 }

pub add_rule-requires-clause-dest : goal.add_rule-requires-clause-dest
add_rule-requires-clause-dest c =
    let d = c.requires.store.stored c.args.dest.now c.in-Some-copied.to (sym (c.in-Some-copied.ensures ∙ c.get-2.ensures.value)) in record { node = d.0; there = d.1 }

pub set_source-requires-clause-live : goal.set_source-requires-clause-live
set_source-requires-clause-live c =
    let d = c.requires.store.stored c.args.dest.now c.in-Some-copied.to (sym (c.in-Some-copied.ensures ∙ c.get-2.ensures.value)) in
    live-after c.args.self.now c.add_rule.new.self c.requires.store c.add_rule.ensures.store c.add_rule.ensures.elsewhere.entries c.in-Some-copied.to (record { node = d.0; there = d.1 })

pub set_source-requires-clause-source : goal.set_source-requires-clause-source
set_source-requires-clause-source c =
    let n = c.requires.store.stored c.args.source.now c.in-Some.from (sym (c.in-Some.ensures ∙ c.get.ensures.value)) in
    live-after c.args.self.now c.add_rule.new.self c.requires.store c.add_rule.ensures.store c.add_rule.ensures.elsewhere.entries c.in-Some.from (record { node = n.0; there = n.1 })

pub returns-clause-ruled : goal.returns-clause-ruled
returns-clause-ruled c =
    let s = c.args.self.now in
    let from = sym (c.in-Some.ensures ∙ c.get.ensures.value) in
    let to = sym (c.in-Some-copied.ensures ∙ c.get-2.ensures.value) in
    let n = c.requires.store.stored c.args.source.now c.in-Some.from from in
    let d = c.requires.store.stored c.args.dest.now c.in-Some-copied.to to in
    let holds : Holds s c.args.source.now c.in-Some.from n.0 = record { number = from; node = n.1 } in
    let other : Holds s c.args.dest.now c.in-Some-copied.to d.0 = record { number = to; node = d.1 } in
    let apart : same c.args.source.now c.args.dest.now ≡ false = keys-apart c.args.source.now c.args.dest.now c.eq.result c.eq.ensures c.if-eq.false in
    let done = both-ruled s c.requires.store c.args.source.now c.args.dest.now c.in-Some.from c.in-Some-copied.to n.0 d.0 holds other apart c.args.agg c.args.grid c.add_rule.new.self c.set_source.new.self
    c.add_rule.ensures.elsewhere c.in-Ok.ensures.added c.set_source.ensures.set in (
      unbarred-answer s c.requires.store c.args.source.now c.args.dest.now c.in-Some.from c.in-Some-copied.to n.0 d.0 holds other apart c.args.agg c.args.grid (c.in_default-rule_conflict.ensures.rule_conflict n.0 d.0 n.1 d.1)
          ∙ ap (λ (x : Contents). record { keys = x.keys; response = Done }) (sym done),
      ap (λ (x : Contents). x.limits) done,
    )

pub returns-in-Err-clause-ruled : goal.returns-in-Err-clause-ruled
returns-in-Err-clause-ruled c =
    let s = c.args.self.now in
    let from = sym (c.in-Some.ensures ∙ c.get.ensures.value) in
    let to = sym (c.in-Some-copied.ensures ∙ c.get-2.ensures.value) in
    let n = c.requires.store.stored c.args.source.now c.in-Some.from from in
    let d = c.requires.store.stored c.args.dest.now c.in-Some-copied.to to in (
      unbarred-yields s c.requires.store c.args.source.now c.args.dest.now c.in-Some.from c.in-Some-copied.to n.0 d.0 (record { number = from; node = n.1 }) (record { number = to; node = d.1 })
          (keys-apart c.args.source.now c.args.dest.now c.eq.result c.eq.ensures c.if-eq.false) c.args.agg c.args.grid (c.in_default-rule_conflict.ensures.rule_conflict n.0 d.0 n.1 d.1),
      c.in-Err.ensures.unchanged,
    )
