use Rattle.std.proofs.Common.{◌≡◌, false, refl, sym, ◌∙◌, ap, subst}
use Rattle.ts_spec.specs.Key.{same}
use Rattle.ts_sample.specs.declared.sample.Id.{Id}
use Rattle.ts_rules.specs.Rules.{stored_rule_for}
use Rattle.ts_db.specs.Restoring.{part_of_rule}
use Rattle.ts_db.specs.Store.{key_in, Contents, HasNode}
use Rattle.ts_db.proofs.Freed.{live-after}
use Rattle.ts_db.proofs.NewRules.{keys-apart}
use Rattle.ts_db.proofs.RuleBetween.{AreBoth, both-of, source-node, dest-node, rule-steps, new-rule, old-rule, both-linked, no-source, no-dest}
use Rattle.ts_db.proofs.Storing.{missing}
use Rattle.ts_db.proofs.store.Store.restore_rule.Goals as goal
use Rattle.ts_db.proofs.store.Store.restore_rule.Goals.{In-Some-copied}

-- the nodes of both keys
both : (g : _) (c : In-Some-copied g) → AreBoth c.args.self.now c.args.source.now c.args.dest.now c.in-Some.from c.in-Some-copied.to
both g c =
    both-of c.args.self.now c.requires.store c.args.source.now c.args.dest.now c.in-Some.from c.in-Some-copied.to (sym (c.in-Some.ensures ∙ c.get.ensures.value))
    (sym (c.in-Some-copied.ensures ∙ c.get-2.ensures.value))

pub returns-in_default-clause-restored : goal.returns-in_default-clause-restored
returns-in_default-clause-restored g c =
    let s = c.args.self.now in (
      no-source s c.args.source.now c.args.dest.now c.args.rule (missing s.limits s.nodes s.keys.entries c.requires.store c.args.source.now (sym (c.in_default.ensures ∙ c.get.ensures.value))),
      refl,
    )

pub returns-in_default-copied-clause-restored : goal.returns-in_default-copied-clause-restored
returns-in_default-copied-clause-restored g c =
    let s = c.args.self.now in (
      no-dest s c.args.source.now c.args.dest.now c.args.rule (missing s.limits s.nodes s.keys.entries c.requires.store c.args.dest.now (sym (c.in_default-copied.ensures ∙ c.get-2.ensures.value))),
      refl,
    )

pub can_restore_rule-requires-clause-live : goal.can_restore_rule-requires-clause-live
can_restore_rule-requires-clause-live g c =
    source-node c.args.self.now c.args.source.now c.args.dest.now c.in-Some.from c.in-Some-copied.to (both g (goal.at.can_restore_rule-requires-clause-live g c).In-Some-copied)

pub can_restore_rule-requires-clause-dest : goal.can_restore_rule-requires-clause-dest
can_restore_rule-requires-clause-dest g c =
    dest-node c.args.self.now c.args.source.now c.args.dest.now c.in-Some.from c.in-Some-copied.to (both g (goal.at.can_restore_rule-requires-clause-dest g c).In-Some-copied)

pub returns-then-not-can_restore_rule-clause-restored : goal.returns-then-not-can_restore_rule-clause-restored
returns-then-not-can_restore_rule-clause-restored g c =
    let s = c.args.self.now in
    let b = both g (goal.at.returns-then-not-can_restore_rule-clause-restored g c).In-Some-copied in (
      (λ new.
          let can = old-rule s c.requires.store c.args.source.now c.args.dest.now c.in-Some.from c.in-Some-copied.to b.n b.d b.holds b.other c.args.rule new in
          absurd (cc ((c.can_restore_rule.ensures.allowed b.n b.d b.holds.node b.other.node).1 can, c.if-not-can_restore_rule.true))),
      refl,
    )

pub returns-then-not-can_restore_rule-clause-steps : goal.returns-then-not-can_restore_rule-clause-steps
returns-then-not-can_restore_rule-clause-steps g c =
    let b = both g (goal.at.returns-then-not-can_restore_rule-clause-steps g c).In-Some-copied in
    rule-steps c.args.self.now c.requires.store c.args.source.now c.in-Some.from b.n b.holds c.args.steps.now c.can_restore_rule.new.steps (c.can_restore_rule.ensures.steps b.n b.holds.node)

pub push_rule-requires-clause-live : goal.push_rule-requires-clause-live
push_rule-requires-clause-live g c =
    source-node c.args.self.now c.args.source.now c.args.dest.now c.in-Some.from c.in-Some-copied.to (both g (goal.at.push_rule-requires-clause-live g c).In-Some-copied)

pub push_rule-requires-clause-dest : goal.push_rule-requires-clause-dest
push_rule-requires-clause-dest g c =
    let live = dest-node c.args.self.now c.args.source.now c.args.dest.now c.in-Some.from c.in-Some-copied.to (both g (goal.at.push_rule-requires-clause-dest g c).In-Some-copied) in
    subst (HasNode c.args.self.now.nodes) (sym c.to.ensures.leads) live

pub returns-in-Err-clause-steps : goal.returns-in-Err-clause-steps
returns-in-Err-clause-steps g c =
    let b = both g (goal.at.returns-in-Err-clause-steps g c).In-Some-copied in
    rule-steps c.args.self.now c.requires.store c.args.source.now c.in-Some.from b.n b.holds c.args.steps.now c.can_restore_rule.new.steps (c.can_restore_rule.ensures.steps b.n b.holds.node)

pub set_source-requires-clause-live : goal.set_source-requires-clause-live
set_source-requires-clause-live g c =
    let live = dest-node c.args.self.now c.args.source.now c.args.dest.now c.in-Some.from c.in-Some-copied.to (both g (goal.at.set_source-requires-clause-live g c).In-Some-copied) in
    live-after c.args.self.now c.push_rule.new.self c.requires.store c.push_rule.ensures.store c.push_rule.ensures.elsewhere.entries c.in-Some-copied.to live

pub set_source-requires-clause-source : goal.set_source-requires-clause-source
set_source-requires-clause-source g c =
    let live = source-node c.args.self.now c.args.source.now c.args.dest.now c.in-Some.from c.in-Some-copied.to (both g (goal.at.set_source-requires-clause-source g c).In-Some-copied) in
    live-after c.args.self.now c.push_rule.new.self c.requires.store c.push_rule.ensures.store c.push_rule.ensures.elsewhere.entries c.in-Some.from live

pub returns-clause-restored : goal.returns-clause-restored
returns-clause-restored g c =
    let s = c.args.self.now in
    let b = both g (goal.at.returns-clause-restored g c).In-Some-copied in
    let apart : same c.args.source.now c.args.dest.now ≡ false = keys-apart c.args.source.now c.args.dest.now c.eq.result c.eq.ensures c.if-eq.false in
    let rule = c.to.ensures.rule (key_in s.nodes c.to.result.dest) ∙ ap (λ (i : Id). (part_of_rule c.args.source.now (key_in s.nodes i) c.args.rule).rule) c.to.ensures.leads in
    let done = both-linked s c.requires.store c.args.source.now c.args.dest.now c.in-Some.from c.in-Some-copied.to b.n b.d b.holds b.other c.args.rule c.push_rule.new.self c.set_source.new.self
    (stored_rule_for (key_in s.nodes c.to.result.dest) c.to.result) rule c.push_rule.ensures.elsewhere c.in-Ok.ensures.pushed c.set_source.ensures.set in (
      new-rule s c.requires.store c.args.source.now c.args.dest.now c.in-Some.from c.in-Some-copied.to b.n b.d b.holds b.other c.args.rule apart c.to.ensures.grid.some
          ((c.can_restore_rule.ensures.allowed b.n b.d b.holds.node b.other.node).0 c.if-not-can_restore_rule.false),
      ap (λ (x : Contents). x.keys) done,
      ap (λ (x : Contents). x.limits) done,
    )

pub returns-clause-steps : goal.returns-clause-steps
returns-clause-steps g c =
    let b = both g (goal.at.returns-clause-steps g c).In-Some-copied in
    rule-steps c.args.self.now c.requires.store c.args.source.now c.in-Some.from b.n b.holds c.args.steps.now c.can_restore_rule.new.steps (c.can_restore_rule.ensures.steps b.n b.holds.node)
