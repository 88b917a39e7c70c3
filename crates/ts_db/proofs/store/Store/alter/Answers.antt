use Rattle.std.proofs.Common.{refl, sym, ◌∙◌, ap, arith}
use Rattle.ts_spec.specs.StoredStep.{stored_alter_at}
use Rattle.ts_labels.specs.Spec.{change_of}
use Rattle.ts_series.proofs.Effects.{alters-is}
use Rattle.ts_db.specs.Store.{db_view_of, contents_of, Contents, Holds, IsNode}
use Rattle.ts_db.proofs.Storing.{missing}
use Rattle.ts_db.proofs.Changing.{few-altered, altered-within, alter-longer, alter-yields, alter-answers}
use Rattle.ts_db.proofs.Reaches.{reach-held}
use Rattle.ts_db.proofs.store.Store.alter.Goals as goal

pub returns-in_default-clause-altered : goal.returns-in_default-clause-altered
returns-in_default-clause-altered g c = (
  ap (stored_alter_at c.args.self.now.limits (db_view_of c.args.self.now).keys c.args.key.now (change_of c.args.change)) (missing c.args.self.now.limits c.args.self.now.nodes c.args.self.now.keys.entries c.requires c.args.key.now (sym (c.in_default.ensures ∙ c.get.ensures.value))),
  refl,
)

pub returns-then-are_too_many-clause-altered : goal.returns-then-are_too_many-clause-altered
returns-then-are_too_many-clause-altered g c =
    let holds : Holds c.args.self.now c.args.key.now c.in-Some.id c.node-node.result.now = record { number = sym (c.in-Some.ensures ∙ c.get.ensures.value); node = c.node-node.ensures } in
    (alter-longer c.args.self.now c.requires c.args.key.now c.in-Some.id c.node-node.result.now holds (change_of c.args.change) (sym c.are_too_many.ensures ∙ c.if-are_too_many.true), refl)

pub relabel-requires-clause-ready : goal.relabel-requires-clause-ready
relabel-requires-clause-ready g c =
    let fits : IsNode c.args.self.now.limits c.node-node.result.now = c.requires.each c.in-Some.id.0 c.node-node.result.now c.node-node.ensures in
    record {
      key = c.args.key.now;
      node = c.node-node.result.now;
      holds = record { number = sym (c.in-Some.ensures ∙ c.get.ensures.value); node = c.node-node.ensures };
      ready = c.in-Ok.ensures.planned;
      within = altered-within c.node-node.result.now c.in-Ok.plan (change_of c.args.change) c.args.self.now.limits.samples (alters-is _ c.in-Ok.plan c.in-Ok.ensures.options) fits.within;
      few = few-altered c.args.self.now.limits.labels c.args.change.labels c.node-node.result.now.labels (sym c.are_too_many.ensures ∙ c.if-are_too_many.false) fits.labels;
      live = (c.requires.live c.in-Some.id.0 c.node-node.result.now c.node-node.ensures).rules;
      grids = fits.grids;
    }

pub returns-in-Ok-relabel-clause-altered : goal.returns-in-Ok-relabel-clause-altered
returns-in-Ok-relabel-clause-altered g c =
    let holds : Holds c.args.self.now c.args.key.now c.in-Some.id c.node-node.result.now = record { number = sym (c.in-Some.ensures ∙ c.get.ensures.value); node = c.node-node.ensures } in (
      alter-answers c.args.self.now c.requires c.args.key.now c.in-Some.id c.node-node.result.now holds (change_of c.args.change) c.in-Ok.plan (contents_of c.relabel.new.self)
          (sym c.are_too_many.ensures ∙ c.if-are_too_many.false) (alters-is _ c.in-Ok.plan c.in-Ok.ensures.options) (c.in-Ok-relabel.ensures.applied c.args.key.now c.node-node.result.now holds),
      ap (λ (x : Contents). x.limits) (c.in-Ok-relabel.ensures.applied c.args.key.now c.node-node.result.now holds),
    )

pub returns-in-Err-clause-altered : goal.returns-in-Err-clause-altered
returns-in-Err-clause-altered g c =
    let holds : Holds c.args.self.now c.args.key.now c.in-Some.id c.node-node.result.now = record { number = sym (c.in-Some.ensures ∙ c.get.ensures.value); node = c.node-node.ensures } in
    (alter-yields c.args.self.now c.requires c.args.key.now c.in-Some.id c.node-node.result.now holds (change_of c.args.change) (sym c.are_too_many.ensures ∙ c.if-are_too_many.false), refl)

pub returns-in-Ok-relabel-clause-steps : goal.returns-in-Ok-relabel-clause-steps
returns-in-Ok-relabel-clause-steps g c =
    let holds : Holds c.args.self.now c.args.key.now c.in-Some.id c.node-node.result.now = record { number = sym (c.in-Some.ensures ∙ c.get.ensures.value); node = c.node-node.ensures } in
    record {
      counted = c.alter.ensures.steps.counted;
      bounded = omega (arith, c.alter.ensures.steps.bounded, reach-held c.args.self.now c.args.key.now c.in-Some.id c.node-node.result.now holds);
    }

pub returns-in-Err-clause-steps : goal.returns-in-Err-clause-steps
returns-in-Err-clause-steps g c =
    let holds : Holds c.args.self.now c.args.key.now c.in-Some.id c.node-node.result.now = record { number = sym (c.in-Some.ensures ∙ c.get.ensures.value); node = c.node-node.ensures } in
    record {
      counted = c.alter.ensures.steps.counted;
      bounded = omega (arith, c.alter.ensures.steps.bounded, reach-held c.args.self.now c.args.key.now c.in-Some.id c.node-node.result.now holds);
    }

pub returns-in-Err-relabel-clause-altered : goal.returns-in-Err-relabel-clause-altered
returns-in-Err-relabel-clause-altered g c =
    let holds : Holds c.args.self.now c.args.key.now c.in-Some.id c.node-node.result.now = record { number = sym (c.in-Some.ensures ∙ c.get.ensures.value); node = c.node-node.ensures } in (
      alter-yields c.args.self.now c.requires c.args.key.now c.in-Some.id c.node-node.result.now holds (change_of c.args.change) (sym c.are_too_many.ensures ∙ c.if-are_too_many.false),
      ap db_view_of c.in-Err-relabel.ensures.unchanged,
    )

pub returns-in-Err-relabel-clause-steps : goal.returns-in-Err-relabel-clause-steps
returns-in-Err-relabel-clause-steps g c =
    let holds : Holds c.args.self.now c.args.key.now c.in-Some.id c.node-node.result.now = record { number = sym (c.in-Some.ensures ∙ c.get.ensures.value); node = c.node-node.ensures } in
    record {
      counted = c.alter.ensures.steps.counted;
      bounded = omega (arith, c.alter.ensures.steps.bounded, reach-held c.args.self.now c.args.key.now c.in-Some.id c.node-node.result.now holds);
    }
