use Rattle.std.proofs.Common.{false, Option, ap, sym, subst, refl}
use Rattle.ts_spec.specs.Sample.{Point}
use Rattle.ts_rules.specs.Rules.{one_of}
use Rattle.ts_rules.specs.Plans.{IsUpdate}
use Rattle.ts_rules.proofs.Mended.{stays, mending-row}
use Rattle.ts_rules.specs.Shares.{IsPastAll}
use Rattle.ts_rules.proofs.plan.with_row.Goals as goal

pub returns-in-None-clause-updated_list : goal.returns-in-None-clause-updated_list
returns-in-None-clause-updated_list g c = stays c.args.limit (λ t. false) (one_of c.args.row) c.args.dest.now c.known.ensures.kept c.requires.fits (ap one_of c.in-None.is) (λ t. refl)

pub returns-in-Some-clause-updated_list : goal.returns-in-Some-clause-updated_list
returns-in-Some-clause-updated_list g c =
    subst (λ (o : Option Point). IsUpdate c.args.limit (λ t. false) (one_of o) c.args.dest.now c.updated_list.result) (sym c.in-Some.is)
    (mending-row c.args.limit c.row.inside.time c.in-Some.row c.args.dest.now c.known.ensures.kept (ap (λ (p : Point). p.time) c.row.view_is) c.updated_list.result c.updated_list.ensures.updated_list)

pub returns-in-Some-clause-easy : goal.returns-in-Some-clause-easy
returns-in-Some-clause-easy g c = λ all. (
    let past : IsPastAll c.args.limit c.args.dest.now c.row.inside.time =
    subst (λ (p : Point). IsPastAll c.args.limit c.args.dest.now p.time) (sym c.row.view_is) (all c.in-Some.row c.in-Some.is) in
    c.updated_list.ensures.easy (record { one = refl; here = refl; past = past.past; few = past.few }))
