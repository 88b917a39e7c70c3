use Rattle.std.proofs.Common.{ap, ◌∙◌, sym}
use Rattle.ts_spec.specs.Sample.{Point}
use Rattle.ts_sample.proofs.Found.{found, absent_past, absent_here, put_between}
use Rattle.ts_sample.proofs.sample.find.Goals as goal

pub returns-then-there-time-clause-found : goal.returns-then-there-time-clause-found
returns-then-there-time-clause-found c =
    let e = c.lower_bound-place.ensures in
    let h = c.in-Some.ensures.lookup in
    found c.args.time c.lower_bound-place.result c.args.list.now c.requires e.before e.after c.in-Some.there.now h.3.0 h.1
    (ap (λ (p : Point). p.time) (sym c.there.view_is) ∙ c.if-there-time.true)

pub returns-else-there-time-clause-absent : goal.returns-else-there-time-clause-absent
returns-else-there-time-clause-absent c =
    let e = c.lower_bound-place.ensures in
    let h = c.in-Some.ensures.lookup in
    absent_here c.args.time c.lower_bound-place.result c.args.list.now c.requires e.before e.after c.in-Some.there.now h.3.0 h.1
    (λ same. c.if-there-time.false (ap (λ (p : Point). p.time) c.there.view_is ∙ same))

pub returns-else-there-time-clause-between : goal.returns-else-there-time-clause-between
returns-else-there-time-clause-between c =
    let e = c.lower_bound-place.ensures in
    (e.within, put_between c.args.time c.lower_bound-place.result c.args.list.now c.requires e.before e.after (returns-else-there-time-clause-absent c))

pub returns-in_default-clause-absent : goal.returns-in_default-clause-absent
returns-in_default-clause-absent c =
    let e = c.lower_bound-place.ensures in
    absent_past c.args.time c.lower_bound-place.result c.args.list.now c.requires e.before e.after c.in_default.ensures.lookup.3

pub returns-in_default-clause-between : goal.returns-in_default-clause-between
returns-in_default-clause-between c =
    let e = c.lower_bound-place.ensures in
    (e.within, put_between c.args.time c.lower_bound-place.result c.args.list.now c.requires e.before e.after (returns-in_default-clause-absent c))
