use Rattle.std.proofs.Common.{◌≡◌, List, Vec, Global, sym, ◌∙◌, ap, subst}
use Rattle.std.specs.Prelude.{Ok, Err}
use Rattle.ts_spec.specs.Sample.{Point, IsAscending, between, is_within, put_all}
use Rattle.ts_spec.specs.Queries.{asked}
use Rattle.ts_spec.proofs.Samples.{ascending-times, ascending-put_all}
use Rattle.ts_spec.proofs.Settles.{times-within}
use Rattle.ts_sample.proofs.Visiting.{list-gathered}
use Rattle.ts_series.specs.History.{list_of}
use Rattle.ts_rules.specs.Rules.{one_of}
use Rattle.ts_db.specs.declared.fault.DbFault.TheVariants.{Memory}
use Rattle.ts_db.proofs.Asking.{finds-no-key, finds-there}
use Rattle.ts_db.proofs.Laws.{asked-law}
use Rattle.ts_db.proofs.db.Db.samples.Goals as goal

pub returns-in_default-clause-samples : goal.returns-in_default-clause-samples
returns-in_default-clause-samples g c =
    finds-no-key {T = Vec Point Global} c.args.self.now c.args.key.now (λ held samples. samples.items ≡ between c.args.from c.args.to (asked held.state c.args.latest c.args.key.now)) c.in_default.ensures.there

pub returns-in-Err-clause-samples : goal.returns-in-Err-clause-samples
returns-in-Err-clause-samples g c =
    finds-there {T = Vec Point Global} c.args.self.now c.args.key.now (λ held samples. samples.items ≡ between c.args.from c.args.to (asked held.state c.args.latest c.args.key.now)) (Err (Memory c.in-Err.fault))
    c.in-Some.ensures.there (λ held st. tt)

-- the samples that were gathered

pub returns-clause-samples : goal.returns-clause-samples
returns-clause-samples g c =
    let n = c.node.result.now in
    let at = sym c.in-Some.ensures.id in
    finds-there c.args.self.now c.args.key.now (λ held samples. samples.items ≡ between c.args.from c.args.to (asked held.state c.args.latest c.args.key.now)) (Ok c.into_samples.result) c.in-Some.ensures.there
    (λ held st.
    c.into_samples.ensures
    ∙ list-gathered c.in-Ok.gathered c.scan_shown.new.visit (between c.args.from c.args.to (put_all (one_of c.requested_row-row.result) (list_of n.series))) c.in-Ok.ensures.empty c.scan_shown.ensures.visited
    ∙ ap (between c.args.from c.args.to) (sym (c.requested_row-row.ensures c.args.key.now n at (c.node.ensures.shows c.args.key.now at)) ∙ asked-law c.args.self.now c.args.key.now c.args.latest held st))

pub returns-clause-ascending : goal.returns-clause-ascending
returns-clause-ascending g c =
    let list : List Point = list_of c.node.result.now.series in
    let shown : List Point = put_all (one_of c.requested_row-row.result) list in
    subst IsAscending (sym (c.into_samples.ensures ∙ list-gathered c.in-Ok.gathered c.scan_shown.new.visit (between c.args.from c.args.to shown) c.in-Ok.ensures.empty c.scan_shown.ensures.visited))
    (ascending-times (is_within c.args.from c.args.to) shown (ascending-put_all (one_of c.requested_row-row.result) list c.node.ensures.kept.ascending))

pub returns-clause-within : goal.returns-clause-within
returns-clause-within g c =
    let shown : List Point = put_all (one_of c.requested_row-row.result) (list_of c.node.result.now.series) in
    let same : c.into_samples.result.items ≡ between c.args.from c.args.to shown =
    c.into_samples.ensures ∙ list-gathered c.in-Ok.gathered c.scan_shown.new.visit (between c.args.from c.args.to shown) c.in-Ok.ensures.empty c.scan_shown.ensures.visited in
    ap (between c.args.from c.args.to) same ∙ times-within (is_within c.args.from c.args.to) (is_within c.args.from c.args.to) shown (λ t is. is) ∙ sym same
