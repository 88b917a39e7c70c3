use Rattle.std.proofs.Common.{◌≡◌, ◌∙◌, sym}
use Rattle.std.proofs.lemmas.Cmp.{ranked}
use Rattle.std.specs.declared.cmp.Ordering.TheVariants.{Equal}
use Rattle.ts_labels.specs.Filter.{kind_of}
use Rattle.ts_labels.proofs.SameLemmas.{same-compared}
use Rattle.ts_labels.proofs.filter.Filter.compare.Goals as goal

pub returns-in-Equal-cmp : goal.returns-in-Equal-cmp
returns-in-Equal-cmp c = λ tied labels.
    let kinds : kind_of c.args.self.now ≡ kind_of c.args.other.now =
    sym c.kind.ensures ∙ ranked c.kind.result c.kind-2.result Equal (sym c.in-Equal-cmp.is ∙ c.cmp-2.ensures) ∙ c.kind-2.ensures in
    same-compared c.args.self.now c.args.other.now c.label.result.now c.label-2.result.now c.values.result.now c.values-in-Equal-cmp.result.now
    c.label.ensures c.label-2.ensures (sym c.cmp.ensures ∙ c.in-Equal.is) kinds c.values.ensures.alike c.values-in-Equal-cmp.ensures.alike
    (sym c.cmp-in-Equal-cmp.ensures ∙ tied) labels
