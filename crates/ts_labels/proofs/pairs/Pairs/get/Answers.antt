use Rattle.std.proofs.Common.{◌≡◌, ◌∙◌, ap, sym}
use Rattle.ts_spec.specs.Filter.{value_of}
use Rattle.ts_labels.specs.Labels.{labels_in}
use Rattle.ts_labels.proofs.LabelLemmas.{lookup-value_of}
use Rattle.ts_labels.proofs.PairLemmas.{value-at}
use Rattle.ts_labels.proofs.pairs.Pairs.get.Goals as goal

pub returns-in-Many : goal.returns-in-Many
returns-in-Many c =
    let entries = c.in-Many.map.entries in
    let there : labels_in entries ≡ c.args.self.now = rw c.in-Many.is at c.self.view_is in
    c.get.ensures.value ∙ lookup-value_of c.args.label.now entries ∙ ap (value_of c.args.label.now) there

pub returns-in-Some : goal.returns-in-Some
returns-in-Some c =
    let pairs = c.in-Few.pairs.items in
    let there : labels_in pairs ≡ c.args.self.now = rw c.in-Few.is at c.self.view_is in
    sym (value-at pairs c.in-Some.place c.index.result.now (rw c.as_slice.ensures.value at c.in-Some.ensures.within) c.index.ensures) ∙ (rw c.as_slice.ensures.value at c.in-Some.ensures.value) ∙ ap (value_of c.args.label.now) there
