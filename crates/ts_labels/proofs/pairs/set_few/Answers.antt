use Rattle.ts_labels.specs.Labels.{labelled, labels_in}
use Rattle.ts_labels.proofs.PairLemmas.{with_label-at, with_label-last, distinct-with_label}
use Rattle.ts_labels.proofs.pairs.set_few.Goals as goal

pub returns-in-Some-clause-ok : goal.returns-in-Some-clause-ok
returns-in-Some-clause-ok c = rw c.replace-old.ensures.after (with_label-at c.args.label c.args.value c.args.pairs.now.items c.in-Some.place c.requires (rw c.as_slice.ensures.value at c.in-Some.ensures.place))

pub returns-in-Some-clause-distinct : goal.returns-in-Some-clause-distinct
returns-in-Some-clause-distinct c = rw (c.replace-old.ensures.after, with_label-at c.args.label c.args.value c.args.pairs.now.items c.in-Some.place c.requires (rw c.as_slice.ensures.value at c.in-Some.ensures.place))
    (distinct-with_label (labelled c.args.label c.args.value) (labels_in c.args.pairs.now.items) c.requires)

pub returns-in_ok-reserve_exact-in-None-clause-ok : goal.returns-in_ok-reserve_exact-in-None-clause-ok
returns-in_ok-reserve_exact-in-None-clause-ok c = rw (c.push_reserved.ensures.items, c.in_ok-reserve_exact-in-None.ensures.items)
    (with_label-last c.args.label c.args.value c.args.pairs.now.items (rw c.as_slice.ensures.value at c.in-None.ensures.absent))

pub returns-in_ok-reserve_exact-in-None-clause-distinct : goal.returns-in_ok-reserve_exact-in-None-clause-distinct
returns-in_ok-reserve_exact-in-None-clause-distinct c = rw (c.push_reserved.ensures.items, c.in_ok-reserve_exact-in-None.ensures.items, with_label-last c.args.label c.args.value c.args.pairs.now.items (rw c.as_slice.ensures.value at c.in-None.ensures.absent))
    (distinct-with_label (labelled c.args.label c.args.value) (labels_in c.args.pairs.now.items) c.requires)
