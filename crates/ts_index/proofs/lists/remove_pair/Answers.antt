use Rattle.std.proofs.Common.{◌∙◌, rules}
use Rattle.ts_index.proofs.PostingLemmas.{label-gone}
use Rattle.ts_index.proofs.lists.remove_pair.Goals as goal

pub returns-then-remove_from_label : goal.returns-then-remove_from_label
returns-then-remove_from_label c = λ l v.
    label-gone c.remove_from_label.new.lists c.remove-empty.new.self c.args.label.now c.remove-empty.ensures.updates (c.remove_from_label.ensures.empty (search rules)) l v
    ∙ c.remove_from_label.ensures.lists l v
