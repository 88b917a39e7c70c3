use Rattle.std.proofs.Common.{◌∙◌, rules}
use Rattle.ts_index.proofs.PostingLemmas.{value-gone}
use Rattle.ts_index.proofs.lists.remove_value.Goals as goal

pub returns-then-remove_from_posting : goal.returns-then-remove_from_posting
returns-then-remove_from_posting c = λ v.
    value-gone c.remove_from_posting.new.values c.remove-empty.new.self c.args.value.now c.remove-empty.ensures.updates (c.remove_from_posting.ensures.empty (search rules)) v
    ∙ c.remove_from_posting.ensures.lists v
