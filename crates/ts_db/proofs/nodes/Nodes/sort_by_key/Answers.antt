use Rattle.std.proofs.Common.{rules}
use Rattle.std.specs.Cmp.Lexicographic.{slice_cmp, nat_list_cmp_total}
use Rattle.std.specs.Ordering.{nat_cmp}
use Rattle.std.specs.Ordering.{is_lt}
use Rattle.std.proofs.lemmas.List.Sorted.{ranks_by}
use Rattle.std.proofs.lemmas.Fn.{always_returns_same}
use Rattle.ts_sample.specs.declared.sample.Id.{Id}
use Rattle.ts_db.specs.Store.{key_in}
use Rattle.ts_db.proofs.nodes.Nodes.sort_by_key.Goals as goal

pub returns-clause-sorted : goal.returns-clause-sorted
returns-clause-sorted c =
    c.sort_unstable_by.ensures.sorted (λ (x y : Id). is_lt (slice_cmp nat_cmp (key_in c.args.self.now x) (key_in c.args.self.now y)))
    (ranks_by nat_list_cmp_total (key_in c.args.self.now))
    (always_returns_same _ _ _ (λ a r f' k. search rules))
