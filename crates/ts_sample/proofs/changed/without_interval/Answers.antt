use Rattle.std.proofs.Common.{sym, subst, ap, not, ◌∙◌}
use Rattle.ts_spec.specs.Sample.{outside, is_within, IsAscending}
use Rattle.ts_spec.proofs.Samples.{ascending-times}
use Rattle.ts_sample.proofs.changed.without_interval.Goals as goal

pub cut_into-requires-clause-ascending : goal.cut_into-requires-clause-ascending
cut_into-requires-clause-ascending g c =
    subst IsAscending (sym (c.deref.ensures.value ∙ c.drop_interval.ensures ∙ ap (outside c.args.from c.args.to) c.in_ok-samples.ensures.list))
    (ascending-times (λ t. not (is_within c.args.from c.args.to t)) (g.C.Chunk.list c.args.chunk.now) c.known.ensures.ascending)
