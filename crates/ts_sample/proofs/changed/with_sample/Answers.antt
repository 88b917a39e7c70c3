use Rattle.std.proofs.Common.{sym, subst, ap, ◌∙◌}
use Rattle.ts_spec.specs.Sample.{put, IsAscending}
use Rattle.ts_spec.proofs.Samples.{ascending-put}
use Rattle.ts_sample.proofs.changed.with_sample.Goals as goal

pub cut_into-requires-clause-ascending : goal.cut_into-requires-clause-ascending
cut_into-requires-clause-ascending g c =
    subst IsAscending (sym (c.deref.ensures.value ∙ c.in_ok-insert_or_replace.ensures ∙ ap (put c.args.sample.now) c.in_ok-samples.ensures.list))
    (ascending-put c.args.sample.now (g.C.Chunk.list c.args.chunk.now) c.known.ensures.ascending)
