use Rattle.std.proofs.Common.{◌≡◌, length, ◌∙◌, ap, rules}
use Rattle.std.specs.Prelude.{Some}
use Rattle.ts_spec.specs.State.{empty}
use Rattle.ts_spec.specs.declared.limits.Limits.{Limits}
use Rattle.ts_engine.proofs.Summaries.{summed}
use Rattle.ts_engine.proofs.generated.summarize.Goals as goal

pub returns-in-Ended : goal.returns-in-Ended
returns-in-Ended c =
    let carried = c.pipe-outcome.ensures.piped (record { limits = record c.args.limits { wire = c.usual.result.wire }; state = empty }) c.new-db.ensures.stands in
    let size : c.len-size.result ≡ length c.in-Ok.bytes.items = search rules in
    summed c.args.limits c.args.seed c.args.n c.usual.result.wire _ c.pipe-outcome.result carried.to _ _ _ _ _ _ _ _ _ _ _
    (ap (λ (l : Limits). l.wire) c.usual.ensures) (ap Some (c.new-input.ensures.left ∙ c.in-Ok.ensures)) (ap Some (c.new-clock.ensures ∙ c.new-2.ensures.items)) c.new-replies.ensures
    c.in-Ended.is carried.done
    (size ∙ ap length c.in-Ok.ensures) c.total.ensures c.errors.ensures (c.into.ensures ∙ c.count.ensures.each carried.to carried.stands) (c.count_samples.ensures carried.to carried.stands)
