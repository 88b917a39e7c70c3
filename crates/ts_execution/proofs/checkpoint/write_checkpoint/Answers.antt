use Rattle.std.proofs.Common.{◌≡◌, [], ◌∷◌, map, ◌∙◌, subst}
use Rattle.std.proofs.lemmas.Result.{on_ok_weaker}
use Rattle.ts_spec.specs.declared.wire.WireLimits.{WireLimits}
use Rattle.ts_journal.specs.Limits.{journal_limits}
use Rattle.ts_restore.specs.Checkpoint.{rule_parts}
use Rattle.ts_checkpoint.specs.Parts.{Head, Rule}
use Rattle.ts_execution.specs.Checkpoints.{Written, WrittenSeries}
use Rattle.ts_execution.proofs.WholeCheckpoints.{whole}
use Rattle.ts_execution.proofs.checkpoint.write_checkpoint.Goals as goal

pub returns-clause-written : goal.returns-clause-written
returns-clause-written g c =
    let db = c.args.db.now in
    let n = c.count_records-records.result in
    let drafted = g.J.Log.drafted in
    let at_first : c.in_ok-writer.writer.limits ≡ journal_limits c.args.limits = c.in_ok-writer.ensures ∙ c.limits_of.ensures.exact in
    let then : c.write_head.new.self.limits ≡ journal_limits c.args.limits = c.in_ok-write_head.ensures.limits ∙ at_first in
    let at_last : c.write_all_series.new.self.limits ≡ journal_limits c.args.limits = c.in_ok-write_all_series.ensures.limits ∙ then in
    let head = subst (λ (l : WireLimits). Written l (drafted c.args.log.now) (drafted c.write_head.new.log) (Head n ∷ [])) at_first c.in_ok-write_head.ensures.written in
    let series = subst (λ (l : WireLimits). WrittenSeries l db db.keys.entries (drafted c.write_head.new.log) (drafted c.write_all_series.new.log)) then
    c.in_ok-write_all_series.ensures.written in
    let Rules : WireLimits → Type 0 =
    λ l. Written l (drafted c.write_all_series.new.log) (drafted c.write_all_rules.new.log) (map Rule (rule_parts db.keys.entries)) in
    on_ok_weaker c.write_all_rules.result
    (λ (rules : Rules c.write_all_series.new.self.limits). λ held represents.
    whole c.args.limits db held represents c.in_ok-ids.ensures.durations n c.count_records-records.ensures head series (subst Rules at_last rules))
    c.write_all_rules.ensures.written
