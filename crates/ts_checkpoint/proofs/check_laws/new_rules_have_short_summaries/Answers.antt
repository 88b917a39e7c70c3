use Rattle.ts_checkpoint.proofs.ShortSummaries.{short-summary}
use Rattle.ts_checkpoint.proofs.check_laws.new_rules_have_short_summaries.Goals as goal

pub returns : goal.returns
returns c = short-summary
