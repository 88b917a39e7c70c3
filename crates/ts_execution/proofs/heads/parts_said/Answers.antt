use Rattle.std.proofs.Common.{rules, sym}
use Rattle.ts_execution.proofs.HeadWords.{no-head}
use Rattle.ts_execution.proofs.heads.parts_said.Goals as goal

pub returns-then-len-ne-HEAD_WORDS : goal.returns-then-len-ne-HEAD_WORDS
returns-then-len-ne-HEAD_WORDS c = sym (no-head c.args.words.now.items (search rules))
