use Rattle.ts_rules.proofs.Shared.{told-none}
use Rattle.ts_rules.proofs.shared_bucket.SharedBucket.new.Goals as goal

pub returns : goal.returns
returns c = λ ps. told-none ps c.new.result c.new.ensures
