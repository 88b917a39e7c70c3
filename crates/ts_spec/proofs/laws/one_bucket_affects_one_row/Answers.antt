use Rattle.ts_spec.proofs.OneBucket.{one-bucket-shows}
use Rattle.ts_spec.proofs.laws.one_bucket_affects_one_row.Goals as goal

pub returns : goal.returns
returns c = one-bucket-shows
