-- The buckets that the rules of a source share while one change is planned.
use Rattle.std.specs.Prelude.{List}
use Rattle.ts_spec.specs.Sample.{Point}
use Rattle.ts_rules.specs.declared.shared_bucket.SharedBuckets.{SharedBuckets}
use Rattle.ts_rules.specs.SharedBucket.{IsShared}

-- what is known of each bucket holds for the source's samples after the change
abbrev pub AreShared : List Point → SharedBuckets → Type 0
AreShared ps t = IsShared ps t.first × IsShared ps t.last
