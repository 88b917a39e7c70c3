-- What a deletion on a source removes and what it leaves.
use Rattle.std.specs.Prelude.{List}
use Rattle.ts_spec.specs.Sample.{Point}
use Rattle.ts_rules.specs.declared.source_deletion.SourceDeletion.{SourceDeletion}
use Rattle.ts_rules.specs.Deletions.{gone_of, left_of}

-- the deleted samples, and the remaining ones
abbrev pub gone_by : SourceDeletion → List Point
gone_by d = gone_of d.source.now d.from d.to

abbrev pub left_by : SourceDeletion → List Point
left_by d = left_of d.source.now d.from d.to
