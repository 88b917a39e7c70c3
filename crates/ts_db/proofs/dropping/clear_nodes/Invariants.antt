use Rattle.std.proofs.Common.{◌≡◌, drop}
use Rattle.ts_db.specs.Dropping.{all_unlabelled}
use Rattle.ts_db.proofs.dropping.clear_nodes.Given as goal

-- clearing the remaining nodes gives what clearing all of them gives
abbrev pub invariant-loop-id : goal.invariant-loop-id
invariant-loop-id l = all_unlabelled (drop l.id-index l.ids) l.nodes ≡ all_unlabelled l.ids l.fn.nodes
