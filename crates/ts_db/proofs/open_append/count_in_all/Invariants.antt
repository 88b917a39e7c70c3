use Rattle.std.proofs.Common.{◌≡◌, take, drop}
use Rattle.ts_db.specs.OpenAppend.{counted_once_more, CanCountOneMore}
use Rattle.ts_db.specs.Planning.{AreChanged}
use Rattle.ts_db.proofs.open_append.count_in_all.Given as goal

-- the rules so far have counted the sample; the others are unchanged and can count it
abbrev pub invariant-loop-rule : goal.invariant-loop-rule
invariant-loop-rule l = record {
  done : AreChanged (counted_once_more l.wrote) (take l.rule-index l.initial.rule-items) (take l.rule-index l.rule-items);
  others : drop l.rule-index l.rule-items ≡ drop l.rule-index l.initial.rule-items;
  room : CanCountOneMore (drop l.rule-index l.initial.rule-items);
}
