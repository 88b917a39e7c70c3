-- What TS.INFO reports, as ts_spec defines it.
use Rattle.std.specs.Prelude.{map}
use Rattle.ts_spec.specs.Response as response
use Rattle.ts_db.specs.declared.info.Info.{Info}
use Rattle.ts_db.specs.declared.info.RuleInfo.{RuleInfo}

-- the facts about a rule as ts_spec defines them
abbrev pub rule_info_of : RuleInfo → response.RuleInfo
rule_info_of r = record { dest = r.dest; grid = r.grid; agg = r.agg }

-- the facts about a series as ts_spec defines them
abbrev pub info_of : Info → response.Info
info_of i = record {
  total = i.total;
  first = i.first;
  last = i.last;
  options = i.options;
  labels = i.labels;
  source = i.source;
  rules = map rule_info_of i.rules.items;
}
