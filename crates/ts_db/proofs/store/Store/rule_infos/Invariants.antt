use Rattle.std.proofs.Common.{◌≡◌, ◌≤◌, map, take, drop, length, vec_len, vec_capacity}
use Rattle.ts_spec.specs.StoredQueries.{stored_rule_info}
use Rattle.ts_db.specs.Information.{rule_info_of}
use Rattle.ts_db.specs.Store.{rules_by, key_in, AreLive}
use Rattle.ts_db.proofs.store.Store.rule_infos.Given as goal

-- the first rules are reported, and capacity suffices for all rules
abbrev pub invariant-loop-rule : goal.invariant-loop-rule
invariant-loop-rule l = record {
  so_far : map rule_info_of l.infos.items ≡ map stored_rule_info (rules_by (key_in l.self.nodes) (take l.rule-index l.rules));
  live : AreLive l.self.nodes (drop l.rule-index l.rules);
  many : vec_len l.infos ≡ l.rule-index;
  room : length l.rules ≤ vec_capacity l.infos;
}
