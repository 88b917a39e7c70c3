use Rattle.std.proofs.Common.{rules, refl}
use Rattle.std.proofs.lemmas.Fn.{filter_same}
use Rattle.ts_db.proofs.node.Node.remove_rule.Goals as goal

pub returns : goal.returns
returns c = record {
  rules = filter_same _ _ _ (λ x b f' k. search rules) _ _ c.retain.ensures.filtered;
  rest = refl;
}
