use Rattle.std.proofs.Common.{◌+◌, List, ◌++◌, [], ◌∷◌, ◌∙◌, ap}
use Rattle.std.specs.Prelude.{ℕ, None}
use Rattle.ts_spec.specs.Aggregate.{nothing}
use Rattle.ts_series.specs.History.{History}
use Rattle.ts_rules.specs.declared.rule.Rule.{Rule}
use Rattle.ts_db.proofs.node.Node.add_rule.Goals as goal

pub returns-clause-added : goal.returns-clause-added
returns-clause-added c = record {
  rule = c.begun.result;
  leads = c.begun.ensures.leads;
  kept = λ k. c.begun.ensures.begun k ∙ ap (λ (n : ℕ). record { dest = k; agg = c.args.agg; grid = c.args.grid; made = n + 1; current = None; running = nothing }) c.born-made.ensures;
  rules = c.push_reserved.ensures.items ∙ ap (λ (rs : List Rule). rs ++ c.begun.result ∷ []) c.reserve.ensures.items;
  rest = ap (λ (h : History). record c.args.self.now { series = h; rules = c.push_reserved.new.self }) c.raise_born.ensures.raised;
}
