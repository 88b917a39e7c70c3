use Rattle.std.proofs.Common.{None, sym, ap, ◌∙◌}
use Rattle.std.specs.Option.{unwrap_or}
use Rattle.ts_mux.proofs.ClosedLinks.{closed_if}
use Rattle.ts_mux.proofs.open_connections.OpenConnections.find.Goals as goal

pub returns-in-None-clause-index : goal.returns-in-None-clause-index
returns-in-None-clause-index c = ap (λ o. unwrap_or o None) (sym (c.copied.ensures ∙ c.get.ensures.value) ∙ c.in-None.is)

pub returns-in-None-clause-closed : goal.returns-in-None-clause-closed
returns-in-None-clause-closed c =
    closed_if c.args.link c.args.self.now.reached None c.args.self.now.indexes c.requires.reached (sym (c.copied.ensures ∙ c.get.ensures.value) ∙ c.in-None.is)
