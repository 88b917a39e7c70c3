use Rattle.std.specs.Prelude.{Some, List, ℕ, ⊤}
use Rattle.std.proofs.Common.{◌≡◌}
use Rattle.ts_execution.proofs.Carried.{carries_none}
use Rattle.ts_engine.proofs.Openings.{read-loaded}
use Rattle.ts_engine.proofs.opened.read_journal.Goals as goal

pub returns-in-Ok-clause-read : goal.returns-in-Ok-clause-read
returns-in-Ok-clause-read g c =
    read-loaded c.args.db.now c.load.new.db c.args.limits c.args.budget (g.J.Log.content c.args.log.now) (g.J.Log.content c.open.new.self)
    c.load.result c.open.ensures.content c.load.ensures.loaded c.load.ensures.judged c.load.ensures.enough

pub returns-in-Err-clause-read : goal.returns-in-Err-clause-read
returns-in-Err-clause-read g c =
    carries_none c.args.db.now (λ from to. (journal : List ℕ) → g.J.Log.content c.args.log.now ≡ Some journal → ⊤) (λ from stands journal told. tt)
