use Rattle.ts_spec.specs.State.{empty}
use Rattle.ts_engine.proofs.host_run.host_in_memory.Goals as goal

pub returns-clause-ends : goal.returns-clause-ends
returns-clause-ends g c = (c.serve_links.ensures.ends (record { limits = c.args.options.now.limits; state = empty }) c.new-db.ensures.stands).done
