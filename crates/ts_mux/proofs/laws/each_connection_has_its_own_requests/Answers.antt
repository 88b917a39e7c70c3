use Rattle.ts_mux.proofs.OneConnection.{items-at}
use Rattle.ts_mux.proofs.laws.each_connection_has_its_own_requests.Goals as goal

pub returns : goal.returns
returns c = λ closes link frames. items-at closes c.args.limits link frames
