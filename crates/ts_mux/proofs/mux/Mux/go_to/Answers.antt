use Rattle.ts_mux.proofs.Changes.{goes_here}
use Rattle.ts_mux.proofs.mux.Mux.go_to.Goals as goal

pub returns-in-Some-clause-goes : goal.returns-in-Some-clause-goes
returns-in-Some-clause-goes c =
    let m = c.args.self.now in
    goes_here m.open_connections c.args.link m.current_connection c.in-Some.at c.in-Some.ensures.1 c.in-Some.ensures.0 m.index
