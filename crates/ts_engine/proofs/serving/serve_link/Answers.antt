use Rattle.std.proofs.Common.{sym, subst, arith}
use Rattle.std.specs.Prelude.{List, Option}
use Rattle.ts_io.specs.Links.{PopsFront, PushesBack}
use Rattle.ts_io.specs.declared.listener.Ends.{Ends}
use Rattle.ts_execution.proofs.Carried.{carries_none, carries_as}
use Rattle.ts_engine.proofs.Answered.{is_served}
use Rattle.ts_engine.proofs.Links.{serves_fault, serves_one, serves_cut}
use Rattle.ts_engine.proofs.serving.serve_link.Goals as goal

pub returns-in_default-clause-serves : goal.returns-in_default-clause-serves
returns-in_default-clause-serves g c =
    carries_none _ _ (λ from stands. serves_fault _ _ _ c.args.number 1 _ _ _ _ _ _ (omega arith) c.in_default.ensures.failed c.in_default.ensures.closed)

pub returns-in-Ok-write_link-clause-serves : goal.returns-in-Ok-write_link-clause-serves
returns-in-Ok-write_link-clause-serves g c =
    carries_as _ _ _ _ (λ from to piped.
    serves_one _ _ _ c.args.number (record { came = c.in-Ok.ends; back = record { input = c.pipe-outcome.new.input; out = c.pipe-outcome.new.out }; outcome = c.pipe-outcome.result }) _ _
    (g.N.Listener.coming c.args.net.now) (g.N.Listener.coming c.close.new.self) (g.N.Listener.closed c.args.net.now) (g.N.Listener.closed c.close.new.self) _ _
    (subst (λ (o : Option (List (Ends g.row.N-In.Denot g.row.N-Out.Denot))). PopsFront (g.N.Listener.coming c.args.net.now) o c.in-Ok.ends) (sym c.close.ensures.coming) c.in-Ok.ensures.link)
    (subst (λ (o : Option (List (Ends g.row.N-In.Denot g.row.N-Out.Denot))). PushesBack o (g.N.Listener.closed c.close.new.self) (record { input = c.pipe-outcome.new.input; out = c.pipe-outcome.new.out })) c.in-Ok.ensures.closed c.close.ensures.closed)
    (is_served _ _ _ _ _ _ piped c.pipe-outcome.ensures.causes) c.in-Ok-write_link.ensures.whole) c.pipe-outcome.ensures.piped

pub returns-in-Err-clause-serves : goal.returns-in-Err-clause-serves
returns-in-Err-clause-serves g c =
    carries_as _ _ _ _ (λ from to piped.
    serves_cut _ _ _ c.args.number (record { came = c.in-Ok.ends; back = record { input = c.pipe-outcome.new.input; out = c.pipe-outcome.new.out }; outcome = c.pipe-outcome.result }) _ _
    (g.N.Listener.coming c.args.net.now) (g.N.Listener.coming c.close.new.self) (g.N.Listener.closed c.args.net.now) (g.N.Listener.closed c.close.new.self) _ _
    (subst (λ (o : Option (List (Ends g.row.N-In.Denot g.row.N-Out.Denot))). PopsFront (g.N.Listener.coming c.args.net.now) o c.in-Ok.ends) (sym c.close.ensures.coming) c.in-Ok.ensures.link)
    (subst (λ (o : Option (List (Ends g.row.N-In.Denot g.row.N-Out.Denot))). PushesBack o (g.N.Listener.closed c.close.new.self) (record { input = c.pipe-outcome.new.input; out = c.pipe-outcome.new.out })) c.in-Ok.ensures.closed c.close.ensures.closed)
    (is_served _ _ _ _ _ _ piped c.pipe-outcome.ensures.causes) c.in-Err.ensures.front) c.pipe-outcome.ensures.piped
