use Rattle.std.proofs.Common.{◌≡◌, ap, sym, subst, rules}
use Rattle.ts_host.specs.Shown.{host_log}
use Rattle.ts_engine.specs.HostEnds.{HasHostCauses, status_of}
use Rattle.ts_engine.specs.Hosted.{host_view}
use Rattle.ts_engine.proofs.HostRuns.{ends-as}
use Rattle.ts_engine.proofs.host_links.serve_links.Goals as goal

-- the log is that of the host
pub returns-in-Ok-new-clause-ends : goal.returns-in-Ok-new-clause-ends
returns-in-Ok-new-clause-ends g c =
    let same : c.log-1.given.0 ≡ host_log c.open_and_serve-end.new.host = search rules in
    ends-as c.args.db.now c.open_and_serve-end.new.db (host_view g.C.Clock.readings g.K.Sink.has g.H.Hub.coming g.H.Hub.out c.args.options.now.address.now c.args.options.now.limits c.args.options.now.budget
    c.args.clock.now c.open_and_serve-end.new.clock c.args.out.now c.open_and_serve-end.new.out c.args.hub.now c.open_and_serve-end.new.hub)
    (g.C.Clock.readings c.args.clock.now) _ _ (g.J.Log.content c.args.log.now) (g.J.Log.content c.log-1.given.0) c.open_and_serve-end.result
    (ap g.J.Log.content c.new-host.ensures.begins.log_is) (ap g.J.Log.content (sym same)) c.open_and_serve-end.ensures.ends

pub returns-in-Ok-new-clause-causes : goal.returns-in-Ok-new-clause-causes
returns-in-Ok-new-clause-causes g c =
    let same : c.log-1.given.0 ≡ host_log c.open_and_serve-end.new.host = search rules in
    subst (λ x. HasHostCauses (status_of c.open_and_serve-end.result)
    (record { hub = g.H.Hub.faults c.args.hub.now; lines = g.K.Sink.faults c.args.out.now; journal = g.J.Log.faults c.args.log.now })
    (record { hub = g.H.Hub.faults c.open_and_serve-end.new.hub; lines = g.K.Sink.faults c.open_and_serve-end.new.out; journal = g.J.Log.faults x })) (sym same)
    (subst (λ x. HasHostCauses (status_of c.open_and_serve-end.result)
    (record { hub = g.H.Hub.faults c.args.hub.now; lines = g.K.Sink.faults c.args.out.now; journal = g.J.Log.faults x })
    (record { hub = g.H.Hub.faults c.open_and_serve-end.new.hub; lines = g.K.Sink.faults c.open_and_serve-end.new.out; journal = g.J.Log.faults (host_log c.open_and_serve-end.new.host) }))
    c.new-host.ensures.begins.log_is c.open_and_serve-end.ensures.causes)
