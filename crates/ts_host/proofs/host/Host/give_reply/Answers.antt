use Rattle.ts_host.proofs.host.Host.give_reply.Goals as goal

pub returns-in-Some-clause-reached : goal.returns-in-Some-clause-reached
returns-in-Some-clause-reached g c = c.drop_link-fault.ensures.leaves.reach
