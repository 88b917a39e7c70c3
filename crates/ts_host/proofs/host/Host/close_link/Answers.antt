use Rattle.std.proofs.Common.{[], ◌∙◌}
use Rattle.ts_host.specs.RequestCounts.{executed_by}
use Rattle.ts_host.specs.Shown.{connections_of}
use Rattle.ts_host.proofs.Answering.{forgotten_agree}
use Rattle.ts_host.proofs.host.Host.close_link.Goals as goal

pub returns-in-Delivered-clause-leaves : goal.returns-in-Delivered-clause-leaves
returns-in-Delivered-clause-leaves g c = λ not_memory. record {
  others = λ frames. c.end_link.ensures.leaves.others frames ∙ c.in-Delivered.ensures.lost (λ is. (cc)) frames;
  counts = λ at. c.end_link.ensures.leaves.counts at ∙ forgotten_agree c.args.link (executed_by (connections_of c.args.self.now).counts) (executed_by c.deliver.new.self.counts) c.deliver.ensures.counts at;
}

pub returns-in-Delivered-clause-asked : goal.returns-in-Delivered-clause-asked
returns-in-Delivered-clause-asked g c = λ is. c.end_link.ensures.leaves.others [] ∙ c.deliver.ensures.own

pub returns-in-Lost-clause-asked : goal.returns-in-Lost-clause-asked
returns-in-Lost-clause-asked g c = λ is. c.end_link-in-Lost.ensures.leaves.others [] ∙ c.deliver.ensures.own
