use Rattle.ts_execution.proofs.OneStep.{all_items_are_a_step}
use Rattle.ts_execution.proofs.execution.triples_with_memory_are_one_step.Goals as goal

pub returns : goal.returns
returns c = all_items_are_a_step
