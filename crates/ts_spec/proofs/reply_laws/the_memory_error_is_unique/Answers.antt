use Rattle.ts_spec.proofs.WantOfMemory.{reply-not-memory, item-not-memory, fault-not-memory, kind-not-memory}
use Rattle.ts_spec.proofs.reply_laws.the_memory_error_is_unique.Goals as goal

pub returns : goal.returns
returns c = record { responses = reply-not-memory; triples = item-not-memory; faults = fault-not-memory; protocol = kind-not-memory }
