use Rattle.ts_spec.proofs.PlainReplies.{reply-plain, triples-plain, fault-plain, memory-plain, kind-plain}
use Rattle.ts_spec.proofs.reply_laws.replies_are_plain.Goals as goal

pub returns : goal.returns
returns c = record { responses = reply-plain; triples = triples-plain; faults = fault-plain; memory = memory-plain; protocol = kind-plain }
