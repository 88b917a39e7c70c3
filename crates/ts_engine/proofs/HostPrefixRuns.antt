-- The requests that a host answered had their turns one after another.
use Rattle.std.proofs.Common.{ℕ, List, refl, subst}
use Rattle.ts_spec.specs.Run.{Runs}
use Rattle.ts_spec.specs.Wire.{Request}
use Rattle.ts_mux.specs.declared.frame.Frame.{Frame}
use Rattle.ts_mux.specs.Order.{Event, Asked, Failed, Item}
use Rattle.ts_execution.specs.Journaling.{Snapshot, IsJournaled}
use Rattle.ts_host.specs.Answers.{Counts, Ending, Answers, none, reply, leave, IsReply, answered, with_event}
use Rattle.ts_engine.specs.HostPrefixes.{with_reply, replies}

run-with : (event : Event) (from mid to : Snapshot) (text others : List ℕ) (asked : List Request) → IsReply IsJournaled from event text mid → Runs IsJournaled mid asked others to
    → Runs IsJournaled from (with_event event asked) (with_reply event text others) to
run-with (Asked request) from mid to text others asked here rest = record { first = text; rest = others; mid = mid; split = refl; here = here; after = rest }
run-with (Failed fault) from mid to text others asked here rest = subst (λ (world : Snapshot). Runs IsJournaled world asked others to) here.1 rest

pub answers-run : {from to : Snapshot} {counts counts' : Counts} {items left : List Item} {frames : List Frame} {endings : List Ending}
    → (answers : Answers IsJournaled from counts items frames endings to counts' left) → Runs IsJournaled from (answered IsJournaled answers) (replies answers) to
answers-run (none agree) = (refl, refl)
answers-run (leave agree others) = answers-run others
answers-run (reply {from} {mid} {to} {item} {text} here agree others) =
    run-with item.event from mid to text (replies others) (answered IsJournaled others) here (answers-run others)
