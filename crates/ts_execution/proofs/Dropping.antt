-- Deleting keys answers as the step does.
use Rattle.std.proofs.Common.{◌≡◌, ℕ, List, refl, sym, ◌∙◌, ap}
use Rattle.ts_spec.specs.Key.{Key}
use Rattle.ts_spec.specs.Replies.{number, reply_to}
use Rattle.ts_spec.specs.Response.{Count}
use Rattle.ts_spec.specs.Step.{drop_keys}
use Rattle.ts_spec.specs.Text.{Reply}
use Rattle.ts_db.specs.DbState.{DbState, DbView, Represents, Simulates, IsDone}
use Rattle.ts_execution.specs.Handling.{IsStep}

-- all keys are deleted
pub drops_all : (old new : DbView) (keys : List Key) (count : ℕ) (reply : Reply) → reply ≡ number count
    → ((from : DbState) → Represents old from → IsDone (Count count) from.limits (drop_keys from.state 0 keys) new)
    → Simulates old new (λ from to. IsStep (drop_keys from.state 0 keys) from reply to)
drops_all old new keys count reply is done = λ from stands.
    let d : IsDone (Count count) from.limits (drop_keys from.state 0 keys) new = done from stands in
    record {
      to = record { limits = from.limits; state = (drop_keys from.state 0 keys).state };
      done = record { says = is ∙ sym (ap reply_to d.says); state = refl; limits = refl };
      stands = d.stands;
    }
