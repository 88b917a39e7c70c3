use Rattle.std.proofs.Common.{ℕ, inl, inr, ap, subst}
use Rattle.ts_command.specs.Faults.{fault_of, result_with_fault}
use Rattle.ts_command.specs.Reading.{triple_of}
use Rattle.ts_spec.specs.Step.{time_of, put_own}
use Rattle.ts_db.specs.DbState.{DbState, AnswersCount}
use Rattle.ts_execution.proofs.Added.{by-own}
use Rattle.ts_execution.proofs.ReplayedTriples.{triple-without, triple-with, replay_matches-triple}
use Rattle.ts_execution.proofs.journal_replay.replay_triple.Goals as goal

pub returns-in-Err : goal.returns-in-Err
returns-in-Err g c =
    record { replay_matches = triple-without (triple_of c.args.triple) c.args.db.now (fault_of c.in-Err.field-0) (inl (ap result_with_fault c.in-Err.is)) }

pub returns-in-Ok-value : goal.returns-in-Ok-value
returns-in-Ok-value g c =
    record {
      replay_matches = replay_matches-triple (triple_of c.args.triple) (λ (h : DbState). put_own h.limits h.state c.args.triple.key (time_of 0 c.in-Ok.at) c.in-Ok-value.value) c.args.db.now c.put_with_hints.new.self c.put_with_hints.result
          c.numbered.result c.numbered.ensures (λ h. triple-with h.limits h.state (triple_of c.args.triple) c.in-Ok.at c.in-Ok-value.value (ap result_with_fault c.in-Ok.is) (ap result_with_fault c.in-Ok-value.is))
          (subst (λ (t : ℕ). AnswersCount c.args.db.now (λ (h : DbState). put_own h.limits h.state c.args.triple.key t c.in-Ok-value.value) c.put_with_hints.result c.put_with_hints.new.self) c.time_at.ensures.time
          (by-own c.args.db.now c.args.triple.key c.time_at.result c.in-Ok-value.value c.put_with_hints.result c.put_with_hints.new.self c.put_with_hints.ensures.put));
    }

pub returns : goal.returns
returns g c =
    record { replay_matches = triple-without (triple_of c.args.triple) c.args.db.now (fault_of c.in-Err-value.field-0) (inr (ap result_with_fault c.in-Err-value.is)) }
