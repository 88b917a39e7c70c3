use Rattle.std.proofs.Common.{◌≡◌, ◌-◌, [], None}
use Rattle.ts_resp.specs.Reading.{fed}
use Rattle.ts_db.specs.DbState.{Simulates}
use Rattle.ts_execution.specs.JournalReplay.{LoadsOn}
use Rattle.ts_execution.proofs.load_state.Loading.replay_all.Given as goal

-- the complete requests so far were replayed, and the journal did not break
abbrev pub invariant-loop-end : goal.invariant-loop-end
invariant-loop-end g l = record {
  loads : Simulates l.initial.db l.db (λ from to. LoadsOn l.initial.self l.self [] from to);
  whole : l.self.broken ≡ None;
  same : fed l.self.reader ≡ fed l.initial.self.reader;
}

abbrev pub decreases-loop-end : goal.decreases-loop-end
decreases-loop-end g l = fed l.self.reader - l.self.reader.begin
