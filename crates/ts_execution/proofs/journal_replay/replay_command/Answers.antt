use Rattle.std.proofs.Common.{sym, ◌∙◌}
use Rattle.ts_command.specs.Reading.{command_of}
use Rattle.ts_db.specs.DbState.{DbState}
use Rattle.ts_execution.proofs.ReplayedCommands.{apply_recorded-clock, replay_matches-not}
use Rattle.ts_execution.proofs.journal_replay.replay_command.Goals as goal

pub returns-then-needs_clock : goal.returns-then-needs_clock
returns-then-needs_clock g c =
    record { replay_matches = replay_matches-not (command_of c.args.command) c.args.db.now (λ (h : DbState). apply_recorded-clock h.limits h.state (command_of c.args.command) (sym c.needs_clock.ensures ∙ c.if-needs_clock.true)) }
