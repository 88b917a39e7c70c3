use Rattle.ts_command.specs.Reading.{command_of}
use Rattle.ts_execution.proofs.ReplayedCommands.{words-restore, words-refuse}
use Rattle.ts_execution.proofs.journal_replay.replay_request.Goals as goal

pub returns-in-Ok : goal.returns-in-Ok
returns-in-Ok g c =
    record { replay_matches = words-restore c.args.words.items (command_of c.in-Ok.command) c.replay_command.result c.args.db.now c.replay_command.new.db c.in-Ok.ensures.ok c.replay_command.ensures.replay_matches }

pub returns-in-Err : goal.returns-in-Err
returns-in-Err g c =
    record { replay_matches = words-refuse c.args.words.items c.in-Err.fault c.args.db.now c.replay_result_of_words.result c.replay_result_of_words.ensures c.in-Err.ensures.fault }
