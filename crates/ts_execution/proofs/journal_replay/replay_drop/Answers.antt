use Rattle.ts_resp.specs.Replies.{reply_of}
use Rattle.ts_execution.proofs.ReplayedCommands.{replay_matches-drop}
use Rattle.ts_execution.proofs.journal_replay.replay_drop.Goals as goal

pub returns : goal.returns
returns c = record { replay_matches = replay_matches-drop c.args.keys.now c.args.db.now c.drop_keys.new.db (reply_of c.drop_keys.result) c.drop_keys.ensures.answer }
