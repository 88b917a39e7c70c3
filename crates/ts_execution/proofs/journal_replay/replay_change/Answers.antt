use Rattle.std.proofs.Common.{◌≡◌, false, ℕ, refl, subst}
use Rattle.ts_labels.specs.Spec.{spec_of, change_of}
use Rattle.ts_spec.specs.Command.{Command, Create, Alter, Add, Incr, DelRange, CreateRule, DeleteRule}
use Rattle.ts_spec.specs.Grammar.{needs_clock}
use Rattle.ts_spec.specs.Step.{time_of, create, alter, add, incr, delete, create_rule, delete_rule}
use Rattle.ts_db.specs.DbState.{DbState, AnswersCount}
use Rattle.ts_command.specs.Reading.{command_of}
use Rattle.ts_journal.specs.Record.{is_change}
use Rattle.ts_execution.proofs.NoChange.{no-change}
use Rattle.ts_execution.proofs.ReplayedCommands.{apply_recorded-change, apply_recorded-none, replay_matches-done, replay_matches-number, replay_matches-not}
use Rattle.ts_execution.proofs.journal_replay.replay_change.Goals as goal

pub returns-in-Create : goal.returns-in-Create
returns-in-Create g c =
    let said : Command = Create c.in-Create.key (spec_of c.in-Create.spec) in
    record {
      replay_matches = rw c.in-Create.is (replay_matches-done said (λ (h : DbState). create h.limits h.state c.in-Create.key (spec_of c.in-Create.spec)) c.args.db.now c.create.new.self c.create.result c.done.result c.done.ensures
          (λ h. apply_recorded-change h.limits h.state said refl refl) c.create.ensures.created);
    }

pub returns-in-Alter : goal.returns-in-Alter
returns-in-Alter g c =
    let said : Command = Alter c.in-Alter.key (change_of c.in-Alter.change) in
    record {
      replay_matches = rw c.in-Alter.is (replay_matches-done said (λ (h : DbState). alter h.limits h.state c.in-Alter.key (change_of c.in-Alter.change)) c.args.db.now c.alter.new.self c.alter.result c.done-in-Alter.result
          c.done-in-Alter.ensures (λ h. apply_recorded-change h.limits h.state said refl refl) c.alter.ensures.altered);
    }

pub returns-in-Add : goal.returns-in-Add
returns-in-Add g c =
    let said : Command = Add c.in-Add.key c.in-Add.at c.in-Add.value c.in-Add.on (spec_of c.in-Add.spec) in
    let clock : needs_clock said ≡ false = subst (λ x. needs_clock (command_of x) ≡ false) c.in-Add.is c.requires.clock in
    record {
      replay_matches = rw c.in-Add.is (replay_matches-number said (λ (h : DbState). add h.limits h.state c.in-Add.key (time_of 0 c.in-Add.at) c.in-Add.value c.in-Add.on (spec_of c.in-Add.spec)) c.args.db.now c.add.new.self c.add.result
          c.numbered.result c.numbered.ensures (λ h. apply_recorded-change h.limits h.state said refl clock)
          (subst (λ (t : ℕ). AnswersCount c.args.db.now (λ (h : DbState). add h.limits h.state c.in-Add.key t c.in-Add.value c.in-Add.on (spec_of c.in-Add.spec)) c.add.result c.add.new.self) c.time_at.ensures.time c.add.ensures.added));
    }

pub returns-in-Madd : goal.returns-in-Madd
returns-in-Madd g c = record { replay_matches = rw c.in-Madd.is c.replay_triples.ensures.replay_matches }

pub returns-in-Incr : goal.returns-in-Incr
returns-in-Incr g c =
    let said : Command = Incr c.in-Incr.key c.in-Incr.change c.in-Incr.at (spec_of c.in-Incr.spec) in
    let clock : needs_clock said ≡ false = subst (λ x. needs_clock (command_of x) ≡ false) c.in-Incr.is c.requires.clock in
    record {
      replay_matches = rw c.in-Incr.is (replay_matches-number said (λ (h : DbState). incr h.limits h.state c.in-Incr.key c.in-Incr.change (time_of 0 c.in-Incr.at) (spec_of c.in-Incr.spec)) c.args.db.now c.incr.new.self c.incr.result
          c.numbered-in-Incr.result c.numbered-in-Incr.ensures (λ h. apply_recorded-change h.limits h.state said refl clock)
          (subst (λ (t : ℕ). AnswersCount c.args.db.now (λ (h : DbState). incr h.limits h.state c.in-Incr.key c.in-Incr.change t (spec_of c.in-Incr.spec)) c.incr.result c.incr.new.self) c.time_at-in-Incr.ensures.time c.incr.ensures.changed));
    }

pub returns-in-DelRange : goal.returns-in-DelRange
returns-in-DelRange g c =
    let said : Command = DelRange c.in-DelRange.key c.in-DelRange.from c.in-DelRange.to in
    record {
      replay_matches = rw c.in-DelRange.is (replay_matches-number said (λ (h : DbState). delete h.limits h.state c.in-DelRange.key c.in-DelRange.from c.in-DelRange.to) c.args.db.now c.delete_range.new.self c.delete_range.result
          c.numbered-in-DelRange.result c.numbered-in-DelRange.ensures (λ h. apply_recorded-change h.limits h.state said refl refl) c.delete_range.ensures.deleted);
    }

pub returns-in-CreateRule : goal.returns-in-CreateRule
returns-in-CreateRule g c =
    let said : Command = CreateRule c.in-CreateRule.source c.in-CreateRule.dest c.in-CreateRule.agg c.in-CreateRule.grid in
    record {
      replay_matches = rw c.in-CreateRule.is (replay_matches-done said (λ (h : DbState). create_rule h.limits h.state c.in-CreateRule.source c.in-CreateRule.dest c.in-CreateRule.agg c.in-CreateRule.grid) c.args.db.now c.create_rule.new.self c.create_rule.result
          c.done-in-CreateRule.result c.done-in-CreateRule.ensures (λ h. apply_recorded-change h.limits h.state said refl refl) c.create_rule.ensures.ruled);
    }

pub returns-in-DeleteRule : goal.returns-in-DeleteRule
returns-in-DeleteRule g c =
    let said : Command = DeleteRule c.in-DeleteRule.source c.in-DeleteRule.dest in
    record {
      replay_matches = rw c.in-DeleteRule.is (replay_matches-done said (λ (h : DbState). delete_rule h.state c.in-DeleteRule.source c.in-DeleteRule.dest) c.args.db.now c.delete_rule.new.self c.delete_rule.result
          c.done-in-DeleteRule.result c.done-in-DeleteRule.ensures (λ h. apply_recorded-change h.limits h.state said refl refl) c.delete_rule.ensures.ended);
    }

pub returns-in-Drop : goal.returns-in-Drop
returns-in-Drop g c = record { replay_matches = rw c.in-Drop.is (rw c.deref.ensures.value at c.replay_drop.ensures.replay_matches) }

pub returns : goal.returns
returns g c =
    let not = c.in_default in
    let none : is_change (command_of c.args.command) ≡ false =
    no-change c.args.command not.not-Create not.not-Alter not.not-Add not.not-Madd not.not-Incr not.not-DelRange not.not-CreateRule not.not-DeleteRule not.not-Drop in
    record { replay_matches = replay_matches-not (command_of c.args.command) c.args.db.now (λ (h : DbState). apply_recorded-none h.limits h.state (command_of c.args.command) none) }
