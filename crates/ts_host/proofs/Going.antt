-- What a host did adds up within a wake-up.
use Rattle.std.proofs.Common.{◌≡◌, List, [], ◌++◌, map, subst, append-nil}
use Rattle.std.specs.Prelude.{Option, None, Some}
use Rattle.ts_io.specs.Sinks.{Grows}
use Rattle.ts_io.specs.declared.hub.Step.{Step}
use Rattle.ts_host.specs.Answers.{Agree}
use Rattle.ts_host.specs.Serving.{Gave, Went, Halted, Handled}
use Rattle.ts_host.specs.Shown.{View}
use Rattle.ts_host.specs.Steps.{Extends, piece_of}
use Rattle.ts_host.specs.declared.host.HostFault.{HostFault}
use Rattle.ts_host.proofs.Contents.{extends_twice}
use Rattle.ts_host.proofs.Lines.{lines_on, lines_cut, gave_on, gave_twice}
use Rattle.ts_host.proofs.Stretches.{stretch_none, stretch_on}

-- nothing was answered
pub went_none : (old new : View) (steps : List Step) → ((more : List Step) → old.progress.items (steps ++ more) ≡ new.progress.items more)
    → Agree old.progress.counts new.progress.counts → new.progress.world ≡ old.progress.world → Extends old.stored new.stored
    → Gave old.out new.out [] → Grows old.has new.has [] → Went old new steps
went_none old new steps items counts world stored gave lines = record {
  stretch = stretch_none old.progress new.progress steps items counts world;
  stored = stored;
  gave = gave;
  lines = lines;
}

-- two parts make one
pub went_on : (old mid new : View) (one two : List Step) → Went old mid one → Went mid new two → Went old new (one ++ two)
went_on old mid new one two first second = record {
  stretch = stretch_on old.progress mid.progress new.progress one two first.stretch second.stretch;
  stored = extends_twice old.stored mid.stored new.stored first.stored second.stored;
  gave = gave_on old.out mid.out new.out first.stretch.frames second.stretch.frames first.gave second.gave;
  lines = lines_on old.has mid.has new.has first.stretch.endings second.stretch.endings first.lines second.lines;
}

-- a fault came after the first part
pub halted_on : (old mid new : View) (one two : List Step) → Went old mid one → Halted mid new two → Halted old new (one ++ two)
halted_on old mid new one two first halts = record {
  to = halts.to;
  held = halts.held;
  readings = halts.readings;
  stretch = stretch_on old.progress mid.progress halts.to one two first.stretch halts.stretch;
  stored = extends_twice old.stored mid.stored new.stored first.stored halts.stored;
  within = halts.within;
  given = map piece_of first.stretch.frames ++ halts.given;
  gave = gave_twice old.out mid.out new.out (map piece_of first.stretch.frames) halts.given first.gave halts.gave;
  lines = lines_cut old.has mid.has new.has first.stretch.endings halts.stretch.endings first.lines halts.lines;
}

pub handled_on : (fault : Option HostFault) (old mid new : View) (one two : List Step) → Went old mid one → Handled fault mid new two → Handled fault old new (one ++ two)
handled_on None old mid new one two first second = went_on old mid new one two first second
handled_on (Some fault) old mid new one two first second = halted_on old mid new one two first second

-- the same where the second part takes no step
pub went_then : (old mid new : View) (steps : List Step) → Went old mid steps → Went mid new [] → Went old new steps
went_then old mid new steps first second = subst (λ (l : List Step). Went old new l) (append-nil steps) (went_on old mid new steps [] first second)

pub handled_then : (fault : Option HostFault) (old mid new : View) (steps : List Step) → Went old mid steps → Handled fault mid new [] → Handled fault old new steps
handled_then fault old mid new steps first second =
    subst (λ (l : List Step). Handled fault old new l) (append-nil steps) (handled_on fault old mid new steps [] first second)
