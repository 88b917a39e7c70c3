-- What a host did adds up over wake-ups.
use Rattle.std.proofs.Common.{◌≡◌, List, [], ◌++◌, map, refl, sym, ap, ◌∙◌, subst, append_assoc, append-nil}
use Rattle.ts_io.specs.Hubs.{LetsOut}
use Rattle.ts_io.specs.Pieces.{Piece}
use Rattle.ts_io.specs.Sinks.{Grows, GrowsByPrefix}
use Rattle.ts_io.specs.declared.hub.Step.{Step}
use Rattle.ts_io.proofs.Growth.{grows_none}
use Rattle.ts_mux.specs.declared.frame.Frame.{Frame}
use Rattle.ts_host.specs.Answers.{Ending, lines_of}
use Rattle.ts_host.specs.Serving.{Stretch, Went, Halted, Rested, SoFar, AllSettled, Stopped}
use Rattle.ts_host.specs.Shown.{View}
use Rattle.ts_host.specs.Steps.{Extends, piece_of}
use Rattle.ts_host.proofs.Contents.{extends_none, extends_twice}
use Rattle.ts_host.proofs.Lines.{lines_on, lines_cut, pieces_append}
use Rattle.ts_host.proofs.Stretches.{stretch_none, stretch_on, stretch_over}

-- before the first step
pub nothing_yet : (start : View) → Extends start.progress.world.content start.stored → SoFar start start []
nothing_yet start settled = record {
  mid = start.progress;
  one = [];
  two = [];
  split = refl;
  first = stretch_none start.progress start.progress [] (λ more. refl) (λ link. refl) refl;
  second = stretch_none start.progress start.progress [] (λ more. refl) (λ link. refl) refl;
  settled = settled;
  out = λ sent had. subst (λ (l : List Piece). start.out l []) (sym (append-nil sent)) had;
  lines = grows_none start.has;
}

module _ (start mid : View) (steps : List Step) (before : SoFar start mid steps) where
  endings_on : (more : List Ending) → (before.first.endings ++ before.second.endings) ++ more ≡ before.first.endings ++ (before.second.endings ++ more)
  endings_on more = append_assoc before.first.endings before.second.endings more

  -- a part of a wake-up follows
  pub went_so_far : (now : View) (more : List Step) → Went mid now more → SoFar start now (steps ++ more)
  went_so_far now more after = record {
    mid = before.mid;
    one = before.one;
    two = before.two ++ more;
    split = ap (λ (l : List Step). l ++ more) before.split ∙ append_assoc before.one before.two more;
    first = before.first;
    second = stretch_on before.mid mid.progress now.progress before.two more before.second after.stretch;
    settled = extends_twice before.mid.world.content mid.stored now.stored before.settled after.stored;
    out = λ sent had. subst (λ (l : List Piece). now.out (sent ++ map piece_of before.first.frames) l) (sym (pieces_append before.second.frames after.stretch.frames))
        (after.gave.each (sent ++ map piece_of before.first.frames) (map piece_of before.second.frames) (before.out sent had));
    lines = subst (λ (l : List Ending). Grows start.has now.has (lines_of l)) (endings_on after.stretch.endings)
        (lines_on start.has mid.has now.has (before.first.endings ++ before.second.endings) after.stretch.endings before.lines after.lines);
  }

  -- a fault ends the run
  pub halted_so_far : (now : View) (more : List Step) → Halted mid now more → Stopped start now (steps ++ more)
  halted_so_far now more after = record {
    mid = before.mid;
    to = after.to;
    held = after.held;
    readings = after.readings;
    one = before.one;
    two = before.two ++ more;
    split = ap (λ (l : List Step). l ++ more) before.split ∙ append_assoc before.one before.two more;
    first = before.first;
    second = stretch_on before.mid mid.progress after.to before.two more before.second after.stretch;
    settled = extends_twice before.mid.world.content mid.stored now.stored before.settled after.stored;
    within = after.within;
    out = λ sent had. (
      map piece_of before.second.frames ++ after.given,
      after.gave.each (sent ++ map piece_of before.first.frames) (map piece_of before.second.frames) (before.out sent had),
    );
    lines = subst (λ (l : List Ending). GrowsByPrefix start.has now.has (lines_of l)) (endings_on after.stretch.endings)
        (lines_cut start.has mid.has now.has (before.first.endings ++ before.second.endings) after.stretch.endings before.lines after.lines);
  }

  -- all replies so far as one stretch
  abbrev both : Stretch start.progress mid.progress steps
  both = stretch_over start.progress mid.progress (before.one ++ before.two) steps (sym before.split)
      (stretch_on start.progress before.mid mid.progress before.one before.two before.first before.second)

  let_out : (now : View) → LetsOut mid.out now.out → (sent : List Piece) → start.out sent [] → now.out (sent ++ map piece_of (before.first.frames ++ before.second.frames)) []
  let_out now lets sent had =
      subst (λ (l : List Piece). now.out l [])
      (append_assoc sent (map piece_of before.first.frames) (map piece_of before.second.frames)
      ∙ ap (λ (l : List Piece). sent ++ l) (sym (pieces_append before.first.frames before.second.frames)))
      (lets.each (sent ++ map piece_of before.first.frames) (map piece_of before.second.frames) (before.out sent had))

  -- the wake-up was settled
  pub rested_so_far : (now : View) (more : List Step) → Rested mid now more → SoFar start now (steps ++ more)
  rested_so_far now more after = record {
    mid = now.progress;
    one = steps ++ more;
    two = [];
    split = sym (append-nil (steps ++ more));
    first = stretch_on start.progress mid.progress now.progress steps more both
        (stretch_none mid.progress now.progress more (λ later. sym (after.items later)) after.counts after.world);
    second = stretch_none now.progress now.progress [] (λ more. refl) (λ link. refl) refl;
    settled = extends_none now.progress.world.content now.stored after.stored;
    out = λ sent had. subst (λ (l : List Frame). now.out (sent ++ map piece_of l) []) (sym (append-nil (before.first.frames ++ before.second.frames))) (let_out now after.let_out sent had);
    lines = subst (λ (l : List Ending). Grows start.has now.has (lines_of l)) (nothing_more (before.first.endings ++ before.second.endings))
        (lines_on start.has mid.has now.has (before.first.endings ++ before.second.endings) [] before.lines after.lines);
  }
    where
      nothing_more : (l : List Ending) → l ++ [] ≡ (l ++ []) ++ []
      nothing_more l = sym (append-nil (l ++ []))

  -- the last wake-up was settled
  pub settled_so_far : (now : View) → Rested mid now [] → now.progress.items [] ≡ [] → AllSettled start now steps
  settled_so_far now after none = record {
    stretch = stretch_over start.progress now.progress (steps ++ []) steps (append-nil steps)
        (stretch_on start.progress mid.progress now.progress steps [] both (stretch_none mid.progress now.progress [] (λ more. sym (after.items more)) after.counts after.world));
    none_left = none;
    stored = after.stored;
    out = λ sent had. subst (λ (l : List Frame). now.out (sent ++ map piece_of l) []) (sym (append-nil (before.first.frames ++ before.second.frames))) (let_out now after.let_out sent had);
    lines = lines_on start.has mid.has now.has (before.first.endings ++ before.second.endings) [] before.lines after.lines;
  }
