use Rattle.std.proofs.Common.{◌≡◌, ◌≤◌, ◌∙◌, length, refl, ap, arith, rules}
use Rattle.std.proofs.lemmas.Bool.Decides.{nat_tests}
use Rattle.ts_io.specs.Logs.{unread}
use Rattle.ts_spec.specs.Wire.{stream_at}
use Rattle.ts_execution.proofs.Carried.{carries_as, carries_then}
use Rattle.ts_execution.proofs.EndsWithin.{ends-within}
use Rattle.ts_execution.proofs.WholeLoads.{read-none, read-more, read-to-end, read-at-most, whole-size}
use Rattle.ts_execution.proofs.loading.load.Goals as goal

pub loop-taken-init : goal.loop-taken-init
loop-taken-init g c = record {
  so_far = read-none c.args.limits _ _ _ _ (λ more. c.new.ensures.stream more ∙ ap (λ l. stream_at l 0 more) c.limits_of.ensures.exact) refl refl;
  within = omega (arith, c.new.ensures.fed);
  place = c.requires.start;
  most = omega arith;
  content = refl;
  fine = refl;
}

pub loop-taken-preserved : goal.loop-taken-preserved
loop-taken-preserved g c = record {
  so_far = read-more c.args.limits _ _ _ _ _ _ _ _ _ _ _ _ c.loop-taken.invariant.so_far c.in-Read.ensures.takes;
  within = search rules;
  place = search rules;
  most = search rules;
  content = c.in-Read.ensures.content ∙ c.loop-taken.invariant.content;
  fine = search rules;
}

pub returns-in-Fault-clause-loaded : goal.returns-in-Fault-clause-loaded
returns-in-Fault-clause-loaded g c = carries_then _ _ _ _ _ _ (λ from mid to so lost bytes told. tt) c.loop-taken.invariant.so_far.goes c.in-Fault.ensures.carries

pub returns-in-Memory-clause-loaded : goal.returns-in-Memory-clause-loaded
returns-in-Memory-clause-loaded g c = carries_then _ _ _ _ _ _ (λ from mid to so lost bytes told. tt) c.loop-taken.invariant.so_far.goes c.in-Memory.ensures.carries

pub returns-clause-loaded : goal.returns-clause-loaded
returns-clause-loaded g c = carries_as _ _ _ _ (λ from to so bytes told. tt) c.loop-taken.invariant.so_far.goes

pub returns-clause-enough : goal.returns-clause-enough
returns-clause-enough g c = λ bytes told spent.
    let most : c.loop-taken.taken ≤ length bytes = read-at-most c.args.limits _ _ _ _ c.requires.start _ _ _ _ c.loop-taken.invariant.so_far bytes told in
    search rules

pub returns-in-Read-eq0-clause-loaded : goal.returns-in-Read-eq0-clause-loaded
returns-in-Read-eq0-clause-loaded g c =
    let none : c.in-Read-eq0.field-0 ≡ 0 = grind (arith, nat_tests, c.in-Read-eq0.field-0-is, c.in-Read-eq0.field-0-test) in
    let between = unread (g.J.Log.content c.loop-taken.log) (g.J.Log.place c.loop-taken.log) in
    let rest = unread (g.J.Log.content c.read_piece.new.log) (g.J.Log.place c.read_piece.new.log) in
    read-to-end c.args.limits (g.J.Log.content c.args.log.now) between rest _ c.loop-taken.taken c.in-Read-eq0.field-0 c.requires.start _ _ _ _ _ _ _ c.loop-taken.invariant.so_far c.in-Read-eq0.ensures.takes none (c.in-Read-eq0.ensures.at_end (search rules)) c.verdict.result c.verdict.ensures

pub returns-in-Read-eq0-clause-within : goal.returns-in-Read-eq0-clause-within
returns-in-Read-eq0-clause-within g c =
    let none : c.in-Read-eq0.field-0 ≡ 0 = grind (arith, nat_tests, c.in-Read-eq0.field-0-is, c.in-Read-eq0.field-0-test) in
    ends-within c.verdict.result c.read_piece.new.loading c.read_piece.new.is_record c.loop-taken.taken _ c.verdict.ensures c.in-Read-eq0.ensures.takes.current
    (omega (arith, none, c.in-Read-eq0.ensures.takes.within, c.loop-taken.invariant.within)) (search rules)

pub returns-in-Read-eq0-clause-judged : goal.returns-in-Read-eq0-clause-judged
returns-in-Read-eq0-clause-judged g c = λ bytes told judged.
    let none : c.in-Read-eq0.field-0 ≡ 0 = grind (arith, nat_tests, c.in-Read-eq0.field-0-is, c.in-Read-eq0.field-0-test) in
    let between = unread (g.J.Log.content c.loop-taken.log) (g.J.Log.place c.loop-taken.log) in
    let rest = unread (g.J.Log.content c.read_piece.new.log) (g.J.Log.place c.read_piece.new.log) in
    let all : length bytes ≡ c.loop-taken.taken = whole-size c.args.limits (g.J.Log.content c.args.log.now) between rest _ c.loop-taken.taken c.in-Read-eq0.field-0 c.requires.start _ _ _ _ _ _ _
    c.loop-taken.invariant.so_far c.in-Read-eq0.ensures.takes none (c.in-Read-eq0.ensures.at_end (search rules)) bytes told in
    search rules
