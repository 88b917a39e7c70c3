use Rattle.std.proofs.Common.{◌≡◌, ℕ, ◌≤◌, Option, None, Some, ap, ◌∙◌, arith}
use Rattle.ts_spec.specs.Sample.{Point, MAX_TIME, put}
use Rattle.ts_spec.specs.Bucket.{Grid, start}
use Rattle.ts_spec.specs.Rules.{is_append}
use Rattle.ts_spec.proofs.Buckets.{start-le}
use Rattle.ts_bucket.specs.Grid.{IsGrid}
use Rattle.ts_series.specs.History.{list_of}
use Rattle.ts_rules.proofs.Written.{told-none, told-here, told-past}
use Rattle.ts_rules.proofs.write.written.Goals as goal

or_zero : Option ℕ → ℕ
or_zero (Some n) = n
or_zero None = 0

start-time : (g : Grid) (t b x : ℕ) → IsGrid g → t ≤ MAX_TIME → b ≡ start g t → Some b ≡ Some x → x ≤ MAX_TIME
unfolding or_zero
start-time g t b x h k e f =
    let low : start g t ≤ t = start-le g t h.some in
    let same : b ≡ x = ap or_zero f in
    omega arith

pub opened-requires : goal.opened-requires
opened-requires g c = λ x e. start-time c.args.rule.now.grid c.wrote.inside.time c.start_of-start.result x c.known.ensures c.wrote.invariant c.start_of-start.ensures e

pub opened-requires-then-open-start : goal.opened-requires-then-open-start
opened-requires-then-open-start g c = λ x e. start-time c.args.rule.now.grid c.wrote.inside.time c.start_of-start.result x c.known.ensures c.wrote.invariant c.start_of-start.ensures e

pub returns-in_default-clause-rule : goal.returns-in_default-clause-rule
returns-in_default-clause-rule g c =
    told-none (is_append c.args.wrote.now.time c.args.source.now.high) c.args.wrote.now (put c.args.wrote.now (list_of c.args.source.now)) c.args.rule.now c.opened.result c.start_of-start.result
    (c.start_of-start.ensures ∙ ap (λ (p : Point). start c.args.rule.now.grid p.time) c.wrote.view_is) c.of_one.result c.opened.ensures c.of_one.ensures c.in_default.is

pub returns-then-open-start-clause-rule : goal.returns-then-open-start-clause-rule
returns-then-open-start-clause-rule g c =
    told-past (is_append c.args.wrote.now.time c.args.source.now.high) c.args.wrote.now (put c.args.wrote.now (list_of c.args.source.now)) c.args.rule.now c.opened-then-open-start.result c.start_of-start.result
    (c.start_of-start.ensures ∙ ap (λ (p : Point). start c.args.rule.now.grid p.time) c.wrote.view_is) c.of_one-then-open-start.result c.in-Some.open c.opened-then-open-start.ensures c.of_one-then-open-start.ensures c.in-Some.is c.if-open-start.true

pub returns-clause-rule : goal.returns-clause-rule
returns-clause-rule g c =
    told-here (is_append c.args.wrote.now.time c.args.source.now.high) c.args.wrote.now (put c.args.wrote.now (list_of c.args.source.now)) c.args.rule.now c.opened-2.result c.start_of-start.result
    (c.start_of-start.ensures ∙ ap (λ (p : Point). start c.args.rule.now.grid p.time) c.wrote.view_is) c.open_bucket_after-running.result c.in-Some.open c.opened-2.ensures c.open_bucket_after-running.ensures.running c.in-Some.is c.if-start-open.false c.if-open-start.false
