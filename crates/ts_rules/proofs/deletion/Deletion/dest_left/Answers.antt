use Rattle.std.proofs.Common.{◌≡◌, true, ℕ, List, ◌≤◌, length, sym, ap, ◌∙◌, subst, arith}
use Rattle.ts_spec.specs.Sample.{Point, IsAscending, between, is_within}
use Rattle.ts_spec.specs.Bucket.{start}
use Rattle.ts_spec.specs.Rules.{is_past}
use Rattle.ts_spec.proofs.Buckets.{start-le}
use Rattle.ts_sample.specs.Chunk.{AreMade}
use Rattle.ts_series.specs.History.{list_of}
use Rattle.ts_series.specs.Plan.{AreWithin}
use Rattle.ts_series.proofs.TimeFor.{between-longer}
use Rattle.ts_rules.specs.Plans.{IsUpdate}
use Rattle.ts_rules.specs.Deletions.{span_left}
use Rattle.ts_rules.proofs.DestLeft.{dest-stays, dest-updated_list, left-ascending, left-within, left-made}
use Rattle.ts_rules.proofs.Rooms.{touched-closed}
use Rattle.ts_rules.proofs.deletion.Deletion.dest_left.Goals as goal
use Rattle.ts_rules.proofs.deletion.Deletion.dest_left.Goals.{After-start_of-last, After-deref}
use Rattle.ts_rules.specs.DeletionBuffers.{count_touched}

pub returns-then-not-is_closed-clause-updated_list : goal.returns-then-not-is_closed-clause-updated_list
returns-then-not-is_closed-clause-updated_list g c =
    let d = c.args.self.now in
    dest-stays d.rule.now d.source.now d.from d.to c.args.limit c.args.dest.now c.known-3.ensures.kept c.requires.fits
    (ap (is_past d.rule.now.current) (sym c.start_of-first.ensures) ∙ sym c.is_closed.ensures ∙ c.if-not-is_closed.true)

-- the room for what is shown is that for what the interval touches
touched : (g : _) (c : After-start_of-last g) → c.is_closed.result ≡ true → count_touched c.args.self.now.rule.now c.args.self.now.from c.args.self.now.to c.args.dest.now ≡ length (between c.start_of-first.result c.start_of-last.result (list_of c.args.dest.now))
touched g c closed =
    let d = c.args.self.now in
    touched-closed d.rule.now d.from d.to c.start_of-first.result c.start_of-last.result c.args.dest.now c.is_closed.result c.start_of-first.ensures c.start_of-last.ensures c.is_closed.ensures closed

pub span_left-rows-requires-clause-shown : goal.span_left-rows-requires-clause-shown
span_left-rows-requires-clause-shown g c =
    let same = touched g (goal.at.span_left-rows-requires-clause-shown g c).After-start_of-last c.if-not-is_closed.false in
    record { empty = c.requires.shown.empty; room = omega (arith, c.requires.shown.room, same) }

pub span_left-rows-requires-clause-rows : goal.span_left-rows-requires-clause-rows
span_left-rows-requires-clause-rows g c =
    let same = touched g (goal.at.span_left-rows-requires-clause-rows g c).After-start_of-last c.if-not-is_closed.false in
    record { empty = c.requires.rows.empty; room = omega (arith, c.requires.rows.room, same) }

-- the ends of the interval in buckets, and its rows
span : (g : _) (c : After-deref g) → ◌≡◌ {A = ℕ × ℕ × List Point} (c.start_of-first.result, c.start_of-last.result, c.deref.result.now) (
  start c.args.self.now.rule.now.grid c.args.self.now.from,
  start c.args.self.now.rule.now.grid c.args.self.now.to,
  span_left c.args.self.now.rule.now c.args.self.now.source.now c.args.self.now.from c.args.self.now.to
      c.args.dest.now.born (start c.args.self.now.rule.now.grid c.args.self.now.from) (start c.args.self.now.rule.now.grid c.args.self.now.to) (list_of c.args.dest.now),
)
span g c =
    let d = c.args.self.now in
    let rows = c.deref.ensures.value ∙ c.span_left-rows.ensures.span ∙ (λ i. span_left d.rule.now d.source.now d.from d.to c.args.dest.now.born (c.start_of-first.ensures i) (c.start_of-last.ensures i) (list_of c.args.dest.now)) in
    λ i. (c.start_of-first.ensures i, c.start_of-last.ensures i, rows i)

pub updated_list-requires-clause-ascending : goal.updated_list-requires-clause-ascending
updated_list-requires-clause-ascending g c =
    let d = c.args.self.now in
    subst (λ (s : ℕ × ℕ × List Point). IsAscending s.2) (sym (span g (goal.at.updated_list-requires-clause-ascending g c).After-deref))
    (left-ascending d.rule.now d.source.now c.args.dest.now d.from d.to d.in_order c.known-2.ensures.kept.ascending c.known-3.ensures.kept)

pub updated_list-requires-clause-within : goal.updated_list-requires-clause-within
updated_list-requires-clause-within g c =
    let d = c.args.self.now in
    subst (λ (s : ℕ × ℕ × List Point). AreWithin s.0 s.1 s.2) (sym (span g (goal.at.updated_list-requires-clause-within g c).After-deref))
    (left-within d.rule.now d.source.now c.args.dest.now d.from d.to d.in_order c.known-2.ensures.kept.ascending c.known-3.ensures.kept)

pub updated_list-requires-clause-made : goal.updated_list-requires-clause-made
updated_list-requires-clause-made g c =
    let d = c.args.self.now in
    subst (λ (s : ℕ × ℕ × List Point). AreMade c.args.dest.now.born s.2) (sym (span g (goal.at.updated_list-requires-clause-made g c).After-deref))
    (left-made d.rule.now d.source.now c.args.dest.now d.from d.to d.in_order c.known-2.ensures.kept.ascending c.known-3.ensures.kept)

pub returns-clause-updated_list : goal.returns-clause-updated_list
returns-clause-updated_list g c =
    let d = c.args.self.now in
    dest-updated_list d.rule.now d.source.now c.args.dest.now d.from d.to d.in_order c.known-2.ensures.kept.ascending c.known-3.ensures.kept c.args.limit c.updated_list.result
    (subst (λ (s : ℕ × ℕ × List Point). IsUpdate c.args.limit (is_within s.0 s.1) s.2 c.args.dest.now c.updated_list.result) (span g (goal.at.returns-clause-updated_list g c).After-deref) c.updated_list.ensures.updated_list)

pub returns-clause-steps : goal.returns-clause-steps
returns-clause-steps g c =
    let grid = c.args.self.now.rule.now.grid in
    let upto : c.start_of-last.result ≤ c.args.self.now.to = omega (arith, c.start_of-last.ensures, start-le grid c.args.self.now.to c.known.ensures.some) in
    record {
      counted = omega (arith, c.span_left-rows.ensures.steps.counted, c.updated_list.ensures.steps.counted);
      bounded = omega (
        arith,
        c.span_left-rows.ensures.steps.bounded,
        c.updated_list.ensures.steps.bounded,
        ap (λ n. length (between n c.start_of-last.result (list_of c.args.dest.now))) c.start_of-first.ensures,
        between-longer (start grid c.args.self.now.from) c.start_of-last.result c.args.self.now.to (list_of c.args.dest.now) upto,
      );
    }
