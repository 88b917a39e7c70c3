use Rattle.std.proofs.Common.{◌≡◌, ◌-◌, ◌<◌, ◌≤◌, ◌⊎◌, inl, inr, ℕ, zero, suc, List, [], ◌∷◌, ◌++◌, map, length, refl, sym, subst, ◌∙◌, ap, arith}
use Rattle.std.specs.Prelude.{reverse, Option, None, Some, option_map}
use Rattle.std.proofs.lemmas.List.{length-map, reverse-append}
use Rattle.ts_spec.specs.Answer.{Row, limit_rows, passes_filters, includes_empty}
use Rattle.ts_spec.specs.Sample.{Point}
use Rattle.ts_range.specs.Query.{buckets_of, query_of, row_of}
use Rattle.ts_range.proofs.Whole.{walk-rows-back}
use Rattle.ts_questions.specs.Asking.{queried_samples, queried_pieces, queried_rows, rows_in}
use Rattle.ts_questions.proofs.FromBack.{AreHanded, left_after, emitted-more, down-none, down-more, down-last, down-enough}
use Rattle.ts_questions.proofs.RowsSplit.{Begins, in-parts, in-none}
use Rattle.ts_questions.proofs.reversed_samples.emit_samples_reversed.Goals as goal
use Rattle.ts_questions.proofs.reversed_samples.emit_samples_reversed.Goals.{After-known}

-- the rows that are told, of those of the interval that is enough
told : (g : _) (c : After-known g) → limit_rows c.args.series_query.now.query.now.count (reverse (rows_in c.args.series_query.now.query.now (queried_samples c.args.series_query.now) c.narrowed_from-from.result c.args.series_query.now.query.now.to)) ≡ queried_rows c.args.series_query.now
told g c =
    let series_query = c.args.series_query.now in
    let q = series_query.query.now in
    walk-rows-back (record (query_of q) { from = c.narrowed_from-from.result }) (queried_samples series_query) (passes_filters (query_of q)) (λ p. refl) c.requires.backward
    (ap (λ (o : Option _). includes_empty (option_map buckets_of o)) c.requires.single)
    ∙ c.narrowed_from-from.ensures.rows

pub loop-left-init : goal.loop-left-init
loop-left-init g c = record {
  inside = omega (arith, c.if-end-from.false);
  emitted = record { done = []; emitted = c.requires.none; split = sym (told g (goal.at.loop-left-init g c).After-known) };
  seams = down-none (queried_pieces c.args.series_query.now) c.args.series_query.now.query.now.to c.args.steps.now c.only_last_row.new.steps (omega (arith, c.only_last_row.ensures.steps));
}

none-of : (o : Option ℕ) (rows : List Row) → rows ≡ [] → limit_rows o rows ≡ []
none-of None rows none = none
none-of (Some zero) rows none = refl
none-of (Some (suc n)) [] none = refl
none-of (Some (suc n)) (r ∷ rs) none = absurd (cc none)

-- there is no interval
pub returns-then-end-from-clause-rows : goal.returns-then-end-from-clause-rows
returns-then-end-from-clause-rows g c =
    let q = c.args.series_query.now.query.now in
    let none = in-none q (queried_samples c.args.series_query.now) c.narrowed_from-from.result q.to c.if-end-from.true in
    subst (g.T.RowSink.has c.args.row_sink) (sym (none-of q.count _ (ap (λ rs. reverse rs) none)) ∙ told g (goal.at.returns-then-end-from-clause-rows g c).After-known) c.requires.none

other : {A B : Type 0} → A ⊎ B → (A → ⊥) → B
other (inl a) not-a = absurd (not-a a)
other (inr b) not-a = b

before : (from start : ℕ) → from ≤ start → (start ≡ from → ⊥) → from < start
before from start le differ = grind (arith, le, differ)

pub loop-left-preserved : goal.loop-left-preserved
loop-left-preserved g c =
    let series_query = c.args.series_query.now in
    let q = series_query.query.now in
    let l : List Point = queried_samples series_query in
    let all = queried_rows series_query in
    let old = c.loop-left in
    let from = c.narrowed_from-from.result in
    let start = c.start_for_count-start.result in
    let within = c.start_for_count-start.ensures.within in
    let past : from < start = before from start within.0 c.if-start-from.false in
    let begins : Begins q start = λ bs is. absurd (cc (sym c.requires.single ∙ is)) in
    let early = rows_in q l from (start - 1) in
    let late = rows_in q l start old.end in
    let has = g.T.RowSink.has old.row_sink in
    let later = g.T.RowSink.has c.emit_rows.new.row_sink in
    let so_far : AreHanded has all old.left (reverse late ++ reverse early) =
    subst (AreHanded has all old.left) (ap (λ (rs : List Row). reverse rs) (in-parts q l c.known.ensures.rising from old.end start past within.1 begins) ∙ reverse-append early late) old.invariant.emitted in
    let here : map row_of c.in_requested_order-rows.result.items ≡ limit_rows old.left (reverse late) =
    c.in_requested_order-rows.ensures ∙ ap (λ (rs : List Row). limit_rows old.left (reverse rs)) c.in-Ok.ensures.rows in
    let count : length (limit_rows old.left (reverse late)) ≡ c.len.result = omega (arith, ap (λ (rs : List Row). length rs) here, length-map c.in_requested_order-rows.result.items row_of, c.len.ensures) in
    let left : left_after old.left (length (limit_rows old.left (reverse late))) ≡ c.left_after-left.result = ap (left_after old.left) count ∙ sym c.left_after-left.ensures in
    record {
      inside = omega (arith, past);
      emitted =
          subst (λ (o : Option ℕ). AreHanded later all o (reverse early)) left
          (emitted-more has later all old.left (reverse late) (reverse early) so_far
          (λ rows were. subst (λ (rs : List Row). later (rows ++ rs)) (ap (map row_of) c.deref.ensures.value ∙ here) (c.emit_rows.ensures rows were)));
      seams =
          down-more (queried_pieces series_query) from q.to old.end start c.args.steps.now old.steps c.rows_between.new.steps old.invariant.seams within.1 c.rows_between.ensures.seams
          (start - 1) (omega (arith, past)) (other c.start_for_count-start.ensures.seam c.if-start-from.false);
    }

-- ---- how many steps were taken

pub returns-in_default-rows_between-clause-seams : goal.returns-in_default-rows_between-clause-seams
returns-in_default-rows_between-clause-seams g c =
    let series_query = c.args.series_query.now in
    let q = series_query.query.now in
    let old = c.loop-left in
    down-last (queried_pieces series_query) q.from q.to old.end c.start_for_count-start.result c.args.steps.now old.steps c.rows_between.new.steps old.invariant.seams c.start_for_count-start.ensures.within.1
    c.rows_between.ensures.seams (omega (arith, c.narrowed_from-from.ensures.within, c.start_for_count-start.ensures.within.0))

pub returns-then-start-from-clause-seams : goal.returns-then-start-from-clause-seams
returns-then-start-from-clause-seams g c =
    let series_query = c.args.series_query.now in
    let q = series_query.query.now in
    let old = c.loop-left in
    down-last (queried_pieces series_query) q.from q.to old.end c.start_for_count-start.result c.args.steps.now old.steps c.rows_between.new.steps old.invariant.seams c.start_for_count-start.ensures.within.1
    c.rows_between.ensures.seams (omega (arith, c.narrowed_from-from.ensures.within, c.start_for_count-start.ensures.within.0))

pub returns-clause-seams : goal.returns-clause-seams
returns-clause-seams g c =
    let series_query = c.args.series_query.now in
    let q = series_query.query.now in
    let old = c.loop-left in
    down-enough (queried_pieces series_query) q.from q.to old.end c.args.steps.now old.steps (omega (arith, c.narrowed_from-from.ensures.within, old.invariant.inside)) old.invariant.seams
