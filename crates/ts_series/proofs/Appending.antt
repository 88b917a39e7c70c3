-- A write that appends to the last chunk, and its plan.
use Rattle.std.proofs.Common.{◌≡◌, ℕ, ◌<◌, ◌≤◌, List, length, refl, sym, ◌∙◌, subst, arith, ltb-false}
use Rattle.std.specs.Prelude.{None, Some, Ok}
use Rattle.ts_spec.specs.declared.series.Encoding.{Encoding}
use Rattle.ts_spec.specs.declared.series.Merge.{Merge}
use Rattle.ts_spec.specs.Sample.{Point, IsAscending, at, put, last_of}
use Rattle.ts_spec.specs.Rules.{Merged}
use Rattle.ts_spec.proofs.Samples.{ascending-put}
use Rattle.ts_sample.specs.Chunk.{IsPast, joined}
use Rattle.ts_series.specs.Stored.{points, with_last, LastChunkFits, IsReady}
use Rattle.ts_series.specs.History.{History, list_of, low, IsKeptIn}
use Rattle.ts_series.specs.Plan.{IsForIn, appends}
use Rattle.ts_series.specs.Put.{met, PutAnswers, list_after}
use Rattle.ts_series.proofs.Appended.{joined-last}
use Rattle.ts_series.proofs.PutBetween.{put-past}
use Rattle.ts_series.proofs.Putting.{at-shown, at-past, answers-new, met-late, full-early}
use Rattle.ts_series.proofs.Ready.{Shows, is-for, written-list}

module _ {format : List Point → List ℕ} (h : History) (p : Point) (shows : Shows h) (kept : IsKeptIn format h) (made : p.made ≡ h.born) (past : IsPast (last_of (points h.held)) p.time) where
  -- the samples of the chunks then
  joined-put : LastChunkFits format (Some p) h.held.pieces h.held.limits → joined (with_last (Some p) h.held.pieces) ≡ put p (points h.held)
  joined-put room = joined-last format p h.held.pieces h.held.limits room ∙ sym (put-past p (points h.held) kept.chunks.ascending past)

  -- the plan is for the series
  pub appends-for : LastChunkFits format (Some p) h.held.pieces h.held.limits → IsForIn format (appends h.options.encoding p) h
  appends-for room =
      let plan = appends h.options.encoding p in
      let list = joined-put room in
      let ready : IsReady format h.held plan.change = record {
        ordered = omega arith;
        within = omega arith;
        ascending = subst IsAscending (sym list) (ascending-put p (points h.held) kept.chunks.ascending);
        appends = room;
        enough = omega arith;
      } in
      is-for plan h refl refl (omega (arith, made), tt) ready (omega arith) tt (written-list plan h refl shows kept.chunks.ascending list)

  -- and it is the answer to the write
  pub appends-answers : (encoding : Encoding) (how : Merge) (limit : ℕ) → low h ≤ p.time → length (points h.held) < limit → PutAnswers (met how p.time p.value h) limit p.time h (Ok (appends encoding p))
  appends-answers encoding how limit late few =
      let none : at p.time (list_of h) ≡ None = at-shown p.time h shows late ∙ at-past p.time (points h.held) kept.chunks.ascending past in
      subst (λ (m : Merged). PutAnswers m limit p.time h (Ok (appends encoding p))) (met-late how p.time p.value h late)
      (answers-new how limit p h (Ok (appends encoding p)) none made
      (record { cut = refl; removed = refl; wrote = refl; options = refl }, λ absent. ltb-false limit (length (list_after p h)) (sym (full-early limit p h shows none few))))
