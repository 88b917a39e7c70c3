use Rattle.std.proofs.Common.{◌≡◌, ◌==◌, Bool, true, false, if◌then◌else◌, length, sym, ap, ◌∙◌, subst}
use Rattle.std.specs.Prelude.{Option, Some}
use Rattle.ts_checkpoint.specs.Loading.{Restoring, series_so_far, with_whole}
use Rattle.ts_checkpoint.specs.Restoring.{shown_series}
use Rattle.ts_execution.specs.Stages.{GivesRestored}
use Rattle.ts_execution.specs.declared.parts.PartResult.{PartResult}
use Rattle.ts_execution.proofs.Carried.{carries_none, carries_as}
use Rattle.ts_execution.proofs.parts.go_on.Goals as goal

pub returns-then-is_whole : goal.returns-then-is_whole
returns-then-is_whole g c =
    let o = c.args.series in
    let whole : (length o.chunks == o.head.pieces) ≡ true = sym c.is_whole.ensures ∙ c.if-is_whole.true in
    carries_as _ _ _ _
    (λ from to is. subst (λ (w : Option Restoring). GivesRestored c.part_result.result w from to)
    (sym (ap (λ (b : Bool). if b then with_whole from.limits from.state (shown_series (series_so_far o)) else Some (record { state = from.state; current = Some o })) whole))
    (subst (λ (r : PartResult). GivesRestored r (with_whole from.limits from.state (shown_series (series_so_far o))) from to) (sym c.part_result.ensures) is))
    c.store.ensures

pub returns-else-is_whole : goal.returns-else-is_whole
returns-else-is_whole g c =
    let o = c.args.series in
    let more : (length o.chunks == o.head.pieces) ≡ false = sym c.is_whole.ensures ∙ c.if-is_whole.false in
    carries_none _ _
    (λ from stands. (ap (λ (b : Bool). if b then with_whole from.limits from.state (shown_series (series_so_far o)) else Some (record { state = from.state; current = Some o })) more, (λ i. from.limits)))
