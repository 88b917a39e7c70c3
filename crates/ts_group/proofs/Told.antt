-- The rows that a reduction yields.
use Rattle.std.proofs.Common.{◌≡◌, ◌≤◌, ℕ, ◌==◌, Bool, false, List, [], ◌∷◌, ◌++◌, map, Option, Some, refl, ap, ◌∙◌, arith, ne_eqb}
use Rattle.std.proofs.lemmas.List.{map-append}
use Rattle.std.proofs.lemmas.List.Elements.{All-rest, All-pop}
use Rattle.std.specs.Map.{keys_of}
use Rattle.ts_spec.specs.declared.bucket.Reducer.{Reducer}
use Rattle.ts_spec.specs.Sample.{Point, MAX_TIME}
use Rattle.ts_spec.specs.Aggregate.{Summary, summary}
use Rattle.ts_spec.specs.Answer.{Cell, Row, in_requested_order, limit_rows}
use Rattle.ts_spec.specs.Groups.{times, numbers_at, reduced, reduced_row}
use Rattle.ts_spec.proofs.Aggregates.{summary-count}
use Rattle.ts_group.specs.Summaries.{Summaries, AreTimely, ReductionState, HasAccepted, summary_at}
use Rattle.ts_group.specs.Rows.{cell_of_summary, row_of_summary, rows_of_summaries, group_rows}

reply_parts-reduced : (reducer : Reducer) (ps : List Point) → cell_of_summary reducer (summary ps) ≡ reduced reducer ps
reply_parts-reduced reducer [] = refl
reply_parts-reduced reducer (p ∷ ps) =
    let some : ((summary (p ∷ ps)).count == 0) ≡ false = ne_eqb (summary (p ∷ ps)).count 0 (λ e. absurd (omega (arith, summary-count (p ∷ ps), e))) in
    rw some refl

reply_parts-times : (reducer : Reducer) (rows : List Row) (ts : List ℕ) → map (row_of_summary reducer) (map (summary_at rows) ts) ≡ map (reduced_row reducer rows) ts
reply_parts-times reducer rows [] = refl
reply_parts-times reducer rows (t ∷ ts) =
    ap (λ (c : Cell). record { time = t; value = c } ∷ map (row_of_summary reducer) (map (summary_at rows) ts)) (reply_parts-reduced reducer (numbers_at t rows))
    ∙ ap (λ (l : List Row). reduced_row reducer rows t ∷ l) (reply_parts-times reducer rows ts)

-- the rows of a group
pub reply_parts-rows : (k : ReductionState) (reducer : Reducer) (count : Option ℕ) (back : Bool) (reply_parts : List Row) (rows : List Row)
    → reply_parts ≡ limit_rows count (rows_of_summaries reducer back k.summaries) → HasAccepted k rows → k.lost ≡ false → reply_parts ≡ group_rows reducer count back rows
reply_parts-rows k reducer count back reply_parts rows is taken kept_all =
    is ∙ ap (λ (es : Summaries). limit_rows count (rows_of_summaries reducer back es)) (taken kept_all)
    ∙ ap (λ (l : List Row). limit_rows count (in_requested_order back l)) (reply_parts-times reducer rows (times rows))

-- ---- the times that are left

pub timely-first : (es rest : Summaries) (e : ℕ × Summary) → es ≡ e ∷ rest → AreTimely es → AreTimely rest
timely-first es rest e is h = All-rest (λ t. t ≤ MAX_TIME) e.0 (keys_of rest) (keys_of es) (ap keys_of is) h

pub timely-last : (es rest : Summaries) (e : ℕ × Summary) → es ≡ rest ++ e ∷ [] → AreTimely es → AreTimely rest
timely-last es rest e is h =
    (All-pop (λ t. t ≤ MAX_TIME) (keys_of es) (keys_of rest) (Some e.0) (ap keys_of is ∙ map-append (λ (d : ℕ × Summary). d.0) rest (e ∷ [])) h).0

pub time-last : (es rest : Summaries) (e : ℕ × Summary) → es ≡ rest ++ e ∷ [] → AreTimely es → e.0 ≤ MAX_TIME
time-last es rest e is h =
    (All-pop (λ t. t ≤ MAX_TIME) (keys_of es) (keys_of rest) (Some e.0) (ap keys_of is ∙ map-append (λ (d : ℕ × Summary). d.0) rest (e ∷ [])) h).1
