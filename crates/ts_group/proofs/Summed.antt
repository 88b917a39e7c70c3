-- The state of a reduction after adding one more row.
use Rattle.std.proofs.Common.{◌≡◌, ℕ, List, [], ◌∷◌, ◌++◌, None, Some, sym, ap, ◌∙◌}
use Rattle.std.specs.Ordering.{nat_cmp}
use Rattle.std.specs.BTreeMap.{is_at, insert_entry}
use Rattle.std.specs.Map.{lookup, set_value}
use Rattle.ts_spec.specs.Sample.{Point}
use Rattle.ts_spec.specs.Answer.{Row}
use Rattle.ts_spec.specs.Groups.{times, number_then, numbers_at}
use Rattle.ts_spec.specs.Aggregate.{Summary, summary}
use Rattle.ts_group.specs.Summaries.{Summaries, summaries}
use Rattle.ts_group.proofs.Ordered.{each, each-none, each-some, each-inserted, each-set}
use Rattle.ts_group.proofs.Times.{in_time, rising-times, times-more, numbers-more, numbers-here, numbers-elsewhere, none_at}

-- a row at a time that the others do not have
pub summaries-inserted : (es new : Summaries) (now : Summary) (rows : List Row) (r : Row) → es ≡ summaries rows → lookup (is_at (nat_cmp r.time)) es ≡ None
    → now ≡ summary (number_then r.time r.value []) → new ≡ insert_entry nat_cmp es r.time now → new ≡ summaries (rows ++ r ∷ [])
summaries-inserted es new now rows r is none counted made =
    let f = λ (u : ℕ). summary (numbers_at u rows) in
    let g = λ (u : ℕ). summary (numbers_at u (rows ++ r ∷ [])) in
    let absent = each-none in_time f r.time (times rows) (ap (lookup (is_at (nat_cmp r.time))) (sym is) ∙ none) in
    let here : numbers_at r.time (rows ++ r ∷ []) ≡ number_then r.time r.value [] =
    numbers-more r.time rows r ∙ ap (λ (ps : List Point). ps ++ numbers_at r.time (r ∷ [])) (none_at r.time rows absent) ∙ numbers-here r in
    made ∙ ap (λ (l : Summaries). insert_entry nat_cmp l r.time now) is
    ∙ ap (λ (s : Summary). insert_entry nat_cmp (summaries rows) r.time s) (counted ∙ ap summary (sym here))
    ∙ each-inserted in_time f g r.time (times rows) (rising-times rows) (λ u. λ e. ap summary (numbers-elsewhere u rows r e))
    ∙ ap (each in_time g) (sym (times-more rows r))

-- a row at a time that others have
pub summaries-counted : (es new : Summaries) (old now : Summary) (rows : List Row) (r : Row) → es ≡ summaries rows → lookup (is_at (nat_cmp r.time)) es ≡ Some old
    → ((ps : List Point) → old ≡ summary ps → now ≡ summary (ps ++ number_then r.time r.value []))
    → new ≡ set_value (is_at (nat_cmp r.time)) es now → new ≡ summaries (rows ++ r ∷ [])
summaries-counted es new old now rows r is found counts made =
    let f = λ (u : ℕ). summary (numbers_at u rows) in
    let g = λ (u : ℕ). summary (numbers_at u (rows ++ r ∷ [])) in
    let there = each-some in_time f r.time (times rows) old (ap (lookup (is_at (nat_cmp r.time))) (sym is) ∙ found) in
    let here : numbers_at r.time (rows ++ r ∷ []) ≡ numbers_at r.time rows ++ number_then r.time r.value [] =
    numbers-more r.time rows r ∙ ap (λ (ps : List Point). numbers_at r.time rows ++ ps) (numbers-here r) in
    made ∙ ap (λ (l : Summaries). set_value (is_at (nat_cmp r.time)) l now) is
    ∙ ap (λ (s : Summary). set_value (is_at (nat_cmp r.time)) (summaries rows) s) (counts (numbers_at r.time rows) there.1 ∙ ap summary (sym here))
    ∙ each-set in_time f g r.time (times rows) (rising-times rows) there.0 (λ u. λ e. ap summary (numbers-elsewhere u rows r e))
    ∙ ap (each in_time g) (sym (times-more rows r))
