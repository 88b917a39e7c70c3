-- Filling gaps, row by row.
use Rattle.std.proofs.Common.{◌≡◌, ℕ, suc, ◌+◌, ◌≤◌, Bool, if◌then◌else◌, lt-ltb, List, [], ◌∷◌, ◌++◌, length, drop, refl, sym, ◌∙◌, ap, subst, arith, append-nil, append_assoc}
use Rattle.std.specs.Prelude.{Option, Some, option_map, slice_get}
use Rattle.std.proofs.lemmas.List.{drop_more, drop_all}
use Rattle.std.proofs.lemmas.Option.{slice_get_within, get_or_from_slice_get}
use Rattle.ts_spec.specs.Command.{Buckets}
use Rattle.ts_spec.specs.Answer.{Cell, Row}
use Rattle.ts_sample.specs.declared.sample.Cell as rust
use Rattle.ts_range.specs.declared.fill_plan.Place.{Place}
use Rattle.ts_range.specs.FillPlan.{fill_value_after, row_at, filled, FillPlan, rows_with_gaps_filled, value_or_fill, fill_value_at, filled_from, IsFilled, IsBefore}
use Rattle.ts_range.specs.Query.{cell_of}
use Rattle.ts_range.proofs.Gaps.{here}

-- what is left of a list from a place on
left : (xs : List ℕ) (i b : ℕ) → slice_get xs i ≡ Some b → drop i xs ≡ b ∷ drop (i + 1) xs
left xs i b is =
    drop_more xs i b (slice_get_within xs i b is) ∙ ap (λ (x : ℕ). x ∷ drop (i + 1) xs) (get_or_from_slice_get xs i b b is)

-- an empty bucket, where the next row is past it
past-empty : (bs : Buckets) (now later : Cell) (b : ℕ) (line : List ℕ) (rows : List Row) → IsBefore b rows → filled bs now later (b ∷ line) rows ≡ row_at bs b now ∷ filled bs later later line rows
past-empty bs now later b line [] h = refl
past-empty bs now later b line (r ∷ rows) h =
    ap (λ (x : Bool). if x then row_at bs b now ∷ filled bs later later line (r ∷ rows) else row_at bs b r.value ∷ filled bs (fill_value_after bs.agg later r.value) (fill_value_after bs.agg later r.value) line rows)
    (lt-ltb b r.time h)

-- a row was handed on, and these are the ones that were and those that come
module _ (has has' : List Row → Type 0) (f : FillPlan) (all : List Row) (row : Row) (taken : (rows : List Row) → has rows → has' (rows ++ row ∷ [])) where
  emitted : (place place' : Place) (coming coming' : List Row) → filled_from f place coming ≡ row ∷ filled_from f place' coming' → IsFilled has f place all coming → IsFilled has' f place' all coming'
  emitted place place' coming coming' next is = record {
    done = is.done ++ row ∷ [];
    taken = taken is.done is.taken;
    rest = append_assoc is.done (row ∷ []) (filled_from f place' coming') ∙ ap (λ (rs : List Row). is.done ++ rs) (sym next) ∙ is.rest;
  }

  module _ (place place' : Place) (b : ℕ) (at : slice_get f.starts place.told ≡ Some b) (next : place'.told ≡ place.told + 1) where
    one : fill_value_at place'.told f.first (value_or_fill f.others (option_map cell_of place'.last)) ≡ value_or_fill f.others (option_map cell_of place'.last)
    one = ap (λ (n : ℕ). fill_value_at n f.first (value_or_fill f.others (option_map cell_of place'.last))) (let e : place'.told ≡ suc place.told = omega arith in e)

    rest-is : (coming : List Row) → filled_from f place' coming ≡ filled f.buckets (value_or_fill f.others (option_map cell_of place'.last)) (value_or_fill f.others (option_map cell_of place'.last)) (drop (place.told + 1) f.starts) coming
    rest-is coming =
        ap (λ (x : Cell). filled f.buckets x (value_or_fill f.others (option_map cell_of place'.last)) (drop place'.told f.starts) coming) one
        ∙ ap (λ (n : ℕ). filled f.buckets (value_or_fill f.others (option_map cell_of place'.last)) (value_or_fill f.others (option_map cell_of place'.last)) (drop n f.starts) coming) next

    -- that of an empty bucket
    pub filled-one : (more : List Row) → place'.last ≡ place.last → IsBefore b more → row ≡ row_at f.buckets b (fill_value_at place.told f.first (value_or_fill f.others (option_map cell_of place.last)))
        → IsFilled has f place all more → IsFilled has' f place' all more
    filled-one more same before is filled-so =
        let said = value_or_fill f.others (option_map cell_of place.last) in
        let now = fill_value_at place.told f.first said in
        emitted place place' more more
        (ap (λ (xs : List ℕ). filled f.buckets now said xs more) (left f.starts place.told b at)
        ∙ past-empty f.buckets now said b (drop (place.told + 1) f.starts) more before
        ∙ ap (λ (r : Row). r ∷ filled f.buckets said said (drop (place.told + 1) f.starts) more) (sym is)
        ∙ ap (λ (rs : List Row). row ∷ rs) (ap (λ (o : Option rust.Cell). filled f.buckets (value_or_fill f.others (option_map cell_of o)) (value_or_fill f.others (option_map cell_of o)) (drop (place.told + 1) f.starts) more) (sym same) ∙ sym (rest-is more)))
        filled-so

    -- that of a bucket that has one
    pub given-one : (more : List Row) (r : Row) → r.time ≤ b → row ≡ row_at f.buckets b r.value
        → value_or_fill f.others (option_map cell_of place'.last) ≡ fill_value_after f.buckets.agg (value_or_fill f.others (option_map cell_of place.last)) r.value
        → IsFilled has f place all (r ∷ more) → IsFilled has' f place' all more
    given-one more r le is last filled-so =
        let said = value_or_fill f.others (option_map cell_of place.last) in
        let now = fill_value_at place.told f.first said in
        emitted place place' (r ∷ more) more
        (ap (λ (xs : List ℕ). filled f.buckets now said xs (r ∷ more)) (left f.starts place.told b at)
        ∙ here f.buckets now said b (drop (place.told + 1) f.starts) r more le
        ∙ ap (λ (x : Row). x ∷ filled f.buckets (fill_value_after f.buckets.agg said r.value) (fill_value_after f.buckets.agg said r.value) (drop (place.told + 1) f.starts) more) (sym is)
        ∙ ap (λ (rs : List Row). row ∷ rs) (ap (λ (x : Cell). filled f.buckets x x (drop (place.told + 1) f.starts) more) (sym last) ∙ sym (rest-is more)))
        filled-so

-- no bucket is left, so that all are told
pub all-told : (has : List Row → Type 0) (f : FillPlan) (place : Place) (all coming : List Row) → length f.starts ≤ place.told → IsFilled has f place all coming → has (rows_with_gaps_filled f all)
all-told has f place all coming end is =
    let said = value_or_fill f.others (option_map cell_of place.last) in
    let now = fill_value_at place.told f.first said in
    let none : drop place.told f.starts ≡ [] = drop_all place.told f.starts end in
    subst has (sym (append-nil is.done) ∙ sym (ap (λ (xs : List ℕ). is.done ++ filled f.buckets now said xs coming) none) ∙ is.rest) is.taken
