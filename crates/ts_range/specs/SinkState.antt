-- What a row sink has received.
use Rattle.std.specs.Prelude.{◌≡◌, ℕ, ◌-◌, Bool, false, List, map, length, Option, None, Some}
use Rattle.ts_spec.specs.Answer.{Row as TheRow, limit_rows}
use Rattle.ts_range.specs.declared.query.Row.{Row}
use Rattle.ts_range.specs.Query.{row_of}
use Rattle.ts_range.specs.FillPlan.{FillPlan}

-- what limits the rows that a sink passes on: a maximum number, or the buckets whose gaps it fills
pub record Limit : Type 0 where
  pub count : Option ℕ
  pub filling : Option FillPlan

-- no limit
abbrev pub no_limit : Limit
no_limit = record { count = None; filling = None }

-- the stored rows are these, unless memory ran out
abbrev pub HoldsUnlessLost : (lost : Bool) → (kept : List Row) → List TheRow → Type 0
HoldsUnlessLost lost kept rows = lost ≡ false → map row_of kept ≡ rows

-- how many more rows are accepted after this many
abbrev pub left_of : Option ℕ → ℕ → Option ℕ
left_of None rows = None
left_of (Some count) rows = Some (count - rows)

-- the inner sink has at most the first `count` of these rows, and accepts `left` more
pub record IsFirstOf (has : List TheRow → Type 0) (count left : Option ℕ) (rows : List TheRow) : Type 0 where
  pub taken : has (limit_rows count rows)
  pub rest : left ≡ left_of count (length rows)
