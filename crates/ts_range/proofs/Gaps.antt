-- The rows of consecutive buckets are those of the non-empty ones, with the gaps filled.
use Rattle.std.proofs.Common.{◌≡◌, ℕ, zero, suc, ◌+◌, ◌<◌, ◌≤◌, min, Bool, true, false, not, ◌&&◌, ◌==◌, nat_lt, if◌then◌else◌, List, [], ◌∷◌, ◌++◌, map, length, refl, sym, ◌∙◌, ap, subst, arith, inl, inr, lt-ltb, le-ltb, eq-eqb, mul-le-mul_left}
use Rattle.std.specs.Prelude.{filter}
use Rattle.std.specs.List.{All, range_with_len}
use Rattle.std.proofs.lemmas.Bool.{cases_lt}
use Rattle.std.proofs.lemmas.Bool.Decides.{nat_tests}
use Rattle.std.proofs.lemmas.List.Elements.{All-nil, All-cons, All-head, All-tail, All-weaker, All-map, filter_agree}
use Rattle.ts_spec.specs.Sample.{Point, MAX_TIME, IsAscending, at_times}
use Rattle.ts_spec.specs.Bucket.{Grid, start, stamp, members, starts}
use Rattle.ts_spec.specs.declared.bucket.Stamp.TheVariants.{Low}
use Rattle.ts_spec.specs.Aggregate.{aggregate}
use Rattle.ts_spec.specs.Command.{Buckets}
use Rattle.ts_spec.specs.Answer.{Cell, Number, Row, cell_of, empty_cell, bucket_row}
use Rattle.ts_spec.proofs.Buckets.{start-le, start-start}
use Rattle.ts_spec.proofs.Samples.{ascending-times}
use Rattle.ts_sample.proofs.Between.{filter-filter}
use Rattle.ts_bucket.proofs.Numbers.{number, start_number}
use Rattle.ts_range.specs.BucketRows.{bucket_rows}
use Rattle.ts_range.specs.FillPlan.{fill_value_after, row_at, begun, filled}
use Rattle.ts_range.proofs.Filtered.{filter-same, map-same, parted}
use Rattle.ts_range.proofs.Groups.{one_row, rows-append, rows-one, starts-all}
use Rattle.ts_range.proofs.Later.{begin-later, begin-start}
use Rattle.ts_range.proofs.Line.{begin, number-mono}

-- ---- lists

-- what passes a test has what follows from that
filter-has : (test : Point → Bool) (P Q : Point → Type 0) → ((p : Point) → test p ≡ true → P p → Q p) → (ps : List Point) → All P ps → All Q (filter test ps)
filter-has test P Q f [] h = All-nil Q
filter-has test P Q f (p ∷ ps) h = go (test p) refl (filter-has test P Q f ps (All-tail P p ps h))
  where
    go : (b : Bool) → test p ≡ b → All Q (filter test ps) → All Q (if b then p ∷ filter test ps else filter test ps)
    go true e rest = All-cons Q p (filter test ps) (f p e (All-head P p ps h)) rest
    go false e rest = rest

-- ---- one start more

-- what a bucket with these samples tells, or else an empty one
abbrev cell_or : Buckets → Cell → List Point → Cell
cell_or bs now [] = now
cell_or bs now (p ∷ ps) = Number (aggregate bs.agg (p ∷ ps))

-- what empty buckets say past it
abbrev pub said_past : Buckets → Cell → List Point → Cell
said_past bs later [] = later
said_past bs later (p ∷ ps) = fill_value_after bs.agg later (Number (aggregate bs.agg (p ∷ ps)))

module _ (bs : Buckets) where
  -- no row is given for it
  pub gap : (now later : Cell) (b : ℕ) (line : List ℕ) (rows : List Row) → All (λ r. b < r.time) rows → filled bs now later (b ∷ line) rows ≡ row_at bs b now ∷ filled bs later later line rows
  gap now later b line [] h = refl
  gap now later b line (r ∷ rows) h =
      ap (λ (x : Bool). if x then row_at bs b now ∷ filled bs later later line (r ∷ rows) else row_at bs b r.value ∷ filled bs (fill_value_after bs.agg later r.value) (fill_value_after bs.agg later r.value) line rows)
      (lt-ltb b r.time (All-head (λ (r : Row). b < r.time) r rows h))

  -- one is given for it
  pub here : (now later : Cell) (b : ℕ) (line : List ℕ) (r : Row) (rows : List Row) → r.time ≤ b
      → filled bs now later (b ∷ line) (r ∷ rows) ≡ row_at bs b r.value ∷ filled bs (fill_value_after bs.agg later r.value) (fill_value_after bs.agg later r.value) line rows
  here now later b line r rows le =
      ap (λ (x : Bool). if x then row_at bs b now ∷ filled bs later later line (r ∷ rows) else row_at bs b r.value ∷ filled bs (fill_value_after bs.agg later r.value) (fill_value_after bs.agg later r.value) line rows)
      (le-ltb b r.time le)

  -- its samples are these
  one-more : (now later : Cell) (b : ℕ) (line : List ℕ) (xs : List Point) (rows : List Row) → (0 < length xs → stamp bs.grid b Low ≤ b) → All (λ r. b < r.time) rows
      → filled bs now later (b ∷ line) (one_row (begun bs) b xs ++ rows) ≡ row_at bs b (cell_or bs now xs) ∷ filled bs (said_past bs later xs) (said_past bs later xs) line rows
  one-more now later b line [] rows at past = gap now later b line rows past
  one-more now later b line (x ∷ xs) rows at past =
      here now later b line (record { time = stamp bs.grid b Low; value = Number (aggregate bs.agg (x ∷ xs)) }) rows (at (omega arith))

  cell-same : (l : List Point) (now : Cell) (b : ℕ) (xs : List Point) → now ≡ empty_cell bs.agg b l → cell_or bs now xs ≡ cell_of bs.agg b l xs
  cell-same l now b [] is = is
  cell-same l now b (x ∷ xs) is = refl

-- ---- the line

-- the time of a row that stands for the start of its bucket
low-stamp : (g : Grid) (b : ℕ) → start g b ≡ b → b ≤ MAX_TIME → stamp g b Low ≡ b
low-stamp g b begins time = ap (min MAX_TIME) begins ∙ omega arith

module _ (g : Grid) (some : 1 ≤ g.duration) where
  pub begin-mono : (k m : ℕ) → k ≤ m → begin g k ≤ begin g m
  begin-mono k m le = let e = mul-le-mul_left g.duration le in omega arith

  all-line : (P : ℕ → Type 0) (n k : ℕ) → ((m : ℕ) → k ≤ m → P (begin g m)) → All P (map (begin g) (range_with_len k n))
  all-line P zero k h = All-nil P
  all-line P (suc n) k h = All-cons P (begin g k) (map (begin g) (range_with_len (k + 1) n)) (h k (omega arith)) (all-line P n (k + 1) (λ m le. h m (omega arith)))

-- the samples of the buckets up to this one, and those of the buckets past it
abbrev pub upto : Grid → ℕ → List Point → List Point
upto g k ps = at_times (λ t. nat_lt (number g t) (suc k)) ps

abbrev pub past : Grid → ℕ → List Point → List Point
past g k ps = at_times (λ t. not (nat_lt (number g t) (suc k))) ps

-- a sample of a bucket from one number to another
pub record IsOnLine (g : Grid) (k last : ℕ) (p : Point) : Type 0 where
  pub from : k ≤ number g p.time
  pub to : number g p.time ≤ last
  pub time : p.time ≤ MAX_TIME

module _ (bs : Buckets) (some : 1 ≤ bs.grid.duration) (l : List Point) (lo first last : ℕ) (base : number bs.grid lo ≤ first)
    (J : (k : ℕ) (now later : Cell) → List Point → Type 0)
    (says : (k : ℕ) (now later : Cell) (ps : List Point) → J k now later ps → now ≡ empty_cell bs.agg (begin bs.grid k) l)
    (goes : (k : ℕ) (now later : Cell) (ps : List Point) → first ≤ k → suc k ≤ last → IsAscending ps → J k now later ps
    → J (suc k) (said_past bs later (upto bs.grid k ps)) (said_past bs later (upto bs.grid k ps)) (past bs.grid k ps)) where
  module _ (k : ℕ) (from : first ≤ k) (ps : List Point) (rises : IsAscending ps) (on : All (IsOnLine bs.grid k last) ps) where
    parts : ps ≡ upto bs.grid k ps ++ past bs.grid k ps
    parts = parted (λ t. nat_lt (number bs.grid t) (suc k)) (λ t u le holds. let e = number-mono bs.grid some t u le in grind (arith, nat_tests)) ps rises

    upto-in : All (λ p. start bs.grid p.time ≡ begin bs.grid k) (upto bs.grid k ps)
    upto-in = filter-has (λ p. nat_lt (number bs.grid p.time) (suc k)) (IsOnLine bs.grid k last) (λ p. start bs.grid p.time ≡ begin bs.grid k)
        (λ p less at. let same : number bs.grid p.time ≡ k = (let low = at.from in grind (arith, nat_tests)) in start_number bs.grid some p.time ∙ ap (begin bs.grid) same) ps on

    past-on : All (IsOnLine bs.grid (suc k) last) (past bs.grid k ps)
    past-on = filter-has (λ p. not (nat_lt (number bs.grid p.time) (suc k))) (IsOnLine bs.grid k last) (IsOnLine bs.grid (suc k) last)
        (λ p more at. record { from = grind (arith, nat_tests); to = at.to; time = at.time }) ps on

    past-begins : All (λ p. begin bs.grid (suc k) ≤ start bs.grid p.time) (past bs.grid k ps)
    past-begins = All-weaker (IsOnLine bs.grid (suc k) last) (λ p. begin bs.grid (suc k) ≤ start bs.grid p.time)
        (λ p at. let e = begin-mono bs.grid some (suc k) (number bs.grid p.time) at.from in let f = start_number bs.grid some p.time in omega arith) (past bs.grid k ps) past-on

    next : begin bs.grid k < begin bs.grid (suc k)
    next = begin-later bs.grid some lo k (suc k) (omega arith) (omega arith)

    split : bucket_rows (begun bs) l ps ≡ one_row (begun bs) (begin bs.grid k) (upto bs.grid k ps) ++ bucket_rows (begun bs) l (past bs.grid k ps)
    split =
        ap (bucket_rows (begun bs) l) parts
        ∙ rows-append (begun bs) l (begin bs.grid (suc k)) (upto bs.grid k ps) (past bs.grid k ps)
        (All-weaker (λ (p : Point). start bs.grid p.time ≡ begin bs.grid k) (λ (p : Point). start bs.grid p.time < begin bs.grid (suc k)) (λ p e. let less = next in omega arith) (upto bs.grid k ps) upto-in) past-begins
        ∙ ap (λ (rs : List Row). rs ++ bucket_rows (begun bs) l (past bs.grid k ps)) (rows-one (begun bs) l (begin bs.grid k) (upto bs.grid k ps) upto-in)

    -- a bucket that has samples begins at a time
    begins-at : (xs : List Point) → All (λ p. start bs.grid p.time ≡ begin bs.grid k) xs → All (λ p. p.time ≤ MAX_TIME) xs → 0 < length xs → stamp bs.grid (begin bs.grid k) Low ≤ begin bs.grid k
    begins-at [] all times some-there = absurd (omega arith)
    begins-at (x ∷ xs) all times some-there =
        let at : start bs.grid x.time ≡ begin bs.grid k = All-head (λ (p : Point). start bs.grid p.time ≡ begin bs.grid k) x xs all in
        let time : x.time ≤ MAX_TIME = All-head (λ (p : Point). p.time ≤ MAX_TIME) x xs times in
        let e = start-le bs.grid x.time some in
        let f = low-stamp bs.grid (begin bs.grid k) (begin-start bs.grid some lo k (omega arith)) (omega arith) in
        omega arith

    upto-times : All (λ p. p.time ≤ MAX_TIME) (upto bs.grid k ps)
    upto-times = filter-has (λ p. nat_lt (number bs.grid p.time) (suc k)) (IsOnLine bs.grid k last) (λ p. p.time ≤ MAX_TIME) (λ p less at. at.time) ps on

    later-rows : All (λ r. begin bs.grid k < r.time) (bucket_rows (begun bs) l (past bs.grid k ps))
    later-rows =
        All-map (λ (r : Row). begin bs.grid k < r.time) (bucket_row (begun bs) l (past bs.grid k ps)) (starts bs.grid (past bs.grid k ps))
        (starts-all bs.grid (λ c. begin bs.grid k < stamp bs.grid c Low) (past bs.grid k ps)
        (All-weaker (IsOnLine bs.grid (suc k) last) (λ (p : Point). begin bs.grid k < stamp bs.grid (start bs.grid p.time) Low)
        (λ p at.
        let e = begin-mono bs.grid some (suc k) (number bs.grid p.time) at.from in
        let f = start_number bs.grid some p.time in
        let h = start-le bs.grid p.time some in
        let time = at.time in
        let less = next in
        let s = low-stamp bs.grid (start bs.grid p.time) (start-start bs.grid p.time some) (omega arith) in
        omega arith) (past bs.grid k ps) past-on))

    here-members : members bs.grid (begin bs.grid k) ps ≡ upto bs.grid k ps
    here-members =
        filter-same (λ (p : Point). start bs.grid p.time == begin bs.grid k) (λ (p : Point). nat_lt (number bs.grid p.time) (suc k)) ps
        (All-weaker (IsOnLine bs.grid k last) (λ (p : Point). (start bs.grid p.time == begin bs.grid k) ≡ nat_lt (number bs.grid p.time) (suc k)) (λ p at. same-test p at) ps on)
      where
        same-test : (p : Point) → IsOnLine bs.grid k last p → (start bs.grid p.time == begin bs.grid k) ≡ nat_lt (number bs.grid p.time) (suc k)
        same-test p at = elim (cases_lt k (number bs.grid p.time)) [
          | inl less ↦
              let e = begin-mono bs.grid some (suc k) (number bs.grid p.time) (omega arith) in
              let f = start_number bs.grid some p.time in
              let h = next in
              grind (arith, nat_tests)
          | inr more ↦
              let low = at.from in
              let same : number bs.grid p.time ≡ k = omega arith in
              eq-eqb (start bs.grid p.time) (begin bs.grid k) (start_number bs.grid some p.time ∙ ap (begin bs.grid) same) ∙ sym (lt-ltb (number bs.grid p.time) (suc k) (omega arith))
        ]

    later-members : (m : ℕ) → suc k ≤ m → members bs.grid (begin bs.grid m) ps ≡ members bs.grid (begin bs.grid m) (past bs.grid k ps)
    later-members m le =
        sym (filter-filter (λ (p : Point). start bs.grid p.time == begin bs.grid m) (λ (p : Point). not (nat_lt (number bs.grid p.time) (suc k))) ps
        ∙ filter_agree (λ (p : Point). not (nat_lt (number bs.grid p.time) (suc k)) && (start bs.grid p.time == begin bs.grid m)) (λ (p : Point). start bs.grid p.time == begin bs.grid m) (λ p. same-test p) ps)
      where
        same-test : (p : Point) → (not (nat_lt (number bs.grid p.time) (suc k)) && (start bs.grid p.time == begin bs.grid m)) ≡ (start bs.grid p.time == begin bs.grid m)
        same-test p = elim (cases_lt k (number bs.grid p.time)) [
          | inl less ↦ grind (arith, nat_tests)
          | inr more ↦
              let e = begin-mono bs.grid some (number bs.grid p.time) k more in
              let f = start_number bs.grid some p.time in
              let h = begin-mono bs.grid some (suc k) m le in
              let n = next in
              grind (arith, nat_tests)
        ]

  pub emit_empty-line : (n k : ℕ) (now later : Cell) (ps : List Point) → first ≤ k → k + n ≡ suc last → IsAscending ps → All (IsOnLine bs.grid k last) ps → (k ≤ last → J k now later ps)
      → filled bs now later (map (begin bs.grid) (range_with_len k n)) (bucket_rows (begun bs) l ps) ≡ map (bucket_row bs l ps) (map (begin bs.grid) (range_with_len k n))
  emit_empty-line zero k now later ps from end rises on j = refl
  emit_empty-line (suc n) k now later ps from end rises on j =
      let g = bs.grid in
      let b = begin g k in
      let xs = upto g k ps in
      let ys = past g k ps in
      let line = map (begin g) (range_with_len (k + 1) n) in
      let said = said_past bs later xs in
      let one : k + 1 ≡ suc k = omega arith in
      let rest : filled bs said said line (bucket_rows (begun bs) l ys) ≡ map (bucket_row bs l ys) line =
      emit_empty-line n (k + 1) said said ys (omega arith) (omega arith) (ascending-times (λ t. not (nat_lt (number g t) (suc k))) ps rises)
      (subst (λ (m : ℕ). All (IsOnLine g m last) ys) (sym one) (past-on k from ps rises on))
      (λ le. subst (λ (m : ℕ). J m said said ys) (sym one) (goes k now later ps from (omega arith) rises (j (omega arith)))) in
      let others : map (bucket_row bs l ys) line ≡ map (bucket_row bs l ps) line =
      map-same (bucket_row bs l ys) (bucket_row bs l ps) line
      (all-line g some (λ c. bucket_row bs l ys c ≡ bucket_row bs l ps c) n (k + 1)
      (λ m le. ap (λ (ms : List Point). row_at bs (begin g m) (cell_of bs.agg (begin g m) l ms)) (sym (later-members k from ps rises on m (omega arith))))) in
      let cell : cell_or bs now xs ≡ cell_of bs.agg b l (members g b ps) =
      cell-same bs l now b xs (says k now later ps (j (omega arith))) ∙ ap (cell_of bs.agg b l) (sym (here-members k from ps rises on)) in
      ap (filled bs now later (b ∷ line)) (split k from ps rises on)
      ∙ one-more bs now later b line xs (bucket_rows (begun bs) l ys) (begins-at k from ps rises on xs (upto-in k from ps rises on) (upto-times k from ps rises on)) (later-rows k from ps rises on)
      ∙ ap (λ (rs : List Row). row_at bs b (cell_or bs now xs) ∷ rs) (rest ∙ others)
      ∙ ap (λ (x : Cell). row_at bs b x ∷ map (bucket_row bs l ps) line) cell
