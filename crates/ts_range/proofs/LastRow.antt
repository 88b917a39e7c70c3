-- Last values of consecutive buckets, sample by sample.
use Rattle.std.proofs.Common.{◌≡◌, ℕ, zero, suc, ◌+◌, ◌-◌, ◌<◌, ◌≤◌, Bool, true, false, cond, ◌==◌, nat_lt, List, [], ◌∷◌, ◌++◌, take, length, refl, sym, ◌∙◌, ap, subst, arith, inl, inr, lt-ltb, le-ltb, eq-eqb, ne_eqb, append-nil}
use Rattle.std.specs.Prelude.{filter, Option, None, Some, option_map, slice_get}
use Rattle.std.specs.List.{All}
use Rattle.std.proofs.lemmas.Bool.{cases_lt}
use Rattle.std.proofs.lemmas.List.Elements.{All-nil, All-cons, All-head, All-tail, All-weaker, All-append, All-filter, filter-append}
use Rattle.std.proofs.lemmas.Option.{slice_get-get_or}
use Rattle.ts_spec.specs.Sample.{Point, IsAscending, at_times, last_of}
use Rattle.ts_spec.specs.Bucket.{start, members}
use Rattle.ts_spec.specs.Answer.{Cell, Number, Row}
use Rattle.ts_spec.proofs.Buckets.{start-le, start-mono}
use Rattle.ts_bucket.proofs.Numbers.{number, start_number}
use Rattle.ts_range.specs.declared.fill_plan.Place.{Place}
use Rattle.ts_range.specs.declared.last_values.Current.{Current}
use Rattle.ts_range.specs.FillPlan.{row_at, value_or_fill, fill_value_at}
use Rattle.ts_range.specs.LastValues.{LastValues, with_one, counts, value_of, is_first, fill_value_before, last_row, last_rows, IsLine, IsOpenWith}
use Rattle.ts_range.specs.Query.{cell_of}
use Rattle.ts_range.specs.AskedSamples.{last_before}
use Rattle.ts_range.proofs.Around.{last-append}
use Rattle.ts_sample.proofs.Lists.{ascending-left}
use Rattle.ts_range.proofs.Filtered.{filter-none, filter-all, map-same, after-all}
use Rattle.ts_range.proofs.Gaps.{begin-mono}
use Rattle.ts_range.proofs.Later.{begin-start, begin-later}
use Rattle.ts_range.proofs.Line.{begin}
use Rattle.ts_range.proofs.Lines.{row-more}
use Rattle.ts_range.proofs.Reversed.{map-take}
use Rattle.ts_range.proofs.Turns.{IsNumbered, at-line, length-line}

first-at-zero : (xs : List ℕ) (b : ℕ) → slice_get xs 0 ≡ Some b → is_first xs b ≡ true
first-at-zero [] b is = absurd (cc is)
first-at-zero (c ∷ xs) b is = let same : c ≡ b = cc is in eq-eqb b c (sym same)

first-not : (xs : List ℕ) (b : ℕ) → ((c : ℕ) → slice_get xs 0 ≡ Some c → c < b) → is_first xs b ≡ false
first-not [] b past = refl
first-not (c ∷ xs) b past = ne_eqb b c (λ same. absurd (let less = past c refl in omega arith))

module _ (lo hi : ℕ) (v : LastValues) (line : IsLine lo hi v) where
  number-at : (i b : ℕ) → slice_get v.filling.starts i ≡ Some b → IsNumbered v.filling.buckets.grid (number v.filling.buckets.grid lo) (number v.filling.buckets.grid hi) b (number v.filling.buckets.grid lo + i)
  number-at i b is = at-line v.filling.buckets.grid line.some lo hi line.ordered i b (ap (λ (xs : List ℕ). slice_get xs i) (sym line.are) ∙ is)

  pub later-start : (i k b c : ℕ) → i < k → slice_get v.filling.starts i ≡ Some b → slice_get v.filling.starts k ≡ Some c → b < c
  later-start i k b c less is at =
      let g = v.filling.buckets.grid in
      let x = number-at i b is in
      let y = number-at k c at in
      let e = begin-later g line.some lo (number g lo + i) (number g lo + k) (omega arith) (omega arith) in
      let bx = x.begins in
      let by = y.begins in
      omega arith

  begins-there : (i b : ℕ) → slice_get v.filling.starts i ≡ Some b → start v.filling.buckets.grid b ≡ b
  begins-there i b is =
      let g = v.filling.buckets.grid in
      let x = number-at i b is in
      ap (start g) x.begins ∙ begin-start g line.some lo (number g lo + i) (omega arith) ∙ sym x.begins

  -- times of buckets up to one are before the start of a later one
  before-start : (t b c : ℕ) → start v.filling.buckets.grid t ≤ b → b < c → start v.filling.buckets.grid c ≡ c → t < c
  before-start t b c upto less begins = elim (cases_lt t c) [
    | inl before ↦ before
    | inr after ↦ (let e = start-mono v.filling.buckets.grid c t line.some after in absurd (omega arith))
  ]

  -- ---- what an empty bucket says

  says-now : (told b : ℕ) (last : Option Cell) → slice_get v.filling.starts told ≡ Some b → last ≡ value_of (last_before b v.seen)
      → fill_value_at told v.filling.first (value_or_fill v.filling.others last) ≡ fill_value_before (is_first v.filling.starts b) v b
  says-now zero b last is before = sym (ap (λ (x : Bool). fill_value_before x v b) (first-at-zero v.filling.starts b is))
  says-now (suc told) b last is before =
      ap (value_or_fill v.filling.others) before
      ∙ sym (ap (λ (x : Bool). fill_value_before x v b) (first-not v.filling.starts b (λ c at. later-start 0 (suc told) c b (omega arith) at is)))

  -- the row of the bucket that is open
  pub row-told : (has has' : List Row → Type 0) (current : Current) (b : ℕ) → slice_get v.filling.starts current.place.told ≡ Some b → IsOpenWith has v current b
      → (row : Row) → ((rows : List Row) → has rows → has' (rows ++ row ∷ []))
      → row ≡ row_at v.filling.buckets b (value_or_fill (fill_value_at current.place.told v.filling.first (value_or_fill v.filling.others (option_map cell_of current.place.last))) (option_map cell_of current.chosen))
      → has' (take (current.place.told + 1) (last_rows v))
  row-told has has' current b is known row taken told =
      let same : row ≡ last_row v b =
      told
      ∙ ap (λ (x : Cell). row_at v.filling.buckets b (value_or_fill x (option_map cell_of current.chosen))) (says-now current.place.told b (option_map cell_of current.place.last) is known.before)
      ∙ ap (λ (o : Option Cell). row_at v.filling.buckets b (value_or_fill (fill_value_before (is_first v.filling.starts b) v b) o)) known.chosen in
      subst has' (ap (λ (r : Row). take current.place.told (last_rows v) ++ r ∷ []) same ∙ sym (row-more (last_row v) v.filling.starts current.place.told b is)) (taken (take current.place.told (last_rows v)) known.taken)

  -- ---- the next bucket

  none-in : (b c : ℕ) → b < c → All (λ p. start v.filling.buckets.grid p.time ≤ b) v.seen → members v.filling.buckets.grid c (filter (counts v) v.seen) ≡ []
  none-in b c less upto =
      filter-none (λ (p : Point). start v.filling.buckets.grid p.time == c) (filter (counts v) v.seen)
      (All-weaker (λ (p : Point). start v.filling.buckets.grid p.time ≤ b) (λ (p : Point). (start v.filling.buckets.grid p.time == c) ≡ false)
      (λ p le. ne_eqb (start v.filling.buckets.grid p.time) c (λ same. absurd (omega arith))) (filter (counts v) v.seen)
      (All-filter (counts v) (λ (p : Point). start v.filling.buckets.grid p.time ≤ b) v.seen upto))

  all-before : (b c : ℕ) → b < c → start v.filling.buckets.grid c ≡ c → All (λ p. start v.filling.buckets.grid p.time ≤ b) v.seen → last_before c v.seen ≡ last_of v.seen
  all-before b c less begins upto =
      ap last_of (filter-all (λ (p : Point). nat_lt p.time c) v.seen
      (All-weaker (λ (p : Point). start v.filling.buckets.grid p.time ≤ b) (λ (p : Point). nat_lt p.time c ≡ true)
      (λ p le. lt-ltb p.time c (before-start p.time b c le less begins)) v.seen upto))

  pub opened : (has has' : List Row → Type 0) (current : Current) (b c : ℕ) → slice_get v.filling.starts current.place.told ≡ Some b → slice_get v.filling.starts (current.place.told + 1) ≡ Some c
      → IsOpenWith has v current b → has' (take (current.place.told + 1) (last_rows v))
      → IsOpenWith has' v (record { place = record { told = current.place.told + 1; last = current.latest }; chosen = None; latest = current.latest }) c
  opened has has' current b c is at known told =
      let less = later-start current.place.told (current.place.told + 1) b c (omega arith) is at in
      let begins = begins-there (current.place.told + 1) c at in
      record {
        taken = told;
        chosen = sym (ap (λ (ps : List Point). value_of (last_of ps)) (none-in b c less known.reached));
        before = known.latest ∙ sym (ap value_of (all-before b c less begins known.reached));
        latest = known.latest;
        reached = All-weaker (λ (p : Point). start v.filling.buckets.grid p.time ≤ b) (λ (p : Point). start v.filling.buckets.grid p.time ≤ c) (λ p le. omega arith) v.seen known.reached;
      }

  -- the bucket at a place of the line
  pub there : (i : ℕ) → i < length v.filling.starts → (b : ℕ) × (slice_get v.filling.starts i ≡ Some b)
  there i less = (_, slice_get-get_or v.filling.starts i 0 less)

-- ---- no sample

-- nothing is told yet, and the first bucket is open
pub none-seen : (has : List Row → Type 0) (v : LastValues) → v.seen ≡ [] → has [] → (b : ℕ)
    → IsOpenWith has v (record { place = record { told = 0; last = None }; chosen = None; latest = None }) b
none-seen has v none taken b = record {
  taken = taken;
  chosen = sym (ap (λ (ps : List Point). value_of (last_of (members v.filling.buckets.grid b (filter (counts v) ps)))) none);
  before = sym (ap (λ (ps : List Point). value_of (last_before b ps)) none);
  latest = sym (ap (λ (ps : List Point). value_of (last_of ps)) none);
  reached = subst (All (λ (p : Point). start v.filling.buckets.grid p.time ≤ b)) (sym none) (All-nil (λ (p : Point). start v.filling.buckets.grid p.time ≤ b));
}

-- the first bucket of a line begins no later than its first time
pub first-by : (lo hi : ℕ) (v : LastValues) → IsLine lo hi v → (t : ℕ) → lo ≤ t → (b : ℕ) → slice_get v.filling.starts 0 ≡ Some b → b ≤ t
first-by lo hi v line t low b is =
    let g = v.filling.buckets.grid in
    let x = number-at lo hi v line 0 b is in
    let e = x.begins in
    let s = start_number g line.some lo in
    let f = start-le g lo line.some in
    let same : begin g (number g lo + 0) ≡ begin g (number g lo) = ap (begin g) (let e : number g lo + 0 ≡ number g lo = omega arith in e) in
    omega arith

-- ---- one sample more

abbrev nothing-of : Bool → List Point
nothing-of x = cond x [] []

all-taken : (P : ℕ → Type 0) (n : ℕ) (xs : List ℕ) → ((i b : ℕ) → i < n → slice_get xs i ≡ Some b → P b) → All P (take n xs)
all-taken P zero xs h = All-nil P
all-taken P (suc n) [] h = All-nil P
all-taken P (suc n) (x ∷ xs) h = All-cons P x (take n xs) (h 0 x (omega arith) refl) (all-taken P n xs (λ i b less is. h (suc i) b (omega arith) is))

-- the last sample before a time that it is not before
before-same : (t : ℕ) (seen : List Point) (p : Point) → t ≤ p.time → last_before t (seen ++ p ∷ []) ≡ last_before t seen
before-same t seen p le =
    ap last_of (filter-append (λ (q : Point). nat_lt q.time t) seen (p ∷ [])
    ∙ ap (λ (x : Bool). at_times (λ u. nat_lt u t) seen ++ cond x (p ∷ []) []) (le-ltb p.time t le)
    ∙ append-nil (at_times (λ u. nat_lt u t) seen))

module _ (lo hi : ℕ) (v : LastValues) (line : IsLine lo hi v) (p : Point) where
  members-more : (b : ℕ) → members v.filling.buckets.grid b (filter (counts v) (v.seen ++ p ∷ []))
      ≡ members v.filling.buckets.grid b (filter (counts v) v.seen) ++ cond (counts v p) (cond (start v.filling.buckets.grid p.time == b) (p ∷ []) []) []
  members-more b =
      ap (members v.filling.buckets.grid b) (filter-append (counts v) v.seen (p ∷ []))
      ∙ filter-append (λ (q : Point). start v.filling.buckets.grid q.time == b) (filter (counts v) v.seen) (cond (counts v p) (p ∷ []) [])
      ∙ ap (λ (ps : List Point). members v.filling.buckets.grid b (filter (counts v) v.seen) ++ ps) (go (counts v p))
    where
      go : (x : Bool) → members v.filling.buckets.grid b (cond x (p ∷ []) []) ≡ cond x (cond (start v.filling.buckets.grid p.time == b) (p ∷ []) []) []
      go true = refl
      go false = refl

  module _ (current : Current) (b : ℕ) (at : slice_get v.filling.starts current.place.told ≡ Some b) (begun : b ≤ p.time)
      (ends : (c : ℕ) → slice_get v.filling.starts (current.place.told + 1) ≡ Some c → p.time < c) (inside : start v.filling.buckets.grid p.time ≤ start v.filling.buckets.grid hi) where
    upto-here : start v.filling.buckets.grid p.time ≤ b
    upto-here =
        let g = v.filling.buckets.grid in
        let told = current.place.told in
        let x = number-at lo hi v line told b at in
        let bx = x.begins in
        let there-is = start_number g line.some p.time in
        elim (cases_lt (told + 1) (length v.filling.starts)) [
          | inl less ↦
              let c = there lo hi v line (told + 1) less in
              let y = number-at lo hi v line (told + 1) c.0 c.1 in
              let by = y.begins in
              let before = ends c.0 c.1 in
              let low = start-le g p.time line.some in
              elim (cases_lt (number g lo + told) (number g p.time)) [
                | inl past ↦ (let e = begin-mono g line.some (number g lo + (told + 1)) (number g p.time) (omega arith) in absurd (omega arith))
                | inr upto ↦ (let e = begin-mono g line.some (number g p.time) (number g lo + told) upto in omega arith)
              ]
          | inr last ↦
              let long : length v.filling.starts ≡ suc (number g hi - number g lo) = ap length line.are ∙ length-line g line.some lo hi line.ordered in
              let e = begin-mono g line.some (number g hi) (number g lo + told) (omega arith) in
              let s = start_number g line.some hi in
              omega arith
        ]

    here : start v.filling.buckets.grid p.time ≡ b
    here =
        let e = start-mono v.filling.buckets.grid b p.time line.some begun in
        let s = begins-there lo hi v line current.place.told b at in
        let u = upto-here in
        omega arith

    earlier-same : (i c : ℕ) → i < current.place.told → slice_get v.filling.starts i ≡ Some c → last_row v c ≡ last_row (with_one v p) c
    earlier-same i c less is =
        let before = later-start lo hi v line i current.place.told c b less is at in
        let none : (start v.filling.buckets.grid p.time == c) ≡ false = ne_eqb (start v.filling.buckets.grid p.time) c (λ same. absurd (let h = here in omega arith)) in
        let kept : members v.filling.buckets.grid c (filter (counts v) (v.seen ++ p ∷ [])) ≡ members v.filling.buckets.grid c (filter (counts v) v.seen) =
        members-more c
        ∙ ap (λ (x : Bool). members v.filling.buckets.grid c (filter (counts v) v.seen) ++ cond (counts v p) (cond x (p ∷ []) []) []) none
        ∙ ap (λ (ps : List Point). members v.filling.buckets.grid c (filter (counts v) v.seen) ++ ps) (nothing (counts v p))
        ∙ append-nil (members v.filling.buckets.grid c (filter (counts v) v.seen)) in
        let said : fill_value_before (is_first v.filling.starts c) v c ≡ fill_value_before (is_first v.filling.starts c) (with_one v p) c = says-same (is_first v.filling.starts c) c (omega arith) in
        ap (λ (x : Cell). row_at v.filling.buckets c (value_or_fill x (value_of (last_of (members v.filling.buckets.grid c (filter (counts v) v.seen)))))) said
        ∙ ap (λ (ps : List Point). row_at v.filling.buckets c (value_or_fill (fill_value_before (is_first v.filling.starts c) (with_one v p) c) (value_of (last_of ps)))) (sym kept)
      where
        nothing : (x : Bool) → nothing-of x ≡ []
        nothing true = refl
        nothing false = refl

        says-same : (first : Bool) (c : ℕ) → c ≤ p.time → fill_value_before first v c ≡ fill_value_before first (with_one v p) c
        says-same true c le = refl
        says-same false c le = ap (λ (o : Option Point). value_or_fill v.filling.others (value_of o)) (sym (before-same c v.seen p le))

    chosen-is : (chosen : Option Cell) → chosen ≡ value_of (last_of (members v.filling.buckets.grid b (filter (counts v) v.seen))) → (x : Bool) → counts v p ≡ x
        → cond x (Some (Number p.value)) chosen ≡ value_of (last_of (members v.filling.buckets.grid b (filter (counts v) (v.seen ++ p ∷ []))))
    chosen-is chosen known true lets =
        let ms = members v.filling.buckets.grid b (filter (counts v) v.seen) in
        sym (ap (λ (ps : List Point). value_of (last_of ps))
        (members-more b
        ∙ ap (λ (x : Bool). ms ++ cond x (cond (start v.filling.buckets.grid p.time == b) (p ∷ []) []) []) lets
        ∙ ap (λ (x : Bool). ms ++ cond x (p ∷ []) []) (eq-eqb (start v.filling.buckets.grid p.time) b here))
        ∙ ap value_of (last-append ms (p ∷ [])))
    chosen-is chosen known false hides =
        let ms = members v.filling.buckets.grid b (filter (counts v) v.seen) in
        known
        ∙ sym (ap (λ (ps : List Point). value_of (last_of ps))
        (members-more b
        ∙ ap (λ (x : Bool). ms ++ cond x (cond (start v.filling.buckets.grid p.time == b) (p ∷ []) []) []) hides
        ∙ append-nil ms))

    pub set_last_value-one : (has : List Row → Type 0) → IsOpenWith has v current b → (next : Current) → next.place ≡ current.place → option_map cell_of next.latest ≡ Some (Number p.value)
        → option_map cell_of next.chosen ≡ cond (counts v p) (Some (Number p.value)) (option_map cell_of current.chosen) → IsOpenWith has (with_one v p) next b
    set_last_value-one has known next place latest chosen =
        let rows : take current.place.told (last_rows v) ≡ take next.place.told (last_rows (with_one v p)) =
        sym (map-take (last_row v) current.place.told v.filling.starts)
        ∙ map-same (last_row v) (last_row (with_one v p)) (take current.place.told v.filling.starts)
        (all-taken (λ c. last_row v c ≡ last_row (with_one v p) c) current.place.told v.filling.starts earlier-same)
        ∙ map-take (last_row (with_one v p)) current.place.told v.filling.starts
        ∙ ap (λ (x : Place). take x.told (last_rows (with_one v p))) (sym place) in
        let at-b = here in
        record {
          taken = subst has rows known.taken;
          chosen = chosen ∙ chosen-is (option_map cell_of current.chosen) known.chosen (counts v p) refl;
          before = ap (λ (x : Place). option_map cell_of x.last) place ∙ known.before ∙ ap value_of (sym (before-same b v.seen p begun));
          latest = latest ∙ sym (ap value_of (last-append v.seen (p ∷ [])));
          reached = All-append (λ (q : Point). start v.filling.buckets.grid q.time ≤ b) v.seen (p ∷ []) known.reached
              (All-cons (λ (q : Point). start v.filling.buckets.grid q.time ≤ b) p [] (omega arith) (All-nil (λ (q : Point). start v.filling.buckets.grid q.time ≤ b)));
        }

-- ---- samples of a line

front-all : (P : Point → Type 0) (ps qs : List Point) → All P (ps ++ qs) → All P ps
front-all P [] qs h = All-nil P
front-all P (p ∷ ps) qs h = All-cons P p ps (All-head P p (ps ++ qs) h) (front-all P ps qs (All-tail P p (ps ++ qs) h))

last-one : (P : Point → Type 0) (ps : List Point) (p : Point) → All P (ps ++ p ∷ []) → P p
last-one P [] p h = All-head P p [] h
last-one P (q ∷ ps) p h = last-one P ps p (All-tail P q (ps ++ p ∷ []) h)

all-upto : (ps : List Point) (p : Point) → IsAscending (ps ++ p ∷ []) → All (λ q. q.time ≤ p.time) ps
all-upto [] p h = All-nil (λ q. q.time ≤ p.time)
all-upto (q ∷ ps) p h =
    All-cons (λ r. r.time ≤ p.time) q ps (let less = last-one (λ r. q.time < r.time) ps p (after-all q.time (ps ++ p ∷ []) h.0) in omega arith) (all-upto ps p h.1)

pub upto-one-time : (t : ℕ) (ps : List Point) (p : Point) → All (λ q. q.time ≤ t) (ps ++ p ∷ []) → p.time ≤ t
upto-one-time t ps p h = last-one (λ q. q.time ≤ t) ps p h

-- those before the last one
pub front-line : (lo hi : ℕ) (v : LastValues) (p : Point) → IsLine lo hi (with_one v p) → IsLine lo hi v
front-line lo hi v p line = record {
  some = line.some;
  ordered = line.ordered;
  are = line.are;
  rises = ascending-left v.seen (p ∷ []) line.rises;
  from = front-all (λ q. lo ≤ q.time) v.seen (p ∷ []) line.from;
  upto = front-all (λ q. start v.filling.buckets.grid q.time ≤ start v.filling.buckets.grid hi) v.seen (p ∷ []) line.upto;
}

-- and the last one
pub upto-one : (lo hi : ℕ) (v : LastValues) (p : Point) → IsLine lo hi (with_one v p) → (lo ≤ p.time) × All (λ q. q.time ≤ p.time) v.seen × (start v.filling.buckets.grid p.time ≤ start v.filling.buckets.grid hi)
upto-one lo hi v p line = (
  last-one (λ q. lo ≤ q.time) v.seen p line.from,
  all-upto v.seen p line.rises,
  last-one (λ q. start v.filling.buckets.grid q.time ≤ start v.filling.buckets.grid hi) v.seen p line.upto,
)
