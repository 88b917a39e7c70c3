-- The values of empty buckets.
use Rattle.std.proofs.Common.{◌≡◌, ℕ, suc, ◌+◌, ◌<◌, ◌≤◌, ◌⊎◌, max, Bool, not, ◌&&◌, nat_lt, List, [], ◌∷◌, map, refl, sym, ◌∙◌, ap, arith, inl, inr, lt-ltb, mul-le-mul_left, mul-suc}
use Rattle.std.specs.Prelude.{ℤ, fold, Option}
use Rattle.std.specs.Option.{option_or}
use Rattle.std.specs.List.{All, range_with_len}
use Rattle.std.proofs.lemmas.Bool.{cases_lt}
use Rattle.std.proofs.lemmas.Bool.Decides.{nat_tests}
use Rattle.std.proofs.lemmas.List.Elements.{filter_agree}
use Rattle.ts_spec.specs.declared.bucket.Aggregator.{Aggregator}
use Rattle.ts_spec.specs.declared.bucket.Aggregator.TheVariants.{Avg, Sum, Min, Max, Range, Count, First, Last}
use Rattle.ts_spec.specs.Sample.{Point, IsAscending, is_within, between, later_or, last_of}
use Rattle.ts_spec.specs.Aggregate.{Summary, push, nothing, aggregate}
use Rattle.ts_spec.specs.Command.{Buckets}
use Rattle.ts_spec.specs.Answer.{Cell, Number, empty_cell, bucket_row, last_value}
use Rattle.ts_spec.proofs.Buckets.{start-le}
use Rattle.ts_sample.proofs.Between.{filter-filter}
use Rattle.ts_bucket.proofs.Numbers.{number, start_number, passed}
use Rattle.ts_range.specs.Empty.{empty_cell_of}
use Rattle.ts_range.specs.FillPlan.{fill_value_after, begun, filled}
use Rattle.ts_range.specs.BucketRows.{bucket_rows}
use Rattle.ts_range.specs.AskedSamples.{last_before}
use Rattle.ts_range.proofs.Around.{before-is}
use Rattle.ts_range.proofs.Gaps.{said_past, upto, past, IsOnLine, begin-mono, emit_empty-line}
use Rattle.ts_range.proofs.Later.{after-align}
use Rattle.ts_range.proofs.Line.{begin}
use Rattle.ts_range.proofs.Lines.{empty-told}

-- ---- aggregators

-- what it says of a bucket doesn't depend on other buckets
record IsAlone (a : Aggregator) : Type 0 where
  same : (said value : Cell) → fill_value_after a said value ≡ said
  alike : (o u : Option Point) → empty_cell_of a o ≡ empty_cell_of a u

last-or-alone : (a : Aggregator) → (a ≡ Last) ⊎ IsAlone a
last-or-alone Avg = inr (record { same = λ x v. refl; alike = λ o u. refl })
last-or-alone Sum = inr (record { same = λ x v. refl; alike = λ o u. refl })
last-or-alone Min = inr (record { same = λ x v. refl; alike = λ o u. refl })
last-or-alone Max = inr (record { same = λ x v. refl; alike = λ o u. refl })
last-or-alone Range = inr (record { same = λ x v. refl; alike = λ o u. refl })
last-or-alone Count = inr (record { same = λ x v. refl; alike = λ o u. refl })
last-or-alone First = inr (record { same = λ x v. refl; alike = λ o u. refl })
last-or-alone Last = inl refl

-- what an empty bucket says is known, where the last sample before it is, if that is told
pub said-known : (a : Aggregator) (o u : Option Point) → (a ≡ Last → o ≡ u) → empty_cell_of a o ≡ empty_cell_of a u
said-known a o u known = elim (last-or-alone a) [
  | inl last ↦ ap (empty_cell_of a) (known last)
  | inr alone ↦ alone.alike o u
]

-- the last value of a list
pub last-pushed : (s : Summary) (p : Point) (ps : List Point) → (fold push s (p ∷ ps)).last ≡ (later_or p (last_of ps)).value
last-pushed s p [] = refl
last-pushed s p (q ∷ ps) = last-pushed (push s p) q ps

said-alone : (bs : Buckets) → IsAlone bs.agg → (later : Cell) (xs : List Point) → said_past bs later xs ≡ later
said-alone bs alone later [] = refl
said-alone bs alone later (x ∷ xs) = alone.same later (Number (aggregate bs.agg (x ∷ xs)))

said-last : (bs : Buckets) → bs.agg ≡ Last → (o : Option Point) (later : Cell) (xs : List Point) → later ≡ last_value o → said_past bs later xs ≡ last_value (option_or (last_of xs) o)
said-last bs last o later [] is = is
said-last bs last o later (x ∷ xs) is =
    ap (λ (a : Aggregator). fill_value_after a later (Number (aggregate a (x ∷ xs)))) last ∙ ap (λ (v : ℤ). Number v) (last-pushed nothing x xs)

-- ---- the line

-- what empty buckets say from this one on, of which the samples from its start, or from the interval's, are these
pub record IsSaying (bs : Buckets) (l : List Point) (from to k : ℕ) (now later : Cell) (ps : List Point) : Type 0 where
  pub first : now ≡ empty_cell_of bs.agg (last_before (begin bs.grid k) l)
  pub others : later ≡ empty_cell_of bs.agg (last_before (max from (begin bs.grid k)) l)
  pub all : bs.agg ≡ Last → ps ≡ between (max from (begin bs.grid k)) to l

module _ (bs : Buckets) (some : 1 ≤ bs.grid.duration) (l : List Point) (rises : IsAscending l) (from to lo first last : ℕ) (base : number bs.grid lo ≤ first)
    (inside : from < begin bs.grid (suc first)) (ends : begin bs.grid last ≤ to) where
  says : (k : ℕ) (now later : Cell) (ps : List Point) → IsSaying bs l from to k now later ps → now ≡ empty_cell bs.agg (begin bs.grid k) l
  says k now later ps is = is.first ∙ sym (empty-told bs.agg (begin bs.grid k) l)

  module _ (k : ℕ) (low : first ≤ k) (high : suc k ≤ last) where
    -- the next bucket begins past a time where that is in this one or before it
    before-next : (t : ℕ) → nat_lt (number bs.grid t) (suc k) ≡ nat_lt t (begin bs.grid (suc k))
    before-next t = elim (cases_lt k (number bs.grid t)) [
      | inl less ↦
          let e = begin-mono bs.grid some (suc k) (number bs.grid t) (omega arith) in
          let f = start_number bs.grid some t in
          let h = start-le bs.grid t some in
          grind (arith, nat_tests)
      | inr more ↦
          let e = passed bs.grid some t in
          let f = mul-le-mul_left bs.grid.duration more in
          let h = mul-suc bs.grid.duration k in
          let a = after-align bs.grid some lo (suc k) (omega arith) in
          let less : t < begin bs.grid (suc k) = omega arith in
          lt-ltb (number bs.grid t) (suc k) (omega arith) ∙ sym (lt-ltb t (begin bs.grid (suc k)) less)
    ]

    not-past : max from (begin bs.grid k) ≤ begin bs.grid (suc k)
    not-past = let e = begin-mono bs.grid some k (suc k) (omega arith) in let f = begin-mono bs.grid some (suc first) (suc k) (omega arith) in omega arith

    from-next : max from (begin bs.grid (suc k)) ≡ begin bs.grid (suc k)
    from-next = let f = begin-mono bs.grid some (suc first) (suc k) (omega arith) in omega arith

    within : begin bs.grid (suc k) ≤ to
    within = let f = begin-mono bs.grid some (suc k) last high in omega arith

    module _ (now later : Cell) (ps : List Point) (is : IsSaying bs l from to k now later ps) where
      -- where the last value is told
      said-of-last : bs.agg ≡ Last → said_past bs later (upto bs.grid k ps) ≡ empty_cell_of bs.agg (last_before (begin bs.grid (suc k)) l)
      said-of-last last =
          let f = max from (begin bs.grid k) in
          let c = begin bs.grid (suc k) in
          let early : last_of (upto bs.grid k ps) ≡ last_before c (between f to l) =
          ap last_of (filter_agree (λ (p : Point). nat_lt (number bs.grid p.time) (suc k)) (λ (p : Point). nat_lt p.time c) (λ p. before-next p.time) ps)
          ∙ ap (last_before c) (is.all last) in
          said-last bs last (last_before f l) later (upto bs.grid k ps) (is.others ∙ ap (λ (a : Aggregator). empty_cell_of a (last_before f l)) last)
          ∙ ap (λ (o : Option Point). last_value (option_or o (last_before f l))) early
          ∙ ap last_value (before-is f to c l rises not-past within)
          ∙ ap (λ (a : Aggregator). empty_cell_of a (last_before c l)) (sym last)

      said-next : said_past bs later (upto bs.grid k ps) ≡ empty_cell_of bs.agg (last_before (begin bs.grid (suc k)) l)
      said-next = elim (last-or-alone bs.agg) [
        | inl last ↦ said-of-last last
        | inr alone ↦ said-alone bs alone later (upto bs.grid k ps) ∙ is.others ∙ alone.alike (last_before (max from (begin bs.grid k)) l) (last_before (begin bs.grid (suc k)) l)
      ]

      rest-all : bs.agg ≡ Last → past bs.grid k ps ≡ between (begin bs.grid (suc k)) to l
      rest-all last =
          let f = max from (begin bs.grid k) in
          ap (past bs.grid k) (is.all last)
          ∙ filter-filter (λ (p : Point). not (nat_lt (number bs.grid p.time) (suc k))) (λ (p : Point). is_within f to p.time) l
          ∙ filter_agree (λ (p : Point). is_within f to p.time && not (nat_lt (number bs.grid p.time) (suc k))) (λ (p : Point). is_within (begin bs.grid (suc k)) to p.time)
          (λ p. ap (λ (b : Bool). is_within f to p.time && not b) (before-next p.time) ∙ same-test f (begin bs.grid (suc k)) p.time not-past) l
        where
          same-test : (f c t : ℕ) → f ≤ c → (is_within f to t && not (nat_lt t c)) ≡ is_within c to t
          same-test f c t le = grind (arith, nat_tests)

      goes : IsSaying bs l from to (suc k) (said_past bs later (upto bs.grid k ps)) (said_past bs later (upto bs.grid k ps)) (past bs.grid k ps)
      goes = record {
        first = said-next;
        others = said-next ∙ ap (λ (t : ℕ). empty_cell_of bs.agg (last_before t l)) (sym from-next);
        all = λ last. rest-all last ∙ ap (λ (t : ℕ). between t to l) (sym from-next);
      }

  -- the rows of the buckets with samples, filled in, are those of all buckets of the line
  pub line-filled : (n : ℕ) (now later : Cell) (ps : List Point) → first + n ≡ suc last → IsAscending ps → All (IsOnLine bs.grid first last) ps → IsSaying bs l from to first now later ps
      → filled bs now later (map (begin bs.grid) (range_with_len first n)) (bucket_rows (begun bs) l ps) ≡ map (bucket_row bs l ps) (map (begin bs.grid) (range_with_len first n))
  line-filled n now later ps end up on is =
      emit_empty-line bs some l lo first last base (IsSaying bs l from to) says (λ k now later ps low high rises is. goes k low high now later ps is) n first now later ps (omega arith) end up on (λ le. is)
