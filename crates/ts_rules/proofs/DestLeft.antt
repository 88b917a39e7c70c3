-- Updating a destination after a deletion on its source: over the interval from the start of the first bucket to that
-- of the last, the rows replace the samples that are lost.
use Rattle.std.proofs.Common.{◌≡◌, ◌≢◌, ◌⊎◌, inl, inr, ℕ, ◌<◌, ◌≤◌, Bool, true, false, not, ◌==◌, cond, if◌then◌else◌, List, [], ◌∷◌, ◌++◌, filter, length, Option, None, Some, refl, sym, ap, ◌∙◌, subst, arith, eq-eqb, lt-ltb, ltb-true}
use Rattle.std.specs.Prelude.{Result}
use Rattle.std.proofs.lemmas.Bool.{false≢true, and_parts}
use Rattle.ts_spec.specs.Sample.{Point, IsAscending, at, at_times, between, is_within, put_all}
use Rattle.ts_spec.specs.Bucket.{start, starts}
use Rattle.ts_spec.specs.Aggregate.{Summary, result_of}
use Rattle.ts_spec.specs.Rules.{is_past}
use Rattle.ts_spec.specs.Valid.{IsUpTo, Every}
use Rattle.ts_spec.specs.StoredUpdates.{bucket_row, recounted_bucket, high_after_rows, lies_in, rows_of}
use Rattle.ts_spec.proofs.Buckets.{start-order}
use Rattle.ts_spec.proofs.Samples.{at-time}
use Rattle.ts_spec.proofs.TwoBuckets.{loses-within}
use Rattle.ts_spec.proofs.TwoRows.{end_rows, two-rows}
use Rattle.ts_spec.proofs.Spans.{span_rows, high-span, updated_list-deletion}
use Rattle.ts_sample.specs.Chunk.{AreMade}
use Rattle.ts_series.specs.History.{History, IsKept, list_of}
use Rattle.ts_series.specs.Plan.{Plan, AreWithin}
use Rattle.ts_rules.specs.declared.rule.Rule.{Rule}
use Rattle.ts_rules.specs.declared.plan.RuleFault.{RuleFault}
use Rattle.ts_rules.specs.Rules.{stored_rule_for, one_of}
use Rattle.ts_rules.specs.Plans.{list_after_update, IsUpdatedBy, IsUpdate}
use Rattle.ts_rules.specs.Deletions.{gone_of, left_of, is_lost, rows_left, row_left, span_left}
use Rattle.ts_rules.proofs.Mended.{mending-same, stays}
use Rattle.ts_rules.proofs.Stays.{IsRowAt, span-put, span-ascending, span-within, span-made}
use Rattle.ts_rules.proofs.Times.{true-unless, within-from}

-- ---- where the first bucket is not closed

pub none-pass : (test : ℕ → Bool) (bs : List ℕ) → ((b : ℕ) → test b ≡ false) → filter test bs ≡ []
none-pass test [] h = refl
none-pass test (b ∷ bs) h = ap (λ (x : Bool). cond x (b ∷ filter test bs) (filter test bs)) (h b) ∙ none-pass test bs h

past-before : (o : Option ℕ) (b c : ℕ) → b ≤ c → is_past o c ≡ true → is_past o b ≡ true
past-before None b c h e = e
past-before (Some o) b c h e = (let x : c < o = ltb-true c o e in lt-ltb b o (omega (arith, x, h)))

module _ (r : Rule) (source : History) (from to : ℕ) where
  open-first : is_past r.current (start r.grid from) ≡ false → (t : ℕ) → is_lost r source from to t ≡ false
  open-first e t =
      true-unless (is_lost r source from to t)
      (λ x. false≢true (sym e ∙ past-before r.current (start r.grid from) t (within-from (start r.grid from) (start r.grid to) t (loses-within (stored_rule_for [] r) from to t (list_of source) x))
      (and_parts (is_past r.current t) (lies_in r.grid (gone_of source from to) t) x).0))

  -- Then the destination stays as it is.
  pub dest-stays : (limit : ℕ) (h : History) → IsKept h → length (list_of h) ≤ limit → is_past r.current (start r.grid from) ≡ false →
      IsUpdatedBy limit (is_lost r source from to) (rows_left r source from to h.born) h None
  dest-stays limit h kept fits e =
      stays limit (is_lost r source from to) (rows_left r source from to h.born) h kept fits
      (ap (rows_of (left_of source from to) h.born (stored_rule_for [] r)) (none-pass (is_lost r source from to) (starts r.grid (left_of source from to)) (open-first e)))
      (open-first e)

-- ---- the rows of the two ends

-- the row of a bucket, as a sample that there may be
pub record RowOf (gone : ℕ → Bool) (b born : ℕ) (rows : List Point) : Type 0 where
  pub row : Option Point
  pub is : rows ≡ one_of row
  pub lies : IsRowAt gone b born row

row-of : (r : Rule) (source : History) (from to born b : ℕ) → RowOf (is_lost r source from to) b born (row_left r source from to born b)
row-of r source from to born b = go (is_lost r source from to b) refl (recounted_bucket (stored_rule_for [] r) b (left_of source from to))
  where
    go : (x : Bool) → is_lost r source from to b ≡ x → (s : Summary) → RowOf (is_lost r source from to) b born (if x then bucket_row r.agg born b s else [])
    go false e s = record { row = None; is = refl; lies = tt }
    go true e s = counted (s.count == 0)
      where
        counted : (y : Bool) → RowOf (is_lost r source from to) b born (if y then [] else record { time = b; value = result_of r.agg s; made = born } ∷ [])
        counted true = record { row = None; is = refl; lies = tt }
        counted false = record { row = Some (record { time = b; value = result_of r.agg s; made = born }); is = refl; lies = (refl, e, omega arith) }

-- that of the last bucket, if it is another than the first
pub record LastRowOf (gone : ℕ → Bool) (low up born : ℕ) (rows : List Point) : Type 0 where
  pub row : Option Point
  pub is : rows ≡ one_of row
  pub lies : IsRowAt gone up born row
  pub apart : (row ≡ None) ⊎ (low < up)

last-row-of : (gone : ℕ → Bool) (low up born : ℕ) (rows : List Point) → low ≤ up → RowOf gone up born rows → LastRowOf gone low up born (if low == up then [] else rows)
last-row-of gone low up born rows order x = go (low == up) refl
  where
    go : (b : Bool) → (low == up) ≡ b → LastRowOf gone low up born (if b then [] else rows)
    go true e = record { row = None; is = refl; lies = tt; apart = inl refl }
    go false e =
        let other : low ≢ up = λ f. false≢true (sym e ∙ eq-eqb low up f) in
        record { row = x.row; is = x.is; lies = x.lies; apart = inr (omega (arith, order, other)) }

-- ---- over the interval

module _ (r : Rule) (source h : History) (from to : ℕ) (order : from ≤ to) (ascending : IsAscending (list_of source)) (kept : IsKept h) where
  abbrev low : ℕ
  low = start r.grid from

  abbrev up : ℕ
  up = start r.grid to

  ordered : low ≤ up
  ordered = start-order r.grid from to order

  first : RowOf (is_lost r source from to) low h.born (row_left r source from to h.born low)
  first = row-of r source from to h.born low

  last : LastRowOf (is_lost r source from to) low up h.born (if low == up then [] else row_left r source from to h.born up)
  last = last-row-of (is_lost r source from to) low up h.born (row_left r source from to h.born up) ordered (row-of r source from to h.born up)

  made : Every (λ p. p.made ≤ h.born) (list_of h)
  made t p e = (kept.own t p e).made

  below : (t : ℕ) (p : Point) → at t (list_of h) ≡ Some p → IsUpTo h.high t
  below t p e = subst (IsUpTo h.high) (at-time t (list_of h) p e) (kept.own t p e).time

  abbrev stayed : List Point
  stayed = at_times (λ t. not (is_lost r source from to t)) (between low up (list_of h))

  -- what the code hands to the mending
  span-is : span_left r source from to h.born low up (list_of h) ≡ (one_of first.row ++ stayed) ++ one_of last.row
  span-is = λ i. (first.is i ++ stayed) ++ last.is i

  -- it is what the definition has there
  span-rows : span_left r source from to h.born low up (list_of h) ≡
      span_rows (is_lost r source from to) (end_rows (gone_of source from to) (left_of source from to) h.born (stored_rule_for [] r) low up) low up (list_of h)
  span-rows =
      span-is
      ∙ span-put (is_lost r source from to) low up h.born (list_of h) kept.ascending made first.row last.row first.lies last.lies last.apart
      ∙ (λ i. put_all (sym first.is i ++ sym last.is i) stayed)

  pub left-ascending : IsAscending (span_left r source from to h.born low up (list_of h))
  left-ascending = subst IsAscending (sym span-is) (span-ascending (is_lost r source from to) low up h.born (list_of h) kept.ascending made first.row last.row first.lies last.lies last.apart)

  pub left-within : AreWithin low up (span_left r source from to h.born low up (list_of h))
  left-within = subst (AreWithin low up) (sym span-is) (span-within (is_lost r source from to) low up h.born (list_of h) kept.ascending made first.row last.row ordered first.lies last.lies)

  pub left-made : AreMade h.born (span_left r source from to h.born low up (list_of h))
  left-made = subst (AreMade h.born) (sym span-is) (span-made (is_lost r source from to) low up h.born (list_of h) kept.ascending made first.row last.row ordered first.lies last.lies)

  -- The mending of the interval is that of the deletion.
  pub dest-updated_list : (limit : ℕ) (result : Result (Option Plan) RuleFault) → IsUpdate limit (is_within low up) (span_left r source from to h.born low up (list_of h)) h result →
      IsUpdate limit (is_lost r source from to) (rows_left r source from to h.born) h result
  dest-updated_list limit result x =
      mending-same limit (is_within low up) (is_lost r source from to) (span_left r source from to h.born low up (list_of h)) (rows_left r source from to h.born) h
      (ap (λ (rows : List Point). list_after_update (is_within low up) rows h) span-rows
      ∙ sym (updated_list-deletion h.options.retention h.high from to (list_of source) h.born (stored_rule_for [] r) (list_of h) order ascending kept.ascending below))
      (ap (λ (rows : List Point). high_after_rows rows h.high) span-rows
      ∙ high-span (is_lost r source from to) (end_rows (gone_of source from to) (left_of source from to) h.born (stored_rule_for [] r) low up) low up (list_of h) h.high below
      ∙ ap (λ (rows : List Point). high_after_rows rows h.high) (sym (two-rows from to (list_of source) h.born (stored_rule_for [] r) order ascending)))
      result x
