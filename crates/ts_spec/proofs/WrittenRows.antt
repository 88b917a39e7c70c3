-- The rows that a write sends to a destination update it.
use Rattle.std.proofs.Common.{◌≡◌, ℕ, ℤ, ◌<◌, ◌≤◌, max, Bool, true, false, not, ◌&&◌, ◌==◌, nat_lt, if◌then◌else◌, List, [], filter, Option, Some, None, option_map, refl, sym, ap, ◌∙◌, subst, arith, inl, inr, ltb-true}
use Rattle.std.specs.Option.{option_or}
use Rattle.std.proofs.lemmas.Bool.{cases_order, cases_lt, cases_eq}
use Rattle.ts_spec.specs.Sample.{Point, at, put}
use Rattle.ts_spec.specs.Bucket.{start, members}
use Rattle.ts_spec.specs.Aggregate.{aggregate}
use Rattle.ts_spec.specs.Key.{Key}
use Rattle.ts_spec.specs.State.{Rule, Record}
use Rattle.ts_spec.specs.Rules.{is_past, is_closed, raised, is_append, is_eligible, open_of, sample_for, write_touches, lost_by}
use Rattle.ts_spec.specs.Valid.{IsUpTo, IsSoundRule, IsSound}
use Rattle.ts_spec.specs.StoredSeries.{StoredRule, summary_at, stored_rule}
use Rattle.ts_spec.specs.StoredUpdates.{written_row}
use Rattle.ts_spec.proofs.Buckets.{start-order}
use Rattle.ts_spec.proofs.Keys.{same-refl}
use Rattle.ts_spec.proofs.Samples.{at-time}
use Rattle.ts_spec.proofs.ShownAfter.{tells}
use Rattle.ts_spec.proofs.Mends.{IsUpdate}
use Rattle.ts_spec.proofs.WrittenCounts.{open-raised, members-none, counted_by, members-other, members-anew, at-written}
use Rattle.ts_spec.proofs.WrittenRules.{by-before, by-here, by-past}
use Rattle.ts_spec.proofs.BucketRows.{row_over, at-bucket, tells-row, any-at, unmet, closed, unclosed, here-only, here-same, or-none}

-- ---- a write

-- an append is not before the open bucket
append-here : (d : Record) (r : Rule) (t h : ℕ) → IsSoundRule d r → r.top ≡ Some h → is_append t d.high ≡ true → start r.grid h ≤ start r.grid t
append-here d r t h s e x = start-order r.grid h t (go d.high refl (s.top h e))
  where
    go : (o : Option ℕ) → d.high ≡ o → IsUpTo d.high h → h ≤ t
    go None y z = absurd (subst (λ (q : Option ℕ). IsUpTo q h) y z)
    go (Some w) y z =
        let up : h ≤ w = subst (λ (q : Option ℕ). IsUpTo q h) y z in
        let past : w < t = ltb-true w t (ap (is_append t) (sym y) ∙ x) in
        omega arith

module _ (t : ℕ) (v : ℤ) (d : Record) (own : IsSound d) (r : Rule) (s : IsSoundRule d r) (born : ℕ) where
  -- the new row of the rule at a time, by its open bucket
  tells-after : (c : ℕ) → tells (counted_by t v d r) born c ≡
      (if is_past (raised (start r.grid t) (open_of r)) c then row_over r.agg born c (members r.grid c (counted_by t v d r).seen) else None)
  tells-after c =
      tells-row (counted_by t v d r) born c
      ∙ ap (λ (o : Option ℕ). if is_past o c then row_over r.agg born c (members r.grid c (counted_by t v d r).seen) else None) (open-raised r.grid t r.top)

  -- nothing is counted past the open bucket
  none-past : (h c : ℕ) → r.top ≡ Some h → start r.grid h < c → members r.grid c r.seen ≡ []
  none-past h c e past = members-none r.grid c r.seen s.ascending
      (λ u p x y. let up : p.time ≤ h = subst (λ (o : Option ℕ). IsUpTo o p.time) e (s.seen u p x).time in
      let same : p.time ≡ u = at-time u r.seen p x in
      let at_most : start r.grid u ≤ start r.grid h = start-order r.grid u h (omega arith) in absurd (omega arith))

  -- the stored rule, by its highest time
  abbrev kept_by : Option ℕ → StoredRule
  kept_by top = record (stored_rule r) { current = option_map (start r.grid) top; running = summary_at r (option_map (start r.grid) top) }

  -- the rows, by its highest time
  abbrev rows_by : Option ℕ → List Point
  rows_by top = written_row (sample_for t v d) (put (sample_for t v d) d.plain) born (kept_by top)

  -- the eligible samples of the bucket of the write
  abbrev anew : List Point
  anew = filter (is_eligible r) (members r.grid (start r.grid t) (put (sample_for t v d) d.plain))

  row-before : (h c : ℕ) → start r.grid t < start r.grid h → at c (rows_by (Some h)) ≡ (if start r.grid t == c then row_over r.agg born (start r.grid t) anew else None)
  row-before h c x = ap (at c) (by-before (start r.grid t) (start r.grid h) _ _ _ x) ∙ at-bucket r.agg born (start r.grid t) c anew

  row-here : (h c : ℕ) → start r.grid t ≡ start r.grid h → at c (rows_by (Some h)) ≡ None
  row-here h c x = ap (at c) (by-here (start r.grid t) (start r.grid h) _ _ _ x)

  row-past : (h c : ℕ) → start r.grid h < start r.grid t → at c (rows_by (Some h)) ≡ (if start r.grid h == c then row_over r.agg born (start r.grid h) (members r.grid (start r.grid h) r.seen) else None)
  row-past h c x = ap (at c) (by-past (start r.grid t) (start r.grid h) _ _ _ x) ∙ at-bucket r.agg born (start r.grid h) c (members r.grid (start r.grid h) r.seen)

  -- a late write before the open bucket sends the row of its bucket
  row-there : row_over r.agg born (start r.grid t) anew ≡ Some (record { time = start r.grid t; value = aggregate r.agg anew; made = born })
  row-there = ap (λ (b : Bool). if b then Some (record { time = start r.grid t; value = aggregate r.agg anew; made = born }) else None) (any-at anew t (sample_for t v d) (at-written t v d own r s))

  -- the members of another bucket than that of the write stay, and so does its row
  over-other : (c : ℕ) → (start r.grid t ≡ c → ⊥) → row_over r.agg born c (members r.grid c (counted_by t v d r).seen) ≡ row_over r.agg born c (members r.grid c r.seen)
  over-other c x = ap (row_over r.agg born c) (members-other t v d own r s c x)

  -- the row at a time, if the rule had an open bucket
  at-each : (h c : ℕ) → r.top ≡ Some h →
      (if nat_lt c (max (start r.grid h) (start r.grid t)) then row_over r.agg born c (members r.grid c (counted_by t v d r).seen) else None) ≡
      option_or (at c (rows_by (Some h))) (if nat_lt c (start r.grid h) then row_over r.agg born c (members r.grid c r.seen) else None)
  at-each h c e = elim (cases_order (start r.grid t) (start r.grid h)) [
    | inl x ↦ ap (λ (o : ℕ). if nat_lt c o then row_over r.agg born c (members r.grid c (counted_by t v d r).seen) else None) (omega arith) ∙ same x
        ∙ ap (λ (o : Option Point). option_or o (if nat_lt c (start r.grid h) then row_over r.agg born c (members r.grid c r.seen) else None)) (sym (row-here h c x))
    | inr (inl x) ↦ ap (λ (o : ℕ). if nat_lt c o then row_over r.agg born c (members r.grid c (counted_by t v d r).seen) else None) (omega arith) ∙ before x (is_append t d.high) refl
        ∙ ap (λ (o : Option Point). option_or o (if nat_lt c (start r.grid h) then row_over r.agg born c (members r.grid c r.seen) else None)) (sym (row-before h c x))
    | inr (inr x) ↦ ap (λ (o : ℕ). if nat_lt c o then row_over r.agg born c (members r.grid c (counted_by t v d r).seen) else None) (omega arith) ∙ past x
        ∙ ap (λ (o : Option Point). option_or o (if nat_lt c (start r.grid h) then row_over r.agg born c (members r.grid c r.seen) else None)) (sym (row-past h c x))
  ]
    where
      same : start r.grid t ≡ start r.grid h → (if nat_lt c (start r.grid h) then row_over r.agg born c (members r.grid c (counted_by t v d r).seen) else None) ≡
          (if nat_lt c (start r.grid h) then row_over r.agg born c (members r.grid c r.seen) else None)
      same x = elim (cases_lt c (start r.grid h)) [
        | inl y ↦ ap (λ (o : Option Point). if nat_lt c (start r.grid h) then o else None) (over-other c (λ z. absurd (omega arith)))
        | inr y ↦ unclosed c (start r.grid h) _ y ∙ sym (unclosed c (start r.grid h) _ y)
      ]

      before : start r.grid t < start r.grid h → (b : Bool) → is_append t d.high ≡ b →
          (if nat_lt c (start r.grid h) then row_over r.agg born c (members r.grid c (counted_by t v d r).seen) else None) ≡
          option_or (if start r.grid t == c then row_over r.agg born (start r.grid t) anew else None) (if nat_lt c (start r.grid h) then row_over r.agg born c (members r.grid c r.seen) else None)
      before x true y = let up : start r.grid h ≤ start r.grid t = append-here d r t h s e y in absurd (omega arith)
      before x false y = elim (cases_eq (start r.grid t) c) [
        | inl z ↦
            closed c (start r.grid h) _ (omega arith)
            ∙ ap (λ (n : ℕ). row_over r.agg born n (members r.grid n (counted_by t v d r).seen)) (sym z)
            ∙ ap (row_over r.agg born (start r.grid t)) (members-anew t v d own r s y)
            ∙ row-there
            ∙ ap (λ (o : Option Point). option_or o (if nat_lt c (start r.grid h) then row_over r.agg born c (members r.grid c r.seen) else None)) (sym (here-same (start r.grid t) c _ z ∙ row-there))
        | inr z ↦
            ap (λ (o : Option Point). if nat_lt c (start r.grid h) then o else None) (over-other c z)
            ∙ ap (λ (o : Option Point). option_or o (if nat_lt c (start r.grid h) then row_over r.agg born c (members r.grid c r.seen) else None)) (sym (here-only (start r.grid t) c _ z))
      ]

      past : start r.grid h < start r.grid t → (if nat_lt c (start r.grid t) then row_over r.agg born c (members r.grid c (counted_by t v d r).seen) else None) ≡
          option_or (if start r.grid h == c then row_over r.agg born (start r.grid h) (members r.grid (start r.grid h) r.seen) else None) (if nat_lt c (start r.grid h) then row_over r.agg born c (members r.grid c r.seen) else None)
      past x = elim (cases_order c (start r.grid h)) [
        | inl y ↦
            closed c (start r.grid t) _ (omega arith)
            ∙ over-other c (λ z. absurd (omega arith))
            ∙ ap (λ (n : ℕ). row_over r.agg born n (members r.grid n r.seen)) y
            ∙ sym (or-none (row_over r.agg born (start r.grid h) (members r.grid (start r.grid h) r.seen)))
            ∙ ap (option_or (row_over r.agg born (start r.grid h) (members r.grid (start r.grid h) r.seen))) (sym (unclosed c (start r.grid h) _ (omega arith)))
            ∙ ap (λ (o : Option Point). option_or o (if nat_lt c (start r.grid h) then row_over r.agg born c (members r.grid c r.seen) else None)) (sym (here-same (start r.grid h) c _ (sym y)))
        | inr (inl y) ↦
            closed c (start r.grid t) _ (omega arith)
            ∙ over-other c (λ z. absurd (omega arith))
            ∙ sym (closed c (start r.grid h) _ y)
            ∙ ap (λ (o : Option Point). option_or o (if nat_lt c (start r.grid h) then row_over r.agg born c (members r.grid c r.seen) else None)) (sym (here-only (start r.grid h) c _ (λ z. absurd (omega arith))))
        | inr (inr y) ↦
            none y
            ∙ sym (unclosed c (start r.grid h) _ (omega arith))
            ∙ ap (λ (o : Option Point). option_or o (if nat_lt c (start r.grid h) then row_over r.agg born c (members r.grid c r.seen) else None)) (sym (here-only (start r.grid h) c _ (λ z. absurd (omega arith))))
      ]
        where
          none : start r.grid h < c → (if nat_lt c (start r.grid t) then row_over r.agg born c (members r.grid c (counted_by t v d r).seen) else None) ≡ None
          none y = elim (cases_lt c (start r.grid t)) [
            | inl z ↦ closed c (start r.grid t) _ z ∙ over-other c (λ w. absurd (omega arith)) ∙ ap (row_over r.agg born c) (none-past h c e y)
            | inr z ↦ unclosed c (start r.grid t) _ z
          ]

  -- the row at a time
  told-after : (c : ℕ) → tells (counted_by t v d r) born c ≡ option_or (at c (written_row (sample_for t v d) (put (sample_for t v d) d.plain) born (stored_rule r))) (tells r born c)
  told-after c = tells-after c ∙ go r.top refl ∙ ap (option_or (at c (rows_by r.top))) (sym (tells-row r born c))
    where
      go : (top : Option ℕ) → r.top ≡ top →
          (if is_past (raised (start r.grid t) (option_map (start r.grid) top)) c then row_over r.agg born c (members r.grid c (counted_by t v d r).seen) else None) ≡
          option_or (at c (rows_by top)) (if is_past (option_map (start r.grid) top) c then row_over r.agg born c (members r.grid c r.seen) else None)
      go None e = elim (cases_lt c (start r.grid t)) [
        | inl x ↦ closed c (start r.grid t) _ x ∙ over-other c (λ y. absurd (omega arith))
            ∙ ap (row_over r.agg born c) (members-none r.grid c r.seen s.ascending (λ u p y z. subst (λ (o : Option ℕ). IsUpTo o p.time) e (s.seen u p y).time))
        | inr x ↦ unclosed c (start r.grid t) _ x
      ]
      go (Some h) e = at-each h c e

  -- without a row, the destination loses no own sample
  lost-none : (key : Key) (c : ℕ) → at c (written_row (sample_for t v d) (put (sample_for t v d) d.plain) born (stored_rule r)) ≡ None →
      lost_by key (write_touches t d.high) (Some (record { source = key; rule = counted_by t v d r })) c ≡ false
  lost-none key c none =
      ap (λ (b : Bool). b && (write_touches t d.high (counted_by t v d r) c && is_closed (counted_by t v d r) c)) (same-refl key)
      ∙ ap (λ (o : Option ℕ). (not (is_append t d.high) && (c == start r.grid t)) && is_past o c) (open-raised r.grid t r.top)
      ∙ go r.top refl none
    where
      go : (top : Option ℕ) → r.top ≡ top → at c (rows_by top) ≡ None → ((not (is_append t d.high) && (c == start r.grid t)) && is_past (raised (start r.grid t) (option_map (start r.grid) top)) c) ≡ false
      go None e x = unmet (not (is_append t d.high)) c (start r.grid t) (start r.grid t) (λ y z. absurd (omega arith))
      go (Some h) e x = unmet (not (is_append t d.high)) c (start r.grid t) (max (start r.grid h) (start r.grid t)) (λ y z. row h y (omega arith) x)
        where
          row : (h : ℕ) → c ≡ start r.grid t → start r.grid t < start r.grid h → at c (rows_by (Some h)) ≡ None → ⊥
          row h y z w =
              let one : Some (record { time = start r.grid t; value = aggregate r.agg anew; made = born }) ≡ None =
              sym (row-before h c z ∙ here-same (start r.grid t) c _ (sym y) ∙ row-there) ∙ w in
              cc one

  -- The rows of a write update a destination of the rule.
  pub write-mends : (key : Key) → IsUpdate r (counted_by t v d r) born (lost_by key (write_touches t d.high) (Some (record { source = key; rule = counted_by t v d r }))) (λ b. false)
      (written_row (sample_for t v d) (put (sample_for t v d) d.plain) born (stored_rule r))
  write-mends key = record { told = told-after; own = lost-none key }
