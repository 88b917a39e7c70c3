-- A scan by a visitor that merges a row in.
use Rattle.std.proofs.Common.{◌≡◌, ◌≤◌, ◌+◌, ℕ, Bool, true, false, cond, List, [], ◌∷◌, ◌++◌, length, refl, sym, ◌∙◌, ap, subst, arith, MutBor, ltb-true, le-ltb}
use Rattle.std.specs.Prelude.{nat_lt, if◌then◌else◌, Option, None, Some}
use Rattle.std.proofs.lemmas.Bool.Decides.{nat_tests}
use Rattle.ts_spec.specs.Sample.{Point, IsAfter, IsAscending, at_times, put}
use Rattle.ts_sample.specs.Visit.{visited}
use Rattle.ts_sample.proofs.Replacing.{none-before, all-past}
use Rattle.ts_db.specs.declared.row_merger.RowMerger.{RowMerger}
use Rattle.ts_db.specs.RowMerger.{with_sample, finished, capacity_beside}
use Rattle.ts_db.proofs.Rows.{later}

-- ---- a row put into a list

-- past the first sample
put-later : (row q : Point) (qs : List Point) → nat_lt q.time row.time ≡ true → put row (q ∷ qs) ≡ q ∷ put row qs
put-later row q qs x =
    let not_past : nat_lt row.time q.time ≡ false = le-ltb row.time q.time (let less = ltb-true q.time row.time x in omega (arith, less)) in
    ap (λ b. cond b (q ∷ at_times (λ u. nat_lt u row.time) qs) (at_times (λ u. nat_lt u row.time) qs) ++ row ∷ at_times (nat_lt row.time) (q ∷ qs)) x
    ∙ ap (λ b. q ∷ (at_times (λ u. nat_lt u row.time) qs ++ row ∷ cond b (q ∷ at_times (nat_lt row.time) qs) (at_times (nat_lt row.time) qs))) not_past

-- in its place or before it
put-first : (row q : Point) (qs : List Point) → IsAscending (q ∷ qs) → nat_lt q.time row.time ≡ false → put row (q ∷ qs) ≡ row ∷ (if nat_lt row.time q.time then q ∷ qs else qs)
put-first row q qs h x =
    let least : row.time ≤ q.time = grind (arith, nat_tests) in
    let after : IsAfter row.time qs = later row.time q.time qs least h.0 in
    ap (λ b. cond b (q ∷ at_times (λ u. nat_lt u row.time) qs) (at_times (λ u. nat_lt u row.time) qs) ++ row ∷ at_times (nat_lt row.time) (q ∷ qs)) x
    ∙ ap (λ (l : List Point). l ++ row ∷ at_times (nat_lt row.time) (q ∷ qs)) (none-before row.time qs after)
    ∙ ap (λ (l : List Point). row ∷ cond (nat_lt row.time q.time) (q ∷ l) l) (all-past row.time qs after)
    ∙ go (nat_lt row.time q.time)
  where
    go : (b : Bool) → row ∷ cond b (q ∷ qs) qs ≡ row ∷ (if b then q ∷ qs else qs)
    go true = refl
    go false = refl

-- ---- the walk

module _ {V : Type 0} (step : V → Point → V) where
  -- after the row samples are taken as they come
  without-row : (b : MutBor V) (ps : List Point) → visited (with_sample step) (record { visit = b; row = None }) ps ≡ record { visit = record b { now = visited step b.now ps }; row = None }
  without-row b [] = refl
  without-row b (p ∷ ps) = without-row (record b { now = step b.now p }) ps

  -- with it they are those of the list with the row put in
  pub with-row : (b : MutBor V) (row : Point) (ps : List Point) → IsAscending ps
      → finished step (visited (with_sample step) (record { visit = b; row = Some row }) ps) ≡ record { visit = record b { now = visited step b.now (put row ps) }; row = None }
  with-row b row [] h = refl
  with-row b row (q ∷ qs) h = go (with-row (record b { now = step b.now q }) row qs h.1) (nat_lt q.time row.time) refl
    where
      goal : List Point → RowMerger V
      goal l = record { visit = record b { now = visited step b.now l }; row = None }

      state : (b c : Bool) → V
      state x y = if x then step b.now q else (if y then step (step b.now row) q else step b.now row)

      after : (x y : Bool) → RowMerger V
      after x y = finished step (visited (with_sample step) (record { visit = record b { now = state x y }; row = if x then Some row else None }) qs)

      past : (y : Bool) → nat_lt row.time q.time ≡ y → after false y ≡ goal (row ∷ (if y then q ∷ qs else qs))
      past true e = ap (finished step) (without-row (record b { now = step (step b.now row) q }) qs)
      past false e = ap (finished step) (without-row (record b { now = step b.now row }) qs)

      go : after true true ≡ goal (q ∷ put row qs) → (x : Bool) → nat_lt q.time row.time ≡ x → after (nat_lt q.time row.time) (nat_lt row.time q.time) ≡ goal (put row (q ∷ qs))
      go rest true e =
          ap (λ x. after x (nat_lt row.time q.time)) e
          ∙ rest
          ∙ ap goal (sym (put-later row q qs e))
      go rest false e =
          ap (λ x. after x (nat_lt row.time q.time)) e
          ∙ past (nat_lt row.time q.time) refl
          ∙ ap goal (sym (put-first row q qs h e))

  -- if the row is still pending, there is capacity for it
  module _ (room : V → ℕ) (lowers : (v : V) (p : Point) → room v ≤ room (step v p) + 1) where
    none-waits : (b : MutBor V) (ps : List Point) (row : Point) → (visited (with_sample step) (record { visit = b; row = None }) ps).row ≡ Some row → ⊥
    none-waits b ps row e = absurd (cc (sym (ap (λ (w : RowMerger V). w.row) (without-row b ps)) ∙ e))

    pub room-waits : (b : MutBor V) (row last : Point) (ps : List Point) → (visited (with_sample step) (record { visit = b; row = Some row }) ps).row ≡ Some last
        → room b.now ≤ room (visited (with_sample step) (record { visit = b; row = Some row }) ps).visit.now + length ps
    room-waits b row last [] e = omega arith
    room-waits b row last (q ∷ qs) e = go (λ f. room-waits (record b { now = step b.now q }) row last qs f) (nat_lt q.time row.time) (nat_lt row.time q.time) e
      where
        state : (x y : Bool) → V
        state x y = if x then step b.now q else (if y then step (step b.now row) q else step b.now row)

        after : (x y : Bool) → RowMerger V
        after x y = visited (with_sample step) (record { visit = record b { now = state x y }; row = if x then Some row else None }) qs

        go : ((after true true).row ≡ Some last → room (step b.now q) ≤ room (after true true).visit.now + length qs)
            → (x y : Bool) → (after x y).row ≡ Some last → room b.now ≤ room (after x y).visit.now + length (q ∷ qs)
        go rest true y e = omega (arith, rest e, lowers b.now q)
        go rest false true e = absurd (none-waits (record b { now = step (step b.now row) q }) qs last e)
        go rest false false e = absurd (none-waits (record b { now = step b.now row }) qs last e)

    room-left : (w : RowMerger V) (last : Point) (ps : List Point) → length ps + 1 ≤ room w.visit.now → (visited (with_sample step) w ps).row ≡ Some last → 1 ≤ room (visited (with_sample step) w ps).visit.now
    room-left w last ps enough e = go w.row e
      where
        go : (o : Option Point) → (visited (with_sample step) (record { visit = w.visit; row = o }) ps).row ≡ Some last → 1 ≤ room (visited (with_sample step) (record { visit = w.visit; row = o }) ps).visit.now
        go None e = absurd (none-waits w.visit ps last e)
        go (Some row) e = omega (arith, enough, room-waits w.visit row last ps e)

    pub room-still : (w mid : RowMerger V) (last : Point) (ps : List Point) → length ps + 1 ≤ room w.visit.now → mid ≡ visited (with_sample step) w ps → mid.row ≡ Some last → 1 ≤ room mid.visit.now
    room-still w mid last ps enough is e =
        subst (λ (x : RowMerger V). 1 ≤ room x.visit.now) (sym is) (room-left w last ps enough (sym (ap (λ (x : RowMerger V). x.row) is) ∙ e))

  -- the visitor behind stays the same one
  same-reference : (w : RowMerger V) (ps : List Point) → (visited (with_sample step) w ps).visit.ghost_name ≡ w.visit.ghost_name
  same-reference w [] = refl
  same-reference w (p ∷ ps) = same-reference (with_sample step w p) ps

  pub still-same : (w mid new : RowMerger V) (ps : List Point) → mid ≡ visited (with_sample step) w ps → new ≡ finished step mid → new.visit.ghost_name ≡ w.visit.ghost_name
  still-same w mid new ps walk end = ap (λ (x : RowMerger V). x.visit.ghost_name) end ∙ ap (λ (x : RowMerger V). x.visit.ghost_name) walk ∙ same-reference w ps

  -- and has taken the row among the samples
  pub in_key_order-with : (w mid new : RowMerger V) (row : Point) (ps : List Point) → IsAscending ps → w.row ≡ Some row → mid ≡ visited (with_sample step) w ps → new ≡ finished step mid
      → new.visit.now ≡ visited step w.visit.now (put row ps)
  in_key_order-with w mid new row ps h waits walk end =
      ap (λ (x : RowMerger V). x.visit.now)
      (end ∙ ap (finished step) walk
      ∙ ap (λ (o : Option Point). finished step (visited (with_sample step) (record { visit = w.visit; row = o }) ps)) waits
      ∙ with-row w.visit row ps h)

-- the room of the visitor behind is enough for both
pub beside-room : (room n : ℕ) (o : Option Point) → n + 1 ≤ room → n ≤ capacity_beside room o
beside-room room n None enough = omega (arith, enough)
beside-room room n (Some row) enough = omega (arith, enough)
