-- Aggregates in slots, after adding one more row.
use Rattle.std.proofs.Common.{◌≡◌, ◌≤◌, ◌<◌, ◌+◌, ℕ, ◌==◌, nat_lt, Bool, true, false, cond, List, [], ◌∷◌, ◌++◌, length, map, All, Option, None, Some, refl, sym, ap, ◌∙◌, subst, arith, eq-eqb, eqb-true, ne_eqb}
use Rattle.std.proofs.Math.ListN.{get_or-append, set}
use Rattle.std.proofs.Math.Seq.{get_or-append_seam}
use Rattle.std.proofs.lemmas.Bool.{ltb-true, ltb-false, eqb-false, false≢true}
use Rattle.std.proofs.lemmas.List.{length-append, length-set, get_or-set_same, get_or-set_other}
use Rattle.std.proofs.lemmas.Map.Views.{All-keys-insert_entry}
use Rattle.std.proofs.lemmas.List.Elements.{All-nil, All-cons, All-head, All-tail, All-weaker, All-rest}
use Rattle.std.proofs.lemmas.Option.{none-some}
use Rattle.std.proofs.lemmas.Map.Made.{lookup-map_values}
use Rattle.std.specs.Ordering.{nat_cmp, match_ordering}
use Rattle.std.specs.Option.{option_map}
use Rattle.std.specs.declared.cmp.Ordering.{Ordering}
use Rattle.std.specs.declared.cmp.Ordering.TheVariants.{Less, Equal, Greater}
use Rattle.std.specs.BTreeMap.{is_at, insert_entry}
use Rattle.std.specs.Map.{keys_of, lookup, set_value}
use Rattle.ts_spec.specs.Sample.{Point, MAX_TIME}
use Rattle.ts_spec.specs.Answer.{Row}
use Rattle.ts_spec.specs.Groups.{times, number_then}
use Rattle.ts_spec.specs.Aggregate.{Summary, summary}
use Rattle.ts_group.specs.Summaries.{Summaries, summaries, summary_at, AreTimely}
use Rattle.ts_group.specs.SlotIndices.{slot_at, summaries_in, IsSlotEntry, AreSlotEntries, AreWithin}
use Rattle.ts_group.specs.declared.slots.Slot.{Slot}
use Rattle.ts_group.proofs.Ordered.{AreAfter, AreRising, at-same, apart}
use Rattle.ts_group.proofs.Times.{in_time, rising-times}
use Rattle.ts_group.proofs.Summed.{summaries-inserted, summaries-counted}

-- ---- the times

pub keys-in : (slots : List Slot) (es : List (ℕ × ℕ)) → keys_of (summaries_in slots es) ≡ keys_of es
keys-in slots [] = refl
keys-in slots (e ∷ es) = ap (λ (l : List ℕ). e.0 ∷ l) (keys-in slots es)

keys-at : (rows : List Row) (ts : List ℕ) → keys_of (map (summary_at rows) ts) ≡ ts
keys-at rows [] = refl
keys-at rows (t ∷ ts) = ap (λ (l : List ℕ). t ∷ l) (keys-at rows ts)

rising-in : (slots : List Slot) (es : List (ℕ × ℕ)) (rows : List Row) → summaries_in slots es ≡ summaries rows → AreRising in_time (keys_of es)
rising-in slots es rows is =
    subst (AreRising in_time) (sym (keys-at rows (times rows)) ∙ ap (λ (l : Summaries). keys_of l) (sym is) ∙ keys-in slots es) (rising-times rows)

-- ---- a search

-- of the values of what is found
found-in : (slots : List Slot) (t : ℕ) (es : List (ℕ × ℕ)) → lookup (is_at (nat_cmp t)) (summaries_in slots es) ≡ option_map (λ p. (slot_at slots p).running) (lookup (is_at (nat_cmp t)) es)
found-in slots t es = lookup-map_values (λ (p : ℕ). (slot_at slots p).running) (is_at (nat_cmp t)) es

-- ---- one counted more at a place

-- the others are the same
module _ (old new : List Slot) (p : ℕ) (others : (q : ℕ) → (q == p) ≡ false → slot_at new q ≡ slot_at old q) where
  -- those that are past a time which is that of the place
  same-past : (t : ℕ) (es : List (ℕ × ℕ)) → (slot_at old p).time ≡ t → AreAfter in_time t (keys_of es) → All (IsSlotEntry old) es → summaries_in new es ≡ summaries_in old es
  same-past t [] is after placed = refl
  same-past t (e ∷ es) is after placed =
      let first : IsSlotEntry old e = All-head (IsSlotEntry old) e es placed in
      let other : (e.1 == p) ≡ false = ne_eqb e.1 p (λ one.
      let here : t ≡ e.0 = sym is ∙ ap (λ (q : ℕ). (slot_at old q).time) (sym one) ∙ first.time in
      absurd (false≢true (sym (apart in_time t e.0 after.0) ∙ eq-eqb t e.0 here))) in
      ap (λ (s : Slot). (e.0, s.running) ∷ summaries_in new es) (others e.1 other)
      ∙ ap (λ (l : Summaries). (e.0, (slot_at old e.1).running) ∷ l) (same-past t es is after.1 (All-tail (IsSlotEntry old) e es placed))

  pub placed-counted : (t : ℕ) (es : List (ℕ × ℕ)) → AreRising in_time (keys_of es) → All (IsSlotEntry old) es → lookup (is_at (nat_cmp t)) es ≡ Some p → (slot_at old p).time ≡ t
      → summaries_in new es ≡ set_value (is_at (nat_cmp t)) (summaries_in old es) (slot_at new p).running
  placed-counted t [] rising placed found is = cc
  placed-counted t (e ∷ es) rising placed found is =
      let first : IsSlotEntry old e = All-head (IsSlotEntry old) e es placed in
      let others_placed : All (IsSlotEntry old) es = All-tail (IsSlotEntry old) e es placed in
      rw (at-same in_time t e.0) (by first others_placed (t == e.0) refl
      (subst (λ (b : Bool). cond b (Some e.1) (lookup (is_at (nat_cmp t)) es) ≡ Some p) (at-same in_time t e.0) found)
      (λ at. placed-counted t es rising.1 others_placed at is))
    where
      by : IsSlotEntry old e → All (IsSlotEntry old) es → (b : Bool) → (t == e.0) ≡ b → cond b (Some e.1) (lookup (is_at (nat_cmp t)) es) ≡ Some p
          → (lookup (is_at (nat_cmp t)) es ≡ Some p → summaries_in new es ≡ set_value (is_at (nat_cmp t)) (summaries_in old es) (slot_at new p).running)
          → summaries_in new (e ∷ es) ≡ cond b ((e.0, (slot_at new p).running) ∷ summaries_in old es) ((e.0, (slot_at old e.1).running) ∷ set_value (is_at (nat_cmp t)) (summaries_in old es) (slot_at new p).running)
      by first rest true d at ih =
          let list_index : e.1 ≡ p = cc in
          ap (λ (q : ℕ). (e.0, (slot_at new q).running) ∷ summaries_in new es) list_index
          ∙ ap (λ (l : Summaries). (e.0, (slot_at new p).running) ∷ l) (same-past e.0 es (is ∙ eqb-true t e.0 d) rising.0 rest)
      by first rest false d at ih =
          let other : (e.1 == p) ≡ false = ne_eqb e.1 p (λ one.
          absurd (false≢true (sym d ∙ eq-eqb t e.0 (sym is ∙ ap (λ (q : ℕ). (slot_at old q).time) (sym one) ∙ first.time)))) in
          ap (λ (s : Slot). (e.0, s.running) ∷ summaries_in new es) (others e.1 other)
          ∙ ap (λ (l : Summaries). (e.0, (slot_at old e.1).running) ∷ l) (ih at)

  module _ (size : length new ≡ length old) (time : (slot_at new p).time ≡ (slot_at old p).time) where
    time-stays : (q : ℕ) → (slot_at new q).time ≡ (slot_at old q).time
    time-stays q = by (q == p) refl
      where
        by : (b : Bool) → (q == p) ≡ b → (slot_at new q).time ≡ (slot_at old q).time
        by true d = subst (λ (k : ℕ). (slot_at new k).time ≡ (slot_at old k).time) (sym (eqb-true q p d)) time
        by false d = ap (λ (s : Slot). s.time) (others q d)

    times-stay : (es : List (ℕ × ℕ)) → All (IsSlotEntry old) es → All (IsSlotEntry new) es
    times-stay es placed =
        All-weaker (IsSlotEntry old) (IsSlotEntry new) (λ e. λ h. record { within = subst (λ (n : ℕ). e.1 < n) (sym size) h.within; time = time-stays e.1 ∙ h.time }) es placed

    pub placed-stays : (es : List (ℕ × ℕ)) → AreSlotEntries old es → AreSlotEntries new es
    placed-stays es placed = record {
      times = times-stay es placed.times;
      each = λ q. λ inside.
          ap (λ (t : ℕ). lookup (is_at (nat_cmp t)) es) (time-stays q) ∙ placed.each q (subst (λ (n : ℕ). q < n) size inside);
    }

-- what is found at the place of a time is of that time
pub time-found : (slots : List Slot) (t p : ℕ) (es : List (ℕ × ℕ)) → All (IsSlotEntry slots) es → lookup (is_at (nat_cmp t)) es ≡ Some p → (p < length slots) × ((slot_at slots p).time ≡ t)
time-found slots t p [] placed found = cc
time-found slots t p (e ∷ es) placed found =
    by (All-head (IsSlotEntry slots) e es placed) (t == e.0) refl
    (subst (λ (b : Bool). cond b (Some e.1) (lookup (is_at (nat_cmp t)) es) ≡ Some p) (at-same in_time t e.0) found)
    (λ at. time-found slots t p es (All-tail (IsSlotEntry slots) e es placed) at)
  where
    by : IsSlotEntry slots e → (b : Bool) → (t == e.0) ≡ b → cond b (Some e.1) (lookup (is_at (nat_cmp t)) es) ≡ Some p
        → (lookup (is_at (nat_cmp t)) es ≡ Some p → (p < length slots) × ((slot_at slots p).time ≡ t)) → (p < length slots) × ((slot_at slots p).time ≡ t)
    by first true d at ih =
        let list_index : e.1 ≡ p = cc in
        subst (λ (q : ℕ). (q < length slots) × ((slot_at slots q).time ≡ t)) list_index (first.within, first.time ∙ sym (eqb-true t e.0 d))
    by first false d at ih = ih at

-- the row is counted
pub row-counted : (old new : List Slot) (p : ℕ) (es : List (ℕ × ℕ)) (rows : List Row) (r : Row)
    → AreSlotEntries old es → lookup (is_at (nat_cmp r.time)) es ≡ Some p
    → ((q : ℕ) → (q == p) ≡ false → slot_at new q ≡ slot_at old q)
    → ((ps : List Point) → (slot_at old p).running ≡ summary ps → (slot_at new p).running ≡ summary (ps ++ number_then r.time r.value []))
    → summaries_in old es ≡ summaries rows → summaries_in new es ≡ summaries (rows ++ r ∷ [])
row-counted old new p es rows r placed found others counts is =
    summaries-counted (summaries_in old es) (summaries_in new es) (slot_at old p).running (slot_at new p).running rows r is
    (found-in old r.time es ∙ ap (option_map (λ (q : ℕ). (slot_at old q).running)) found) counts
    (placed-counted old new p others r.time es (rising-in old es rows is) placed.times found (time-found old r.time p es placed.times found).1)

-- ---- something else at the place

module _ (old : List Slot) (x : Slot) (p : ℕ) (inside : p < length old) where
  set-here : slot_at (set old p x) p ≡ x
  set-here = get_or-set_same old p x (record { time = 0; running = summary [] }) inside

  set-others : (q : ℕ) → (q == p) ≡ false → slot_at (set old p x) q ≡ slot_at old q
  set-others q d = get_or-set_other old p q x (record { time = 0; running = summary [] }) (eqb-false q p d)

pub placed-set : (old : List Slot) (x : Slot) (p t : ℕ) (es : List (ℕ × ℕ)) → AreSlotEntries old es → lookup (is_at (nat_cmp t)) es ≡ Some p → x.time ≡ (slot_at old p).time
    → AreSlotEntries (set old p x) es
placed-set old x p t es placed found time =
    let inside : p < length old = (time-found old t p es placed.times found).0 in
    placed-stays old (set old p x) p (set-others old x p inside) (length-set old p x) (ap (λ (s : Slot). s.time) (set-here old x p inside) ∙ time) es placed

pub row-set : (old : List Slot) (x : Slot) (p : ℕ) (es : List (ℕ × ℕ)) (rows : List Row) (r : Row)
    → AreSlotEntries old es → lookup (is_at (nat_cmp r.time)) es ≡ Some p
    → ((ps : List Point) → (slot_at old p).running ≡ summary ps → x.running ≡ summary (ps ++ number_then r.time r.value []))
    → summaries_in old es ≡ summaries rows → summaries_in (set old p x) es ≡ summaries (rows ++ r ∷ [])
row-set old x p es rows r placed found counts is =
    let inside : p < length old = (time-found old r.time p es placed.times found).0 in
    row-counted old (set old p x) p es rows r placed found (set-others old x p inside)
    (λ ps. λ was. ap (λ (s : Slot). s.running) (set-here old x p inside) ∙ counts ps was) is

-- the times stay
pub timely-in : (old new : List Slot) (es : List (ℕ × ℕ)) → AreTimely (summaries_in old es) → AreTimely (summaries_in new es)
timely-in old new es timely = subst (All (λ t. t ≤ MAX_TIME)) (keys-in old es ∙ sym (keys-in new es)) timely

pub timely-inserted : (old new : List Slot) (t p : ℕ) (es : List (ℕ × ℕ)) → AreTimely (summaries_in old es) → t ≤ MAX_TIME → AreTimely (summaries_in new (insert_entry nat_cmp es t p))
timely-inserted old new t p es timely fits =
    subst (All (λ u. u ≤ MAX_TIME)) (sym (keys-in new (insert_entry nat_cmp es t p)))
    (All-keys-insert_entry nat_cmp t p (λ u. u ≤ MAX_TIME) es (subst (All (λ u. u ≤ MAX_TIME)) (keys-in old es) timely) fits)

-- ---- one more at a new place

-- whatever stands at the places
map-inserted : (f : ℕ → Summary) (t p : ℕ) (es : List (ℕ × ℕ)) → map (λ e. (e.0, f e.1)) (insert_entry nat_cmp es t p) ≡ insert_entry nat_cmp (map (λ e. (e.0, f e.1)) es) t (f p)
map-inserted f t p [] = refl
map-inserted f t p (e ∷ es) = by (nat_cmp t e.0) (map-inserted f t p es)
  where
    by : (o : Ordering) → map (λ d. (d.0, f d.1)) (insert_entry nat_cmp es t p) ≡ insert_entry nat_cmp (map (λ d. (d.0, f d.1)) es) t (f p)
        → map (λ d. (d.0, f d.1)) (match_ordering o ((t, p) ∷ e ∷ es) ((e.0, p) ∷ es) (e ∷ insert_entry nat_cmp es t p))
        ≡ match_ordering o ((t, f p) ∷ (e.0, f e.1) ∷ map (λ d. (d.0, f d.1)) es) ((e.0, f p) ∷ map (λ d. (d.0, f d.1)) es) ((e.0, f e.1) ∷ insert_entry nat_cmp (map (λ d. (d.0, f d.1)) es) t (f p))
    by Less ih = refl
    by Equal ih = refl
    by Greater ih = ap (λ (l : Summaries). (e.0, f e.1) ∷ l) ih

module _ (old : List Slot) (x : Slot) where
  slot-old : (q : ℕ) → q < length old → slot_at (old ++ x ∷ []) q ≡ slot_at old q
  slot-old q inside = get_or-append old (x ∷ []) (record { time = 0; running = summary [] }) q inside

  slot-new : slot_at (old ++ x ∷ []) (length old) ≡ x
  slot-new = get_or-append_seam old x [] (record { time = 0; running = summary [] })

  one-longer : length (old ++ x ∷ []) ≡ length old + 1
  one-longer = length-append old (x ∷ [])

  same-others : (es : List (ℕ × ℕ)) → All (IsSlotEntry old) es → summaries_in (old ++ x ∷ []) es ≡ summaries_in old es
  same-others [] placed = refl
  same-others (e ∷ es) placed =
      ap (λ (s : Slot). (e.0, s.running) ∷ summaries_in (old ++ x ∷ []) es) (slot-old e.1 (All-head (IsSlotEntry old) e es placed).within)
      ∙ ap (λ (l : Summaries). (e.0, (slot_at old e.1).running) ∷ l) (same-others es (All-tail (IsSlotEntry old) e es placed))

  placed-still : (e : ℕ × ℕ) → IsSlotEntry old e → IsSlotEntry (old ++ x ∷ []) e
  placed-still e placed = record {
    within = subst (λ (n : ℕ). e.1 < n) (sym one-longer) (omega (arith, placed.within));
    time = ap (λ (s : Slot). s.time) (slot-old e.1 placed.within) ∙ placed.time;
  }

  placed-new : IsSlotEntry (old ++ x ∷ []) (x.time, length old)
  placed-new = record {
    within = subst (λ (n : ℕ). length old < n) (sym one-longer) (omega arith);
    time = ap (λ (s : Slot). s.time) slot-new;
  }

  all-still : (es : List (ℕ × ℕ)) → All (IsSlotEntry old) es → All (IsSlotEntry (old ++ x ∷ [])) es
  all-still es placed = All-weaker (IsSlotEntry old) (IsSlotEntry (old ++ x ∷ [])) placed-still es placed

  all-inserted : (es : List (ℕ × ℕ)) → All (IsSlotEntry old) es → lookup (is_at (nat_cmp x.time)) es ≡ None
      → All (IsSlotEntry (old ++ x ∷ [])) (insert_entry nat_cmp es x.time (length old))
  all-inserted [] placed none = All-cons (IsSlotEntry (old ++ x ∷ [])) (x.time, length old) [] placed-new (All-nil (IsSlotEntry (old ++ x ∷ [])))
  all-inserted (e ∷ es) placed none =
      by (nat_cmp x.time e.0) none (All-head (IsSlotEntry old) e es placed) (all-inserted es (All-tail (IsSlotEntry old) e es placed))
    where
      by : (o : Ordering) → cond (is_at (λ (k : ℕ). o) e.0) (Some e.1) (lookup (is_at (nat_cmp x.time)) es) ≡ None → IsSlotEntry old e
          → (lookup (is_at (nat_cmp x.time)) es ≡ None → All (IsSlotEntry (old ++ x ∷ [])) (insert_entry nat_cmp es x.time (length old)))
          → All (IsSlotEntry (old ++ x ∷ [])) (match_ordering o ((x.time, length old) ∷ e ∷ es) ((e.0, length old) ∷ es) (e ∷ insert_entry nat_cmp es x.time (length old)))
      by Less n first ih = All-cons (IsSlotEntry (old ++ x ∷ [])) (x.time, length old) (e ∷ es) placed-new (all-still (e ∷ es) placed)
      by Equal n first ih = cc
      by Greater n first ih = All-cons (IsSlotEntry (old ++ x ∷ [])) e (insert_entry nat_cmp es x.time (length old)) (placed-still e first) (ih n)

-- a search for a time among them
lookup-inserted : (u t p : ℕ) (es : List (ℕ × ℕ)) → lookup (is_at (nat_cmp t)) es ≡ None
    → lookup (is_at (nat_cmp u)) (insert_entry nat_cmp es t p) ≡ cond (u == t) (Some p) (lookup (is_at (nat_cmp u)) es)
lookup-inserted u t p [] none = ap (λ (b : Bool). cond b (Some p) None) (at-same in_time u t)
lookup-inserted u t p (e ∷ es) none = by (nat_cmp t e.0) refl none (lookup-inserted u t p es)
  where
    swapped : (b c : Bool) (w : Option ℕ) → (b ≡ true → c ≡ false) → cond c (Some e.1) (cond b (Some p) w) ≡ cond b (Some p) (cond c (Some e.1) w)
    swapped true true w h = absurd (false≢true (sym (h refl)))
    swapped true false w h = refl
    swapped false c w h = refl

    by : (o : Ordering) → nat_cmp t e.0 ≡ o → cond (is_at (λ (k : ℕ). o) e.0) (Some e.1) (lookup (is_at (nat_cmp t)) es) ≡ None
        → (lookup (is_at (nat_cmp t)) es ≡ None → lookup (is_at (nat_cmp u)) (insert_entry nat_cmp es t p) ≡ cond (u == t) (Some p) (lookup (is_at (nat_cmp u)) es))
        → lookup (is_at (nat_cmp u)) (match_ordering o ((t, p) ∷ e ∷ es) ((e.0, p) ∷ es) (e ∷ insert_entry nat_cmp es t p))
        ≡ cond (u == t) (Some p) (lookup (is_at (nat_cmp u)) (e ∷ es))
    by Less d n ih = ap (λ (b : Bool). cond b (Some p) (lookup (is_at (nat_cmp u)) (e ∷ es))) (at-same in_time u t)
    by Equal d n ih = cc
    by Greater d n ih =
        ap (λ (w : Option ℕ). cond (is_at (nat_cmp u) e.0) (Some e.1) w) (ih n)
        ∙ swapped (u == t) (is_at (nat_cmp u) e.0) (lookup (is_at (nat_cmp u)) es) (λ one.
        let apart_now : is_at (nat_cmp t) e.0 ≡ false = ap (λ (o : Ordering). is_at (λ (k : ℕ). o) e.0) d in
        ap (λ (k : ℕ). is_at (nat_cmp k) e.0) (eqb-true u t one) ∙ apart_now)

pub placed-inserted : (old : List Slot) (x : Slot) (es : List (ℕ × ℕ)) → AreSlotEntries old es → lookup (is_at (nat_cmp x.time)) es ≡ None
    → AreSlotEntries (old ++ x ∷ []) (insert_entry nat_cmp es x.time (length old))
placed-inserted old x es placed none = record {
  times = all-inserted old x es placed.times none;
  each = λ q. λ inside. by q (nat_lt q (length old)) refl inside;
}
  where
    by : (q : ℕ) (b : Bool) → nat_lt q (length old) ≡ b → q < length (old ++ x ∷ [])
        → lookup (is_at (nat_cmp (slot_at (old ++ x ∷ []) q).time)) (insert_entry nat_cmp es x.time (length old)) ≡ Some q
    by q true d inside =
        let before : q < length old = ltb-true q (length old) d in
        let there : lookup (is_at (nat_cmp (slot_at old q).time)) es ≡ Some q = placed.each q before in
        let other : ((slot_at old q).time == x.time) ≡ false = ne_eqb (slot_at old q).time x.time (λ one.
        absurd (none-some q (sym none ∙ ap (λ (t : ℕ). lookup (is_at (nat_cmp t)) es) (sym one) ∙ there))) in
        ap (λ (s : Slot). lookup (is_at (nat_cmp s.time)) (insert_entry nat_cmp es x.time (length old))) (slot-old old x q before)
        ∙ lookup-inserted (slot_at old q).time x.time (length old) es none
        ∙ ap (λ (b : Bool). cond b (Some (length old)) (lookup (is_at (nat_cmp (slot_at old q).time)) es)) other
        ∙ there
    by q false d inside =
        let is : q ≡ length old = omega (arith, subst (λ (n : ℕ). q < n) (one-longer old x) inside, ltb-false q (length old) d) in
        ap (λ (k : ℕ). lookup (is_at (nat_cmp (slot_at (old ++ x ∷ []) k).time)) (insert_entry nat_cmp es x.time (length old))) is
        ∙ ap (λ (s : Slot). lookup (is_at (nat_cmp s.time)) (insert_entry nat_cmp es x.time (length old))) (slot-new old x)
        ∙ lookup-inserted x.time x.time (length old) es none
        ∙ ap (λ (b : Bool). cond b (Some (length old)) (lookup (is_at (nat_cmp x.time)) es)) (eq-eqb x.time x.time refl)
        ∙ ap (λ (k : ℕ). Some k) (sym is)

-- the row is the first of its time
pub row-inserted : (old : List Slot) (x : Slot) (es : List (ℕ × ℕ)) (rows : List Row) (r : Row)
    → AreSlotEntries old es → lookup (is_at (nat_cmp r.time)) es ≡ None → x.time ≡ r.time → x.running ≡ summary (number_then r.time r.value [])
    → summaries_in old es ≡ summaries rows → summaries_in (old ++ x ∷ []) (insert_entry nat_cmp es x.time (length old)) ≡ summaries (rows ++ r ∷ [])
row-inserted old x es rows r placed none time counted is =
    summaries-inserted (summaries_in old es) (summaries_in (old ++ x ∷ []) (insert_entry nat_cmp es x.time (length old))) x.running rows r is
    (found-in old r.time es ∙ ap (option_map (λ (q : ℕ). (slot_at old q).running)) none) counted
    (map-inserted (λ (q : ℕ). (slot_at (old ++ x ∷ []) q).running) x.time (length old) es
    ∙ ap (λ (l : Summaries). insert_entry nat_cmp l x.time (slot_at (old ++ x ∷ []) (length old)).running) (same-others old x es placed.times)
    ∙ ap (λ (s : Slot). insert_entry nat_cmp (summaries_in old es) x.time s.running) (slot-new old x)
    ∙ ap (λ (t : ℕ). insert_entry nat_cmp (summaries_in old es) t x.running) time)

-- ---- those that are left

pub within-first : (slots : List Slot) (es rest : List (ℕ × ℕ)) (e : ℕ × ℕ) → es ≡ e ∷ rest → AreWithin slots es → AreWithin slots rest
within-first slots es rest e is h = All-rest (λ d. d.1 < length slots) e rest es is h
