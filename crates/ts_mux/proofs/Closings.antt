-- `order` follows from `order_without_quits`, in which no request closes its connection.
use Rattle.std.proofs.Common.{◌≡◌, ℕ, Bool, true, false, not, ◌||◌, ◌==◌, if◌then◌else◌, List, [], ◌∷◌, ◌++◌, None, refl, sym, ap, ◌∙◌, subst}
use Rattle.std.proofs.lemmas.Bool.{eqb-true, eqb-false, eq-eqb}
use Rattle.ts_spec.specs.Wire.{Request}
use Rattle.ts_mux.specs.declared.frame.Frame.{Frame}
use Rattle.ts_mux.specs.Order.{Event, Asked, Failed, Connection, Item, new_events_of, later, ends, up_to_close, has_close, after_bytes, items_of, with_link, items_from, without, never_closes, closing}
use Rattle.ts_mux.proofs.OneConnection.{none_new}
use Rattle.ts_mux.proofs.OrderLemmas.{IsDone, without-append, without-own, without-done}

pub without_twice : (link : ℕ) (items : List Item) → without link (without link items) ≡ without link items
without_twice link [] = refl
without_twice link (item ∷ items) = go (not (item.link == link)) refl (without_twice link items)
  where
    go : (test : Bool) → not (item.link == link) ≡ test → without link (without link items) ≡ without link items
        → without link (if test then item ∷ without link items else without link items) ≡ (if test then item ∷ without link items else without link items)
    go true e h = ap (λ test. if test then item ∷ without link (without link items) else without link (without link items)) e ∙ ap (λ items. item ∷ items) h
    go false e h = h

without_swap : (one other : ℕ) (items : List Item) → without one (without other items) ≡ without other (without one items)
without_swap one other [] = refl
without_swap one other (item ∷ items) = go (not (item.link == one)) (not (item.link == other)) refl refl (without_swap one other items)
  where
    go : (first second : Bool) → not (item.link == one) ≡ first → not (item.link == other) ≡ second → without one (without other items) ≡ without other (without one items)
        → without one (if second then item ∷ without other items else without other items) ≡ without other (if first then item ∷ without one items else without one items)
    go true true e f h =
        ap (λ test. if test then item ∷ without one (without other items) else without one (without other items)) e
        ∙ ap (λ items. item ∷ items) h
        ∙ sym (ap (λ test. if test then item ∷ without other (without one items) else without other (without one items)) f)
    go false true e f h = ap (λ test. if test then item ∷ without one (without other items) else without one (without other items)) e ∙ h
    go true false e f h = h ∙ sym (ap (λ test. if test then item ∷ without other (without one items) else without other (without one items)) f)
    go false false e f h = h

module _ (closes : Request → Bool) where
  until_both : (events : List Event) → up_to_close closes (up_to_close never_closes events) ≡ up_to_close closes events
  until_both [] = refl
  until_both (Asked request ∷ events) = ap (λ events. Asked request ∷ (if closes request then [] else events)) (until_both events)
  until_both (Failed fault ∷ events) = refl

  has_both : (events : List Event) → has_close closes (up_to_close never_closes events) ≡ has_close closes events
  has_both [] = refl
  has_both (Asked request ∷ events) = ap (λ test. closes request || test) (has_both events)
  has_both (Failed fault ∷ events) = refl

  -- no event closes, so there is no protocol error
  none_ends : (events : List Event) → has_close closes events ≡ false → has_close never_closes events ≡ false
  none_ends [] e = refl
  none_ends (Asked request ∷ events) e = go (closes request) e (λ rest. none_ends events rest)
    where
      go : (test : Bool) → (test || has_close closes events) ≡ false → (has_close closes events ≡ false → has_close never_closes events ≡ false) → has_close never_closes events ≡ false
      go true e h = absurd (eqb-false 0 0 e refl)
      go false e h = h e
  none_ends (Failed fault ∷ events) e = e

  closing-append : (link : ℕ) (events : List Event) (items : List Item)
      → closing closes (items_of link events ++ items)
      ≡ items_of link (up_to_close closes events) ++ (if has_close closes events then without link (closing closes items) else closing closes items)
  closing-append link [] items = refl
  closing-append link (event ∷ events) items =
      ap (λ items. record { link = link; event = event } ∷ items) (go (ends closes event) (closing-append link events items))
    where
      both : (test : Bool) → without link (if test then without link (closing closes items) else closing closes items) ≡ without link (closing closes items)
      both true = without_twice link (closing closes items)
      both false = refl

      go : (test : Bool)
          → closing closes (items_of link events ++ items) ≡ items_of link (up_to_close closes events) ++ (if has_close closes events then without link (closing closes items) else closing closes items)
          → (if test then without link (closing closes (items_of link events ++ items)) else closing closes (items_of link events ++ items))
          ≡ items_of link (if test then [] else up_to_close closes events) ++ (if test || has_close closes events then without link (closing closes items) else closing closes items)
      go true h =
          ap (without link) h
          ∙ without-append link (items_of link (up_to_close closes events)) (if has_close closes events then without link (closing closes items) else closing closes items)
          ∙ ap (λ front. front ++ without link (if has_close closes events then without link (closing closes items) else closing closes items)) (without-own link link (up_to_close closes events) (eq-eqb link link refl))
          ∙ both (has_close closes events)
      go false h = h

  -- the frames after the first one
  after_one : (connections : ℕ → Connection) (link : ℕ) (bytes : List ℕ) (frames : List Frame)
      → items_from closes (with_link connections link (after_bytes closes (connections link) bytes)) frames
      ≡ (if has_close closes (new_events_of (connections link) [] bytes)
      then without link (items_from closes (with_link connections link (after_bytes never_closes (connections link) bytes)) frames)
      else items_from closes (with_link connections link (after_bytes never_closes (connections link) bytes)) frames)
  after_one connections link [] frames =
      ap (λ new_events. if has_close closes new_events then without link (items_from closes (with_link connections link None) frames) else items_from closes (with_link connections link None) frames)
      (sym (none_new (connections link)))
  after_one connections link (byte ∷ bytes) frames = go (has_close closes new_events) refl
    where
      new_events : List Event
      new_events = new_events_of (connections link) [] (byte ∷ bytes)

      on : Connection
      on = later (connections link) (byte ∷ bytes)

      go : (test : Bool) → has_close closes new_events ≡ test
          → items_from closes (with_link connections link (if test then None else on)) frames
          ≡ (if test then without link (items_from closes (with_link connections link (if has_close never_closes new_events then None else on)) frames)
          else items_from closes (with_link connections link (if has_close never_closes new_events then None else on)) frames)
      go true e = sym (without-done closes link (with_link connections link (if has_close never_closes new_events then None else on)) (with_link connections link None) frames
          (λ at apart first more. ap (λ test. new_events_of (if test then (if has_close never_closes new_events then None else on) else connections at) first more) apart
          ∙ sym (ap (λ test. new_events_of (if test then None else connections at) first more) apart))
          (subst (λ test. IsDone (if test then None else connections link)) (sym (eq-eqb link link refl)) (λ first more. refl)))
      go false e = ap (λ test. items_from closes (with_link connections link (if test then None else on)) frames) (sym (none_ends new_events e))

  pub items-closing : (connections : ℕ → Connection) (frames : List Frame)
      → closing closes (items_from never_closes connections frames) ≡ items_from closes connections frames
  items-closing connections [] = refl
  items-closing connections (frame ∷ frames) =
      let new_events = new_events_of (connections frame.link) [] frame.bytes in
      let after = with_link connections frame.link (after_bytes never_closes (connections frame.link) frame.bytes) in
      closing-append frame.link (up_to_close never_closes new_events) (items_from never_closes after frames)
      ∙ ap (λ events. items_of frame.link events ++ (if has_close closes (up_to_close never_closes new_events) then without frame.link (closing closes (items_from never_closes after frames)) else closing closes (items_from never_closes after frames))) (until_both new_events)
      ∙ ap (λ test. items_of frame.link (up_to_close closes new_events) ++ (if test then without frame.link (closing closes (items_from never_closes after frames)) else closing closes (items_from never_closes after frames))) (has_both new_events)
      ∙ ap (λ items. items_of frame.link (up_to_close closes new_events) ++ (if has_close closes new_events then without frame.link items else items)) (items-closing after frames)
      ∙ ap (λ items. items_of frame.link (up_to_close closes new_events) ++ items) (sym (after_one connections frame.link frame.bytes frames))

  -- a closed connection does not affect the others
  pub closing-without : (link : ℕ) (items : List Item) → closing closes (without link items) ≡ without link (closing closes items)
  closing-without link [] = refl
  closing-without link (item ∷ items) = go (item.link == link) refl (closing-without link items)
    where
      rest : List Item
      rest = closing closes items

      own : (test : Bool) → item.link ≡ link → without link rest ≡ without link (if test then without item.link rest else rest)
      own true e = sym (ap (λ at. without link (without at rest)) e ∙ without_twice link rest)
      own false e = refl

      other : (test : Bool) → closing closes (without link items) ≡ without link rest
          → (if test then without item.link (closing closes (without link items)) else closing closes (without link items)) ≡ without link (if test then without item.link rest else rest)
      other true h = ap (without item.link) h ∙ without_swap item.link link rest
      other false h = h

      go : (test : Bool) → (item.link == link) ≡ test → closing closes (without link items) ≡ without link rest
          → closing closes (if not test then item ∷ without link items else without link items)
          ≡ (if not test then item ∷ without link (if ends closes item.event then without item.link rest else rest) else without link (if ends closes item.event then without item.link rest else rest))
      go true e h = h ∙ own (ends closes item.event) (eqb-true item.link link e)
      go false e h = ap (λ items. item ∷ items) (other (ends closes item.event) h)
