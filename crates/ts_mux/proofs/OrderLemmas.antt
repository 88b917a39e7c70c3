-- Lemmas about the order of interleaved connections, one frame at a time.
use Rattle.std.proofs.Common.{◌≡◌, ℕ, Bool, true, false, not, ◌==◌, if◌then◌else◌, List, [], ◌∷◌, ◌++◌, length, drop, Some, None, refl, sym, ap, ◌∙◌, subst, append_assoc}
use Rattle.std.proofs.lemmas.Bool.{eqb-true, eqb-false, eq-eqb}
use Rattle.ts_spec.specs.Wire.{Request}
use Rattle.ts_mux.specs.declared.frame.Frame.{Frame}
use Rattle.ts_mux.specs.Order.{Event, Item, events_of, Connection, new_events_of, later, up_to_close, has_close, after_bytes, items_of, with_link, items_from, without, frames_without}

-- two connections that yield the same
abbrev pub Alike : Connection → Connection → Type 0
Alike one other = (before bytes : List ℕ) → new_events_of one before bytes ≡ new_events_of other before bytes

abbrev pub AreAlike : (ℕ → Connection) → (ℕ → Connection) → Type 0
AreAlike ones others = (link : ℕ) → Alike (ones link) (others link)

-- the events after some bytes
pub new_events-later : (connection : Connection) (first before bytes : List ℕ) → new_events_of (later connection first) before bytes ≡ new_events_of connection (first ++ before) bytes
new_events-later None first before bytes = refl
new_events-later (Some stream) first before bytes =
    ap (λ all. drop (length (events_of (stream (first ++ before)))) (events_of (stream all))) (sym (append_assoc first before bytes))

alike-later : (one other : Connection) (bytes : List ℕ) → Alike one other → Alike (later one bytes) (later other bytes)
alike-later one other bytes h = λ before more.
    new_events-later one bytes before more ∙ h (bytes ++ before) more ∙ sym (new_events-later other bytes before more)

alike-if : (test : Bool) (one other : Connection) → Alike one other → Alike (if test then None else one) (if test then None else other)
alike-if true one other h = λ before bytes. refl
alike-if false one other h = h

pub alike-after : (closes : Request → Bool) (one other : Connection) (bytes : List ℕ) → Alike one other → Alike (after_bytes closes one bytes) (after_bytes closes other bytes)
alike-after closes one other [] h = λ before bytes. refl
alike-after closes one other (byte ∷ bytes) h =
    subst (λ events. Alike (if has_close closes (new_events_of one [] (byte ∷ bytes)) then None else later one (byte ∷ bytes)) (if has_close closes events then None else later other (byte ∷ bytes)))
    (h [] (byte ∷ bytes))
    (alike-if (has_close closes (new_events_of one [] (byte ∷ bytes))) (later one (byte ∷ bytes)) (later other (byte ∷ bytes)) (alike-later one other (byte ∷ bytes) h))

pub alike-with : (ones others : ℕ → Connection) (link : ℕ) (one other : Connection) → AreAlike ones others → Alike one other → AreAlike (with_link ones link one) (with_link others link other)
alike-with ones others link one other all h = λ at. go at (at == link)
  where
    go : (at : ℕ) (test : Bool) → Alike (if test then one else ones at) (if test then other else others at)
    go at true = h
    go at false = all at

-- the order depends only on what the connections yield
pub items-alike : (closes : Request → Bool) (ones others : ℕ → Connection) (frames : List Frame) → AreAlike ones others → items_from closes ones frames ≡ items_from closes others frames
items-alike closes ones others [] h = refl
items-alike closes ones others (frame ∷ frames) h =
    let one = after_bytes closes (ones frame.link) frame.bytes in
    let other = after_bytes closes (others frame.link) frame.bytes in
    ap (λ events. items_of frame.link (up_to_close closes events) ++ items_from closes (with_link ones frame.link one) frames) (h frame.link [] frame.bytes)
    ∙ ap (λ items. items_of frame.link (up_to_close closes (new_events_of (others frame.link) [] frame.bytes)) ++ items)
    (items-alike closes (with_link ones frame.link one) (with_link others frame.link other) frames
    (alike-with ones others frame.link one other h (alike-after closes (ones frame.link) (others frame.link) frame.bytes (h frame.link))))

-- ---- the items of all other connections

-- the same connections, except for one
abbrev pub AreAlikeBut : ℕ → (ℕ → Connection) → (ℕ → Connection) → Type 0
AreAlikeBut link ones others = (at : ℕ) → (at == link) ≡ false → Alike (ones at) (others at)

pub without-append : (link : ℕ) (front back : List Item) → without link (front ++ back) ≡ without link front ++ without link back
without-append link [] back = refl
without-append link (item ∷ front) back = go (not (item.link == link)) (without-append link front back)
  where
    go : (test : Bool) → without link (front ++ back) ≡ without link front ++ without link back
        → (if test then item ∷ without link (front ++ back) else without link (front ++ back)) ≡ (if test then item ∷ without link front else without link front) ++ without link back
    go true h = ap (λ items. item ∷ items) h
    go false h = h

pub without-own : (link : ℕ) (at : ℕ) (events : List Event) → (at == link) ≡ true → without link (items_of at events) ≡ []
without-own link at [] e = refl
without-own link at (event ∷ events) e =
    ap (λ test. if not test then record { link = at; event = event } ∷ without link (items_of at events) else without link (items_of at events)) e ∙ without-own link at events e

pub without-other : (link : ℕ) (at : ℕ) (events : List Event) → (at == link) ≡ false → without link (items_of at events) ≡ items_of at events
without-other link at [] e = refl
without-other link at (event ∷ events) e =
    ap (λ test. if not test then record { link = at; event = event } ∷ without link (items_of at events) else without link (items_of at events)) e
    ∙ ap (λ items. record { link = at; event = event } ∷ items) (without-other link at events e)

alike-but-with : (link at : ℕ) (ones others : ℕ → Connection) (connection : Connection) → (at == link) ≡ true → AreAlikeBut link ones others
    → AreAlikeBut link (with_link ones at connection) others
alike-but-with link at ones others connection e h = λ other apart. go other apart (other == at) refl
  where
    go : (other : ℕ) → (other == link) ≡ false → (test : Bool) → (other == at) ≡ test → Alike (if test then connection else ones other) (others other)
    go other apart true same =
        let first : at ≡ link = eqb-true at link e in
        let second : other ≡ at = eqb-true other at same in
        absurd (eqb-false other link apart (second ∙ first))
    go other apart false same = h other apart

alike-but-both : (link at : ℕ) (ones others : ℕ → Connection) (one other : Connection) → AreAlikeBut link ones others → Alike one other
    → AreAlikeBut link (with_link ones at one) (with_link others at other)
alike-but-both link at ones others one other h same = λ to apart. go to apart (to == at)
  where
    go : (to : ℕ) → (to == link) ≡ false → (test : Bool) → Alike (if test then one else ones to) (if test then other else others to)
    go to apart true = same
    go to apart false = h to apart

-- the items of the other connections
pub items-without : (closes : Request → Bool) (link : ℕ) (ones others : ℕ → Connection) (frames : List Frame) → AreAlikeBut link ones others
    → without link (items_from closes ones frames) ≡ items_from closes others (frames_without link frames)
items-without closes link ones others [] h = refl
items-without closes link ones others (frame ∷ frames) h =
    go (frame.link == link) refl (λ (first second : ℕ → Connection) (h : AreAlikeBut link first second). items-without closes link first second frames h)
  where
    go : (test : Bool) → (frame.link == link) ≡ test
        → ((first second : ℕ → Connection) → AreAlikeBut link first second → without link (items_from closes first frames) ≡ items_from closes second (frames_without link frames))
        → without link (items_from closes ones (frame ∷ frames)) ≡ items_from closes others (if not test then frame ∷ frames_without link frames else frames_without link frames)
    go true e later_ones =
        let one = after_bytes closes (ones frame.link) frame.bytes in
        let events = up_to_close closes (new_events_of (ones frame.link) [] frame.bytes) in
        without-append link (items_of frame.link events) (items_from closes (with_link ones frame.link one) frames)
        ∙ ap (λ items. items ++ without link (items_from closes (with_link ones frame.link one) frames)) (without-own link frame.link events e)
        ∙ later_ones (with_link ones frame.link one) others (alike-but-with link frame.link ones others one e h)
    go false e later_ones =
        let one = after_bytes closes (ones frame.link) frame.bytes in
        let other = after_bytes closes (others frame.link) frame.bytes in
        let events = up_to_close closes (new_events_of (ones frame.link) [] frame.bytes) in
        let same = h frame.link e in
        without-append link (items_of frame.link events) (items_from closes (with_link ones frame.link one) frames)
        ∙ ap (λ items. items ++ without link (items_from closes (with_link ones frame.link one) frames)) (without-other link frame.link events e)
        ∙ ap (λ items. items_of frame.link events ++ items)
        (later_ones (with_link ones frame.link one) (with_link others frame.link other)
        (alike-but-both link frame.link ones others one other h (alike-after closes (ones frame.link) (others frame.link) frame.bytes same)))
        ∙ ap (λ new_events. items_of frame.link (up_to_close closes new_events) ++ items_from closes (with_link others frame.link other) (frames_without link frames)) (same [] frame.bytes)

-- ---- a closed connection

-- it yields nothing more
abbrev pub IsDone : Connection → Type 0
IsDone connection = (before bytes : List ℕ) → new_events_of connection before bytes ≡ []

done-after : (closes : Request → Bool) (connection : Connection) (bytes : List ℕ) → IsDone connection → IsDone (after_bytes closes connection bytes)
done-after closes connection [] h = λ before bytes. refl
done-after closes connection (byte ∷ bytes) h = alike-after closes connection None (byte ∷ bytes) h

alike-but-here : (link at : ℕ) (ones others : ℕ → Connection) (one other : Connection) → (at == link) ≡ true → AreAlikeBut link ones others
    → AreAlikeBut link (with_link ones at one) (with_link others at other)
alike-but-here link at ones others one other e h = λ to apart. go to apart (to == at) refl
  where
    go : (to : ℕ) → (to == link) ≡ false → (test : Bool) → (to == at) ≡ test → Alike (if test then one else ones to) (if test then other else others to)
    go to apart true same =
        let first : at ≡ link = eqb-true at link e in
        let second : to ≡ at = eqb-true to at same in
        absurd (eqb-false to link apart (second ∙ first))
    go to apart false same = h to apart

done-there : (link at : ℕ) (others : ℕ → Connection) (other : Connection) → (at == link) ≡ false → IsDone (others link) → IsDone (with_link others at other link)
done-there link at others other e h = go (link == at) refl
  where
    go : (test : Bool) → (link == at) ≡ test → IsDone (if test then other else others link)
    go true same = absurd (eqb-false at link e (sym (eqb-true link at same)))
    go false same = h

-- closing a connection leaves the items of the others
pub without-done : (closes : Request → Bool) (link : ℕ) (ones others : ℕ → Connection) (frames : List Frame) → AreAlikeBut link ones others → IsDone (others link)
    → without link (items_from closes ones frames) ≡ items_from closes others frames
without-done closes link ones others [] h done = refl
without-done closes link ones others (frame ∷ frames) h done =
    go (frame.link == link) refl (λ (first second : ℕ → Connection) (h : AreAlikeBut link first second) (done : IsDone (second link)). without-done closes link first second frames h done)
  where
    one : Connection
    one = after_bytes closes (ones frame.link) frame.bytes

    other : Connection
    other = after_bytes closes (others frame.link) frame.bytes

    events : List Event
    events = up_to_close closes (new_events_of (ones frame.link) [] frame.bytes)

    split : without link (items_from closes ones (frame ∷ frames)) ≡ without link (items_of frame.link events) ++ without link (items_from closes (with_link ones frame.link one) frames)
    split = without-append link (items_of frame.link events) (items_from closes (with_link ones frame.link one) frames)

    go : (test : Bool) → (frame.link == link) ≡ test
        → ((first second : ℕ → Connection) → AreAlikeBut link first second → IsDone (second link) → without link (items_from closes first frames) ≡ items_from closes second frames)
        → without link (items_from closes ones (frame ∷ frames)) ≡ items_from closes others (frame ∷ frames)
    go true e later_ones =
        let here : link ≡ frame.link = sym (eqb-true frame.link link e) in
        let none : IsDone (others frame.link) = subst (λ at. IsDone (others at)) here done in
        let after : IsDone (with_link others frame.link other link) =
        subst (λ test. IsDone (if test then other else others link)) (sym (eq-eqb link frame.link here)) (done-after closes (others frame.link) frame.bytes none) in
        split
        ∙ ap (λ items. items ++ without link (items_from closes (with_link ones frame.link one) frames)) (without-own link frame.link events e)
        ∙ later_ones (with_link ones frame.link one) (with_link others frame.link other) (alike-but-here link frame.link ones others one other e h) after
        ∙ ap (λ new_events. items_of frame.link (up_to_close closes new_events) ++ items_from closes (with_link others frame.link other) frames) (sym (none [] frame.bytes))
    go false e later_ones =
        let same = h frame.link e in
        split
        ∙ ap (λ items. items ++ without link (items_from closes (with_link ones frame.link one) frames)) (without-other link frame.link events e)
        ∙ ap (λ items. items_of frame.link events ++ items)
        (later_ones (with_link ones frame.link one) (with_link others frame.link other)
        (alike-but-both link frame.link ones others one other h (alike-after closes (ones frame.link) (others frame.link) frame.bytes same))
        (done-there link frame.link others other e done))
        ∙ ap (λ new_events. items_of frame.link (up_to_close closes new_events) ++ items_from closes (with_link others frame.link other) frames) (same [] frame.bytes)
