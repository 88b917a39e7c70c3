-- Lemmas about the frames of a connection that is closed.
use Rattle.std.proofs.Common.{◌≡◌, ℕ, Bool, true, ◌==◌, if◌then◌else◌, List, [], ◌∷◌, ◌++◌, Option, None, refl, sym, ap, ◌∙◌, subst}
use Rattle.std.proofs.lemmas.Bool.{eqb-true, eq-eqb}
use Rattle.std.specs.Prelude.{Result, Ok, Err, OnErr}
use Rattle.ts_spec.specs.Wire.{Request, Stream}
use Rattle.ts_mux.specs.declared.frame.Frame.{Frame}
use Rattle.ts_mux.specs.declared.current_connection.CurrentConnection.{CurrentConnection}
use Rattle.ts_mux.specs.declared.mux.Mux.{Mux}
use Rattle.ts_mux.specs.ClosedLinks.{is_closed, stream_of_link}
use Rattle.ts_mux.specs.Muxing.{pending_items}
use Rattle.ts_mux.specs.Order.{Event, Connection, Item, new_events_of, up_to_close, after_bytes, items_of, with_link, items_from, without, never_closes}
use Rattle.ts_mux.specs.Links.{connections, pending_of_current, pending_items_of}
use Rattle.ts_mux.proofs.OrderLemmas.{AreAlikeBut, IsDone, without-append, without-own, without-done}

module _ (closes : Request → Bool) (link : ℕ) where
  -- a frame of one connection yields nothing of any other
  pub without-frame : (connections : ℕ → Connection) (frame : Frame) (frames : List Frame) → (frame.link == link) ≡ true
      → without link (items_from closes connections (frame ∷ frames)) ≡ without link (items_from closes connections frames)
  without-frame connections frame frames own =
      without-append link (items_of frame.link first) (items_from closes later frames)
      ∙ ap (λ items. items ++ without link (items_from closes later frames)) (without-own link frame.link first own)
      ∙ without-done closes link later (with_link connections link None) frames (λ at apart. alike at apart) done
      ∙ sym (without-done closes link connections (with_link connections link None) frames (λ at apart. closed at apart) done)
    where
      first : List Event
      first = up_to_close closes (new_events_of (connections frame.link) [] frame.bytes)

      after : Connection
      after = after_bytes closes (connections frame.link) frame.bytes

      later : ℕ → Connection
      later = with_link connections frame.link after

      done : IsDone (with_link connections link None link)
      done = subst (λ test. IsDone (if test then None else connections link)) (sym (eq-eqb link link refl)) (λ before bytes. refl)

      closed : AreAlikeBut link connections (with_link connections link None)
      closed = λ at apart before bytes. ap (λ test. new_events_of (if test then None else connections at) before bytes) (sym apart)

      alike : AreAlikeBut link later (with_link connections link None)
      alike = λ at apart before bytes.
          ap (λ test. new_events_of (if test then after else connections at) before bytes) (ap (λ to. at == to) (eqb-true frame.link link own) ∙ apart)
          ∙ closed at apart before bytes

-- the same for the pending items of a `Mux`
pub without_lost : (closed : ℕ → Bool) (streams : ℕ → List ℕ → Stream) (current : Option CurrentConnection) (link : ℕ) (bytes : List ℕ) (frames : List Frame)
    → without link (pending_items_of closed streams current frames)
    ≡ without link (pending_items_of closed streams current (record { link = link; bytes = bytes } ∷ frames))
without_lost closed streams current link bytes frames =
    without-append link (pending_of_current streams current) (items_from never_closes (connections closed streams) frames)
    ∙ ap (λ items. without link (pending_of_current streams current) ++ items)
    (sym (without-frame never_closes link (connections closed streams) (record { link = link; bytes = bytes }) frames (eq-eqb link link refl)))
    ∙ sym (without-append link (pending_of_current streams current) (items_from never_closes (connections closed streams) (record { link = link; bytes = bytes } ∷ frames)))

pub lost_frame : (m : Mux) (link : ℕ) (bytes : List ℕ) (frames : List Frame) → without link (pending_items m frames) ≡ without link (pending_items m (record { link = link; bytes = bytes } ∷ frames))
lost_frame m link bytes frames = without_lost (is_closed m.open_connections) (stream_of_link m.limits m.open_connections) m.current_connection link bytes frames

-- what holds also holds on an error
pub on_err : {T E P : Type 0} (result : Result T E) → P → OnErr result P
on_err (Ok value) holds = tt
on_err (Err error) holds = holds

-- where no item was pending, a frame brings items of its own connection alone
pub own_only : (link : ℕ) (before items after : List Item) → before ≡ [] → without link before ≡ without link after → items ≡ after → without link items ≡ []
own_only link before items after none lost brings = ap (without link) brings ∙ sym lost ∙ ap (without link) none
