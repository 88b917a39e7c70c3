-- The next item of a host, by what became of its reply.
use Rattle.std.proofs.Common.{◌≡◌, ℕ, suc, ◌≤◌, Bool, true, false, not, ◌==◌, if◌then◌else◌, List, [], ◌∷◌, ◌++◌, length, refl, sym, ap, ◌∙◌, subst, arith, append-nil}
use Rattle.std.specs.Prelude.{Option, None, Some}
use Rattle.ts_io.specs.Hubs.{Outgoing, Same}
use Rattle.ts_io.specs.Sinks.{Grows, GrowsByPrefix}
use Rattle.ts_io.specs.declared.hub.Step.{Step}
use Rattle.ts_mux.specs.declared.frame.Frame.{Frame}
use Rattle.ts_mux.specs.Muxing.{pending_items}
use Rattle.ts_mux.specs.Order.{Event, Item, ends, without}
use Rattle.ts_words.specs.declared.lines.LinkEnd.{LinkEnd}
use Rattle.ts_words.specs.declared.lines.LinkEnd.TheVariants as how
use Rattle.ts_words.specs.Lines.{link_line_of}
use Rattle.ts_execution.specs.Journaling.{Snapshot, IsJournaled}
use Rattle.ts_host.specs.Answers.{Agree, IsReply, counted, forgotten, lines_of}
use Rattle.ts_host.specs.Executing.{GivesReply, end_if, next_after}
use Rattle.ts_host.specs.Http.{closes}
use Rattle.ts_host.specs.Leaving.{Leaves, WritesEnd}
use Rattle.ts_host.specs.RequestCounts.{executed_by}
use Rattle.ts_host.specs.Serving.{Handled, HandledNext, Stretch}
use Rattle.ts_host.specs.Shown.{View, coming, waiting}
use Rattle.ts_host.specs.Steps.{Extends, frames_of}
use Rattle.ts_host.specs.declared.connections.Connections.{Connections}
use Rattle.ts_host.specs.declared.host.HostFault.{HostFault}
use Rattle.ts_host.specs.declared.host.HostFault.TheVariants as fault
use Rattle.ts_host.specs.declared.host.NextItem.{NextItem}
use Rattle.ts_host.specs.declared.host.NextItem.TheVariants as next
use Rattle.ts_host.proofs.AnsweredItems.{progress_in, view_in, item, answered_one, answered_last, line_halts, untold_halts}
use Rattle.ts_host.proofs.Contents.{extends_none}
use Rattle.ts_host.proofs.Lines.{gave_none}
use Rattle.ts_host.proofs.Stretches.{stretch_leave}

-- ---- what is pending

pub without_shorter : (link : ℕ) (items : List Item) → length (without link items) ≤ length items
without_shorter link [] = omega arith
without_shorter link (item ∷ items) = go (not (item.link == link)) (without_shorter link items)
  where
    go : (test : Bool) → length (without link items) ≤ length items → length (if test then item ∷ without link items else without link items) ≤ suc (length items)
    go true h = omega (arith, h)
    go false h = omega (arith, h)

-- behind an item are only items of the same connection, if there were no others
pub own_behind : (link : ℕ) (items : List Item) (item : Item) (rest : List Item) → items ≡ item ∷ rest → without link items ≡ [] → without link rest ≡ []
own_behind link items item rest is own = go (not (item.link == link)) (sym (ap (without link) is) ∙ own)
  where
    go : (test : Bool) → (if test then item ∷ without link rest else without link rest) ≡ [] → without link rest ≡ []
    go true none = (cc)
    go false none = none

own_without : (link at : ℕ) (items : List Item) → without link items ≡ [] → without link (without at items) ≡ []
own_without link at [] own = refl
own_without link at (item ∷ items) own = go (not (item.link == link)) refl own (own_without link at items)
  where
    other : (test : Bool) → not (item.link == link) ≡ false → without link (without at items) ≡ [] → without link (if test then item ∷ without at items else without at items) ≡ []
    other true is none = ap (λ (t : Bool). if t then item ∷ without link (without at items) else without link (without at items)) is ∙ none
    other false is none = none

    go : (test : Bool) → not (item.link == link) ≡ test → (if test then item ∷ without link items else without link items) ≡ []
        → (without link items ≡ [] → without link (without at items) ≡ []) → without link (without at (item ∷ items)) ≡ []
    go true is none later = (cc)
    go false is none later = other (not (item.link == at)) is (later none)

own_left : (link at : ℕ) (old new : List Item) → new ≡ without at old → without link old ≡ [] → without link new ≡ []
own_left link at old new is own = ap (without link) is ∙ own_without link at old own

module _ (at : ℕ) (text : List ℕ) (midc newc : Connections) (out out' : Outgoing) (had has : List ℕ → Type 0) where
  -- the connections are the same, or one of them ended
  abbrev pub Stays : Type 0
  Stays = (link : ℕ) → without link (pending_items midc.mux []) ≡ [] → without link (pending_items newc.mux []) ≡ []

  same_stay : newc ≡ midc → Stays
  same_stay same = λ link own. ap (λ (c : Connections). without link (pending_items c.mux [])) same ∙ own

  left_stay : Leaves at midc newc → Stays
  left_stay left = λ link own. own_left link at (pending_items midc.mux []) (pending_items newc.mux []) (left.others []) own

  pub own_after : (r : NextItem) (end : Option LinkEnd) → GivesReply r at end text midc newc out out' had has → Stays
  own_after next.Answered None gives = same_stay gives.1
  own_after next.Answered (Some how) gives = left_stay gives.1
  own_after next.NoneLeft None gives = absurd gives
  own_after next.NoneLeft (Some how) gives = absurd gives
  own_after (next.Fault fault.Hub) None gives = same_stay gives.1
  own_after (next.Fault fault.Hub) (Some how) gives = same_stay gives.1
  own_after (next.Fault fault.Line) None gives = absurd gives
  own_after (next.Fault fault.Line) (Some how) gives = left_stay gives.1
  own_after (next.Fault fault.Journal) None gives = absurd gives
  own_after (next.Fault fault.Journal) (Some how) gives = absurd gives
  own_after (next.Fault fault.Memory) None gives = absurd gives
  own_after (next.Fault fault.Memory) (Some how) gives = absurd gives

  left_shorter : Leaves at midc newc → waiting newc ≤ waiting midc
  left_shorter left = subst (λ (l : List Item). length l ≤ waiting midc) (sym (left.others [])) (without_shorter at (pending_items midc.mux []))

  pub shorter_after : (r : NextItem) (end : Option LinkEnd) → GivesReply r at end text midc newc out out' had has → r ≡ next.Answered → waiting newc ≤ waiting midc
  shorter_after next.Answered None gives is = subst (λ (c : Connections). waiting c ≤ waiting midc) (sym gives.1) (omega arith)
  shorter_after next.Answered (Some how) gives is = left_shorter gives.1
  shorter_after next.NoneLeft end gives is = (cc)
  shorter_after (next.Fault fault) end gives is = (cc)

-- ---- a connection that is dropped

-- its line was written, or cut
pub dropped : (fell : Option HostFault) (steps : List Step) (oldc midc newc : Connections) (world : Snapshot) (stored : Option (List ℕ)) (out out' : Outgoing) (had has : List ℕ → Type 0) (link : ℕ) (how : LinkEnd)
    → ((more : List Step) → coming newc (frames_of more) ≡ without link (coming oldc (frames_of (steps ++ more))))
    → Agree (executed_by oldc.counts) (executed_by midc.counts) → Agree (forgotten link (executed_by midc.counts)) (executed_by newc.counts)
    → Same out out' → Extends stored world.content → WritesEnd fell link how midc had has
    → Handled fell (view_in oldc world stored out had) (view_in newc world stored out' has) steps
dropped fell steps oldc midc newc world stored out out' had has link how items counts forgets same within line = go fell line
  where
    agree : Agree (forgotten link (executed_by oldc.counts)) (executed_by newc.counts)
    agree at = forgets at ∙ ap (λ (n : ℕ). if at == link then 0 else n) (counts at)

    stretch : Stretch (progress_in oldc world) (progress_in newc world) steps
    stretch = stretch_leave (progress_in oldc world) (progress_in newc world) steps link how items agree refl

    told : (written : List ℕ → Type 0) → written (link_line_of link (executed_by midc.counts link) how) → written (lines_of (record { link = link; executed = executed_by oldc.counts link; how = how } ∷ []))
    told written is =
        subst written (sym (append-nil (link_line_of link (executed_by oldc.counts link) how)))
        (subst (λ (n : ℕ). written (link_line_of link n how)) (counts link) is)

    go : (fell : Option HostFault) → WritesEnd fell link how midc had has → Handled fell (view_in oldc world stored out had) (view_in newc world stored out' has) steps
    go None line = record {
      stretch = stretch;
      stored = extends_none stored stored refl;
      gave = gave_none out out' same;
      lines = told (λ (l : List ℕ). Grows had has l) line;
    }
    go (Some fault.Line) line = record {
      to = progress_in newc world;
      held = refl;
      readings = refl;
      stretch = stretch;
      stored = extends_none stored stored refl;
      within = within;
      given = [];
      gave = gave_none out out' same;
      lines = told (λ (l : List ℕ). GrowsByPrefix had has l) line;
    }
    go (Some fault.Hub) line = absurd line
    go (Some fault.Journal) line = absurd line
    go (Some fault.Memory) line = absurd line

-- what became of the next request
pub after_drop : (fell : Option HostFault) (old new : View) → Handled fell old new [] → HandledNext (next_after fell next.NoneLeft) old new
after_drop None old new handled = handled
after_drop (Some fell) old new handled = handled

-- ---- an item that was answered

module _ (oldc midc newc : Connections) (from to : Snapshot) (stored stored' : Option (List ℕ)) (out out' : Outgoing) (had has : List ℕ → Type 0) (at : ℕ) (event : Event) (text : List ℕ)
    (is_next : (frames : List Frame) → pending_items oldc.mux frames ≡ record { link = at; event = event } ∷ pending_items midc.mux frames)
    (extends : Extends stored stored') (here : IsReply IsJournaled from event text to)
    (counts : Agree (counted (record { link = at; event = event }) (executed_by oldc.counts)) (executed_by midc.counts)) (within : Extends stored' to.content) where
  -- which ends its connection
  pub by_last : (r : NextItem) (how : LinkEnd) → ends closes event ≡ true → GivesReply r at (Some how) text midc newc out out' had has
      → HandledNext r (view_in oldc from stored out had) (view_in newc to stored' out' has)
  by_last next.Answered how is gives = answered_last oldc midc newc from to stored stored' out out' had has at event text is_next extends here counts how is gives.1 gives.0 gives.2
  by_last next.NoneLeft how is gives = absurd gives
  by_last (next.Fault fault.Hub) how is gives = untold_halts oldc midc newc from to stored stored' out out' had has at event text is_next extends true to is here refl refl within gives.0 gives.2
  by_last (next.Fault fault.Line) how is gives = line_halts oldc midc newc from to stored stored' out out' had has at event text is_next extends here counts how is gives.1 gives.0 within gives.2
  by_last (next.Fault fault.Journal) how is gives = absurd gives
  by_last (next.Fault fault.Memory) how is gives = absurd gives

  -- which does not
  pub by_one : (r : NextItem) → ends closes event ≡ false → GivesReply r at None text midc newc out out' had has
      → HandledNext r (view_in oldc from stored out had) (view_in newc to stored' out' has)
  by_one next.Answered is gives = answered_one oldc midc newc from to stored stored' out out' had has at event text is_next extends here counts is gives.1 gives.0 gives.2
  by_one next.NoneLeft is gives = absurd gives
  by_one (next.Fault fault.Hub) is gives = untold_halts oldc midc newc from to stored stored' out out' had has at event text is_next extends false to is here refl refl within gives.0 gives.2
  by_one (next.Fault fault.Line) is gives = absurd gives
  by_one (next.Fault fault.Journal) is gives = absurd gives
  by_one (next.Fault fault.Memory) is gives = absurd gives

  -- by whether it does
  pub by_ending : (r : NextItem) (ending : Bool) → ends closes event ≡ ending → GivesReply r at (end_if ending) text midc newc out out' had has
      → HandledNext r (view_in oldc from stored out had) (view_in newc to stored' out' has)
  by_ending r true is gives = by_last r how.Ended is gives
  by_ending r false is gives = by_one r is gives
