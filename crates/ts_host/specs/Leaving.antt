-- A link that ends, and its line.
use Rattle.std.specs.Prelude.{◌≡◌, Bool, true, false, ℕ, List, [], ◌∷◌, Option, None, Some}
use Rattle.ts_io.specs.declared.hub.Way.{Way}
use Rattle.ts_io.specs.declared.hub.Way.TheVariants as way
use Rattle.ts_io.specs.Sinks.{Grows, GrowsByPrefix}
use Rattle.ts_mux.specs.declared.frame.Frame.{Frame}
use Rattle.ts_mux.specs.Muxing.{is_inside_request, pending_items}
use Rattle.ts_mux.specs.Order.{without}
use Rattle.ts_words.specs.declared.lines.LinkEnd.{LinkEnd}
use Rattle.ts_words.specs.declared.lines.LinkEnd.TheVariants as end
use Rattle.ts_words.specs.Lines.{link_line_of}
use Rattle.ts_host.specs.Answers.{forgotten}
use Rattle.ts_host.specs.RequestCounts.{executed_by}
use Rattle.ts_host.specs.Shown.{reached, taken_by}
use Rattle.ts_host.specs.declared.connections.Connections.{Connections}
use Rattle.ts_host.specs.declared.host.HostFault.{HostFault}
use Rattle.ts_host.specs.declared.host.HostFault.TheVariants as fault

-- the items of a link are dropped, and its count is forgotten
pub record Leaves (link : ℕ) (old new : Connections) : Type 0 where
  pub others : (frames : List Frame) → pending_items new.mux frames ≡ without link (pending_items old.mux frames)
  pub counts : (at : ℕ) → executed_by new.counts at ≡ forgotten link (executed_by old.counts) at
  pub taken : taken_by new ≡ taken_by old
  pub reach : reached new ≡ reached old

-- the line of its end was written, or a write failed within it
abbrev pub WritesEnd : Option HostFault → (link : ℕ) → LinkEnd → Connections → (had has : List ℕ → Type 0) → Type 0
WritesEnd None link how old had has = Grows had has (link_line_of link (executed_by old.counts link) how)
WritesEnd (Some fault.Line) link how old had has = GrowsByPrefix had has (link_line_of link (executed_by old.counts link) how)
WritesEnd (Some other) link how old had has = ⊥

-- how a link ended that the hub has closed; `inside` says whether it had sent part of a request
abbrev pub how_of : Way → (inside : Bool) → LinkEnd
how_of way.Closed true = end.Truncated
how_of way.Closed false = end.Ended
how_of way.Cut inside = end.Cut
how_of way.Broken inside = end.Broken

-- these bytes came of a link, and then its items were dropped
pub record LeavesWith (link : ℕ) (bytes : List ℕ) (old new : Connections) : Type 0 where
  pub others : (frames : List Frame) → pending_items new.mux frames ≡ without link (pending_items old.mux (record { link = link; bytes = bytes } ∷ frames))
  pub counts : (at : ℕ) → executed_by new.counts at ≡ forgotten link (executed_by old.counts) at

-- the line of a link that the hub has closed
abbrev pub closing_line : (link : ℕ) → Way → Connections → List ℕ
closing_line link way old = link_line_of link (executed_by old.counts link) (how_of way (is_inside_request old.mux link))

-- that line was written, or a write failed within it, or memory ran out before
abbrev pub ClosesLink : Option HostFault → (link : ℕ) → Way → Connections → (had has : List ℕ → Type 0) → Type 0
ClosesLink None link way old had has = Grows had has (closing_line link way old)
ClosesLink (Some fault.Line) link way old had has = GrowsByPrefix had has (closing_line link way old)
ClosesLink (Some fault.Memory) link way old had has = Grows had has []
ClosesLink (Some other) link way old had has = ⊥
