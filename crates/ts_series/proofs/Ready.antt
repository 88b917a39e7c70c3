-- Changes that are ready to be carried out, and their plans.
use Rattle.std.proofs.Common.{◌≡◌, ℕ, ◌+◌, ◌≤◌, List, [], ◌∷◌, ◌++◌, length, take, drop, sym, ◌∙◌, ap, subst, arith, length-append, length-take, length-drop}
use Rattle.std.specs.Prelude.{nat_le, Option, None}
use Rattle.std.specs.Option.{unwrap_or}
use Rattle.ts_spec.specs.declared.series.Options.{Options}
use Rattle.ts_spec.specs.Sample.{Point, IsAscending, at_times, put_all}
use Rattle.ts_spec.specs.Rules.{raised}
use Rattle.ts_spec.specs.State.{edge_of}
use Rattle.ts_spec.specs.StoredUpdates.{high_after_rows}
use Rattle.ts_spec.proofs.ClientChanges.{edge-raised}
use Rattle.ts_sample.specs.Chunk.{joined, AreMade}
use Rattle.ts_series.specs.Stored.{Stored, points, Change, replaced, pieces_after, IsChangeOf, IsReady, HasLimits}
use Rattle.ts_series.specs.History.{History, list_of, low, limit_for}
use Rattle.ts_series.specs.Plan.{Plan, after, without_cut, chunk_capacity, IsForIn}
use Rattle.ts_series.proofs.Edges.{from-edge}

length-replaced : (start end : ℕ) (new old : List (List Point)) → start ≤ end → length (replaced start end new old) ≤ length old + length new
length-replaced start end new old ordered =
    let all : length ((take start old ++ new) ++ drop end old) ≤ length old + length new =
    omega (arith, length-append (take start old ++ new) (drop end old), length-append (take start old) new, length-take start old, length-drop end old) in
    all

-- a change that is ready is for the chunks with so much room
pub with-room : (format : List Point → List ℕ) (room : ℕ) (h : Stored) (c : Change) → IsReady format h c → length h.pieces + length c.pieces ≤ room → IsChangeOf format room h.pieces h.limits c
with-room format room h c ready enough = record {
  ordered = ready.ordered;
  within = ready.within;
  ascending = ready.ascending;
  appends = ready.appends;
  enough = omega (arith, length-replaced c.start c.end c.pieces h.pieces ready.ordered, enough);
}

-- a plan whose change is ready, and leaves what the series has after the plan
pub is-for : {format : List Point → List ℕ} (plan : Plan) (h : History) → plan.encoding ≡ h.options.encoding → (unwrap_or plan.options h.options).encoding ≡ h.options.encoding → AreMade h.born plan.wrote → IsReady format h.held plan.change → length h.held.pieces + length plan.change.pieces ≤ chunk_capacity plan.room h.held
    → HasLimits (limit_for h.options.chunk_size) h.held.limits plan.change
    → at_times (nat_le (low (after plan h))) (joined (pieces_after plan.change h.held.pieces)) ≡ list_of (after plan h) → IsForIn format plan h
is-for {format} plan h encoding stays made ready enough limits list = record {
  encoding = encoding;
  stays = stays;
  made = made;
  change = with-room format (chunk_capacity plan.room h.held) h.held plan.change ready enough;
  holds_all = omega (arith, enough);
  limits = limits;
  list = list;
}

-- rows raise the edge, if they move it
pub edge-with : (retention : ℕ) (rows : List Point) (high : Option ℕ) → edge_of retention high ≤ edge_of retention (high_after_rows rows high)
edge-with retention [] high = omega arith
edge-with retention (p ∷ rows) high = omega (arith, edge-raised retention p.time high, edge-with retention rows (raised p.time high))

-- a series shows the samples of its chunks from its edge on
abbrev pub Shows : History → Type 0
Shows h = h.samples ≡ at_times (nat_le (low h)) (points h.held)

-- what is written to all samples of the chunks is written to those that the series shows
pub written-list : (plan : Plan) (h : History) → plan.options ≡ None → Shows h → IsAscending (points h.held)
    → joined (pieces_after plan.change h.held.pieces) ≡ put_all plan.wrote (without_cut plan.cut (points h.held))
    → at_times (nat_le (low (after plan h))) (joined (pieces_after plan.change h.held.pieces)) ≡ list_of (after plan h)
written-list plan h same shown rises made =
    let edge = low (after plan h) in
    let options : (after plan h).options ≡ h.options = ap (λ (o : Option Options). unwrap_or o h.options) same in
    let up : low h ≤ edge = subst (λ (o : Options). low h ≤ edge_of o.retention (high_after_rows plan.wrote h.high)) (sym options) (edge-with h.options.retention plan.wrote h.high) in
    ap (at_times (nat_le edge)) made
    ∙ from-edge (low h) edge plan.wrote plan.cut (points h.held) up rises
    ∙ ap (λ (l : List Point). at_times (nat_le edge) (put_all plan.wrote (without_cut plan.cut l))) (sym shown)
