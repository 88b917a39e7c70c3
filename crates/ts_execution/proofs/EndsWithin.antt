-- Where the complete requests of a journal end.
use Rattle.std.specs.Prelude.{Option, None, Some, IfNone, IfSome, Result, IfOk}
use Rattle.std.proofs.Common.{◌≡◌, ◌≤◌, ℕ, ◌+◌, Bool, true, false, List, [], ◌∷◌, length, sym, subst, arith}
use Rattle.ts_resp.specs.Reading.{Reading, fed, unfinished, begun_after, begun_at_end, begun_on, begun_at}
use Rattle.ts_spec.specs.Wire.{Partial, Mode, Start, Text, Count, CountFeed, Mark, Length, LengthFeed, Body, WordReturn, WordFeed, Move, Goto, Whole, Fault, move}
use Rattle.ts_spec.specs.declared.wire.WireLimits.{WireLimits}
use Rattle.ts_execution.specs.JournalReplay.{HasNoWholeRequest, IsCurrent, verdict, verdict_at, verdict_in, verdict_by}
use Rattle.ts_execution.specs.declared.loading.LoadFault.{LoadFault}
use Rattle.ts_execution.specs.declared.loading.Extent.{Extent}
use Rattle.ts_execution.specs.declared.load_state.Loading.{Loading}
use Rattle.ts_execution.specs.declared.stage.Stage.{Stage}
use Rattle.ts_execution.specs.declared.stage.Stage.TheVariants as stage

end-within : (mode : Mode) (begin bound : ℕ) → begin ≤ bound → IfSome (begun_at_end mode begin) (λ at. at ≤ bound)
end-within Start begin bound within = tt
end-within (Text line) begin bound within = within
end-within (Count line) begin bound within = within
end-within (CountFeed n) begin bound within = within
end-within (Mark so_far) begin bound within = within
end-within (Length so_far line) begin bound within = within
end-within (LengthFeed so_far n) begin bound within = within
end-within (Body so_far n bytes) begin bound within = within
end-within (WordReturn so_far bytes) begin bound within = within
end-within (WordFeed so_far bytes) begin bound within = within

after-within : (m : Move) (place begin bound : ℕ) (on : ℕ → Mode → Option ℕ) → begin ≤ bound → place + 1 ≤ bound
    → ((from : ℕ) (next : Mode) → from ≤ bound → IfSome (on from next) (λ at. at ≤ bound)) → IfSome (begun_after m place begin on) (λ at. at ≤ bound)
after-within (Goto Start) place begin bound on within next each = each begin Start within
after-within (Goto (Text line)) place begin bound on within next each = each begin (Text line) within
after-within (Goto (Count line)) place begin bound on within next each = each begin (Count line) within
after-within (Goto (CountFeed n)) place begin bound on within next each = each begin (CountFeed n) within
after-within (Goto (Mark so_far)) place begin bound on within next each = within
after-within (Goto (Length so_far line)) place begin bound on within next each = each begin (Length so_far line) within
after-within (Goto (LengthFeed so_far n)) place begin bound on within next each = each begin (LengthFeed so_far n) within
after-within (Goto (Body so_far n bytes)) place begin bound on within next each = each begin (Body so_far n bytes) within
after-within (Goto (WordReturn so_far bytes)) place begin bound on within next each = each begin (WordReturn so_far bytes) within
after-within (Goto (WordFeed so_far bytes)) place begin bound on within next each = each begin (WordFeed so_far bytes) within
after-within (Whole []) place begin bound on within next each = each (place + 1) Start next
after-within (Whole (word ∷ words)) place begin bound on within next each = within
after-within (Fault kind) place begin bound on within next each = within

begun-within : (limits : WireLimits) (place begin bound : ℕ) (mode : Mode) (bytes : List ℕ) → begin ≤ bound → place + length bytes ≤ bound → IfSome (begun_on limits place begin mode bytes) (λ at. at ≤ bound)
unfolding begun_on
begun-within limits place begin bound mode [] within all = end-within mode begin bound within
begun-within limits place begin bound mode (byte ∷ bytes) within all =
    after-within (move limits mode byte) place begin bound (λ from next. begun_on limits (place + 1) from next bytes) within (omega (arith, all))
    (λ from next before. begun-within limits (place + 1) from bound next bytes before (omega (arith, all)))

at-within : (so_far : Option Partial) (limits : WireLimits) (place begin bound : ℕ) (bytes : List ℕ) → begin ≤ bound → place + length bytes ≤ bound → IfSome (begun_at so_far limits place begin bytes) (λ at. at ≤ bound)
at-within (Some so_far) limits place begin bound bytes within all = within
at-within None limits place begin bound bytes within all = begun-within limits place begin bound Start bytes within all

-- the complete requests end within the bytes read
abbrev EndsWithin : Result Extent LoadFault → (read : ℕ) → Type 0
EndsWithin result read = IfOk result (λ (extent : Extent). extent.end ≤ read)

ends-at : (place : Option ℕ) (checkpoint : ℕ) (flag : Bool) (taken read : ℕ) → IfSome place (λ at. at ≤ read) → taken ≤ read → EndsWithin (verdict_at place checkpoint flag taken) read
ends-at None checkpoint flag taken read is within = within
ends-at (Some place) checkpoint true taken read is within = is
ends-at (Some place) checkpoint false taken read is within = tt

ends-in : (s : Stage) (end : ℕ) (place : Option ℕ) (flag : Bool) (taken read : ℕ) → IfSome place (λ at. at ≤ read) → taken ≤ read → EndsWithin (verdict_in s end place flag taken) read
ends-in stage.Start end place flag taken read is within = ends-at place 0 flag taken read is within
ends-in (stage.Parts more current) end place flag taken read is within = tt
ends-in (stage.Changes checkpoint) end place flag taken read is within = ends-at place checkpoint flag taken read is within

-- the complete requests end within the bytes read
ends-by : (broken : Option ℕ) (l : Loading) (flag : Bool) (taken read : ℕ) → IfNone broken (HasNoWholeRequest l.reader) → fed l.reader ≤ taken → taken ≤ read → EndsWithin (verdict_by broken l flag taken) read
ends-by (Some place) l flag taken read current within before = tt
ends-by None l flag taken read current within before =
    let r : Reading = l.reader in
    ends-in l.stage l.end (unfinished r) flag taken read
    (at-within r.so_far r.limits r.place r.begin read r.unread (omega (arith, current.begun, within, before)) (omega (arith, within, before))) before

pub ends-within : (answer : Result Extent LoadFault) (l : Loading) (flag : Bool) (taken read : ℕ) → answer ≡ verdict l flag taken → IsCurrent l → fed l.reader ≤ taken → taken ≤ read → EndsWithin answer read
ends-within answer l flag taken read is current within before = subst (λ (a : Result Extent LoadFault). EndsWithin a read) (sym is) (ends-by l.broken l flag taken read current within before)
