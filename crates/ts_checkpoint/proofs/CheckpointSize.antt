-- Where the checkpoint at the front of a journal ends.
use Rattle.std.proofs.Common.{◌≡◌, ℕ, zero, suc, ◌+◌, ◌<◌, ◌≤◌, List, [], ◌∷◌, length, take, drop, refl, ap, ◌∙◌, subst, take-append-drop, arith}
use Rattle.std.proofs.lemmas.List.{length-take}
use Rattle.std.specs.Prelude.{⊤, Option, None, Some}
use Rattle.ts_spec.specs.declared.limits.Limits.{Limits}
use Rattle.ts_spec.specs.declared.wire.WireLimits.{WireLimits}
use Rattle.ts_spec.specs.State.{State, empty}
use Rattle.ts_spec.specs.Wire.{Request, Stream, Then, Ended, Inside, Broken, Mode, Start, Move, Goto, Whole, Fault, move, at_end, after_move, then_request, read_on, stream_at}
use Rattle.ts_journal.specs.Limits.{journal_limits}
use Rattle.ts_journal.specs.Loading.{Loads, load_on}
use Rattle.ts_journal.proofs.Loads.{loads-next}
use Rattle.ts_checkpoint.specs.Fronts.{offset_behind, size_behind, front_size, checkpoint_size}
use Rattle.ts_checkpoint.specs.Loading.{OpenSeries, Restoring, restoring, load_behind, restore_on, parts_said, load_first, load_start, load}
use Rattle.ts_checkpoint.specs.PartOf.{part_of}
use Rattle.ts_checkpoint.proofs.JournalLoads.{requests-of, requests-within}
use Rattle.ts_checkpoint.proofs.Offsets.{IsFrontAt, front-at}
use Rattle.ts_checkpoint.proofs.RestoreOn.{parts-next}

-- ---- no request ends behind the end of the stream

-- the requests are behind this offset, and the end is behind them
abbrev pub IsBehind : (low size : ℕ) → Stream → Type 0
IsBehind low size (Then request after rest) = (low ≤ after) × IsBehind after size rest
IsBehind low size Ended = low ≤ size
IsBehind low size (Inside begin) = low ≤ begin
IsBehind low size (Broken kind at) = ⊤

behind-less : (n low size : ℕ) (stream : Stream) → n ≤ low → IsBehind low size stream → IsBehind n size stream
behind-less n low size (Then request after rest) less h = (omega (arith, less, h.0), h.1)
behind-less n low size Ended less h = omega (arith, less, h)
behind-less n low size (Inside begin) less h = omega (arith, less, h)
behind-less n low size (Broken kind at) less h = tt

behind-end : (mode : Mode) (begin size : ℕ) → begin ≤ size → IsBehind begin size (at_end mode begin)
behind-end Start begin size less = less
behind-end (Mode.Text line) begin size less = omega arith
behind-end (Mode.Count line) begin size less = omega arith
behind-end (Mode.CountFeed n) begin size less = omega arith
behind-end (Mode.Mark so_far) begin size less = omega arith
behind-end (Mode.Length so_far line) begin size less = omega arith
behind-end (Mode.LengthFeed so_far n) begin size less = omega arith
behind-end (Mode.Body so_far n bytes) begin size less = omega arith
behind-end (Mode.WordReturn so_far bytes) begin size less = omega arith
behind-end (Mode.WordFeed so_far bytes) begin size less = omega arith

behind-then : (request : Request) (low place size : ℕ) (rest : Stream) → low ≤ place → IsBehind place size rest → IsBehind low size (then_request request place rest)
behind-then [] low place size rest less h = behind-less low place size rest less h
behind-then (word ∷ words) low place size rest less h = (less, h)

behind-move : (m : Move) (place begin size : ℕ) (on : ℕ → Mode → Stream) → begin ≤ place
    → ((from : ℕ) (next : Mode) → from ≤ place + 1 → IsBehind from size (on from next)) → IsBehind begin size (after_move m place begin on)
behind-move (Goto next) place begin size on less h = h begin next (omega (arith, less))
behind-move (Whole request) place begin size on less h =
    behind-then request begin (place + 1) size (on (place + 1) Start) (omega (arith, less)) (h (place + 1) Start (omega arith))
behind-move (Fault kind) place begin size on less h = tt

pub behind : (limits : WireLimits) (place begin size : ℕ) (mode : Mode) (bytes : List ℕ) → begin ≤ place → place + length bytes ≡ size
    → IsBehind begin size (read_on limits place begin mode bytes)
unfolding read_on
behind limits place begin size mode [] less same = behind-end mode begin size (omega (arith, less, same))
behind limits place begin size mode (byte ∷ bytes) less same =
    behind-move (move limits mode byte) place begin size (λ from next. read_on limits (place + 1) from next bytes) less
    (λ from next less. behind limits (place + 1) from size next bytes less (omega (arith, same)))

-- ---- what loads, loads at least the checkpoint

loads-past : (limits : Limits) (m : State) (before size : ℕ) (stream : Stream) (n : State) (place : ℕ) → IsBehind before size stream
    → load_on limits m before size stream ≡ Loads n place → before ≤ place
loads-past limits m before size (Then request after rest) n place h e =
    let next = loads-next limits m before size request after rest n place e in
    omega (arith, h.0, loads-past limits next.mid after size rest n place h.1 next.on)
loads-past limits m before size Ended n place h e =
    let same : size ≡ place = cc in
    omega (arith, h, same)
loads-past limits m before size (Inside begin) n place h e =
    let same : begin ≡ place = cc in
    omega (arith, h, same)
loads-past limits m before size (Broken kind at) n place h e = absurd cc

behind-past : (limits : Limits) (current : Option OpenSeries) (m : State) (before size : ℕ) (stream : Stream) (n : State) (place : ℕ) → IsBehind before size stream
    → load_behind limits current m before size stream ≡ Loads n place → before ≤ place
behind-past limits None m before size stream n place h e = loads-past limits m before size stream n place h e
behind-past limits (Some o) m before size stream n place h e = absurd cc

restores-past : (limits : Limits) (r : Restoring) (left before size : ℕ) (stream : Stream) (n : State) (place : ℕ) → IsBehind before size stream
    → restore_on limits r left before size stream ≡ Loads n place → offset_behind left before stream ≤ place
restores-past limits r zero before size stream n place h e = behind-past limits r.current r.state before size stream n place h e
restores-past limits r (suc left) before size (Then request after rest) n place h e =
    let next = parts-next limits r left before size request after rest n place e in
    restores-past limits next.mid left after size rest n place h.1 next.on
restores-past limits r (suc left) before size Ended n place h e = absurd cc
restores-past limits r (suc left) before size (Inside begin) n place h e = absurd cc
restores-past limits r (suc left) before size (Broken kind at) n place h e = absurd cc

first-past : (limits : Limits) (m : State) (left : Option ℕ) (size : ℕ) (request : Request) (after : ℕ) (rest : Stream) (n : State) (place : ℕ) → IsBehind after size rest
    → load_first limits m left size request after rest ≡ Loads n place → size_behind left after rest ≤ place
first-past limits m None size request after rest n place h e = omega arith
first-past limits m (Some left) size request after rest n place h e = restores-past limits (restoring m) left after size rest n place h e

starts-past : (limits : Limits) (m : State) (size : ℕ) (stream : Stream) (n : State) (place : ℕ) → IsBehind 0 size stream
    → load_start limits m size stream ≡ Loads n place → front_size stream ≤ place
starts-past limits m size (Then request after rest) n place h e = first-past limits m (parts_said (part_of request)) size request after rest n place h.1 e
starts-past limits m size Ended n place h e = omega arith
starts-past limits m size (Inside begin) n place h e = omega arith
starts-past limits m size (Broken kind at) n place h e = omega arith

pub size-within : (limits : Limits) (bytes : List ℕ) (m : State) (place : ℕ) → load limits bytes ≡ Loads m place → checkpoint_size limits bytes ≤ place
size-within limits bytes m place e =
    let within : WireLimits = journal_limits limits.wire in
    starts-past limits empty (length bytes) (stream_at within 0 bytes) m place
    (behind within 0 0 (length bytes) Start bytes (omega arith) (omega arith)) (requests-of limits bytes m place e)

-- ---- a prefix that ends within the checkpoint

-- a prefix that restores has all parts
same-size : (limits : Limits) (r : Restoring) (left before size most : ℕ) (stream other : Stream) (n : State) (place : ℕ) → IsFrontAt most stream other
    → restore_on limits r left before size stream ≡ Loads n place → offset_behind left before other ≡ offset_behind left before stream
same-size limits r zero before size most stream other n place front e = refl
same-size limits r (suc left) before size most (Then request after rest) other n place front e =
    let next = parts-next limits r left before size request after rest n place e in
    ap (offset_behind (suc left) before) front.1 ∙ same-size limits next.mid left after size most rest front.0 n place front.2 next.on
same-size limits r (suc left) before size most Ended other n place front e = absurd cc
same-size limits r (suc left) before size most (Inside begin) other n place front e = absurd cc
same-size limits r (suc left) before size most (Broken kind at) other n place front e = absurd cc

cut-first : (limits : Limits) (m : State) (left : Option ℕ) (size most : ℕ) (request : Request) (after : ℕ) (rest others : Stream) (n : State) (place : ℕ)
    → IsFrontAt most rest others → IsBehind after size rest → place < size_behind left after others → load_first limits m left size request after rest ≡ Loads n place → n ≡ m
cut-first limits m None size most request after rest others n place front h less e = absurd (omega (arith, less))
cut-first limits m (Some left) size most request after rest others n place front h less e =
    absurd (omega (arith, less, restores-past limits (restoring m) left after size rest n place h e, same-size limits (restoring m) left after size most rest others n place front e))

cut-starts : (limits : Limits) (m : State) (size most : ℕ) (stream other : Stream) (n : State) (place : ℕ) → IsFrontAt most stream other → IsBehind 0 size stream
    → place < front_size other → load_start limits m size stream ≡ Loads n place → n ≡ m
cut-starts limits m size most (Then request after rest) other n place front h less e =
    cut-first limits m (parts_said (part_of request)) size most request after rest front.0 n place front.2 h.1 (subst (λ (s : Stream). place < front_size s) front.1 less) e
cut-starts limits m size most Ended other n place front h less e = cc
cut-starts limits m size most (Inside begin) other n place front h less e = cc
cut-starts limits m size most (Broken kind at) other n place front h less e = absurd cc

pub cut-loads : (limits : Limits) (bytes : List ℕ) (n : ℕ) → n < checkpoint_size limits bytes
    → (m : State) (place : ℕ) → load limits (take n bytes) ≡ Loads m place → m ≡ empty
cut-loads limits bytes n less m place e =
    let within : WireLimits = journal_limits limits.wire in
    let part : List ℕ = take n bytes in
    let size : ℕ = length part in
    let requests = requests-of limits part m place e in
    let front : IsFrontAt size (stream_at within 0 part) (stream_at within 0 bytes) =
    subst (λ (all : List ℕ). IsFrontAt size (stream_at within 0 part) (stream_at within 0 all)) (take-append-drop n bytes) (front-at within 0 0 size Start part (drop n bytes) (omega arith)) in
    cut-starts limits empty size size (stream_at within 0 part) (stream_at within 0 bytes) m place front (behind within 0 0 size Start part (omega arith) (omega arith))
    (omega (arith, less, requests-within limits part m place requests, length-take n bytes)) requests
