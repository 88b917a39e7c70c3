-- Streams that end inside a request: everything before it is whole requests.
use Rattle.std.proofs.Common.{◌≡◌, ℕ, suc, ◌+◌, ◌<◌, ◌≤◌, List, [], ◌∷◌, ◌++◌, length, take, drop, inl, inr, refl, sym, ap, ◌∙◌, subst, append_assoc, take-append-drop, arith}
use Rattle.std.proofs.Math.Nat.{eq-or-lt_of_le}
use Rattle.std.proofs.lemmas.List.{take_all, take-append-le, length-take-le, length-drop}
use Rattle.std.specs.Prelude.{◌⊎◌}
use Rattle.ts_spec.specs.declared.wire.WireLimits.{WireLimits}
use Rattle.ts_spec.specs.StreamPrefixes.{IsStreamPrefix, continued_by}
use Rattle.ts_spec.specs.Wire.{Request, Stream, Then, Ended, Inside, Broken, Mode, Start, Move, Goto, Whole, Fault, move, at_end, after_move, then_request, read_on, stream_at, ending_of}
use Rattle.ts_spec.proofs.Concatenation.{concatenated}
use Rattle.ts_spec.proofs.StreamPrefixes.{read_on-front}

-- a stream without the request inside which it ends
abbrev pub finished : Stream → Stream
finished (Then request place rest) = Then request place (finished rest)
finished Ended = Ended
finished (Inside begin) = Ended
finished (Broken kind at) = Broken kind at

finished-whole : (stream : Stream) (begin : ℕ) → ending_of (finished stream) ≡ Inside begin → ⊥
finished-whole (Then request place rest) begin e = finished-whole rest begin e
finished-whole Ended begin e = cc
finished-whole (Inside from) begin e = cc
finished-whole (Broken kind at) begin e = cc

pub finished-ended : (stream : Stream) (begin : ℕ) → ending_of stream ≡ Inside begin → ending_of (finished stream) ≡ Ended
finished-ended (Then request place rest) begin e = finished-ended rest begin e
finished-ended Ended begin e = refl
finished-ended (Inside from) begin e = refl
finished-ended (Broken kind at) begin e = absurd cc

-- ---- where the request begins

-- at this place the stream was between two requests, after so many bytes
record Later (stream : Stream) (short : ℕ → Stream) (place size begin : ℕ) : Type 0 where
  count : ℕ
  its : begin ≡ place + count
  fewer : count ≤ size
  front : short count ≡ finished stream

-- it is the request that began before all of them, or one after some
abbrev Begins : Stream → (short : ℕ → Stream) → (from place size begin : ℕ) → Type 0
Begins stream short from place size begin = ((begin ≡ from) × (stream ≡ Inside from)) ⊎ Later stream short place size begin

begins-end : (mode : Mode) (from begin : ℕ) → ending_of (at_end mode from) ≡ Inside begin → (begin ≡ from) × (at_end mode from ≡ Inside from)
begins-end Start from begin e = absurd cc
begins-end (Mode.Text line) from begin e = (cc, refl)
begins-end (Mode.Count line) from begin e = (cc, refl)
begins-end (Mode.CountFeed n) from begin e = (cc, refl)
begins-end (Mode.Mark so_far) from begin e = (cc, refl)
begins-end (Mode.Length so_far line) from begin e = (cc, refl)
begins-end (Mode.LengthFeed so_far n) from begin e = (cc, refl)
begins-end (Mode.Body so_far n bytes) from begin e = (cc, refl)
begins-end (Mode.WordReturn so_far bytes) from begin e = (cc, refl)
begins-end (Mode.WordFeed so_far bytes) from begin e = (cc, refl)

ending-then : (request : Request) (place : ℕ) (rest : Stream) → ending_of (then_request request place rest) ≡ ending_of rest
ending-then [] place rest = refl
ending-then (word ∷ words) place rest = refl

finished-then : (request : Request) (place : ℕ) (rest : Stream) → finished (then_request request place rest) ≡ then_request request place (finished rest)
finished-then [] place rest = refl
finished-then (word ∷ words) place rest = refl

begins-move : (m : Move) (place from size begin : ℕ) (on : ℕ → Mode → Stream) (short : ℕ → ℕ → Mode → Stream) (shorter : ℕ → Stream)
    → ((k : ℕ) → shorter (suc k) ≡ after_move m place from (short k))
    → ((n : ℕ) → short 0 n Start ≡ Ended)
    → ((n : ℕ) (next : Mode) → ending_of (on n next) ≡ Inside begin → Begins (on n next) (λ k. short k n next) n (place + 1) size begin)
    → ending_of (after_move m place from on) ≡ Inside begin
    → Begins (after_move m place from on) shorter from place (suc size) begin
begins-move (Goto next) place from size begin on short shorter more none h e = elim (h from next e) [
  | inl b ↦ inl b
  | inr l ↦ inr (record { count = suc l.count; its = omega (arith, l.its); fewer = omega (arith, l.fewer); front = more l.count ∙ l.front })
]
begins-move (Whole request) place from size begin on short shorter more none h e =
    let n = place + 1 in
    let whole = finished-then request n (on n Start) in
    elim (h n Start (sym (ending-then request n (on n Start)) ∙ e)) [
      | inl b ↦ inr (record {
        count = 1;
        its = b.0;
        fewer = omega arith;
        front = more 0 ∙ ap (then_request request n) (none n ∙ sym (ap finished b.1)) ∙ sym whole;
      })
      | inr l ↦ inr (record {
        count = suc l.count;
        its = omega (arith, l.its);
        fewer = omega (arith, l.fewer);
        front = more l.count ∙ ap (then_request request n) l.front ∙ sym whole;
      })
    ]
begins-move (Fault kind) place from size begin on short shorter more none h e = absurd cc

begins : (limits : WireLimits) (place from : ℕ) (mode : Mode) (bytes : List ℕ) (begin : ℕ) → ending_of (read_on limits place from mode bytes) ≡ Inside begin
    → Begins (read_on limits place from mode bytes) (λ k. read_on limits place from mode (take k bytes)) from place (length bytes) begin
unfolding read_on
begins limits place from mode [] begin e = inl (begins-end mode from begin e)
begins limits place from mode (byte ∷ bytes) begin e =
    begins-move (move limits mode byte) place from (length bytes) begin
    (λ n next. read_on limits (place + 1) n next bytes)
    (λ k n next. read_on limits (place + 1) n next (take k bytes))
    (λ k. read_on limits place from mode (take k (byte ∷ bytes)))
    (λ k. refl) (λ n. refl)
    (λ n next e. begins limits (place + 1) n next bytes begin e) e

-- the bytes before the request inside which a stream ends
pub record IsUnfinished (limits : WireLimits) (place : ℕ) (bytes : List ℕ) (begin : ℕ) : Type 0 where
  pub count : ℕ
  pub its : begin ≡ place + count
  pub fewer : count < length bytes
  pub front : stream_at limits place (take count bytes) ≡ finished (stream_at limits place bytes)

stream-none : (limits : WireLimits) (place : ℕ) → stream_at limits place [] ≡ Ended
unfolding read_on
stream-none limits place = refl

pub unfinished : (limits : WireLimits) (place : ℕ) (bytes : List ℕ) (begin : ℕ) → ending_of (stream_at limits place bytes) ≡ Inside begin → IsUnfinished limits place bytes begin
unfinished limits place [] begin e = absurd (finished-whole Ended begin (ap ending_of (sym (stream-none limits place)) ∙ e))
unfinished limits place (byte ∷ bytes) begin e = elim (begins limits place place Start (byte ∷ bytes) begin e) [
  | inl b ↦ record { count = 0; its = omega (arith, b.0); fewer = omega arith; front = stream-none limits place ∙ sym (ap finished b.1) }
  | inr l ↦ record {
    count = l.count;
    its = l.its;
    fewer = elim (eq-or-lt_of_le l.fewer) [
      | inl same ↦ absurd (finished-whole (stream_at limits place (byte ∷ bytes)) begin
          (ap ending_of (sym l.front ∙ ap (stream_at limits place) (take_all l.count (byte ∷ bytes) (omega (arith, same)))) ∙ e))
      | inr less ↦ less
    ];
    front = l.front;
  }
]

-- ---- fronts of a stream that is inside its first request

-- before it there is nothing
nothing-before : (limits : WireLimits) (place : ℕ) (bytes more : List ℕ) → stream_at limits place (bytes ++ more) ≡ Inside place → stream_at limits place bytes ≡ Ended → length bytes ≡ 0
nothing-before limits place bytes more e none =
    let on : ℕ = place + length bytes in
    let rest : Inside place ≡ stream_at limits on more =
    sym e ∙ concatenated limits place place Start bytes more refl (ap ending_of none) ∙ ap (λ stream. continued_by stream (stream_at limits on more)) none in
    let u = unfinished limits on more place (ap ending_of (sym rest)) in
    omega (arith, u.its)

-- its fronts are inside it too
pub front-inside : (limits : WireLimits) (place : ℕ) (bytes more : List ℕ) → stream_at limits place (bytes ++ more) ≡ Inside place → 0 < length bytes → stream_at limits place bytes ≡ Inside place
front-inside limits place bytes more e some =
    go (stream_at limits place bytes) refl (subst (IsStreamPrefix (stream_at limits place bytes)) e (read_on-front limits place place Start bytes more))
  where
    go : (stream : Stream) → stream_at limits place bytes ≡ stream → IsStreamPrefix stream (Inside place) → stream_at limits place bytes ≡ Inside place
    go (Then request at rest) its front = absurd (let e = front.1 in cc)
    go Ended its front = absurd (let none = nothing-before limits place bytes more e its in omega arith)
    go (Inside begin) its front =
        let u = unfinished limits place bytes begin (ap ending_of its) in
        let split : stream_at limits place (take u.count bytes ++ (drop u.count bytes ++ more)) ≡ Inside place =
        ap (stream_at limits place) (sym (append_assoc (take u.count bytes) (drop u.count bytes) more) ∙ ap (λ (front : List ℕ). front ++ more) (take-append-drop u.count bytes)) ∙ e in
        let none = nothing-before limits place (take u.count bytes) (drop u.count bytes ++ more) split (u.front ∙ ap finished its) in
        let same : begin ≡ place = omega (arith, u.its, none, length-take-le u.count bytes (omega (arith, u.fewer))) in
        its ∙ ap Inside same
    go (Broken kind at) its front = absurd cc

-- ---- the request inside which a stream ends

inside-first : (stream : Stream) (at : ℕ) → finished stream ≡ Ended → ending_of stream ≡ Inside at → stream ≡ Inside at
inside-first (Then request place rest) at none e = absurd cc
inside-first Ended at none e = absurd cc
inside-first (Inside from) at none e = e
inside-first (Broken kind place) at none e = absurd cc

ending-continued : (stream rest : Stream) → ending_of stream ≡ Ended → ending_of (continued_by stream rest) ≡ ending_of rest
ending-continued (Then request place others) rest e = ending-continued others rest e
ending-continued Ended rest e = refl
ending-continued (Inside from) rest e = absurd cc
ending-continued (Broken kind place) rest e = absurd cc

-- a front that has a byte of it ends inside it too
pub begun-before : (limits : WireLimits) (bytes more : List ℕ) (at : ℕ) → ending_of (stream_at limits 0 (bytes ++ more)) ≡ Inside at → at < length bytes
    → ending_of (stream_at limits 0 bytes) ≡ Inside at
begun-before limits bytes more at e less =
    let u = unfinished limits 0 (bytes ++ more) at e in
    let same : u.count ≡ at = omega (arith, u.its) in
    let few : at ≤ length bytes = omega (arith, less) in
    let head : List ℕ = take at bytes in
    let tail : List ℕ = drop at bytes in
    let front : stream_at limits 0 head ≡ finished (stream_at limits 0 (bytes ++ more)) =
    ap (stream_at limits 0) (sym (take-append-le at bytes more few) ∙ ap (λ (n : ℕ). take n (bytes ++ more)) (sym same)) ∙ u.front in
    let ended : ending_of (stream_at limits 0 head) ≡ Ended = ap ending_of front ∙ finished-ended (stream_at limits 0 (bytes ++ more)) at e in
    let size : 0 + length head ≡ at = omega (arith, length-take-le at bytes few) in
    let onward : (rest : List ℕ) → ending_of (stream_at limits 0 (head ++ rest)) ≡ ending_of (stream_at limits at rest) = λ rest.
    ap ending_of (concatenated limits 0 0 Start head rest refl ended)
    ∙ ending-continued (stream_at limits 0 head) (stream_at limits (0 + length head) rest) ended
    ∙ ap (λ (n : ℕ). ending_of (stream_at limits n rest)) size in
    let split : head ++ (tail ++ more) ≡ bytes ++ more = sym (append_assoc head tail more) ∙ ap (λ (l : List ℕ). l ++ more) (take-append-drop at bytes) in
    let later : ending_of (stream_at limits at (tail ++ more)) ≡ Inside at =
    sym (onward (tail ++ more)) ∙ ap (λ (l : List ℕ). ending_of (stream_at limits 0 l)) split ∙ e in
    let v = unfinished limits at (tail ++ more) at later in
    let none : v.count ≡ 0 = omega (arith, v.its) in
    let no_more : finished (stream_at limits at (tail ++ more)) ≡ Ended =
    sym v.front ∙ ap (λ (n : ℕ). stream_at limits at (take n (tail ++ more))) none ∙ stream-none limits at in
    let inside = front-inside limits at tail more (inside-first (stream_at limits at (tail ++ more)) at no_more later) (omega (arith, less, length-drop at bytes)) in
    ap (λ (l : List ℕ). ending_of (stream_at limits 0 l)) (sym (take-append-drop at bytes)) ∙ onward tail ∙ ap ending_of inside
