-- Lemmas about parsing a capture: one byte, and the body of a frame.
use Rattle.std.proofs.Common.{◌≡◌, ℕ, zero, suc, ◌+◌, ◌-◌, ◌<◌, ◌≤◌, List, [], ◌∷◌, ◌++◌, length, take, drop, refl, sym, ap, ◌∙◌, append_assoc, arith}
use Rattle.std.proofs.lemmas.List.{take-append-drop, length-take-le}
use Rattle.ts_mux.specs.Capture.{Then, Inside, Mode, Body, Transition, transition, at_end, after_transition, after_bytes, read_on, capture_at}

pub read_on-nil : (place begin : ℕ) (mode : Mode) → read_on place begin mode [] ≡ at_end mode begin
unfolding read_on
read_on-nil place begin mode = refl

pub read_on-byte : (place begin : ℕ) (mode : Mode) (byte : ℕ) (bytes : List ℕ) (m : Transition) → transition mode byte ≡ m
    → read_on place begin mode (byte ∷ bytes) ≡ after_transition m place begin (λ from next. read_on (place + 1) from next bytes)
unfolding read_on
read_on-byte place begin mode byte bytes m e =
    ap (λ m. after_transition m place begin (λ from next. read_on (place + 1) from next bytes)) e

-- the body of a frame, part of which was read before
pub body_is_read : (link : ℕ) (byte : ℕ) (bytes : List ℕ) (place begin : ℕ) (front more : List ℕ)
    → read_on place begin (Body link (suc (length bytes)) front) (byte ∷ bytes ++ more)
    ≡ Then (record { link = link; bytes = front ++ byte ∷ bytes }) (capture_at (place + suc (length bytes)) more)
body_is_read link byte [] place begin front more =
    read_on-byte place begin (Body link 1 front) byte more _ refl
body_is_read link byte (next ∷ bytes) place begin front more =
    let less : suc (suc (length bytes)) - 1 ≡ suc (length bytes) = omega arith in
    let there : place + 1 + suc (length bytes) ≡ place + suc (suc (length bytes)) = omega arith in
    read_on-byte place begin (Body link (suc (suc (length bytes))) front) byte (next ∷ bytes ++ more) _ (ap (λ n. after_bytes link n (front ++ byte ∷ [])) less)
    ∙ body_is_read link next bytes (place + 1) begin (front ++ byte ∷ []) more
    ∙ ap (λ place. Then (record { link = link; bytes = (front ++ byte ∷ []) ++ next ∷ bytes }) (capture_at place more)) there
    ∙ ap (λ all. Then (record { link = link; bytes = all }) (capture_at (place + suc (length (next ∷ bytes))) more)) (append_assoc front (byte ∷ []) (next ∷ bytes))

-- a prefix of a body
pub body_is_open : (link later : ℕ) (bytes : List ℕ) (place begin : ℕ) (front : List ℕ) → length bytes < later
    → read_on place begin (Body link later front) bytes ≡ Inside begin
body_is_open link zero bytes place begin front h = absurd (omega arith)
body_is_open link (suc later) [] place begin front h = read_on-nil place begin (Body link (suc later) front)
body_is_open link (suc zero) (byte ∷ bytes) place begin front h = absurd (omega arith)
body_is_open link (suc (suc later)) (byte ∷ bytes) place begin front h =
    let less : suc (suc later) - 1 ≡ suc later = omega arith in
    read_on-byte place begin (Body link (suc (suc later)) front) byte bytes _ (ap (λ n. after_bytes link n (front ++ byte ∷ [])) less)
    ∙ body_is_open link (suc later) bytes (place + 1) begin (front ++ byte ∷ []) (omega arith)

-- the whole body, then the rest
whole : (link : ℕ) (body rest : List ℕ) (place begin : ℕ) (more : List ℕ) → 0 < length body
    → read_on place begin (Body link (length body) []) (body ++ (rest ++ more))
    ≡ Then (record { link = link; bytes = body }) (capture_at (place + length body) (rest ++ more))
whole link [] rest place begin more h = absurd (omega arith)
whole link (byte ∷ body) rest place begin more h = body_is_read link byte body place begin [] (rest ++ more)

pub body_is_whole : (link len : ℕ) (bytes : List ℕ) (place begin : ℕ) → 0 < len → len ≤ length bytes
    → (more : List ℕ) → read_on place begin (Body link len []) (bytes ++ more)
    ≡ Then (record { link = link; bytes = take len bytes }) (capture_at (place + len) (drop len bytes ++ more))
body_is_whole link len bytes place begin some fits more =
    let size : length (take len bytes) ≡ len = length-take-le len bytes fits in
    let any : 0 < length (take len bytes) = omega (arith, size, some) in
    ap (λ n. read_on place begin (Body link n []) (bytes ++ more)) (sym size)
    ∙ ap (λ all. read_on place begin (Body link (length (take len bytes)) []) (all ++ more)) (sym (take-append-drop len bytes))
    ∙ ap (read_on place begin (Body link (length (take len bytes)) [])) (append_assoc (take len bytes) (drop len bytes) more)
    ∙ whole link (take len bytes) (drop len bytes) place begin more any
    ∙ ap (λ n. Then (record { link = link; bytes = take len bytes }) (capture_at (place + n) (drop len bytes ++ more))) size
