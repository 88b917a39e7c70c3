-- What a batched connection has, as bytes are sent and queued.
use Rattle.std.proofs.Common.{◌≡◌, ℕ, Result, Ok, Err, List, [], ◌++◌, take, drop, sym, ◌∙◌, ap, append_assoc, append-nil, take-append-drop}
use Rattle.ts_io.specs.Batches.{Holds}
use Rattle.ts_io.specs.Sinks.{Grows, WriteGrows}

module _ (old new : List ℕ → Type 0) where
  -- a prefix of the queue was sent
  pub holds_sent : (n : ℕ) (waiting : List ℕ) → Grows old new (take n waiting) → Grows (Holds old waiting) (Holds new (drop n waiting)) []
  holds_sent n waiting p = record { each = λ w had. (had.0 ++ take n waiting, p.each had.0 had.1, append-nil w ∙ had.2 ∙ ap (λ (l : List ℕ). had.0 ++ l) (sym (take-append-drop n waiting)) ∙ sym (append_assoc had.0 (take n waiting) (drop n waiting))) }

  -- bytes were sent while the queue is empty
  pub holds_straight : (waiting bytes : List ℕ) → waiting ≡ [] → Grows old new bytes → Grows (Holds old waiting) (Holds new waiting) bytes
  holds_straight waiting bytes none p = record {
    each = λ w had. (
      had.0 ++ bytes,
      p.each had.0 had.1,
      ap (λ (l : List ℕ). l ++ bytes) (had.2 ∙ ap (λ (l : List ℕ). had.0 ++ l) none ∙ append-nil had.0) ∙ sym (append-nil (had.0 ++ bytes)) ∙ ap (λ (l : List ℕ). (had.0 ++ bytes) ++ l) (sym none),
    );
  }

  -- nothing was sent
  pub holds_still : (waiting : List ℕ) → Grows old new [] → Grows (Holds old waiting) (Holds new waiting) []
  holds_still waiting p = record { each = λ w had. (had.0 ++ [], p.each had.0 had.1, append-nil w ∙ had.2 ∙ ap (λ (l : List ℕ). l ++ waiting) (sym (append-nil had.0))) }

-- bytes were appended to the queue
pub holds_gathered : (sent : List ℕ → Type 0) (waiting more bytes : List ℕ) → more ≡ waiting ++ bytes → Grows (Holds sent waiting) (Holds sent more) bytes
holds_gathered sent waiting more bytes joined = record { each = λ w had. (had.0, had.1, ap (λ (l : List ℕ). l ++ bytes) had.2 ∙ append_assoc had.0 waiting bytes ∙ ap (λ (l : List ℕ). had.0 ++ l) (sym joined)) }

-- a write while the queue is empty
pub write_directly : {E : Type 0} (old new : List ℕ → Type 0) (waiting bytes : List ℕ) (r : Result ℕ E) → waiting ≡ [] → WriteGrows old new r bytes → WriteGrows (Holds old waiting) (Holds new waiting) r bytes
write_directly old new waiting bytes (Ok n) none p = holds_straight old new waiting (take n bytes) none p
write_directly old new waiting bytes (Err e) none p = holds_still old new waiting p
