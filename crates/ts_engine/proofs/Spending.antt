-- How an input that is not shorter than the budget ends.
use Rattle.std.specs.Prelude.{Option, Some, None}
use Rattle.std.specs.Io.KnownBytes.{IsAtEnd}
use Rattle.std.proofs.Common.{◌≡◌, ◌⊎◌, Bool, true, false, inl, inr, ℕ, ◌+◌, ◌-◌, ◌<◌, ◌≤◌, List, [], ◌++◌, length, take, refl, sym, ◌∙◌, ap, subst, arith, length-append}
use Rattle.std.proofs.lemmas.List.{append-nil}
use Rattle.std.proofs.Math.Seq.{take-append-add}
use Rattle.ts_io.specs.Causes.{Rose}
use Rattle.ts_resp.specs.Reading.{ended_at}
use Rattle.ts_spec.specs.Wire.{Stream, Broken, requests_of}
use Rattle.ts_engine.specs.declared.piped.End.{End}
use Rattle.ts_engine.specs.declared.piped.End.TheVariants as end
use Rattle.ts_engine.specs.declared.piped.Outcome.{Outcome}
use Rattle.ts_words.specs.declared.status.Status.TheVariants as status
use Rattle.ts_execution.specs.Handler.{Handler}
use Rattle.ts_engine.specs.Headline.{Exchange, ending, asks_to_quit}
use Rattle.ts_engine.specs.Piping.{beginning_of, Ends, is_of_input, PipedWith, HasCauses}
use Rattle.ts_engine.specs.Session.{Progress}
use Rattle.ts_engine.specs.Status.{status_of}
use Rattle.ts_engine.specs.Top.{status_cut}
use Rattle.ts_engine.proofs.Headlines.{splits, no_quit, ends_as, front_answered, quitted_all}

-- the first `budget` bytes are those that were read, and more
pub first_bytes : (front rest : List ℕ) (budget : ℕ) → length front ≤ budget → take budget (front ++ rest) ≡ front ++ take (budget - length front) rest
first_bytes front rest budget within =
    let same : budget ≡ length front + (budget - length front) = omega (arith, within) in
    ap (λ (n : ℕ). take n (front ++ rest)) same ∙ take-append-add front rest (budget - length front)

-- no protocol error and no QUIT: the budget is used up
unbroken : (quits : Bool) (stream : Stream) (place : Option ℕ) → quits ≡ false → stream ≡ ended_at place → status.Budget ≡ status_cut quits stream
unbroken quits stream None none is = sym (ap (λ (s : Stream). status_cut quits s) is ∙ ap (λ (b : Bool). status_cut b (ended_at None)) none)
unbroken quits stream (Some place) none is = sym (ap (λ (s : Stream). status_cut quits s) is ∙ ap (λ (b : Bool). status_cut b (ended_at (Some place))) none)

-- the end of the input was read, so nothing is left
at_end : {handler : Handler} (e : End) (left : Option (List ℕ)) (old new : Progress handler) (had has : List ℕ → Type 0) (bytes : List ℕ) (ends : Ends e left old new had has bytes)
    → is_of_input e left old new had has bytes ends ≡ true → IsAtEnd left
at_end end.Ended left old new had has bytes (inl all) same = all.at_end
at_end end.Ended left old new had has bytes (inr quitted) same = (cc)
at_end (end.Truncated place) left old new had has bytes ends same = ends.2
at_end (end.Protocol fault) left old new had has bytes ends same = (cc)
at_end end.ReadFault left old new had has bytes ends same = (cc)
at_end end.WriteFault left old new had has bytes ends same = (cc)
at_end end.Memory left old new had has bytes ends same = (cc)
at_end end.Budget left old new had has bytes ends same = (cc)

-- by what was answered of the bytes read
module _ {handler : Handler} (exchange : Exchange handler) (last : Progress handler) (at : last.world ≡ exchange.to) (left : Option (List ℕ)) (first front more : List ℕ) (is : first ≡ front ++ more) where
  by_first : (e : End) (reads reads' writes writes' : ℕ) (ends : Ends e left (beginning_of handler exchange.limits exchange.from) last exchange.had exchange.has front)
      → (is_of_input e left (beginning_of handler exchange.limits exchange.from) last exchange.had exchange.has front ends ≡ true → ⊥) → (e ≡ end.Budget → more ≡ [])
      → HasCauses e reads reads' writes writes' → (Rose reads reads' → ⊥) → (Rose writes writes' → ⊥)
      → (status_of e ≡ status.Memory) ⊎ (status_of e ≡ status_cut (asks_to_quit exchange.limits first) (ending exchange.limits first))
  by_first end.Ended reads reads' writes writes' (inl all) unread none causes no_read no_write = absurd (unread refl)
  by_first end.Ended reads reads' writes writes' (inr quitted) unread none causes no_read no_write =
      inr (ap (λ (b : Bool). status_cut b (ending exchange.limits first)) (sym (quitted_all exchange last at first front (Some more) (more, is, refl) quitted).1))
  by_first (end.Truncated place) reads reads' writes writes' ends unread none causes no_read no_write = absurd (unread refl)
  by_first (end.Protocol fault) reads reads' writes writes' ends unread none causes no_read no_write =
      inr (sym (ap (λ (s : Stream). status_cut (asks_to_quit exchange.limits first) s) (ends_as exchange last at front _ ends.0 first more (Broken fault.kind fault.place) is (ends.1 more))
      ∙ ap (λ (b : Bool). status_cut b (Broken fault.kind fault.place)) (no_quit exchange last at front _ ends.0 first more is (ap requests_of (ends.1 more)))))
  by_first end.ReadFault reads reads' writes writes' ends unread none causes no_read no_write = absurd (no_read (causes.read refl))
  by_first end.WriteFault reads reads' writes writes' ends unread none causes no_read no_write = absurd (no_write (causes.write refl))
  by_first end.Memory reads reads' writes writes' ends unread none causes no_read no_write = inl refl
  by_first end.Budget reads reads' writes writes' ends unread none causes no_read no_write =
      let same : first ≡ front = is ∙ ap (λ (l : List ℕ). front ++ l) (none refl) ∙ append-nil front in
      let answered = front_answered exchange last at first front (Some more) (more, is, refl) ends.0 ends.1 in
      inr (unbroken (asks_to_quit exchange.limits first) (ending exchange.limits first) answered.place (ap (asks_to_quit exchange.limits) same ∙ answered.goes_on)
      (ap (ending exchange.limits) same ∙ answered.unbroken))

-- a run of `pipe` from the empty database, on an input whose bytes are known
module _ {handler : Handler} (exchange : Exchange handler) (budget : ℕ) (outcome : Outcome) (bytes : List ℕ) (left : Option (List ℕ))
    (piped : PipedWith handler exchange.limits budget outcome exchange.from exchange.to (Some bytes) left exchange.had exchange.has) where
  by_piped : (reads reads' writes writes' : ℕ) → HasCauses outcome.end reads reads' writes writes' → budget ≤ length bytes → (Rose reads reads' → ⊥) → (Rose writes writes' → ⊥)
      → (status_of outcome.end ≡ status.Memory) ⊎ (status_of outcome.end ≡ status_cut (asks_to_quit exchange.limits (take budget bytes)) (ending exchange.limits (take budget bytes)))
  by_piped reads reads' writes writes' causes enough no_read no_write =
      let split = splits bytes left piped.bytes piped.took in
      let within : length piped.bytes ≤ budget = omega (arith, piped.count, piped.within) in
      by_first exchange piped.last piped.world left (take budget bytes) piped.bytes (take (budget - length piped.bytes) split.0)
      (ap (take budget) split.1 ∙ first_bytes piped.bytes split.0 budget within) outcome.end reads reads' writes writes' piped.ends
      (λ read.
      let none : split.0 ≡ [] = subst IsAtEnd split.2 (at_end outcome.end left (beginning_of handler exchange.limits exchange.from) piped.last exchange.had exchange.has piped.bytes piped.ends read) in
      let below : outcome.taken < budget = piped.below read in
      absurd (omega (arith, ap length split.1, length-append piped.bytes split.0, ap length none, piped.count, below, enough)))
      (λ is.
      let all : budget - length piped.bytes ≡ 0 = omega (arith, piped.count, piped.spent is) in
      ap (λ (n : ℕ). take n split.0) all)
      causes no_read no_write

pub by_budget : {handler : Handler} (exchange : Exchange handler) (budget : ℕ) (outcome : Outcome) (bytes : List ℕ) (told left : Option (List ℕ)) → told ≡ Some bytes
    → PipedWith handler exchange.limits budget outcome exchange.from exchange.to told left exchange.had exchange.has
    → (reads reads' writes writes' : ℕ) → HasCauses outcome.end reads reads' writes writes' → budget ≤ length bytes → (Rose reads reads' → ⊥) → (Rose writes writes' → ⊥)
    → (status_of outcome.end ≡ status.Memory) ⊎ (status_of outcome.end ≡ status_cut (asks_to_quit exchange.limits (take budget bytes)) (ending exchange.limits (take budget bytes)))
by_budget {handler} exchange budget outcome bytes told left tells piped =
    by_piped exchange budget outcome bytes left
    (subst (λ (o : Option (List ℕ)). PipedWith handler exchange.limits budget outcome exchange.from exchange.to o left exchange.had exchange.has) tells piped)
