-- How an input that was read to its end ends.
use Rattle.std.specs.Prelude.{Option, Some, None, codes}
use Rattle.std.proofs.Common.{◌≡◌, ◌≢◌, ◌⊎◌, Bool, true, false, if◌then◌else◌, inl, inr, ⊎_elim, ℕ, ◌<◌, List, [], ◌∷◌, length, refl, sym, ◌∙◌, ap, arith, length-append}
use Rattle.ts_io.specs.Causes.{Rose}
use Rattle.ts_spec.specs.Wire.{Stream, Ended, Inside, Broken}
use Rattle.ts_engine.specs.declared.piped.End.{End}
use Rattle.ts_engine.specs.declared.piped.End.TheVariants as end
use Rattle.ts_words.specs.Modes.{same, mode_of}
use Rattle.ts_words.specs.declared.mode.Mode.TheVariants as mode
use Rattle.ts_words.specs.declared.mode.Storage.{Storage}
use Rattle.ts_words.specs.declared.status.Status.{Status}
use Rattle.ts_words.specs.declared.status.Status.TheVariants as status
use Rattle.ts_execution.specs.Handler.{Handler}
use Rattle.ts_engine.specs.Piping.{HasCauses}
use Rattle.ts_engine.specs.Status.{status_of}
use Rattle.ts_engine.specs.Top.{status_by, status_at}
use Rattle.ts_engine.specs.Headline.{Exchange, Writes, ending, asks_to_quit}

-- without QUIT the status is that of the ending
by_ending : (quits : Bool) (stream end : Stream) → quits ≡ false → stream ≡ end → status_at end ≡ status_by quits stream
by_ending quits stream end none is = ap status_at (sym is) ∙ ap (λ (b : Bool). status_by b stream) (sym none)

-- no fault counter rose and the budget is not reached, so the status is that of the grammar, or out of memory
pub by_grammar : {handler : Handler} (exchange : Exchange handler) (budget : ℕ) (bytes : List ℕ) (left : Option (List ℕ)) (e : End) (reads reads' writes writes' : ℕ)
    → Writes exchange budget bytes left e → HasCauses e reads reads' writes writes' → length bytes < budget → (Rose reads reads' → ⊥) → (Rose writes writes' → ⊥)
    → (status_of e ≡ status.Memory) ⊎ (status_of e ≡ status_by (asks_to_quit exchange.limits bytes) (ending exchange.limits bytes))
by_grammar exchange budget bytes left end.Ended reads reads' writes writes' (inl all) causes below no_read no_write =
    inr (by_ending (asks_to_quit exchange.limits bytes) (ending exchange.limits bytes) Ended all.goes_on all.ended)
by_grammar exchange budget bytes left end.Ended reads reads' writes writes' (inr quitted) causes below no_read no_write =
    inr (ap (λ (b : Bool). status_by b (ending exchange.limits bytes)) (sym quitted.1))
by_grammar exchange budget bytes left (end.Truncated place) reads reads' writes writes' wrote causes below no_read no_write =
    inr (by_ending (asks_to_quit exchange.limits bytes) (ending exchange.limits bytes) (Inside place) wrote.goes_on wrote.ended)
by_grammar exchange budget bytes left (end.Protocol fault) reads reads' writes writes' wrote causes below no_read no_write =
    inr (by_ending (asks_to_quit exchange.limits bytes) (ending exchange.limits bytes) (Broken fault.kind fault.place) wrote.1 wrote.2)
by_grammar exchange budget bytes left end.ReadFault reads reads' writes writes' wrote causes below no_read no_write = absurd (no_read (causes.read refl))
by_grammar exchange budget bytes left end.WriteFault reads reads' writes writes' wrote causes below no_read no_write = absurd (no_write (causes.write refl))
by_grammar exchange budget bytes left end.Memory reads reads' writes writes' wrote causes below no_read no_write = inl refl
by_grammar exchange budget bytes left end.Budget reads reads' writes writes' wrote causes below no_read no_write =
    absurd (omega (arith, ap length wrote.0.split, length-append wrote.0.front wrote.0.rest, wrote.1))

-- a fact about the intended status holds of the reported one
pub as_meant : (meant given wanted : Status) → given ≡ meant → (meant ≡ status.Memory) ⊎ (meant ≡ wanted) → (given ≡ status.Memory) ⊎ (given ≡ wanted)
as_meant meant given wanted same (inl memory) = inl (same ∙ memory)
as_meant meant given wanted same (inr is) = inr (same ∙ is)

-- the reported status is the intended one, unless writing its line failed
pub answered_as : (meant given : Status) (told told' : ℕ) → (given ≡ status.WriteFault → (meant ≡ status.WriteFault) ⊎ Rose told told') → (given ≡ status.WriteFault) ⊎ (given ≡ meant)
    → (Rose told told' → ⊥) → given ≡ meant
answered_as meant given told told' cause same none =
    ⊎_elim (λ (failed : given ≡ status.WriteFault). ⊎_elim (λ (was : meant ≡ status.WriteFault). failed ∙ sym was) (λ (rose : Rose told told'). absurd (none rose)) (cause failed))
    (λ (is : given ≡ meant). is) same

-- a workload whose status is no write fault was answered, or memory ran out
pub answered_or_memory : {A B : Type 0} (given : Status) → (given ≡ status.Ended) ⊎ (given ≡ status.WriteFault) ⊎ (given ≡ status.Memory) → (given ≡ status.WriteFault → A ⊎ B) → (A → ⊥) → (B → ⊥)
    → (given ≡ status.Memory) ⊎ (given ≡ status.Ended)
answered_or_memory given (inl good) cause no_a no_b = inr good
answered_or_memory given (inr (inl failed)) cause no_a no_b = absurd (⊎_elim no_a no_b (cause failed))
answered_or_memory given (inr (inr memory)) cause no_a no_b = inl memory

-- a status other than a write fault or this fault means another end
pub not_meant : {E : Type 0} (view : E → Status) (e fault : E) (meant given : Status) → meant ≡ view e
    → (given ≡ status.WriteFault) ⊎ (given ≡ meant) → given ≢ status.WriteFault → given ≢ view fault → e ≢ fault
not_meant view e fault meant given means (inl failed) no_write other is = no_write failed
not_meant view e fault meant given means (inr same) no_write other is = other (same ∙ means ∙ ap view is)

-- a reported status other than a write fault is the intended one
pub given-as : (told wanted meant given : Status) → wanted ≢ status.WriteFault → given ≡ wanted → meant ≡ told → (given ≡ status.WriteFault) ⊎ (given ≡ meant) → told ≡ wanted
given-as told wanted meant given other is means (inl failed) = absurd (other (sym is ∙ failed))
given-as told wanted meant given other is means (inr same) = sym (same ∙ means) ∙ is

pub not-given : (told wanted meant given : Status) → meant ≡ told → (given ≡ status.WriteFault) ⊎ (given ≡ meant) → given ≢ status.WriteFault → given ≢ wanted → told ≢ wanted
not-given told wanted meant given means (inl failed) no_write other is = no_write failed
not-given told wanted meant given means (inr same) no_write other is = other (same ∙ means ∙ is)

-- ---- the arguments

-- one argument does not select `keep`
one-not-keep : (pipe mux : Bool) → (if pipe then Some mode.Pipe else (if mux then Some mode.Mux else None)) ≡ Some mode.Keep → ⊥
one-not-keep true mux is = (cc)
one-not-keep false true is = (cc)
one-not-keep false false is = (cc)

-- the journal's name is the second argument
pub keep-words : (words : List (List ℕ)) → Some mode.Keep ≡ mode_of words → 1 < length words
keep-words [] is = absurd (cc)
keep-words (word ∷ []) is = absurd (one-not-keep (same word (codes "pipe")) (same word (codes "mux")) (sym is))
keep-words (word ∷ name ∷ words) is = omega arith

-- the same of `fold`
one-not-fold : (pipe mux : Bool) → (if pipe then Some mode.Pipe else (if mux then Some mode.Mux else None)) ≡ Some mode.Fold → ⊥
one-not-fold true mux is = (cc)
one-not-fold false true is = (cc)
one-not-fold false false is = (cc)

pub fold-words : (words : List (List ℕ)) → Some mode.Fold ≡ mode_of words → 1 < length words
fold-words [] is = absurd (cc)
fold-words (word ∷ []) is = absurd (one-not-fold (same word (codes "pipe")) (same word (codes "mux")) (sym is))
fold-words (word ∷ name ∷ words) is = omega arith

-- the mode `host` has one storage
pub same-storage : (words : List (List ℕ)) (one two : Storage) → Some (mode.Host one) ≡ mode_of words → mode_of words ≡ Some (mode.Host two) → one ≡ two
same-storage words one two first second = go one two (first ∙ second)
  where
    go : (one two : Storage) → Some (mode.Host one) ≡ Some (mode.Host two) → one ≡ two
    go one two is = (cc)
