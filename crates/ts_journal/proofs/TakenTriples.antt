-- The accepted triples of TS.MADD, without the others.
use Rattle.std.proofs.Common.{◌≡◌, ℕ, Bool, true, false, if◌then◌else◌, List, [], ◌∷◌, ◌++◌, map, refl, sym, ◌∙◌, ap, subst, append_assoc, append-nil}
use Rattle.std.specs.Prelude.{ℤ, Result, Ok, Err}
use Rattle.ts_spec.specs.declared.command.At.{At}
use Rattle.ts_spec.specs.declared.limits.Limits.{Limits}
use Rattle.ts_spec.specs.Command.{Triple}
use Rattle.ts_spec.specs.Key.{Key}
use Rattle.ts_spec.specs.Refusal.{Fault}
use Rattle.ts_spec.specs.Replies.{reply_list, item_reply}
use Rattle.ts_spec.specs.ResolvedCommands.{resolved_triple}
use Rattle.ts_spec.specs.Response.{Item, Wrote, IsWrong, IsRefused, Items}
use Rattle.ts_spec.specs.State.{State}
use Rattle.ts_spec.specs.Step.{Outcome, triple_step, item_of, madd}
use Rattle.ts_spec.specs.Text.{Reply, Replies, Empty}
use Rattle.ts_spec.specs.Text as text
use Rattle.ts_spec.proofs.ResolvedTimes.{triple-resolved}
use Rattle.ts_journal.specs.Record.{is_number, accepted_part}
use Rattle.ts_journal.specs.RecordReplay.{ExecutesTriple, ExecutesTriples, has_error}
use Rattle.ts_journal.proofs.ReadableChanges.{AreReadableTriples}
use Rattle.ts_journal.proofs.ReadBack.{IsSample, AreSamples}

-- ---- the triples that were taken

abbrev IsTime : List Item → Type 0
IsTime [] = ⊥
IsTime (Wrote t ∷ items) = Unit {0}
IsTime (IsWrong fault ∷ items) = ⊥
IsTime (IsRefused refusal ∷ items) = ⊥

-- each has a time and a value
accepted_part-sample : (limits : Limits) (m : State) (reading : ℕ) (key : Key) (at : Result At Fault) (v : Result ℤ Fault)
    → IsTime (item_of (triple_step limits m reading key at v).response) → IsSample at v
accepted_part-sample limits m reading key (Ok at) (Ok v) h = tt
accepted_part-sample limits m reading key (Ok at) (Err fault) h = h
accepted_part-sample limits m reading key (Err fault) v h = h

pub samples-accepted_part : (limits : Limits) (reading : ℕ) (ts : List Triple) (m n : State) (replies : Replies) → ExecutesTriples limits reading ts m replies n → AreSamples (accepted_part ts replies)
samples-accepted_part limits reading [] m n replies h = tt
samples-accepted_part limits reading (t ∷ ts) m n Empty h = absurd h
samples-accepted_part limits reading (t ∷ ts) m n (text.Replies.Item reply replies) (mid, here, after) = go (is_number reply) here (samples-accepted_part limits reading ts mid n replies after)
  where
    go : (b : Bool) → ExecutesTriple b limits reading t m mid → AreSamples (accepted_part ts replies) → AreSamples (if b then t ∷ accepted_part ts replies else accepted_part ts replies)
    go true here others = (accepted_part-sample limits m reading t.key t.at t.value (subst IsTime (sym here.wrote) tt), others)
    go false here others = others

-- and is in its range, as it was read
pub readable-accepted_part : (ts : List Triple) (replies : Replies) → AreReadableTriples ts → AreReadableTriples (accepted_part ts replies)
readable-accepted_part [] replies h = tt
readable-accepted_part (t ∷ ts) Empty h = tt
readable-accepted_part (t ∷ ts) (text.Replies.Item reply replies) h = go (is_number reply) (readable-accepted_part ts replies h.1)
  where
    go : (b : Bool) → AreReadableTriples (accepted_part ts replies) → AreReadableTriples (if b then t ∷ accepted_part ts replies else accepted_part ts replies)
    go true others = (h.0, others)
    go false others = others

-- they are told their times, and lead to the state that was left
pub record DoesTaken (limits : Limits) (m : State) (other : ℕ) (so_far : List Item) (ts : List Triple) (n : State) : Type 0 where
  pub times : List ℕ
  pub done : madd limits m other so_far ts ≡ record { state = n; response = Items (so_far ++ map (λ t. Wrote t) times) }

pub do-accepted_part : (limits : Limits) (reading other : ℕ) (ts : List Triple) (m n : State) (replies : Replies) (so_far : List Item) → ExecutesTriples limits reading ts m replies n
    → DoesTaken limits m other so_far (map (resolved_triple reading) (accepted_part ts replies)) n
do-accepted_part limits reading other [] m n Empty so_far h =
    record { times = []; done = ap (λ (s : State). record { state = s; response = Items so_far }) (sym h) ∙ ap (λ items. record { state = n; response = Items items }) (sym (append-nil so_far)) }
do-accepted_part limits reading other [] m n (text.Replies.Item reply replies) so_far h = absurd h
do-accepted_part limits reading other (t ∷ ts) m n Empty so_far h = absurd h
do-accepted_part limits reading other (t ∷ ts) m n (text.Replies.Item reply replies) so_far (mid, here, after) =
    go (is_number reply) here (λ items. do-accepted_part limits reading other ts mid n replies items after)
  where
    go : (b : Bool) → ExecutesTriple b limits reading t m mid → ((items : List Item) → DoesTaken limits mid other items (map (resolved_triple reading) (accepted_part ts replies)) n)
        → DoesTaken limits m other so_far (map (resolved_triple reading) (if b then t ∷ accepted_part ts replies else accepted_part ts replies)) n
    go true here others =
        let more : List Triple = map (resolved_triple reading) (accepted_part ts replies) in
        let rest = others (so_far ++ Wrote here.time ∷ []) in record {
          times = here.time ∷ rest.times;
          done = ap (λ (o : Outcome). madd limits o.state other (so_far ++ item_of o.response) more) (triple-resolved limits m reading other t.key t.at t.value)
              ∙ ap (λ (s : State). madd limits s other (so_far ++ item_of (triple_step limits m reading t.key t.at t.value).response) more) (sym here.state)
              ∙ ap (λ items. madd limits mid other (so_far ++ items) more) here.wrote
              ∙ rest.done
              ∙ ap (λ items. record { state = n; response = Items items }) (append_assoc so_far (Wrote here.time ∷ []) (map (λ t. Wrote t) rest.times));
        }
    go false here others =
        let rest = others so_far in
        record { times = rest.times; done = ap (λ (s : State). madd limits s other so_far (map (resolved_triple reading) (accepted_part ts replies))) (sym here) ∙ rest.done }

pub times-accepted : (times : List ℕ) → has_error (reply_list (map item_reply (map (λ t. Wrote t) times))) ≡ false
times-accepted [] = refl
times-accepted (t ∷ times) = times-accepted times
