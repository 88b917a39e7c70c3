-- The laws of steps, from one case analysis: a step over the stored data is that of the state, keeps the state valid,
-- and a rule keeps counting.
use Rattle.std.proofs.Common.{◌≡◌, ℕ, ℤ, ◌≤◌, ◌++◌, false, List, [], ◌∷◌, map, Result, Ok, Err, inl, inr, refl, sym, ap, ◌∙◌, subst}
use Rattle.std.specs.Prelude.{⊤}
use Rattle.ts_spec.specs.declared.limits.Limits.{Limits}
use Rattle.ts_spec.specs.declared.command.At.{At}
use Rattle.ts_spec.specs.Key.{Key, same}
use Rattle.ts_spec.specs.Keyed.{get, none}
use Rattle.ts_spec.specs.State.{Rule, State, empty}
use Rattle.ts_spec.specs.Rules.{plain_at}
use Rattle.ts_spec.specs.Filter.{selection}
use Rattle.ts_spec.specs.Refusal.{Fault}
use Rattle.ts_spec.specs.Command.{Triple, Command, Create, Alter, Add, Madd, Incr, DelRange, CreateRule, DeleteRule, Range, MRange, Get, MGet, QueryIndex, InfoOf, Ping, Echo, Quit, Drop, Exists}
use Rattle.ts_spec.specs.Response.{Item, IsWrong, Done, Count, Items, LastRows, Keys, Word}
use Rattle.ts_spec.specs.Step.{step, Outcome, time_of, triple_step, item_of, madd, ping_response}
use Rattle.ts_spec.specs.CountsAll.{CountsAll, LinksWithoutRetention, StillCountsAll, Spares, SparesEach, LeavesAlone}
use Rattle.ts_spec.specs.Valid.{IsValid}
use Rattle.ts_spec.specs.StoredSeries.{StoredKeys, kept}
use Rattle.ts_spec.specs.StoredStep.{StoredOutcome, stored_triple, stored_madd}
use Rattle.ts_spec.specs.StoredQueries.{stored_ranges_response, stored_last_member, stored_step}
use Rattle.ts_spec.specs.Represents.{RepresentsState, SimulatesStep}
use Rattle.ts_spec.proofs.StoredMaps.{kept-same}
use Rattle.ts_spec.proofs.StoredAsked.{range-kept, ranges-kept, last-kept, last_members-kept, selection-kept, info-kept}
use Rattle.ts_spec.proofs.CountsOn.{CountsOn}
use Rattle.ts_spec.proofs.CountsAfter.{counts-now}
use Rattle.ts_spec.proofs.Allowed.{empty-valid}
use Rattle.ts_spec.proofs.Led.{IsKnown, IsLed, led-told}
use Rattle.ts_spec.proofs.StoredMaking.{led-create, led-create_rule}
use Rattle.ts_spec.proofs.StoredAltered.{led-altered}
use Rattle.ts_spec.proofs.StoredEnds.{led-without_rule, led-dropped, there-kept}
use Rattle.ts_spec.proofs.DeleteStep.{led-deleted}
use Rattle.ts_spec.proofs.WriteSteps.{led-add, led-put, led-incr}

-- A rule to a key still counts everything if a command is on another key or has changed nothing.
spares : {Room : Type 0} {Known : Key → Key → Rule → Type 0} {limits : Limits} {m : State} {done : Outcome} {stored_done : StoredOutcome} (key : Key) →
    IsLed limits Room (λ k. same k key ≡ false) Known m done stored_done → IsLed limits Room (λ k. Spares k m key done) Known m done stored_done
spares {Known = Known} {m = m} {done = done} key led = record { is_step = led.is_step; counts = counts }
  where
    counts : (s k : Key) (old : Rule) → Spares k m key done → Known s k old → CountsOn old m s k → CountsOn old done.state s k
    counts s k old (inl other) known h = led.counts s k old other known h
    counts s k old (inr still) known h = subst (λ (n : State). CountsOn old n s k) (sym still) h

-- ---- triples

led-triple : (limits : Limits) (m : State) → IsValid limits m → (reading : ℕ) (key : Key) (at : Result At Fault) (value : Result ℤ Fault) →
    IsLed limits ⊤ (λ k. same k key ≡ false) (λ s k old. ⊤) m (triple_step limits m reading key at value) (stored_triple limits (kept m) reading key at value)
led-triple limits m v reading key (Err fault) value = led-told limits m v (Items (IsWrong fault ∷ [])) (Items (IsWrong fault ∷ [])) refl
led-triple limits m v reading key (Ok at) (Err fault) = led-told limits m v (Items (IsWrong fault ∷ [])) (Items (IsWrong fault ∷ [])) refl
led-triple limits m v reading key (Ok at) (Ok x) = led-put limits m v key (time_of reading at) x

led-madd : (limits : Limits) (m : State) → IsValid limits m → (reading : ℕ) (items : List Item) (xs : List Triple) →
    IsLed limits ⊤ (λ k. SparesEach limits m reading k xs) (λ s k old. ⊤) m (madd limits m reading items xs) (stored_madd limits (kept m) reading items xs)
led-madd limits m v reading items [] = led-told limits m v (Items items) (Items items) refl
led-madd limits m v reading items (x ∷ xs) =
    go (triple_step limits m reading x.key x.at x.value) (stored_triple limits (kept m) reading x.key x.at x.value) (led-triple limits m v reading x.key x.at x.value)
    (led-madd limits (triple_step limits m reading x.key x.at x.value).state ((led-triple limits m v reading x.key x.at x.value).is_step tt).stands.valid reading (items ++ item_of (triple_step limits m reading x.key x.at x.value).response) xs)
  where
    go : (done : Outcome) (stored_done : StoredOutcome) → IsLed limits ⊤ (λ k. same k x.key ≡ false) (λ s k old. ⊤) m done stored_done →
        IsLed limits ⊤ (λ k. SparesEach limits done.state reading k xs) (λ s k old. ⊤) done.state (madd limits done.state reading (items ++ item_of done.response) xs) (stored_madd limits (kept done.state) reading (items ++ item_of done.response) xs) →
        IsLed limits ⊤ (λ k. Spares k m x.key done × SparesEach limits done.state reading k xs) (λ s k old. ⊤) m (madd limits done.state reading (items ++ item_of done.response) xs) (stored_madd limits stored_done.keys reading (items ++ item_of stored_done.response) xs)
    go done stored_done first rest = record {
      is_step = λ room. (let s : SimulatesStep limits done stored_done = first.is_step tt in rw (s.stands.kept, ← s.response) (rest.is_step tt));
      counts = λ s k old spared known h. rest.counts s k old spared.1 tt ((spares x.key first).counts s k old spared.0 tt h);
    }

-- ---- steps

-- steps without a limit on samples, and without premises
known-all : {Room : Type 0} {Spared : Key → Type 0} {Known : Key → Key → Rule → Type 0} {limits : Limits} {m : State} {done : Outcome} {stored_done : StoredOutcome} →
    IsLed limits ⊤ Spared (λ s k old. ⊤) m done stored_done → IsLed limits Room Spared Known m done stored_done
known-all led = record { is_step = λ room. led.is_step tt; counts = λ s k old other known h. led.counts s k old other tt h }

pub led-step : (limits : Limits) (m : State) → IsValid limits m → (reading : ℕ) (c : Command) →
    IsLed limits (1 ≤ limits.samples) (λ k. LeavesAlone limits m reading k c) (IsKnown m) m (step limits m reading c) (stored_step limits (kept m) reading c)
led-step limits m v reading (Create key spec) = led-create limits m v key spec
led-step limits m v reading (Alter key change) = led-altered limits m v key change
led-step limits m v reading (Add key at x on spec) = spares key (led-add limits m v key (time_of reading at) x on spec (λ room. room))
led-step limits m v reading (Madd triples) = known-all (led-madd limits m v reading [] triples)
led-step limits m v reading (Incr key x at spec) = spares key (led-incr limits m v key x (time_of reading at) spec (λ room. room))
led-step limits m v reading (DelRange key from to) = spares key (led-deleted limits m v key from to)
led-step limits m v reading (CreateRule source dest agg grid) = led-create_rule limits m v source dest agg grid
led-step limits m v reading (DeleteRule source dest) = led-without_rule limits m v source dest
led-step limits m v reading (Range key latest q) = led-told limits m v _ _ (range-kept limits m key latest q)
led-step limits m v reading (MRange latest show filters q group) =
    led-told limits m v _ _ (ap (λ (ks : List Key). stored_ranges_response limits (kept m) latest show q group ks) (selection-kept m filters) ∙ ranges-kept limits m latest show q group (selection m filters))
led-step limits m v reading (Get key latest) = led-told limits m v _ _ (last-kept m key latest)
led-step limits m v reading (MGet latest show filters) =
    led-told limits m v _ _ (ap (λ (ks : List Key). LastRows (map (stored_last_member (kept m) latest show) ks)) (selection-kept m filters) ∙ ap (λ ms. LastRows ms) (last_members-kept m latest show (selection m filters)))
led-step limits m v reading (QueryIndex filters) = led-told limits m v _ _ (ap (λ (ks : List Key). Keys ks) (selection-kept m filters))
led-step limits m v reading (InfoOf key) = led-told limits m v _ _ (info-kept m key)
led-step limits m v reading (Ping word) = led-told limits m v (ping_response word) (ping_response word) refl
led-step limits m v reading (Echo word) = led-told limits m v (Word word) (Word word) refl
led-step limits m v reading Quit = led-told limits m v Done Done refl
led-step limits m v reading (Drop keys) = known-all (led-dropped limits m v 0 keys)
led-step limits m v reading (Exists keys) = led-told limits m v _ _ (ap (λ (n : ℕ). Count n) (there-kept m keys))

-- A step over the stored data is a step of each state that it represents.
pub kept-step : (limits : Limits) (m : State) (keys : StoredKeys) (reading : ℕ) (c : Command) → 1 ≤ limits.samples → RepresentsState limits keys m → SimulatesStep limits (step limits m reading c) (stored_step limits keys reading c)
kept-step limits m keys reading c room s = rw s.kept ((led-step limits m s.valid reading c).is_step room)

-- Each step keeps the state valid.
pub step-valid : (limits : Limits) (m : State) (reading : ℕ) (c : Command) → 1 ≤ limits.samples → IsValid limits m → IsValid limits (step limits m reading c).state
step-valid limits m reading c room v = ((led-step limits m v reading c).is_step room).stands.valid

-- If a rule connects two keys before and after a step, and neither has a retention, then it is the same rule, and
-- still counts all samples if it did before.
pub still-counts : (limits : Limits) (m : State) (reading : ℕ) (c : Command) (s k : Key) (old new : Rule) → IsValid limits m → LeavesAlone limits m reading k c →
    LinksWithoutRetention m s k old → LinksWithoutRetention (step limits m reading c).state s k new → CountsAll (plain_at (get s m)) old → StillCountsAll (step limits m reading c).state s old new
still-counts limits m reading c s k old new v spared j n a =
    (led-step limits m v reading c).counts s k old spared (record { joins = j; counts = a }) (counts-now m s k old j.linked a) new n.linked n.source_for_ever n.dest_for_ever

-- The empty state is stored as the empty map.
pub empty-stands : (limits : Limits) → RepresentsState limits none empty
empty-stands limits = record { valid = empty-valid limits; kept = kept-same none empty (λ k. refl) }
