-- A deletion over the stored data is a step of the state.
use Rattle.std.proofs.Common.{◌≡◌, ℕ, false, List, length, nat_lt, refl, sym, ap}
use Rattle.std.specs.Prelude.{⊤}
use Rattle.ts_spec.specs.declared.limits.Limits.{Limits}
use Rattle.ts_spec.specs.Sample.{Point, between}
use Rattle.ts_spec.specs.Key.{Key, same}
use Rattle.ts_spec.specs.State.{Rule, State, edge}
use Rattle.ts_spec.specs.Rules.{deleted}
use Rattle.ts_spec.specs.Refusal.{NoKey, DeleteBeyondRetention}
use Rattle.ts_spec.specs.Response.{Count}
use Rattle.ts_spec.specs.Writing.{meets_expired, delete_at, delete}
use Rattle.ts_spec.specs.Valid.{IsValid}
use Rattle.ts_spec.specs.StoredSeries.{StoredKeys, kept}
use Rattle.ts_spec.specs.StoredUpdates.{keys_deleted}
use Rattle.ts_spec.specs.StoredStep.{stored_delete_at, stored_delete}
use Rattle.ts_spec.specs.Represents.{RepresentsState, SimulatesStep}
use Rattle.ts_spec.proofs.Keeps.{shown-there}
use Rattle.ts_spec.proofs.ClientChanges.{deletion-valid}
use Rattle.ts_spec.proofs.CountsOn.{counts-on-deleted}
use Rattle.ts_spec.proofs.StoredMaps.{meets-kept}
use Rattle.ts_spec.proofs.Led.{IsLed, led-told, led-refused, led-if, led-unless, led-destinations, led-at, led-stands}
use Rattle.ts_spec.proofs.Deleted.{kept-deleted}

pub led-deleted : {Room : Type 0} {Known : Key → Key → Rule → Type 0} (limits : Limits) (m : State) → IsValid limits m → (key : Key) (from to : ℕ) →
    IsLed limits Room (λ k. same k key ≡ false) Known m (delete limits m key from to) (stored_delete limits (kept m) key from to)
led-deleted limits m v key from to =
    led-at limits m v key (delete_at limits m key from to) (stored_delete_at limits (kept m) key from to) (λ e. led-refused limits m v NoKey)
    (λ d there. (let keys : keys_deleted key from to (kept m) ≡ kept (deleted key from to m) = sym (kept-deleted limits m key d from to v there) in
    led-if limits m v (nat_lt to from) _ _ _ _ (led-told limits m v (Count 0) (Count 0) refl)
    (led-unless limits m v (meets_expired from (edge d) d.rules) _ DeleteBeyondRetention _ _ (meets-kept from (edge d) d.rules)
    (λ y. led-destinations limits m v key d _ _ there keys
    (λ dests. record {
      is_step = λ room. record {
        response = ap (λ (ps : List Point). Count (length (between from to ps))) (shown-there m key d there);
        stands = record { valid = deletion-valid limits m key d from to v there dests; kept = keys };
      };
      counts = λ s k old other known h. counts-on-deleted limits m s k key old d from to v there other h;
    })))))

pub delete-step : (limits : Limits) (keys : StoredKeys) (m : State) (key : Key) (from to : ℕ) → RepresentsState limits keys m →
    SimulatesStep limits (delete limits m key from to) (stored_delete limits keys key from to)
delete-step limits keys m key from to s = led-stands limits keys m s {Room = ⊤} (λ n. stored_delete limits n key from to) tt (led-deleted limits m s.valid key from to)
