-- Storing a series or a rule of a checkpoint.
use Rattle.std.proofs.Common.{◌≡◌, Bool, true, false, if◌then◌else◌, refl, sym, ◌∙◌, ap, subst}
use Rattle.std.specs.Prelude.{Option, None, Some, Result, Ok, Err, ◌↔◌}
use Rattle.std.specs.declared.alloc.AllocError.{AllocError}
use Rattle.ts_spec.specs.State.{State}
use Rattle.ts_spec.specs.StoredSeries.{StoredKeys, kept}
use Rattle.ts_spec.specs.declared.limits.Limits.{Limits}
use Rattle.ts_db.specs.DbState.{DbState, DbView, Represents, Simulates}
use Rattle.ts_db.specs.Restoring.{Restores}
use Rattle.ts_checkpoint.specs.Loading.{Restoring, restoring}
use Rattle.ts_execution.specs.Stages.{GivesRestored, part_result_of}
use Rattle.ts_execution.specs.declared.parts.PartResult.TheVariants as part_result
use Rattle.ts_execution.proofs.Carried.{carries_none}

module _ (test : Limits → StoredKeys → Bool) (IsNew : Limits → StoredKeys → Type 0) (exact : (limits : Limits) (keys : StoredKeys) → (test limits keys ≡ true) ↔ IsNew limits keys)
    (with : State → State) where
  -- the state with it, if it is new
  abbrev Wanted : DbState → Option Restoring
  Wanted from = if test from.limits (kept from.state) then Some (restoring (with from.state)) else None

  -- what is new for the database is new for each state that it represents
  new-for : (old : DbView) (from : DbState) → Represents old from → IsNew old.limits old.keys → IsNew from.limits (kept from.state)
  new-for old from stands new =
      subst (λ (k : StoredKeys). IsNew from.limits k) stands.state.kept (subst (λ (l : Limits). IsNew l old.keys) (sym stands.limits) new)

  is-new : (old : DbView) (from : DbState) → Represents old from → IsNew old.limits old.keys → test from.limits (kept from.state) ≡ true
  is-new old from stands new = (exact from.limits (kept from.state)).1 (new-for old from stands new)

  new-of : (old : DbView) (from : DbState) → Represents old from → IsNew from.limits (kept from.state) → IsNew old.limits old.keys
  new-of old from stands new =
      subst (λ (l : Limits). IsNew l old.keys) stands.limits (subst (λ (k : StoredKeys). IsNew from.limits k) (sym stands.state.kept) new)

  is-old : (old : DbView) (from : DbState) → Represents old from → (IsNew old.limits old.keys → ⊥) → Wanted from ≡ None
  is-old old from stands none = go (test from.limits (kept from.state)) refl
    where
      go : (b : Bool) → test from.limits (kept from.state) ≡ b → (if b then Some (restoring (with from.state)) else None) ≡ None
      go true is = absurd (none (new-of old from stands ((exact from.limits (kept from.state)).0 is)))
      go false is = refl

  -- by what the database answers
  pub stored-by : (old new : DbView) (result : Result Bool AllocError) → (result ≡ Ok true → IsNew old.limits old.keys) → (result ≡ Ok false → IsNew old.limits old.keys → ⊥)
      → Restores old with result new → Simulates old new (λ from to. GivesRestored (part_result_of result) (Wanted from) from to)
  stored-by old new (Ok true) valid refused each = λ from stands.
      let a = each from stands in
      record {
        to = a.to;
        done = (ap (λ (b : Bool). if b then Some (restoring (with from.state)) else None) (is-new old from stands (valid refl)) ∙ ap (λ (m : State). Some (restoring m)) (sym a.done.1), a.done.0);
        stands = a.stands;
      }
  stored-by old new (Ok false) valid refused each = λ from stands.
      let a = each from stands in
      record { to = a.to; done = (is-old old from stands (refused refl), a.done.0); stands = a.stands }
  stored-by old new (Err error) valid refused each = λ from stands. (let a = each from stands in record { to = a.to; done = tt; stands = a.stands })

  -- it can't be new
  pub never-new : (db_view : DbView) → ((limits : Limits) (keys : StoredKeys) → IsNew limits keys → ⊥) → Simulates db_view db_view (λ from to. GivesRestored part_result.Refused (Wanted from) from to)
  never-new db_view none = carries_none db_view (λ from to. GivesRestored part_result.Refused (Wanted from) from to)
      (λ from stands. (is-old db_view from stands (none db_view.limits db_view.keys), refl))
