-- Writes and increments over the stored data are steps of the state.
use Rattle.std.proofs.Common.{◌≡◌, ℕ, ℤ, ◌≤◌, Bool, false, nat_lt, if◌then◌else◌, List, length, Option, Some, None, is_some, refl, sym, ap, ◌∙◌, subst, ltb-false}
use Rattle.std.specs.Prelude.{⊤}
use Rattle.std.specs.Option.{unwrap_or}
use Rattle.ts_spec.specs.declared.limits.Limits.{Limits}
use Rattle.ts_spec.specs.declared.series.Policy.{Policy}
use Rattle.ts_spec.specs.declared.series.Merge.{Merge}
use Rattle.ts_spec.specs.declared.series.Merge.TheVariants.{By}
use Rattle.ts_spec.specs.Sample.{Point, last_of}
use Rattle.ts_spec.specs.Key.{Key, same}
use Rattle.ts_spec.specs.Keyed.{get}
use Rattle.ts_spec.specs.State.{Rule, Record, State, Link, link_to, edge}
use Rattle.ts_spec.specs.Rules.{shown, written, Merged, Refuse, KeepOld, To, merge, within_bound}
use Rattle.ts_spec.specs.Refusal.{TooOld, BeforeLast, SamplesFull, NoKey}
use Rattle.ts_spec.specs.Command.{Spec}
use Rattle.ts_spec.specs.Response.{Count}
use Rattle.ts_spec.specs.Step.{shows_more, write_merged, value_at, write, add_at, add, put_at, put_own, is_before_last, changed_value, increased, incr_by, incr_at, incr}
use Rattle.ts_spec.specs.Ignoring.{ignored_after, ignored, stored_ignored}
use Rattle.ts_spec.specs.Valid.{IsValid}
use Rattle.ts_spec.specs.StoredSeries.{StoredKeys, stored_record, kept}
use Rattle.ts_spec.specs.StoredUpdates.{keys_written}
use Rattle.ts_spec.specs.StoredStep.{stores_more, stored_write_merged, stored_write, stored_add_at, stored_add, stored_put_at, stored_put_own, stored_increased, stored_incr_by, stored_incr_at, stored_incr}
use Rattle.ts_spec.specs.Represents.{RepresentsState, SimulatesStep}
use Rattle.ts_spec.proofs.Keeps.{shown-there, valid-written}
use Rattle.ts_spec.proofs.StoredMaps.{some-mapped, more-kept}
use Rattle.ts_spec.proofs.StoredWritten.{kept-written}
use Rattle.ts_spec.proofs.CountsOn.{counts-on-written}
use Rattle.ts_spec.proofs.Led.{IsLed, led-told, led-refused, led-unless, led-ignored, led-destinations, led-at, led-stands}
use Rattle.ts_spec.proofs.StoredMaking.{led-create_with}

-- a stored series ignores the same samples
ignored-kept : (m : State) (key : Key) (d : Record) (t : ℕ) (x : ℤ) → get key m ≡ Some d → stored_ignored (stored_record (link_to m key) d) t x ≡ ignored m key d t x
ignored-kept m key d t x there =
    ap (λ (b : Bool). if b then None else ignored_after d.options (last_of (stored_record (link_to m key) d).list) t x) (some-mapped (λ (l : Link). l.source) (link_to m key))
    ∙ ap (λ (ps : List Point). if is_some (link_to m key) then None else ignored_after d.options (last_of ps) t x) (sym (shown-there m key d there))

-- ---- to an existing key

module _ {Room : Type 0} {Known : Key → Key → Rule → Type 0} (limits : Limits) (m : State) (v : IsValid limits m) (key : Key) (d : Record) (there : get key m ≡ Some d) where
  led-merged : (t : ℕ) (w : Merged) → IsLed limits Room (λ k. same k key ≡ false) Known m (write_merged limits m key t w) (stored_write_merged limits (kept m) key t w)
  led-merged t (Refuse refusal) = led-refused limits m v refusal
  led-merged t KeepOld = led-told limits m v (Count t) (Count t) refl
  led-merged t (To x) =
      let keys : keys_written key t x (kept m) ≡ kept (written key t x m) = sym (kept-written limits m key d t x v there) in
      led-unless limits m v (shows_more limits.samples (written key t x m) key) _ SamplesFull _ _
      (ap (λ (n : StoredKeys). stores_more limits.samples n key) keys ∙ more-kept limits.samples (written key t x m) key)
      (λ few. led-destinations limits m v key d _ _ there keys
      (λ dests. record {
        is_step = λ room. record {
          response = refl;
          stands = record { valid = valid-written limits m key d t x v there (ltb-false limits.samples (length (shown (written key t x m) key)) few) dests; kept = keys };
        };
        counts = λ s k old other known h. counts-on-written limits m s k key old d t x v there other h;
      }))

  led-write : (how : Merge) (t : ℕ) (x : ℤ) → IsLed limits Room (λ k. same k key ≡ false) Known m (write limits m key d how t x) (stored_write limits (kept m) key (stored_record (link_to m key) d) how t x)
  led-write how t x =
      led-unless limits m v (nat_lt t (edge d)) _ TooOld _ _ refl
      (λ e. led-ignored limits m v _ _ _ _ (ignored-kept m key d t x there)
      (rw (← shown-there m key d there) (led-merged t (merge how (value_at t (shown m key)) x))))

  led-increased : (t : ℕ) (w : Merged) → IsLed limits Room (λ k. same k key ≡ false) Known m (increased limits m key d t w) (stored_increased limits (kept m) key (stored_record (link_to m key) d) t w)
  led-increased t (Refuse refusal) = led-merged t (Refuse refusal)
  led-increased t KeepOld = led-merged t KeepOld
  led-increased t (To x) = led-ignored limits m v _ _ _ _ (ignored-kept m key d t x there) (led-merged t (To x))

  led-incr_by : (x : ℤ) (t : ℕ) → IsLed limits Room (λ k. same k key ≡ false) Known m (incr_by limits m key d x t (last_of (shown m key))) (stored_incr_by limits (kept m) key (stored_record (link_to m key) d) x t (last_of (stored_record (link_to m key) d).list))
  led-incr_by x t =
      subst (λ (ps : List Point). IsLed limits Room (λ k. same k key ≡ false) Known m (incr_by limits m key d x t (last_of (shown m key))) (stored_incr_by limits (kept m) key (stored_record (link_to m key) d) x t (last_of ps)))
      (shown-there m key d there)
      (led-unless limits m v (is_before_last t (last_of (shown m key))) _ BeforeLast _ _ refl
      (λ e. led-unless limits m v (nat_lt t (edge d)) _ TooOld _ _ refl (λ y. led-increased t (within_bound (changed_value x (last_of (shown m key)))))))

-- ---- the commands, by the record at the key

module _ {Room : Type 0} {Known : Key → Key → Rule → Type 0} (limits : Limits) (m : State) (v : IsValid limits m) where
  pub led-put : (key : Key) (t : ℕ) (x : ℤ) → IsLed limits Room (λ k. same k key ≡ false) Known m (put_own limits m key t x) (stored_put_own limits (kept m) key t x)
  led-put key t x =
      led-at limits m v key (put_at limits m key t x) (stored_put_at limits (kept m) key t x) (λ e. led-refused limits m v NoKey)
      (λ d there. led-write limits m v key d there (By d.options.policy) t x)

  pub led-add : (key : Key) (t : ℕ) (x : ℤ) (on : Option Policy) (spec : Spec) → (Room → 1 ≤ limits.samples) →
      IsLed limits Room (λ k. same k key ≡ false) Known m (add limits m key t x on spec) (stored_add limits (kept m) key t x on spec)
  led-add key t x on spec room =
      led-at limits m v key (add_at limits m key t x on spec) (stored_add_at limits (kept m) key t x on spec) (λ e. led-create_with limits m v key spec t x room e)
      (λ d there. led-write limits m v key d there (By (unwrap_or on d.options.policy)) t x)

  pub led-incr : (key : Key) (x : ℤ) (t : ℕ) (spec : Spec) → (Room → 1 ≤ limits.samples) →
      IsLed limits Room (λ k. same k key ≡ false) Known m (incr limits m key x t spec) (stored_incr limits (kept m) key x t spec)
  led-incr key x t spec room =
      led-at limits m v key (incr_at limits m key x t spec) (stored_incr_at limits (kept m) key x t spec) (λ e. led-create_with limits m v key spec t x room e)
      (λ d there. led-incr_by limits m v key d there x t)

-- ---- the same for each represented state

pub add-step : (limits : Limits) (keys : StoredKeys) (m : State) (key : Key) (t : ℕ) (x : ℤ) (on : Option Policy) (spec : Spec) → 1 ≤ limits.samples → RepresentsState limits keys m →
    SimulatesStep limits (add limits m key t x on spec) (stored_add limits keys key t x on spec)
add-step limits keys m key t x on spec room s = led-stands limits keys m s (λ n. stored_add limits n key t x on spec) room (led-add limits m s.valid key t x on spec (λ r. r))

pub put-step : (limits : Limits) (keys : StoredKeys) (m : State) (key : Key) (t : ℕ) (x : ℤ) → RepresentsState limits keys m →
    SimulatesStep limits (put_own limits m key t x) (stored_put_own limits keys key t x)
put-step limits keys m key t x s = led-stands limits keys m s {Room = ⊤} (λ n. stored_put_own limits n key t x) tt (led-put limits m s.valid key t x)

pub incr-step : (limits : Limits) (keys : StoredKeys) (m : State) (key : Key) (x : ℤ) (t : ℕ) (spec : Spec) → 1 ≤ limits.samples → RepresentsState limits keys m →
    SimulatesStep limits (incr limits m key x t spec) (stored_incr limits keys key x t spec)
incr-step limits keys m key x t spec room s = led-stands limits keys m s (λ n. stored_incr limits n key x t spec) room (led-incr limits m s.valid key x t spec (λ r. r))
