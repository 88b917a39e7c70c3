-- A change of one key.
use Rattle.std.proofs.Common.{◌≡◌, Bool, true, false, refl, sym, ◌∙◌, ap, subst}
use Rattle.std.specs.Prelude.{Option, None, Some, option_map, if◌then◌else◌}
use Rattle.ts_spec.specs.Key.{Key, same}
use Rattle.ts_spec.specs.Keyed.{get, with_key, each}
use Rattle.ts_spec.specs.Command.{Change}
use Rattle.ts_spec.specs.StoredSeries.{StoredSeries, StoredKeys}
use Rattle.ts_spec.specs.StoredKeys.{stored_altered, keys_changed}
use Rattle.ts_spec.proofs.Keys.{same-refl, same-true, same-sym}
use Rattle.ts_spec.proofs.Maps.{get-each, get-with, maps-same}

-- each key stays but one
each-one : (key : Key) (f : Key → StoredSeries → StoredSeries) (m : StoredKeys) (d e : StoredSeries) → get key m ≡ Some d → f key d ≡ e
    → ((k : Key) (x : StoredSeries) → same k key ≡ false → f k x ≡ x) → each f m ≡ with_key key e m
each-one key f m d e is here others = maps-same (each f m) (with_key key e m) (λ q. pick q (same q key) refl)
  where
    there : option_map (f key) (get key m) ≡ Some e
    there = ap (option_map (f key)) is ∙ ap (λ (x : StoredSeries). Some x) here

    other : (q : Key) → same q key ≡ false → (o : Option StoredSeries) → option_map (f q) o ≡ o
    other q unlike None = refl
    other q unlike (Some x) = ap (λ (y : StoredSeries). Some y) (others q x unlike)

    pick : (q : Key) (b : Bool) → same q key ≡ b → get q (each f m) ≡ get q (with_key key e m)
    pick q true x =
        subst (λ (j : Key). get j (each f m) ≡ get j (with_key key e m)) (sym (same-true q key x))
        (get-each f key m ∙ there ∙ ap (λ b. if b then Some e else get key m) (sym (same-refl key)) ∙ sym (get-with key key e m))
    pick q false x =
        get-each f q m ∙ other q x (get q m) ∙ ap (λ b. if b then Some e else get q m) (sym (same-sym key q ∙ x)) ∙ sym (get-with q key e m)

-- a change of one key
pub changed-alone : (m : StoredKeys) (key : Key) (s : StoredSeries) (f : StoredSeries → StoredSeries) → get key m ≡ Some s → keys_changed key f m ≡ with_key key (f s) m
changed-alone m key s f is =
    each-one key (λ k d. if same k key then f d else d) m s (f s) is (ap (λ b. if b then f s else s) (same-refl key)) (λ k x unlike. ap (λ b. if b then f x else x) unlike)

-- a key that already has this
pub unchanged : (m : StoredKeys) (key : Key) (d : StoredSeries) → get key m ≡ Some d → with_key key d m ≡ m
unchanged m key d is = maps-same _ _ (λ q. get-with q key d m ∙ pick q (same key q) refl)
  where
    pick : (q : Key) (b : Bool) → same key q ≡ b → (if b then Some d else get q m) ≡ get q m
    pick q true x = sym is ∙ ap (λ k. get k m) (same-true key q x)
    pick q false x = refl

-- new options change a key alone
pub altered-alone : (m : StoredKeys) (key : Key) (s : StoredSeries) (c : Change) → get key m ≡ Some s → keys_changed key (stored_altered c) m ≡ with_key key (stored_altered c s) m
altered-alone m key s c is =
    each-one key (λ k d. if same k key then stored_altered c d else d) m s (stored_altered c s) is
    (ap (λ b. if b then stored_altered c s else s) (same-refl key)) (λ k x unlike. ap (λ b. if b then stored_altered c x else x) unlike)
