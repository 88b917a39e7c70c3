-- Keys that lose their labels before they are deleted.
use Rattle.std.proofs.Common.{◌≡◌, ℕ, ◌+◌, ◌||◌, Bool, true, false, List, [], ◌∷◌, refl, sym, ◌∙◌, ap}
use Rattle.std.specs.Prelude.{Option, None, Some, is_some, option_map, if◌then◌else◌}
use Rattle.std.specs.List.{list_any}
use Rattle.std.proofs.lemmas.Bool.{false≢true}
use Rattle.ts_spec.specs.Key.{Key, same}
use Rattle.ts_spec.specs.Keyed.{get, with_key}
use Rattle.ts_spec.specs.StoredSeries.{StoredSeries, StoredKeys}
use Rattle.ts_spec.specs.StoredKeys.{stored_ended, keys_ended, keys_dropped}
use Rattle.ts_spec.specs.StoredStep.{stored_drop_keys}
use Rattle.ts_spec.proofs.Keys.{same-true, same-sym}
use Rattle.ts_spec.proofs.Maps.{get-each, get-with, get-without, maps-same}

-- a stored series without labels
abbrev pub stored_unlabelled : StoredSeries → StoredSeries
stored_unlabelled d = record d { labels = [] }

-- which rules end with a key
abbrev ends : Key → Key → Key → Bool
ends k s d = same s k || same d k

module _ (q : Key) (d : StoredSeries) (m : StoredKeys) where
  abbrev bare : StoredKeys
  bare = with_key q (stored_unlabelled d) m

  get-bare : (j : Key) → get j bare ≡ (if same q j then Some (stored_unlabelled d) else get j m)
  get-bare j = get-with j q (stored_unlabelled d) m

  get-dropped : (k j : Key) (x : StoredKeys) → get j (keys_dropped k x) ≡ (if same k j then None else option_map (stored_ended (ends k) j) (get j x))
  get-dropped k j x = get-without j k (keys_ended (ends k) x) ∙ ap (λ (o : Option StoredSeries). if same k j then None else o) (get-each (stored_ended (ends k)) j x)

  -- the key itself goes
  dropped-alike : (k : Key) → same q k ≡ true → keys_dropped k bare ≡ keys_dropped k m
  dropped-alike k e = maps-same (keys_dropped k bare) (keys_dropped k m) (λ j. get-dropped k j bare ∙ pick j (same k j) refl ∙ sym (get-dropped k j m))
    where
      pick : (j : Key) (b : Bool) → same k j ≡ b
          → (if same k j then None else option_map (stored_ended (ends k) j) (get j bare)) ≡ (if same k j then None else option_map (stored_ended (ends k) j) (get j m))
      pick j true f = rw f refl
      pick j false f =
          ap (λ (o : Option StoredSeries). if same k j then None else option_map (stored_ended (ends k) j) o)
          (get-bare j ∙ ap (λ b. if b then Some (stored_unlabelled d) else get j m) (ap (λ i. same i j) (same-true q k e) ∙ f))

  -- another key goes
  dropped-apart : (k : Key) → same q k ≡ false → keys_dropped k bare ≡ with_key q (stored_unlabelled (stored_ended (ends k) q d)) (keys_dropped k m)
  dropped-apart k e = maps-same (keys_dropped k bare) (with_key q (stored_unlabelled (stored_ended (ends k) q d)) (keys_dropped k m)) (λ j.
      get-dropped k j bare ∙ ap (λ (o : Option StoredSeries). if same k j then None else option_map (stored_ended (ends k) j) o) (get-bare j)
      ∙ pick j (same q j) refl
      ∙ sym (get-with j q (stored_unlabelled (stored_ended (ends k) q d)) (keys_dropped k m) ∙ ap (λ (o : Option StoredSeries). if same q j then Some (stored_unlabelled (stored_ended (ends k) q d)) else o) (get-dropped k j m)))
    where
      pick : (j : Key) (b : Bool) → same q j ≡ b
          → (if same k j then None else option_map (stored_ended (ends k) j) (if same q j then Some (stored_unlabelled d) else get j m))
          ≡ (if same q j then Some (stored_unlabelled (stored_ended (ends k) q d)) else (if same k j then None else option_map (stored_ended (ends k) j) (get j m)))
      pick j true f =
          let here : q ≡ j = same-true q j f in
          let away : same k j ≡ false = ap (same k) (sym here) ∙ same-sym k q ∙ e in
          rw (f, away) (ap (λ i. Some (stored_unlabelled (stored_ended (ends k) i d))) (sym here))
      pick j false f = rw f refl

  still-there : get q m ≡ Some d → (k : Key) → same q k ≡ false → get q (keys_dropped k m) ≡ Some (stored_ended (ends k) q d)
  still-there at k e = get-dropped k q m ∙ ap (λ b. if b then None else option_map (stored_ended (ends k) q) (get q m)) (same-sym k q ∙ e) ∙ ap (option_map (stored_ended (ends k) q)) at

  -- the first of the keys goes
  drops-next : get q m ≡ Some d → (n : ℕ) (k : Key) (ks : List Key) → list_any (λ j. same j q) (k ∷ ks) ≡ true
      → ((c : StoredSeries) (x : StoredKeys) → get q x ≡ Some c → (n : ℕ) → list_any (λ j. same j q) ks ≡ true → stored_drop_keys (with_key q (stored_unlabelled c) x) n ks ≡ stored_drop_keys x n ks)
      → stored_drop_keys bare n (k ∷ ks) ≡ stored_drop_keys m n (k ∷ ks)
  drops-next at n k ks among rest = by (same q k) refl
    where
      next : Bool → StoredKeys → StoredKeys → Type 0
      next b x y = stored_drop_keys (if b then keys_dropped k x else x) (if b then n + 1 else n) ks ≡ stored_drop_keys (if b then keys_dropped k y else y) (if b then n + 1 else n) ks

      go : same q k ≡ false → list_any (λ j. same j q) ks ≡ true → (b : Bool) → next b bare m
      go e left true = ap (λ (x : StoredKeys). stored_drop_keys x (n + 1) ks) (dropped-apart k e) ∙ rest (stored_ended (ends k) q d) (keys_dropped k m) (still-there at k e) (n + 1) left
      go e left false = rest d m at n left

      by : (b : Bool) → same q k ≡ b → stored_drop_keys bare n (k ∷ ks) ≡ stored_drop_keys m n (k ∷ ks)
      by true e =
          ap (λ b. stored_drop_keys (if b then keys_dropped k bare else bare) (if b then n + 1 else n) ks)
          (ap is_some (get-bare k) ∙ ap (λ b. is_some (if b then Some (stored_unlabelled d) else get k m)) e)
          ∙ ap (λ (x : StoredKeys). stored_drop_keys x (n + 1) ks) (dropped-alike k e)
          ∙ sym (ap (λ b. stored_drop_keys (if b then keys_dropped k m else m) (if b then n + 1 else n) ks) (ap (λ j. is_some (get j m)) (sym (same-true q k e)) ∙ ap is_some at))
      by false e =
          ap (λ b. stored_drop_keys (if b then keys_dropped k bare else bare) (if b then n + 1 else n) ks)
          (ap is_some (get-bare k) ∙ ap (λ b. is_some (if b then Some (stored_unlabelled d) else get k m)) e)
          ∙ go e (ap (λ b. b || list_any (λ j. same j q) ks) (sym (same-sym k q ∙ e)) ∙ among) (is_some (get k m))

-- A key without its labels is deleted as it is with them.
pub drops-same : (q : Key) (ks : List Key) (d : StoredSeries) (m : StoredKeys) → get q m ≡ Some d → (n : ℕ) → list_any (λ j. same j q) ks ≡ true
    → stored_drop_keys (with_key q (stored_unlabelled d) m) n ks ≡ stored_drop_keys m n ks
drops-same q [] d m at n among = absurd (false≢true among)
drops-same q (k ∷ ks) d m at n among = drops-next q d m at n k ks among (λ c x is n left. drops-same q ks c x is n left)
