-- Searching the candidates for a key that matches the filters and has too many rows.
use Rattle.std.proofs.Common.{◌≡◌, ℕ, suc, ◌+◌, ◌*◌, ◌≤◌, Bool, true, false, List, [], ◌∷◌, length, refl, sym, ap, subst, ◌∙◌, arith}
use Rattle.std.proofs.Math.Nat.{mul-suc}
use Rattle.std.proofs.lemmas.List.Sums.{sum_by-cons}
use Rattle.std.proofs.lemmas.List.Sorted.{list_any-IsPermutation, sum_by-IsPermutation}
use Rattle.std.specs.List.{All, AllByRecursion, list_any}
use Rattle.std.proofs.lemmas.List.Elements.{recursion_from_All}
use Rattle.std.specs.Prelude.{◌&&◌, ◌||◌, sum_by, if◌then◌else◌, Some}
use Rattle.ts_spec.specs.Filter.{Filter, all_hold}
use Rattle.ts_spec.specs.Key.{Key}
use Rattle.ts_spec.specs.Keyed.{Keyed, get}
use Rattle.ts_spec.specs.StoredQueries.{stored_labels_at, stored_selection}
use Rattle.ts_sample.specs.declared.sample.Id.{Id}
use Rattle.ts_db.specs.Bounds.{fewest, selection_steps}
use Rattle.ts_db.specs.Candidates.{passing, Covers}
use Rattle.ts_db.specs.DbState.{DbView, IsLive, AreIdsOf}

-- numbers of keys have keys
keys-of : (ids : Keyed Id) (ns : List Id) → AllByRecursion (IsLive ids) ns → (keys : List Key) × AreIdsOf ids keys ns
keys-of ids [] live = ([], tt)
keys-of ids (n ∷ ns) live = let rest = keys-of ids ns live.1 in (live.0.key ∷ rest.0, (live.0.is, rest.1))

as-many : (ids : Keyed Id) (keys : List Key) (ns : List Id) → AreIdsOf ids keys ns → length keys ≡ length ns
as-many ids [] [] are = refl
as-many ids [] (n ∷ ns) are = absurd are
as-many ids (k ∷ ks) [] are = absurd are
as-many ids (k ∷ ks) (n ∷ ns) are = ap suc (as-many ids ks ns are.1)

more-steps : (fs few most : ℕ) → few ≤ most → fs * few ≤ fs * most
more-steps fs few most less = grind (arith)

module _ (too_much : Key → Bool) where
  -- it is not too much of any
  pub none-of : (ks : List Key) → ((k : Key) → too_much k ≡ false) → list_any too_much ks ≡ false
  none-of [] never = refl
  none-of (k ∷ ks) never = ap (λ (b : Bool). b || list_any too_much ks) (never k) ∙ none-of ks never

  -- a key that is not selected, or of which there is something to tell
  skip : (b : Bool) (k : Key) (ks : List Key) → (b && too_much k) ≡ false → list_any too_much (if b then k ∷ ks else ks) ≡ list_any too_much ks
  skip false k ks told = refl
  skip true k ks told = ap (λ (b : Bool). b || list_any too_much ks) told

  -- any other key
  stop : (b : Bool) (k : Key) (ks : List Key) → (b && too_much k) ≡ true → list_any too_much (if b then k ∷ ks else ks) ≡ true
  stop false k ks refused = absurd (cc refused)
  stop true k ks refused = ap (λ (b : Bool). b || list_any too_much ks) refused

-- a key takes a step for each filter, and what it takes itself only where it is selected
spend : (most : Key → ℕ) (b : Bool) (k : Key) (ks : List Key) (filters left now new all : ℕ) → now + (filters * suc left + sum_by most (if b then k ∷ ks else ks)) ≤ all
    → new ≤ now + (filters + (if b then most k else 0)) → new + (filters * left + sum_by most ks) ≤ all
spend most false k ks filters left now new all few one = omega (arith, mul-suc filters left, few, one)
spend most true k ks filters left now new all few one = omega (arith, mul-suc filters left, sum_by-cons most k ks, few, one)

module _ (too_much : Key → Bool) (most : Key → ℕ) (db_view : DbView) (fs : List Filter) where
  -- what the search over these keys takes at most
  abbrev search_steps : List Key → ℕ
  search_steps ks = length fs * length ks + sum_by most (passing db_view.keys fs ks)

  abbrev all_steps : ℕ
  all_steps = selection_steps db_view fs + sum_by most (stored_selection db_view.keys fs)

  -- whether there is nothing to tell of one of those that pass
  abbrev is_one_refused : List Key → Bool
  is_one_refused ks = list_any too_much (passing db_view.keys fs ks)

  -- of the keys that are done there is something to tell
  pub record Searching (rest : List Id) (old now : ℕ) : Type 0 where
    pub left : List Key
    pub numbers : AreIdsOf db_view.ids left rest
    pub alike : is_one_refused left ≡ list_any too_much (stored_selection db_view.keys fs)
    pub few : now + search_steps left ≤ old + all_steps

  begun : (ns : List Id) (now : ℕ) → All (IsLive db_view.ids) ns → Covers db_view fs ns → length ns ≤ fewest db_view fs → Searching ns now now
  begun ns now live covers few =
      let of = keys-of db_view.ids ns (recursion_from_All (IsLive db_view.ids) ns live) in
      let moved = covers of.0 of.1 in
      let sums : sum_by most (passing db_view.keys fs of.0) ≡ sum_by most (stored_selection db_view.keys fs) = sum_by-IsPermutation most (stored_selection db_view.keys fs) (passing db_view.keys fs of.0) moved in
      let many : length of.0 ≡ length ns = as-many db_view.ids of.0 ns of.1 in
      let steps : length fs * length of.0 ≤ length fs * fewest db_view fs = more-steps (length fs) (length of.0) (fewest db_view fs) (omega (arith, many, few)) in
      record {
        left = of.0;
        numbers = of.1;
        alike = sym (list_any-IsPermutation too_much (stored_selection db_view.keys fs) (passing db_view.keys fs of.0) moved);
        few = omega (arith, sums, steps);
      }

  pub search-begun : (lent ns : List Id) (now : ℕ) → ns ≡ lent → All (IsLive db_view.ids) lent → Covers db_view fs lent → length lent ≤ fewest db_view fs → Searching ns now now
  search-begun lent ns now same live covers few = subst (λ (l : List Id). Searching l now now) (sym same) (begun lent now live covers few)

  -- what was found out of a key, by its number
  pub record Tried (id : Id) (now new : ℕ) (refused : Bool) : Type 0 where
    pub is : (key : Key) → get key db_view.ids ≡ Some id → refused ≡ (all_hold fs (stored_labels_at (get key db_view.keys)) && too_much key)
    pub steps : (key : Key) → get key db_view.ids ≡ Some id → new ≤ now + (length fs + (if all_hold fs (stored_labels_at (get key db_view.keys)) then most key else 0))

  module _ (n : Id) (rest more : List Id) (old now : ℕ) (split : rest ≡ n ∷ more) (so_far : Searching rest old now) where
    pub search-live : IsLive db_view.ids n
    search-live = pick so_far.left (subst (AreIdsOf db_view.ids so_far.left) split so_far.numbers)
      where
        pick : (left : List Key) → AreIdsOf db_view.ids left (n ∷ more) → IsLive db_view.ids n
        pick [] are = absurd are
        pick (k ∷ ks) are = record { key = k; is = are.0 }

    module _ (new : ℕ) (refused : Bool) (tried : Tried n now new refused) where
      spent : (k : Key) (ks : List Key) → get k db_view.ids ≡ Some n → now + search_steps (k ∷ ks) ≤ old + all_steps → new + search_steps ks ≤ old + all_steps
      spent k ks at few = spend most (all_hold fs (stored_labels_at (get k db_view.keys))) k (passing db_view.keys fs ks) (length fs) (length ks) now new (old + all_steps) few (tried.steps k at)

      -- there is something to tell of it, or it is not selected
      pub search-more : refused ≡ false → Searching more old new
      search-more told = pick so_far.left (subst (AreIdsOf db_view.ids so_far.left) split so_far.numbers) so_far.alike so_far.few
        where
          pick : (left : List Key) → AreIdsOf db_view.ids left (n ∷ more) → is_one_refused left ≡ list_any too_much (stored_selection db_view.keys fs)
              → now + search_steps left ≤ old + all_steps → Searching more old new
          pick [] are like few = absurd are
          pick (k ∷ ks) are like few = record {
            left = ks;
            numbers = are.1;
            alike = sym (skip too_much (all_hold fs (stored_labels_at (get k db_view.keys))) k (passing db_view.keys fs ks) (sym (tried.is k are.0) ∙ told)) ∙ like;
            few = spent k ks are.0 few;
          }

      -- there is nothing to tell of it
      pub search-found : refused ≡ true → list_any too_much (stored_selection db_view.keys fs) ≡ true
      search-found none = pick so_far.left (subst (AreIdsOf db_view.ids so_far.left) split so_far.numbers) so_far.alike
        where
          pick : (left : List Key) → AreIdsOf db_view.ids left (n ∷ more) → is_one_refused left ≡ list_any too_much (stored_selection db_view.keys fs) → list_any too_much (stored_selection db_view.keys fs) ≡ true
          pick [] are like = absurd are
          pick (k ∷ ks) are like = sym like ∙ stop too_much (all_hold fs (stored_labels_at (get k db_view.keys))) k (passing db_view.keys fs ks) (sym (tried.is k are.0) ∙ none)

      pub search-few : new ≤ old + all_steps
      search-few = pick so_far.left (subst (AreIdsOf db_view.ids so_far.left) split so_far.numbers) so_far.few
        where
          pick : (left : List Key) → AreIdsOf db_view.ids left (n ∷ more) → now + search_steps left ≤ old + all_steps → new ≤ old + all_steps
          pick [] are few = absurd are
          pick (k ∷ ks) are few = let all = spent k ks are.0 few in omega (arith, all)

  -- at the end of the search
  pub search-none : (rest : List Id) (old now : ℕ) → rest ≡ [] → Searching rest old now → list_any too_much (stored_selection db_view.keys fs) ≡ false
  search-none rest old now none so_far = pick so_far.left (subst (AreIdsOf db_view.ids so_far.left) none so_far.numbers) so_far.alike
    where
      pick : (left : List Key) → AreIdsOf db_view.ids left [] → is_one_refused left ≡ list_any too_much (stored_selection db_view.keys fs) → list_any too_much (stored_selection db_view.keys fs) ≡ false
      pick [] are like = sym like
      pick (k ∷ ks) are like = absurd are

  pub search-ended : (rest : List Id) (old now : ℕ) → Searching rest old now → now ≤ old + all_steps
  search-ended rest old now so_far = omega (arith, so_far.few)
