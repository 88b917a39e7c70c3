-- Candidates, from the most selective filter or from all series.
use Rattle.std.proofs.Common.{◌≡◌, ℕ, ◌≤◌, Bool, true, List, [], ◌∷◌, map, length, Option, None, Some, IsSome, refl, sym, ◌∙◌, ap, subst, arith}
use Rattle.std.proofs.lemmas.Bool.{false≢true}
use Rattle.std.proofs.lemmas.List.{length-map}
use Rattle.std.specs.Map.{keys_of}
use Rattle.ts_spec.specs.State.{Label}
use Rattle.ts_spec.specs.Filter.{Filter, holds}
use Rattle.ts_sample.specs.declared.sample.Id.{Id}
use Rattle.ts_index.specs.Bounds.{candidates, fewest}
use Rattle.ts_index.specs.Candidates.{AreApart, AreLive, Covers}
use Rattle.ts_index.specs.Index.{Labelled, labels_of, ids_where}
use Rattle.ts_index.specs.MostSelective.{IsMostSelective}
use Rattle.ts_index.specs.Numbers.{AreInOrder, has_id, pass}
use Rattle.ts_index.specs.Selecting.{AreSelected}
use Rattle.ts_index.specs.Source.{as_id}
use Rattle.ts_index.proofs.CandidateLemmas.{apart_ascending}
use Rattle.ts_index.proofs.NumberLemmas.{has_id-where, AreAscending-where}

-- What is asked of ids that can pass filters.
pub record AreCandidates (es : Labelled) (fs : List Filter) (is : List Id) : Type 0 where
  pub live : AreLive es is
  pub once : AreApart is
  pub covers : Covers es fs is
  pub few : length is ≤ fewest es fs

-- labels that pass a test are there
there : (test : List Label → Bool) (labels : Option (List Label)) → pass test labels ≡ true → IsSome labels
there test None h = absurd (false≢true h)
there test (Some labels) h = refl

-- those that pass the most selective filter
pub by_narrowest : (es : Labelled) (fs : List Filter) (f : Filter) (is : List Id) → IsMostSelective es fs f → AreSelected (holds f) es is → length is ≡ candidates es f
    → AreCandidates es fs is
by_narrowest es fs f is n selected count = record {
  live = λ q h. there (holds f) (labels_of q es) (sym (selected.which q) ∙ h);
  once = selected.once;
  covers = λ q labels at h. selected.which q ∙ ap (pass (holds f)) at ∙ n.among labels h;
  few = omega (arith, count, n.few);
}

-- the keys of the map are all ids
all-numbers : (es : Labelled) → map as_id (keys_of es) ≡ ids_where (λ labels. true) es
all-numbers [] = refl
all-numbers (e ∷ es) = ap (λ is. as_id e.0 ∷ is) (all-numbers es)

unnarrowed : (es : Labelled) (fs : List Filter) → AreInOrder es → fewest es fs ≡ length es → AreCandidates es fs (map as_id (keys_of es))
unnarrowed es fs o n = subst (AreCandidates es fs) (sym (all-numbers es)) (record {
  live = λ q h. there (λ labels. true) (labels_of q es) (sym (has q) ∙ h);
  once = apart_ascending (ids_where (λ labels. true) es) (AreAscending-where (λ labels. true) es o);
  covers = λ q labels at h. has q ∙ ap (pass (λ labels. true)) at;
  few =
      let same : length (ids_where (λ labels. true) es) ≡ length es = ap length (sym (all-numbers es)) ∙ length-map (keys_of es) as_id ∙ length-map es (λ e. e.0) in
      omega arith;
})
  where
    has : (q : ℕ) → has_id q (ids_where (λ labels. true) es) ≡ pass (λ labels. true) (labels_of q es)
    has q = has_id-where (λ labels. true) es o q

pub by_all : (es : Labelled) (fs : List Filter) (is : List Id) → AreInOrder es → fewest es fs ≡ length es → is ≡ map as_id (keys_of es) → AreCandidates es fs is
by_all es fs is o n e = subst (AreCandidates es fs) (sym e) (unnarrowed es fs o n)
