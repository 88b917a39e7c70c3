-- A destination between two bucket starts after a deletion, assembled from its parts.
use Rattle.std.proofs.Common.{◌≡◌, ◌≢◌, ℕ, Bool, not, if◌then◌else◌, List, [], ◌++◌, sym, ap, ◌∙◌, eq-eqb, ne_eqb, append-nil}
use Rattle.ts_spec.specs.Sample.{Point, at_times, between}
use Rattle.ts_series.specs.History.{History}
use Rattle.ts_rules.specs.declared.rule.Rule.{Rule}
use Rattle.ts_rules.specs.Deletions.{is_lost, row_left, span_left}

module _ (r : Rule) (source : History) (from to born first last : ℕ) (ps : List Point) where
  -- up to the last bucket
  pub parts-two : (rows one two shown row : List Point) (b : ℕ) → rows ≡ [] → b ≡ born → row ≡ row_left r source from to b first → one ≡ rows ++ row → shown ≡ between first last ps →
      two ≡ one ++ at_times (λ t. not (is_lost r source from to t)) shown → two ≡ row_left r source from to born first ++ at_times (λ t. not (is_lost r source from to t)) (between first last ps)
  parts-two rows one two shown row b e made told x s y =
      y ∙ (λ i. (x ∙ ap (λ (qs : List Point). qs ++ row) e ∙ told ∙ ap (λ n. row_left r source from to n first) made) i ++ at_times (λ t. not (is_lost r source from to t)) (s i))

  pub parts-three : (two three row : List Point) (b : ℕ) → two ≡ row_left r source from to born first ++ at_times (λ t. not (is_lost r source from to t)) (between first last ps) → first ≢ last →
      b ≡ born → row ≡ row_left r source from to b last → three ≡ two ++ row → three ≡ span_left r source from to born first last ps
  parts-three two three row b x other made told y =
      y ∙ (λ i. x i ++ (told ∙ ap (λ n. row_left r source from to n last) made) i)
      ∙ ap (λ (c : Bool). (row_left r source from to born first ++ at_times (λ t. not (is_lost r source from to t)) (between first last ps)) ++ (if c then [] else row_left r source from to born last)) (sym (ne_eqb first last other))

  pub parts-one : (two three : List Point) → two ≡ row_left r source from to born first ++ at_times (λ t. not (is_lost r source from to t)) (between first last ps) → first ≡ last → three ≡ two →
      three ≡ span_left r source from to born first last ps
  parts-one two three x same y =
      y ∙ x ∙ sym (append-nil (row_left r source from to born first ++ at_times (λ t. not (is_lost r source from to t)) (between first last ps)))
      ∙ ap (λ (c : Bool). (row_left r source from to born first ++ at_times (λ t. not (is_lost r source from to t)) (between first last ps)) ++ (if c then [] else row_left r source from to born last)) (sym (eq-eqb first last same))
