-- Chunks filled with samples, one after another.
use Rattle.std.proofs.Common.{◌≡◌, ◌≢◌, ℕ, suc, ◌+◌, ◌-◌, ◌≤◌, List, [], ◌∷◌, ◌++◌, length, take, drop, map, sym, ◌∙◌, ap, subst, arith, append-nil}
use Rattle.std.proofs.Math.Seq.{take-append-add}
use Rattle.std.proofs.lemmas.List.{take-append-drop, take_rest, length-take, length-drop}
use Rattle.ts_spec.specs.Sample.{Point, IsAscending}
use Rattle.ts_sample.specs.Chunk.{IsChunk, HaveLimit, joined}
use Rattle.ts_sample.proofs.Fitting.{limits-append}
use Rattle.ts_sample.proofs.Lists.{ascending-take, ascending-drop}
use Rattle.ts_series.specs.Stored.{AreChunks}
use Rattle.ts_series.proofs.PlannedPieces.{both-joined, both-chunks}

take-more : (count n : ℕ) (ps : List Point) → count ≤ length ps → take count ps ++ take n (drop count ps) ≡ take (count + n) ps
take-more count n ps within =
    let long : length (take count ps) ≡ count = omega (arith, length-take count ps) in
    sym (take-append-add (take count ps) (drop count ps) n) ∙ ap (λ m. take (m + n) (take count ps ++ drop count ps)) long ∙ ap (take (count + n)) (take-append-drop count ps)

-- one more chunk, with the first of the samples that are left
module _ {X : Type 0} (list : X → List Point) (cs all : List X) (x : X) (count : ℕ) (samples : List Point) (first : Point) (rest : List Point) (is : all ≡ cs ++ x ∷ []) (within : count ≤ length samples)
    (left : drop count samples ≡ first ∷ rest) (front : list x ≡ first ∷ take (length (list x) - 1) rest) where
  pub filled-some : list x ≢ []
  filled-some none = absurd (omega (arith, ap length none, ap length front))

  the-front : list x ≡ take (length (list x)) (drop count samples)
  the-front =
      let n : ℕ = length (list x) in
      front ∙ ap (λ m. take m (first ∷ rest)) (let same : suc (n - 1) ≡ n = omega (arith, ap length front) in same) ∙ ap (take n) (sym left)

  pub filled-within : count + length (list x) ≤ length samples
  filled-within = omega (arith, ap length the-front, length-take (length (list x)) (drop count samples), length-drop count samples)

  pub filled-list : joined (map list cs) ≡ take count samples → joined (map list all) ≡ take (count + length (list x)) samples
  filled-list h =
      both-joined list list' cs (x ∷ []) all is
      ∙ ap (λ (l : List Point). l ++ (list x ++ [])) h
      ∙ ap (λ (l : List Point). take count samples ++ l) (append-nil (list x) ∙ the-front)
      ∙ take-more count (length (list x)) samples within
    where
      list' : X → ℕ
      list' y = 0

  pub filled-chunks : (format : List Point → List ℕ) (most : X → ℕ) → IsChunk format (most x) (list x) → AreChunks format (map list cs) (map most cs) → AreChunks format (map list all) (map most all)
  filled-chunks format most chunk h = both-chunks list most cs (x ∷ []) all is format h (chunk, (filled-some, tt))

  pub filled-limits : (most : X → ℕ) (limit : ℕ) → most x ≡ limit → HaveLimit most limit cs → HaveLimit most limit all
  filled-limits most limit bound h = subst (HaveLimit most limit) (sym is) (limits-append most limit cs (x ∷ []) h (bound, tt))

-- ---- two halves

pub rest-rises : (n : ℕ) (ps : List Point) → IsAscending ps → IsAscending (take (length ps - n) (drop n ps))
rest-rises n ps h = ascending-take (length ps - n) (drop n ps) (ascending-drop n ps h)

pub halves-list : {X : Type 0} (list : X → List Point) (most : X → ℕ) (cs ds all : List X) (n : ℕ) (ps : List Point) → all ≡ cs ++ ds → joined (map list cs) ≡ take n ps
    → joined (map list ds) ≡ take (length ps - n) (drop n ps) → joined (map list all) ≡ ps
halves-list list most cs ds all n ps is firsts lasts =
    both-joined list most cs ds all is
    ∙ ap (λ (l : List Point). l ++ joined (map list ds)) firsts
    ∙ ap (λ (l : List Point). take n ps ++ l) (lasts ∙ take_rest ps n)
    ∙ take-append-drop n ps

pub halves-limits : {X : Type 0} (most : X → ℕ) (limit : ℕ) (cs ds all : List X) → all ≡ cs ++ ds → HaveLimit most limit cs → HaveLimit most limit ds → HaveLimit most limit all
halves-limits most limit cs ds all is h k = subst (HaveLimit most limit) (sym is) (limits-append most limit cs ds h k)
