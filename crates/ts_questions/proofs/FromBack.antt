-- Emitting rows in batches from the back, and how many samples that decodes.
use Rattle.std.proofs.Common.{◌≡◌, ℕ, zero, suc, ◌+◌, ◌-◌, ◌≤◌, List, [], ◌∷◌, ◌++◌, length, take, refl, sym, ◌∙◌, ap, subst, append_assoc, arith}
use Rattle.std.specs.Prelude.{Option, None, Some, option_map}
use Rattle.std.proofs.lemmas.Bool.Decides.{nat_tests}
use Rattle.ts_spec.specs.Answer.{Row, limit_rows}
use Rattle.ts_spec.specs.Sample.{Point, is_within, between}
use Rattle.ts_sample.specs.Chunk.{joined}
use Rattle.ts_series.specs.Seams.{IsSeam, IsSeamed}
use Rattle.ts_questions.proofs.WalkBounds.{one, fewer}

-- what was handed on, and so many of the rows that are left as are still wanted, are all rows
pub record AreHanded (has : List Row → Type 0) (all : List Row) (left : Option ℕ) (rest : List Row) : Type 0 where
  pub done : List Row
  pub emitted : has done
  pub split : all ≡ done ++ limit_rows left rest

-- how many more are wanted after so many
abbrev pub left_after : Option ℕ → ℕ → Option ℕ
left_after left count = option_map (λ n. n - count) left

take-parts : (n : ℕ) (xs ys : List Row) → take n (xs ++ ys) ≡ take n xs ++ take (n - length (take n xs)) ys
take-parts zero xs ys = refl
take-parts (suc n) [] ys =
    let all : suc n ≡ suc n - 0 = omega arith in
    ap (λ (m : ℕ). take m ys) all
take-parts (suc n) (x ∷ xs) ys =
    let less : n - length (take n xs) ≡ suc n - suc (length (take n xs)) = omega arith in
    ap (λ (rs : List Row). x ∷ rs) (take-parts n xs ys ∙ ap (λ (m : ℕ). take n xs ++ take m ys) less)

first-parts : (left : Option ℕ) (xs ys : List Row) → limit_rows left (xs ++ ys) ≡ limit_rows left xs ++ limit_rows (left_after left (length (limit_rows left xs))) ys
first-parts None xs ys = refl
first-parts (Some n) xs ys = take-parts n xs ys

module _ (has later : List Row → Type 0) (all : List Row) (left : Option ℕ) where
  -- those of one share more were handed on
  pub emitted-more : (xs ys : List Row) → AreHanded has all left (xs ++ ys) → ((before : List Row) → has before → later (before ++ limit_rows left xs))
      → AreHanded later all (left_after left (length (limit_rows left xs))) ys
  emitted-more xs ys so_far more = record {
    done = so_far.done ++ limit_rows left xs;
    emitted = more so_far.done so_far.emitted;
    split = so_far.split ∙ ap (λ (rs : List Row). so_far.done ++ rs) (first-parts left xs ys) ∙ sym (append_assoc so_far.done (limit_rows left xs) (limit_rows (left_after left (length (limit_rows left xs))) ys));
  }

  -- and those of the last one
  pub emitted-last : (xs : List Row) → AreHanded has all left xs → ((before : List Row) → has before → later (before ++ limit_rows left xs)) → later all
  emitted-last xs so_far more = subst later (sym so_far.split) (more so_far.done so_far.emitted)

-- ---- what was decoded

-- from a time past the end of what is left, behind which no chunk is cut, to a later one no more were decoded than
-- there are
pub record HasEnd (pieces : List (List Point)) (end last old new : ℕ) : Type 0 where
  pub time : ℕ
  pub seam : IsSeam (suc time) pieces
  pub low : end ≤ time
  pub high : time ≤ last
  pub few : new ≤ old + length (between (suc time) last (joined pieces))

-- so it is up to each time past the interval behind which no chunk is cut
abbrev pub AreSeamedDown : List (List Point) → (end to old new : ℕ) → Type 0
AreSeamedDown pieces end to old new = (e : ℕ) → IsSeam (suc e) pieces → to ≤ e → HasEnd pieces end e old new

apart : (s m e t : ℕ) → s ≤ suc m → m ≤ e → one (is_within s m t) + one (is_within (suc m) e t) ≤ one (is_within s e t)
apart s m e t low high = grind (arith, nat_tests)

module _ (pieces : List (List Point)) where
  -- nothing was decoded yet
  pub down-none : (to old now : ℕ) → now ≤ old → AreSeamedDown pieces to to old now
  down-none to old now le e seam past = record { time = e; seam = seam; low = past; high = omega arith; few = omega arith }

  module _ (from to end start old mid new : ℕ) (so_far : AreSeamedDown pieces end to old mid) (le : start ≤ end) (is : IsSeamed pieces start end mid new) where
    -- one share more was walked over, which begins at a seam
    pub down-more : (before : ℕ) → suc before ≡ start → IsSeam start pieces → AreSeamedDown pieces before to old new
    down-more before next seam e ends past =
        let at = so_far e ends past in
        let here : new ≤ mid + length (between start at.time (joined pieces)) = is start at.time seam at.seam (omega arith) at.low in
        let both = fewer (is_within start at.time) (is_within (suc at.time) e) (is_within start e) (λ t. apart start at.time e t (omega (arith, at.low)) at.high) (joined pieces) in
        record {
          time = before;
          seam = subst (λ (t : ℕ). IsSeam t pieces) (sym next) seam;
          low = omega arith;
          high = omega (arith, at.low, at.high);
          few = omega (arith, at.few, here, both, ap (λ (t : ℕ). length (between t e (joined pieces))) next);
        }

    -- no share comes after it
    pub down-last : from ≤ start → IsSeamed pieces from to old new
    down-last on s e starts ends low past =
        let at = so_far e ends past in
        let here : new ≤ mid + length (between s at.time (joined pieces)) = is s at.time starts at.seam (omega arith) at.low in
        omega (arith, at.few, here, fewer (is_within s at.time) (is_within (suc at.time) e) (is_within s e) (λ t. apart s at.time e t (omega (arith, at.low)) at.high) (joined pieces))

  -- no more shares are wanted
  pub down-enough : (from to end old new : ℕ) → from ≤ end → AreSeamedDown pieces end to old new → IsSeamed pieces from to old new
  down-enough from to end old new le so_far s e starts ends low past =
      let at = so_far e ends past in
      omega (arith, at.few, fewer (is_within s at.time) (is_within (suc at.time) e) (is_within s e) (λ t. apart s at.time e t (omega (arith, at.low)) at.high) (joined pieces))
