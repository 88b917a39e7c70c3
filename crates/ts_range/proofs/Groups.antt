-- The rows of the buckets of a list of samples, bucket by bucket.
use Rattle.std.proofs.Common.{◌≡◌, ℕ, ◌<◌, ◌≤◌, Bool, true, false, cond, ◌==◌, List, [], ◌∷◌, ◌++◌, map, refl, ◌∙◌, ap, arith, eq-eqb, ne_eqb, append-nil}
use Rattle.std.specs.List.{All}
use Rattle.std.proofs.lemmas.List.{map-append}
use Rattle.std.proofs.lemmas.List.Elements.{All-nil, All-cons, All-head, All-tail, All-weaker, filter-append}
use Rattle.ts_spec.specs.Sample.{Point}
use Rattle.ts_spec.specs.Bucket.{Grid, start, stamp, members, with_start, starts}
use Rattle.ts_spec.specs.Aggregate.{aggregate}
use Rattle.ts_spec.specs.Command.{Buckets}
use Rattle.ts_spec.specs.Answer.{Row, Number, cell_of, bucket_row}
use Rattle.ts_range.specs.BucketRows.{bucket_rows}
use Rattle.ts_range.proofs.Filtered.{filter-none, filter-all, map-same}

-- ---- the starts of samples

-- what holds of the start of each sample holds of each start
with-all : (P : ℕ → Type 0) (b : ℕ) (cs : List ℕ) → P b → All P cs → All P (with_start b cs)
with-all P b [] h hs = All-cons P b [] h (All-nil P)
with-all P b (c ∷ cs) h hs = go (b == c)
  where
    go : (x : Bool) → All P (cond x (c ∷ cs) (b ∷ c ∷ cs))
    go true = hs
    go false = All-cons P b (c ∷ cs) h hs

pub starts-all : (g : Grid) (P : ℕ → Type 0) (ps : List Point) → All (λ p. P (start g p.time)) ps → All P (starts g ps)
starts-all g P [] h = All-nil P
starts-all g P (p ∷ ps) h =
    with-all P (start g p.time) (starts g ps) (All-head (λ q. P (start g q.time)) p ps h) (starts-all g P ps (All-tail (λ q. P (start g q.time)) p ps h))

with-append : (b : ℕ) (cs ds : List ℕ) → All (λ d. b < d) ds → with_start b (cs ++ ds) ≡ with_start b cs ++ ds
with-append b [] [] h = refl
with-append b [] (d ∷ ds) h =
    let other : (b == d) ≡ false = ne_eqb b d (λ e. absurd (omega (arith, All-head (λ x. b < x) d ds h))) in
    ap (λ (x : Bool). cond x (d ∷ ds) (b ∷ d ∷ ds)) other
with-append b (c ∷ cs) ds h = go (b == c)
  where
    go : (x : Bool) → cond x ((c ∷ cs) ++ ds) ((b ∷ c ∷ cs) ++ ds) ≡ cond x (c ∷ cs) (b ∷ c ∷ cs) ++ ds
    go true = refl
    go false = refl

-- the starts of earlier buckets, and then those of later ones
pub starts-append : (g : Grid) (k : ℕ) (xs ys : List Point) → All (λ p. start g p.time < k) xs → All (λ p. k ≤ start g p.time) ys → starts g (xs ++ ys) ≡ starts g xs ++ starts g ys
starts-append g k [] ys below above = refl
starts-append g k (x ∷ xs) ys below above =
    let first : start g x.time < k = All-head (λ p. start g p.time < k) x xs below in
    let later : All (λ d. start g x.time < d) (starts g ys) =
    All-weaker (λ d. k ≤ d) (λ d. start g x.time < d) (λ d le. omega arith) (starts g ys) (starts-all g (λ d. k ≤ d) ys above) in
    ap (with_start (start g x.time)) (starts-append g k xs ys (All-tail (λ p. start g p.time < k) x xs below) above)
    ∙ with-append (start g x.time) (starts g xs) (starts g ys) later

-- samples of one bucket have one start
starts-one : (g : Grid) (b : ℕ) (p : Point) (ps : List Point) → All (λ q. start g q.time ≡ b) (p ∷ ps) → starts g (p ∷ ps) ≡ b ∷ []
starts-one g b p [] h = ap (λ (c : ℕ). c ∷ []) (All-head (λ q. start g q.time ≡ b) p [] h)
starts-one g b p (q ∷ ps) h =
    let here : start g p.time ≡ b = All-head (λ q. start g q.time ≡ b) p (q ∷ ps) h in
    ap (with_start (start g p.time)) (starts-one g b q ps (All-tail (λ q. start g q.time ≡ b) p (q ∷ ps) h))
    ∙ ap (λ (x : Bool). cond x (b ∷ []) (start g p.time ∷ b ∷ [])) (eq-eqb (start g p.time) b here)

-- ---- their rows

-- the row of one bucket, if it has samples
abbrev pub one_row : Buckets → ℕ → List Point → List Row
one_row bs b [] = []
one_row bs b (p ∷ ps) = record { time = stamp bs.grid b bs.stamp; value = Number (aggregate bs.agg (p ∷ ps)) } ∷ []

-- the row of the bucket that begins at b and has these samples
abbrev row_with : Buckets → List Point → ℕ → List Point → Row
row_with bs asked b ms = record { time = stamp bs.grid b bs.stamp; value = cell_of bs.agg b asked ms }

module _ (bs : Buckets) (asked : List Point) where
  members-none : (b : ℕ) (ps : List Point) → All (λ p. start bs.grid p.time ≡ b → ⊥) ps → members bs.grid b ps ≡ []
  members-none b ps h =
      filter-none (λ p. start bs.grid p.time == b) ps (All-weaker (λ p. start bs.grid p.time ≡ b → ⊥) (λ p. (start bs.grid p.time == b) ≡ false) (λ p ne. ne_eqb (start bs.grid p.time) b ne) ps h)

  members-all : (b : ℕ) (ps : List Point) → All (λ p. start bs.grid p.time ≡ b) ps → members bs.grid b ps ≡ ps
  members-all b ps h =
      filter-all (λ p. start bs.grid p.time == b) ps (All-weaker (λ p. start bs.grid p.time ≡ b) (λ p. (start bs.grid p.time == b) ≡ true) (λ p e. eq-eqb (start bs.grid p.time) b e) ps h)

  -- the rows of earlier buckets, and then those of later ones
  pub rows-append : (k : ℕ) (xs ys : List Point) → All (λ p. start bs.grid p.time < k) xs → All (λ p. k ≤ start bs.grid p.time) ys → bucket_rows bs asked (xs ++ ys) ≡ bucket_rows bs asked xs ++ bucket_rows bs asked ys
  rows-append k xs ys below above =
      let g = bs.grid in
      let early : map (bucket_row bs asked (xs ++ ys)) (starts g xs) ≡ bucket_rows bs asked xs =
      map-same (bucket_row bs asked (xs ++ ys)) (bucket_row bs asked xs) (starts g xs)
      (All-weaker (λ b. b < k) (λ b. bucket_row bs asked (xs ++ ys) b ≡ bucket_row bs asked xs b)
      (λ b less. ap (λ (ms : List Point). row_with bs asked b ms)
      (filter-append (λ p. start g p.time == b) xs ys
      ∙ ap (λ (ms : List Point). members g b xs ++ ms) (members-none b ys (All-weaker (λ p. k ≤ start g p.time) (λ p. start g p.time ≡ b → ⊥) (λ p le e. omega arith) ys above))
      ∙ append-nil (members g b xs)))
      (starts g xs) (starts-all g (λ b. b < k) xs below)) in
      let late : map (bucket_row bs asked (xs ++ ys)) (starts g ys) ≡ bucket_rows bs asked ys =
      map-same (bucket_row bs asked (xs ++ ys)) (bucket_row bs asked ys) (starts g ys)
      (All-weaker (λ b. k ≤ b) (λ b. bucket_row bs asked (xs ++ ys) b ≡ bucket_row bs asked ys b)
      (λ b le. ap (λ (ms : List Point). row_with bs asked b ms)
      (filter-append (λ p. start g p.time == b) xs ys
      ∙ ap (λ (ms : List Point). ms ++ members g b ys) (members-none b xs (All-weaker (λ p. start g p.time < k) (λ p. start g p.time ≡ b → ⊥) (λ p less e. omega arith) xs below))))
      (starts g ys) (starts-all g (λ b. k ≤ b) ys above)) in
      ap (map (bucket_row bs asked (xs ++ ys))) (starts-append g k xs ys below above)
      ∙ map-append (bucket_row bs asked (xs ++ ys)) (starts g xs) (starts g ys)
      ∙ ap (λ (rs : List Row). rs ++ map (bucket_row bs asked (xs ++ ys)) (starts g ys)) early
      ∙ ap (λ (rs : List Row). bucket_rows bs asked xs ++ rs) late

  -- the rows of samples of one bucket
  pub rows-one : (b : ℕ) (ms : List Point) → All (λ p. start bs.grid p.time ≡ b) ms → bucket_rows bs asked ms ≡ one_row bs b ms
  rows-one b [] h = refl
  rows-one b (p ∷ ps) h =
      ap (map (bucket_row bs asked (p ∷ ps))) (starts-one bs.grid b p ps h)
      ∙ ap (λ (ms : List Point). row_with bs asked b ms ∷ []) (members-all b (p ∷ ps) h)
