-- How many samples a scan in batches decodes.
use Rattle.std.proofs.Common.{◌≡◌, ◌≢◌, ℕ, zero, suc, ◌+◌, ◌-◌, ◌*◌, ◌≤◌, ◌<◌, ◌⊎◌, inl, inr, Bool, true, false, ◌&&◌, cond, List, [], ◌∷◌, length, ap, subst, arith, add-one}
use Rattle.std.specs.Prelude.{nat_le, nat_lt}
use Rattle.std.proofs.lemmas.Bool.Decides.{nat_tests}
use Rattle.ts_spec.specs.Sample.{Point, at_times, is_within, between}
use Rattle.ts_sample.specs.Chunk.{joined}
use Rattle.ts_range.specs.declared.query.Query.{Query}
use Rattle.ts_range.specs.declared.bucket_range.BucketRange.{BucketRange}
use Rattle.ts_range.specs.BucketRanges.{IsBucketRangeIn}
use Rattle.ts_series.specs.Seams.{IsSeam, IsSeamed, Around}

-- ---- how many samples there are

abbrev pub one : Bool → ℕ
one true = 1
one false = 0

one-more : (b : Bool) (p : Point) (ps : List Point) → length (cond b (p ∷ ps) ps) ≡ one b + length ps
one-more true p ps = omega arith
one-more false p ps = omega arith

-- two tests of which at most one holds, and a third that holds where one of them does
pub fewer : (a b both : ℕ → Bool) → ((t : ℕ) → one (a t) + one (b t) ≤ one (both t)) → (l : List Point) → length (at_times a l) + length (at_times b l) ≤ length (at_times both l)
fewer a b both each [] = omega arith
fewer a b both each (p ∷ ps) =
    omega (arith, each p.time, fewer a b both each ps, one-more (a p.time) p (at_times a ps), one-more (b p.time) p (at_times b ps), one-more (both p.time) p (at_times both ps))

-- whether a time is from one on and before another
abbrev pub is_ahead : (from before t : ℕ) → Bool
is_ahead from before t = nat_le from t && nat_lt t before

upto-last : (s m e t : ℕ) → s ≤ m → m ≤ suc e → one (is_ahead s m t) + one (is_within m e t) ≤ one (is_within s e t)
upto-last s m e t low high = grind (arith, nat_tests)

upto-next : (s m e t : ℕ) → s ≤ m → m ≤ suc e → one (is_ahead s m t) + one (is_within m e t) ≤ one (is_ahead s (suc e) t)
upto-next s m e t low high = grind (arith, nat_tests)

-- ---- walks

-- up to a seam that is not past the next time no more were decoded than there are from another one on
pub record HasSeam (pieces : List (List Point)) (first next old new : ℕ) : Type 0 where
  pub time : ℕ
  pub seam : IsSeam time pieces
  pub low : first ≤ time
  pub high : time ≤ next
  pub few : new ≤ old + length (at_times (is_ahead first time) (joined pieces))

-- so it is from each seam on that is not past the first time
abbrev pub AreSeamedUpto : List (List Point) → (from next old new : ℕ) → Type 0
AreSeamedUpto pieces from next old new = (s : ℕ) → IsSeam s pieces → s ≤ from → HasSeam pieces s next old new

module _ (pieces : List (List Point)) where
  -- nothing was decoded
  pub seamed-none : (from to now : ℕ) → IsSeamed pieces from to now now
  seamed-none from to now s e starts ends low high = omega arith

  pub seamed-still : (from to old new : ℕ) → new ≤ old → IsSeamed pieces from to old new
  seamed-still from to old new le s e starts ends low high = omega arith

  pub upto-none : (from now : ℕ) → AreSeamedUpto pieces from from now now
  upto-none from now s starts low = record { time = s; seam = starts; low = omega arith; high = low; few = omega arith }

  -- what holds of a part of an interval, or of a lower count, holds of the whole, or of a higher one
  pub seamed-part : (from to first last old later new : ℕ) → from ≤ first → last ≤ to → old ≤ later → IsSeamed pieces first last old new → IsSeamed pieces from to later new
  seamed-part from to first last old later new low high le is s e starts ends before past = omega (arith, is s e starts ends (omega arith) (omega arith))

  module _ (from next start last old mid new : ℕ) (so_far : AreSeamedUpto pieces from next old mid) (on : next ≤ start) (le : start ≤ last) (is : IsSeamed pieces start last mid new) where
    -- one share more was walked over
    pub seamed-more : (to : ℕ) → last ≤ to → IsSeamed pieces from to old new
    seamed-more to upto s e starts ends low past =
        let at = so_far s starts low in
        let here : new ≤ mid + length (between at.time e (joined pieces)) = is at.time e at.seam ends (omega (arith, at.high)) (omega arith) in
        omega (arith, at.few, here, fewer (is_ahead s at.time) (is_within at.time e) (is_within s e) (λ t. upto-last s at.time e t at.low (omega (arith, at.high))) (joined pieces))

    -- and the next one begins at a seam
    pub upto-more : (end : ℕ) → last ≤ end → IsSeam (end + 1) pieces → AreSeamedUpto pieces from (end + 1) old new
    upto-more end upto ends s starts low =
        let at = so_far s starts low in
        let seam : IsSeam (suc end) pieces = subst (λ (t : ℕ). IsSeam t pieces) (add-one end) ends in
        let here : new ≤ mid + length (between at.time end (joined pieces)) = is at.time end at.seam seam (omega (arith, at.high)) (omega arith) in
        record {
          time = suc end;
          seam = seam;
          low = omega (arith, at.low, at.high);
          high = omega arith;
          few = omega (arith, at.few, here, fewer (is_ahead s at.time) (is_within at.time end) (is_ahead s (suc end)) (λ t. upto-next s at.time end t at.low (omega (arith, at.high))) (joined pieces));
        }

  -- a walk over an interval that has seams around it
  pub few-around : (from to n old new : ℕ) → Around from to n pieces → IsSeamed pieces from to old new → new ≤ old + n
  few-around from to n old new around is = omega (arith, is around.first around.last around.starts around.ends around.before around.past, around.few)

-- two tests of which both hold only where both of two others do, and one only where the first of these does
both-fewer : (a b one_of other : ℕ → Bool) → ((t : ℕ) → one (a t) + one (b t) ≤ one (one_of t) + one (other t)) → (l : List Point)
    → length (at_times a l) + length (at_times b l) ≤ length (at_times one_of l) + length (at_times other l)
both-fewer a b one_of other each [] = omega arith
both-fewer a b one_of other each (p ∷ ps) =
    omega (
      arith,
      each p.time,
      both-fewer a b one_of other each ps,
      one-more (a p.time) p (at_times a ps),
      one-more (b p.time) p (at_times b ps),
      one-more (one_of p.time) p (at_times one_of ps),
      one-more (other p.time) p (at_times other ps),
    )

overlap : (s e f l x y t : ℕ) → s ≤ x → f ≤ x → y ≤ e → y ≤ l → one (is_within x e t) + one (is_within s y t) ≤ one (is_within s e t) + one (is_within f l t)
overlap s e f l x y t a b c d = grind (arith, nat_tests)

either : (a b : ℕ) → (a ≤ b) ⊎ (b ≤ a)
either a b = grind arith

-- an interval is walked over in two parts, the later one first: what a time cuts between them is decoded twice
module _ (pieces : List (List Point)) (t n : ℕ) (cut : Around (suc t) t n pieces) where
  seamed-cut : (from to old mid new : ℕ) → from ≤ t → t ≤ to → IsSeamed pieces (suc t) to old mid → IsSeamed pieces from t mid new → IsSeamed pieces from to (old + n) new
  seamed-cut from to old mid new low high late early s e starts ends before past = go (either s cut.first) (either cut.last e)
    where
      at : (x y : ℕ) → IsSeam x pieces → IsSeam (suc y) pieces → s ≤ x → cut.first ≤ x → x ≤ suc t → y ≤ e → y ≤ cut.last → t ≤ y → new ≤ old + n + length (between s e (joined pieces))
      at x y seam end a b c d f g =
          omega (
            arith,
            late x e seam ends c past,
            early s y starts end before g,
            cut.few,
            both-fewer (is_within x e) (is_within s y) (is_within s e) (is_within cut.first cut.last) (λ u. overlap s e cut.first cut.last x y u a b d f) (joined pieces),
          )

      go : (s ≤ cut.first) ⊎ (cut.first ≤ s) → (cut.last ≤ e) ⊎ (e ≤ cut.last) → new ≤ old + n + length (between s e (joined pieces))
      go (inl a) (inl b) = at cut.first cut.last cut.starts cut.ends a (omega arith) cut.before b (omega arith) cut.past
      go (inl a) (inr b) = at cut.first e cut.starts ends a (omega arith) cut.before (omega arith) b (omega arith)
      go (inr a) (inl b) = at s cut.last starts cut.ends (omega arith) a (omega arith) b (omega arith) cut.past
      go (inr a) (inr b) = at s e starts ends (omega arith) a (omega arith) (omega arith) b (omega arith)

-- so many times the reach
abbrev pub times : (k n : ℕ) → ℕ
times zero n = 0
times (suc k) n = n + times k n

times-more : (k n : ℕ) → times (k + 1) n ≡ n + times k n
times-more k n = ap (λ (i : ℕ). times i n) (add-one k)

times-few : (k n : ℕ) → k ≤ 3 → times k n ≤ 3 * n
times-few zero n le = omega arith
times-few (suc zero) n le = omega arith
times-few (suc (suc zero)) n le = omega arith
times-few (suc (suc (suc zero))) n le = omega arith
times-few (suc (suc (suc (suc k)))) n le = absurd (omega arith)

-- an interval is walked over from its end on: whatever the walk takes over what is left of it, up to an earlier time,
-- is all but so many cuts, and what was taken already
abbrev pub GoesOn : List (List Point) → (n from to end cuts old now : ℕ) → Type 0
GoesOn pieces n from to end cuts old now = (more new : ℕ) → IsSeamed pieces from end (now + more) new → IsSeamed pieces from to (old + times cuts n + more) new

module _ (pieces : List (List Point)) (n from to : ℕ) where
  pub goes-first : (old : ℕ) → GoesOn pieces n from to to 0 old old
  goes-first old more new is = seamed-part pieces from to from to (old + more) (old + times 0 n + more) new (omega arith) (omega arith) (omega arith) is

  module _ (end cuts old now : ℕ) (so_far : GoesOn pieces n from to end cuts old now) where
    -- one share more was walked over
    pub goes-more : (start mid : ℕ) → Around (suc (start - 1)) (start - 1) n pieces → from < start → start ≤ end → IsSeamed pieces start end now mid → GoesOn pieces n from to (start - 1) (cuts + 1) old mid
    goes-more start mid cut less high is more new rest =
        let on : suc (start - 1) ≡ start = omega (arith, less) in
        let scan_batch : IsSeamed pieces (suc (start - 1)) end (now + more) (mid + more) = λ s e x y a b. omega (arith, is s e x y (omega (arith, on)) b) in
        let both : IsSeamed pieces from end (now + more + n) new = seamed-cut pieces (start - 1) n cut from end (now + more) (mid + more) new (omega arith) (omega arith) scan_batch rest in
        let all : IsSeamed pieces from to (old + times cuts n + (n + more)) new = so_far (n + more) new (seamed-part pieces from end from end (now + more + n) (now + (n + more)) new (omega arith) (omega arith) (omega arith) both) in
        seamed-part pieces from to from to (old + times cuts n + (n + more)) (old + times (cuts + 1) n + more) new (omega arith) (omega arith) (omega (arith, times-more cuts n)) all

    -- the walk ended with a share
    pub goes-last : (start mid : ℕ) → cuts ≤ 3 → from ≤ start → IsSeamed pieces start end now mid → IsSeamed pieces from to (old + 3 * n) mid
    goes-last start mid few low is =
        seamed-part pieces from to from to (old + times cuts n + 0) (old + 3 * n) mid (omega arith) (omega arith) (omega (arith, times-few cuts n few))
        (so_far 0 mid (seamed-part pieces from end start end now (now + 0) mid low (omega arith) (omega arith) is))

    -- it ended before one
    pub goes-none : cuts ≤ 3 → IsSeamed pieces from to (old + 3 * n) now
    goes-none few = goes-last from now few (omega arith) (seamed-none pieces from end now)

-- a share that is not the last ends at a seam
pub at-seam : (pieces : List (List Point)) (end last : ℕ) → (end ≡ last) ⊎ IsSeam (end + 1) pieces → end ≢ last → IsSeam (end + 1) pieces
at-seam pieces end last (inl same) other = absurd (omega arith)
at-seam pieces end last (inr seam) other = seam

-- what is walked over of a stretch of buckets is in the interval
pub bucket_range-inside : (q : Query) (ps : List Point) (bucket_range : BucketRange) → IsBucketRangeIn q ps bucket_range → (q.from ≤ bucket_range.from) × (bucket_range.to ≤ q.to)
bucket_range-inside q ps bucket_range is = (omega (arith, is.is.part.early), omega (arith, is.is.part.late))
