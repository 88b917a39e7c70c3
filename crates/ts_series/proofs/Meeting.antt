-- Where the times of an interval are among the chunks.
use Rattle.std.proofs.Common.{◌≡◌, ◌≢◌, ◌⊎◌, inl, inr, ℕ, zero, suc, ◌<◌, ◌≤◌, Bool, true, false, List, [], ◌∷◌, ◌++◌, length, get_or, take, drop, map, refl, sym, ◌∙◌, ap, subst, arith, append-nil}
use Rattle.std.specs.Prelude.{nat_le, not, max, Option, Some}
use Rattle.std.specs.List.Sorted.{IsPartitionPoint, IsPartitionedBy}
use Rattle.std.proofs.lemmas.Bool.Decides.{nat_tests}
use Rattle.std.proofs.lemmas.List.{length-map}
use Rattle.ts_spec.specs.Sample.{Point, IsAfter, IsAscending, at_times, is_within, outside, first_of, last_of, later_or}
use Rattle.ts_spec.proofs.Samples.{IsBefore}
use Rattle.ts_sample.specs.Chunk.{joined}
use Rattle.ts_sample.proofs.Lists.{after-left, after-right, ascending-right}
use Rattle.ts_series.specs.Stored.{AreChunks, IsOverlapping, AllOverlap, IsTrimmed, HaveBegun}
use Rattle.ts_series.proofs.EarlyLate.{is_before, is_upto, none-cons, none-head, none-left, none-right, none-both, last-before, before-last, before-first, before-none, some-before, late-some, first-some, first-none, before-some, after-some}
use Rattle.ts_series.proofs.Joined.{chunk-at, filled-at, map-at}

some-joined : (test : ℕ → Bool) (k : ℕ) (pss : List (List Point)) → at_times test (get_or pss k []) ≢ [] → at_times test (joined pss) ≢ []
some-joined test k [] f n = f refl
some-joined test zero (ps ∷ pss) f n = f (none-left test ps (joined pss) n)
some-joined test (suc k) (ps ∷ pss) f n = some-joined test k pss f (none-right test ps (joined pss) n)

after-piece : (t k : ℕ) (pss : List (List Point)) → IsAfter t (joined pss) → IsAfter t (get_or pss k [])
after-piece t k [] h = tt
after-piece t zero (ps ∷ pss) h = after-left t ps (joined pss) h
after-piece t (suc k) (ps ∷ pss) h = after-piece t k pss (after-right t ps (joined pss) h)

-- a piece is before a time that a later piece has a sample up to
before-later : (t i j : ℕ) (pss : List (List Point)) → IsAscending (joined pss) → i < j → at_times (λ u. nat_le u t) (get_or pss j []) ≢ [] → IsBefore t (get_or pss i [])
before-later t i j [] h less f = tt
before-later t i zero (ps ∷ pss) h less f = absurd (omega arith)
before-later t zero (suc j) (ps ∷ pss) h less f = before-some t ps (joined pss) h (some-joined (λ u. nat_le u t) j pss f)
before-later t (suc i) (suc j) (ps ∷ pss) h less f = before-later t i j pss (ascending-right ps (joined pss) h) (omega arith) f

-- a piece is past a time that an earlier piece has a sample from
after-earlier : (t i j : ℕ) (pss : List (List Point)) → IsAscending (joined pss) → i < j → at_times (nat_le t) (get_or pss i []) ≢ [] → IsAfter t (get_or pss j [])
after-earlier t i j [] h less f = tt
after-earlier t i zero (ps ∷ pss) h less f = absurd (omega arith)
after-earlier t zero (suc j) (ps ∷ pss) h less f = after-piece t j pss (after-some t ps (joined pss) h f)
after-earlier t (suc i) (suc j) (ps ∷ pss) h less f = after-earlier t i j pss (ascending-right ps (joined pss) h) (omega arith) f

-- the last sample is that of the last piece
pub last-joined : (format : List Point → List ℕ) (pss : List (List Point)) (ns : List ℕ) → AreChunks format pss ns → (i : ℕ) → suc i ≡ length pss
    → last_of (joined pss) ≡ last_of (get_or pss i [])
last-joined format [] ns h i is = absurd (omega arith)
last-joined format (ps ∷ pss) [] h i is = absurd h
last-joined format (ps ∷ []) (n ∷ ns) h zero is = ap last_of (append-nil ps)
last-joined format (ps ∷ []) (n ∷ ns) h (suc i) is = absurd (omega arith)
last-joined format (ps ∷ qs ∷ pss) (n ∷ ns) h zero is = absurd (omega arith)
last-joined format (ps ∷ qs ∷ pss) (n ∷ ns) h (suc i) is =
    behind ps (joined (qs ∷ pss)) (filled qs (joined pss) (filled-at format zero (qs ∷ pss) ns h.1.1 (omega arith))) ∙ last-joined format (qs ∷ pss) ns h.1.1 i (omega arith)
  where
    filled : (xs ys : List Point) → xs ≢ [] → xs ++ ys ≢ []
    filled [] ys f n = f refl
    filled (x ∷ xs) ys f n = absurd (cc n)

    behind : (xs ys : List Point) → ys ≢ [] → last_of (xs ++ ys) ≡ last_of ys
    behind [] ys f = refl
    behind xs [] f = absurd (f refl)
    behind (x ∷ xs) (y ∷ ys) f = ap (λ (o : Option Point). Some (later_or x o)) (behind xs (y ∷ ys) f)

-- ---- what a search by halves asks and gives

-- a test of lists that no list passes after one that fails it, over what the lists are of
parted-map : {X : Type 0} (list : X → List Point) (test : List Point → Bool) (cs : List X)
    → ((i j : ℕ) → i < j → j < length (map list cs) → test (get_or (map list cs) j []) ≡ true → test (get_or (map list cs) i []) ≡ true)
    → IsPartitionedBy (λ c. test (list c)) cs
parted-map {X} list test cs h i j d le lt e = go (cases i j le)
  where
    cases : (i j : ℕ) → i ≤ j → (i ≡ j) ⊎ (i < j)
    cases i j le = grind arith

    go : (i ≡ j) ⊎ (i < j) → test (list (get_or cs i d)) ≡ true
    go (inl same) = ap (λ k. test (list (get_or cs k d))) same ∙ e
    go (inr less) =
        let size : length (map list cs) ≡ length cs = length-map cs list in
        sym (ap test (map-at list i cs d [] (omega arith)))
        ∙ h i j less (omega arith) (ap test (map-at list j cs d [] lt) ∙ e)

below-point : {X : Type 0} (list : X → List Point) (test : List Point → Bool) (cs : List X) (i : ℕ)
    → IsPartitionPoint (λ c. test (list c) ≡ true) (λ c. test (list c) ≡ false) cs i → i ≤ length cs → (k : ℕ) → k < i → test (get_or (map list cs) k []) ≡ true
below-point list test [] i h within k less = absurd (omega arith)
below-point list test (c ∷ cs) i h within k less = ap test (map-at list k (c ∷ cs) c [] (omega arith)) ∙ h.0 k c (omega arith) less

from-point : {X : Type 0} (list : X → List Point) (test : List Point → Bool) (cs : List X) (i : ℕ)
    → IsPartitionPoint (λ c. test (list c) ≡ true) (λ c. test (list c) ≡ false) cs i → (k : ℕ) → i ≤ k → k < length (map list cs) → test (get_or (map list cs) k []) ≡ false
from-point list test [] i h k le less = absurd (omega arith)
from-point list test (c ∷ cs) i h k le less =
    let size : length (map list (c ∷ cs)) ≡ length (c ∷ cs) = length-map (c ∷ cs) list in
    ap test (map-at list k (c ∷ cs) c [] (omega arith)) ∙ h.1 k c le (omega arith)

take-none : (test : ℕ → Bool) (i : ℕ) (pss : List (List Point)) → ((k : ℕ) → k < i → k < length pss → at_times test (get_or pss k []) ≡ []) → at_times test (joined (take i pss)) ≡ []
take-none test zero pss h = refl
take-none test (suc i) [] h = refl
take-none test (suc i) (ps ∷ pss) h =
    none-both test ps (joined (take i pss)) (h zero (omega arith) (omega arith)) (take-none test i pss (λ k less within. h (suc k) (omega arith) (omega arith)))

drop-none : (test : ℕ → Bool) (i : ℕ) (pss : List (List Point)) → ((k : ℕ) → i ≤ k → k < length pss → at_times test (get_or pss k []) ≡ []) → at_times test (joined (drop i pss)) ≡ []
drop-none test zero [] h = refl
drop-none test zero (ps ∷ pss) h =
    none-both test ps (joined pss) (h zero (omega arith) (omega arith)) (drop-none test zero pss (λ k le within. h (suc k) (omega arith) (omega arith)))
drop-none test (suc i) [] h = refl
drop-none test (suc i) (ps ∷ pss) h = drop-none test i pss (λ k le within. h (suc k) (omega arith) (omega arith))

trimmed-drop : (t i : ℕ) (pss : List (List Point)) → (i < length pss → at_times (nat_le t) (get_or pss i []) ≢ []) → IsTrimmed t (drop i pss)
trimmed-drop t zero [] h = tt
trimmed-drop t (suc i) [] h = tt
trimmed-drop t zero (ps ∷ pss) h = h (omega arith)
trimmed-drop t (suc i) (ps ∷ pss) h = trimmed-drop t i pss (λ less. h (omega arith))

begun-take : (t i : ℕ) (pss : List (List Point)) → ((k : ℕ) → k < i → k < length pss → at_times (λ u. nat_le u t) (get_or pss k []) ≢ []) → HaveBegun t (take i pss)
begun-take t zero pss h = tt
begun-take t (suc i) [] h = tt
begun-take t (suc i) (ps ∷ pss) h = (h zero (omega arith) (omega arith), begun-take t i pss (λ k less within. h (suc k) (omega arith) (omega arith)))

-- chunks `cs`, of which `list` gives the samples
module _ {X : Type 0} (format : List Point → List ℕ) (list : X → List Point) (cs : List X) (ns : List ℕ) (chunks : AreChunks format (map list cs) ns)
    (rises : IsAscending (joined (map list cs))) (t : ℕ) where
  pub ends-parted : IsPartitionedBy (λ c. is_before t (last_of (list c))) cs
  ends-parted = parted-map list (λ ps. is_before t (last_of ps)) cs (λ i j less within e.
      let there : IsBefore t (get_or (map list cs) j []) = last-before t (get_or (map list cs) j []) (chunk-at format j (map list cs) ns chunks within).ascending e in
      let some : at_times (λ u. nat_le u t) (get_or (map list cs) j []) ≢ [] = some-before t (get_or (map list cs) j []) (filled-at format j (map list cs) ns chunks within) there in
      before-last t (get_or (map list cs) i []) (before-later t i j (map list cs) rises less some))

  pub begins-parted : IsPartitionedBy (λ c. is_upto t (first_of (list c))) cs
  begins-parted = parted-map list (λ ps. is_upto t (first_of ps)) cs (λ i j less within e.
      before-first t (get_or (map list cs) i [])
      (before-later t i j (map list cs) rises less (first-some t (get_or (map list cs) j []) (filled-at format j (map list cs) ns chunks within) e)))

  pub earlier : (i : ℕ) → IsPartitionPoint (λ c. is_before t (last_of (list c)) ≡ true) (λ c. is_before t (last_of (list c)) ≡ false) cs i → i ≤ length cs
      → at_times (nat_le t) (joined (take i (map list cs))) ≡ []
  earlier i h le = take-none (nat_le t) i (map list cs) (λ k less within.
      before-none t (get_or (map list cs) k [])
      (last-before t (get_or (map list cs) k []) (chunk-at format k (map list cs) ns chunks within).ascending (below-point list (λ ps. is_before t (last_of ps)) cs i h le k less)))

  pub reached : (i : ℕ) → IsPartitionPoint (λ c. is_before t (last_of (list c)) ≡ true) (λ c. is_before t (last_of (list c)) ≡ false) cs i
      → IsTrimmed t (drop i (map list cs))
  reached i h = trimmed-drop t i (map list cs) (λ within. late-some t (get_or (map list cs) i []) (from-point list (λ ps. is_before t (last_of ps)) cs i h i (omega arith) within))

  pub later : (i : ℕ) → IsPartitionPoint (λ c. is_upto t (first_of (list c)) ≡ true) (λ c. is_upto t (first_of (list c)) ≡ false) cs i
      → at_times (λ u. nat_le u t) (joined (drop i (map list cs))) ≡ []
  later i h = drop-none (λ u. nat_le u t) i (map list cs) (λ k le within.
      first-none t (get_or (map list cs) k []) (chunk-at format k (map list cs) ns chunks within).ascending (from-point list (λ ps. is_upto t (first_of ps)) cs i h k le within))

  pub begun : (i : ℕ) → IsPartitionPoint (λ c. is_upto t (first_of (list c)) ≡ true) (λ c. is_upto t (first_of (list c)) ≡ false) cs i → i ≤ length cs
      → HaveBegun t (take i (map list cs))
  begun i h le = begun-take t i (map list cs) (λ k less within.
      first-some t (get_or (map list cs) k []) (filled-at format k (map list cs) ns chunks within) (below-point list (λ ps. is_upto t (first_of ps)) cs i h le k less))

-- ---- the pieces between

begun-at : (t k i : ℕ) (pss : List (List Point)) → HaveBegun t (take i pss) → k < i → k < length pss → at_times (λ u. nat_le u t) (get_or pss k []) ≢ []
begun-at t k i [] h less within = absurd (omega arith)
begun-at t k zero (ps ∷ pss) h less within = absurd (omega arith)
begun-at t zero (suc i) (ps ∷ pss) h less within = h.0
begun-at t (suc k) (suc i) (ps ∷ pss) h less within = begun-at t k i pss h.1 (omega arith) (omega arith)

pub trimmed-at : (t i : ℕ) (pss : List (List Point)) → IsTrimmed t (drop i pss) → i < length pss → at_times (nat_le t) (get_or pss i []) ≢ []
trimmed-at t i [] h within = absurd (omega arith)
trimmed-at t zero (ps ∷ pss) h within = h
trimmed-at t (suc i) (ps ∷ pss) h within = trimmed-at t i pss h (omega arith)

all-within : (from to : ℕ) (ps : List Point) → IsAfter from ps → IsBefore to ps → outside from to ps ≡ []
all-within from to [] h k = refl
all-within from to (p ∷ ps) h k =
    let more : from < p.time = h.0 in
    let less : p.time < to = k.0 in
    none-cons (λ t. not (is_within from to t)) p ps (let fails : not (is_within from to p.time) ≡ false = grind (arith, nat_tests) in fails) (all-within from to ps h.1 k.1)

less-dropped : (test : ℕ → Bool) (i j : ℕ) (pss : List (List Point)) → i ≤ j → at_times test (joined (drop i pss)) ≡ [] → at_times test (joined (drop j pss)) ≡ []
less-dropped test zero zero pss le n = n
less-dropped test zero (suc j) [] le n = refl
less-dropped test zero (suc j) (ps ∷ pss) le n = less-dropped test zero j pss (omega arith) (none-right test ps (joined pss) n)
less-dropped test (suc i) zero pss le n = absurd (omega arith)
less-dropped test (suc i) (suc j) [] le n = refl
less-dropped test (suc i) (suc j) (ps ∷ pss) le n = less-dropped test i j pss (omega arith) n

pub meets : (from to : ℕ) (pss : List (List Point)) (start upto end : ℕ) → IsAscending (joined pss) → end ≡ max upto start → start ≤ length pss → upto ≤ length pss
    → at_times (nat_le from) (joined (take start pss)) ≡ [] → IsTrimmed from (drop start pss)
    → at_times (λ t. nat_le t to) (joined (drop upto pss)) ≡ [] → HaveBegun to (take upto pss) → IsOverlapping from to pss start end
meets from to pss start upto end rises is low high early reach late begin = record {
  ordered = omega arith;
  within = omega arith;
  before = early;
  past = less-dropped (λ t. nat_le t to) upto end pss (omega arith) late;
  inner = λ k past less.
      all-within from to (get_or pss k [])
      (after-earlier from start k pss rises past (trimmed-at from start pss reach (omega arith)))
      (before-later to k (suc k) pss rises (omega arith) (begun-at to (suc k) upto pss begin (omega arith) (omega arith)));
}

filled-after : (t : ℕ) (ps : List Point) → ps ≢ [] → IsAfter t ps → at_times (nat_le t) ps ≢ []
filled-after t [] f h n = f refl
filled-after t (p ∷ ps) f h n =
    let more : t < p.time = h.0 in
    let fails = none-head (nat_le t) p ps n in
    absurd (grind (arith, nat_tests, fails))

-- each piece between two places meets the interval
pub all-meet : (from to : ℕ) (pss : List (List Point)) (start upto end : ℕ) → IsAscending (joined pss) → end ≡ max upto start → upto ≤ length pss
    → IsTrimmed from (drop start pss) → HaveBegun to (take upto pss) → AllOverlap from to pss start end
all-meet from to pss start upto end rises is high reach begin k le less = (go (cases start k le), begun)
  where
    begun : at_times (λ t. nat_le t to) (get_or pss k []) ≢ []
    begun = begun-at to k upto pss begin (omega arith) (omega arith)

    cases : (i j : ℕ) → i ≤ j → (i ≡ j) ⊎ (i < j)
    cases i j le = grind arith

    filled : get_or pss k [] ≢ []
    filled e = begun (ap (at_times (λ t. nat_le t to)) e)

    go : (start ≡ k) ⊎ (start < k) → at_times (nat_le from) (get_or pss k []) ≢ []
    go (inl same) = subst (λ i. at_times (nat_le from) (get_or pss i []) ≢ []) same (trimmed-at from start pss reach (omega arith))
    go (inr past) = filled-after from (get_or pss k []) filled (after-earlier from start k pss rises past (trimmed-at from start pss reach (omega arith)))
