-- Planned changes of chunks.
use Rattle.std.proofs.Common.{◌≡◌, ℕ, zero, suc, ◌-◌, ◌<◌, ◌≤◌, true, List, [], ◌∷◌, ◌++◌, length, get_or, take, drop, map, sym, ◌∙◌, ap, subst, arith, append_assoc, append-nil, leb-true}
use Rattle.std.specs.Prelude.{nat_le, not, slice_range, Option, None, Some}
use Rattle.std.proofs.Math.Seq.{drop-length}
use Rattle.std.proofs.lemmas.List.{map-append, length-take, get_or-take}
use Rattle.ts_spec.specs.Sample.{Point, IsAfter, IsAscending, at_times, is_within, outside, put, last_of}
use Rattle.ts_spec.proofs.Samples.{IsBefore, ascending-put, ascending-times}
use Rattle.ts_sample.specs.Chunk.{IsChunk, IsPast, IsCut, Fits, HaveLimit, joined}
use Rattle.ts_sample.specs.Sample.{IsInBounds}
use Rattle.ts_sample.proofs.Cuts.{joined-cut, joined-append}
use Rattle.ts_sample.proofs.Lists.{ascending-left, fine-times, fine-put}
use Rattle.ts_series.specs.Stored.{Stored, AreChunks, AreStoredChunks, IsTrimmed, IsReady, LastChunkFits, IsAmong, AreAmong, IsUpTo, longest, with_last, replaced, points}
use Rattle.ts_series.proofs.Joined.{joined-parts, chunk-at, chunks-length, chunks-take, chunks-append, longest-at}
use Rattle.ts_series.proofs.Meeting.{last-joined}
use Rattle.ts_series.proofs.PieceCounts.{mapped-at, joined-replaced}
use Rattle.ts_series.proofs.PutBetween.{put-past, none-from, put-piece, place-within}
use Rattle.ts_series.proofs.NewChunks.{longest-both, cut-chunks, among-one, among-range, among-all, among-append}
use Rattle.ts_series.proofs.EarlyLate.{rest-past}

pub ready-none : (format : List Point → List ℕ) (h : Stored) (start end : ℕ) (pieces : List (List Point)) (limits : List ℕ) → start ≤ end → end ≤ length h.pieces → IsAscending (joined (replaced start end pieces h.pieces))
    → IsReady format h (record { start = start; end = end; pieces = pieces; limits = limits; appended = None })
ready-none format h start end pieces limits ordered within rises = record { ordered = ordered; within = within; ascending = rises; appends = tt; enough = omega arith }

-- what holds of the chunks, of their value
pub kept-view : (format : List Point → List ℕ) (k h : Stored) (count : ℕ) → k ≡ h → AreStoredChunks format k.pieces k.limits count → AreStoredChunks format h.pieces h.limits count
kept-view format k h count is kept = subst (λ (x : Stored). AreStoredChunks format x.pieces x.limits count) is kept

-- the last piece has room for a sample
pub last-room : (format : List Point → List ℕ) (p : Point) (i : ℕ) (pss : List (List Point)) (ns : List ℕ) → suc i ≡ length pss → length pss ≡ length ns → IsPast (last_of (get_or pss i [])) p.time
    → Fits format (get_or ns i 0) (get_or pss i [] ++ p ∷ []) → LastChunkFits format (Some p) pss ns
last-room format p i [] ns is same past fits = absurd (omega arith)
last-room format p i (ps ∷ pss) [] is same past fits = absurd (omega arith)
last-room format p zero (ps ∷ []) (n ∷ ns) is same past fits = (past, fits)
last-room format p (suc i) (ps ∷ []) (n ∷ ns) is same past fits = absurd (omega arith)
last-room format p zero (ps ∷ qs ∷ pss) (n ∷ ns) is same past fits = absurd (omega arith)
last-room format p (suc i) (ps ∷ qs ∷ pss) (n ∷ ns) is same past fits = last-room format p i (qs ∷ pss) ns (omega arith) (omega arith) past fits

joined-last : (p : Point) (pss : List (List Point)) → 0 < length pss → joined (with_last (Some p) pss) ≡ joined pss ++ p ∷ []
joined-last p [] some = absurd (omega arith)
joined-last p (ps ∷ []) some = append_assoc ps (p ∷ []) [] ∙ ap (λ (l : List Point). l ++ p ∷ []) (sym (append-nil ps))
joined-last p (ps ∷ qs ∷ pss) some = ap (λ (l : List Point). ps ++ l) (joined-last p (qs ∷ pss) (omega arith)) ∙ sym (append_assoc ps (joined (qs ∷ pss)) (p ∷ []))

front-only : {X : Type 0} (start end : ℕ) (xs : List X) → end ≡ length xs → replaced start end [] xs ≡ take start xs
front-only {X} start end xs is =
    ap (λ n. (take start xs ++ []) ++ drop n xs) is ∙ ap (λ (l : List X). (take start xs ++ []) ++ l) (drop-length xs)
    ∙ append-nil (take start xs ++ []) ∙ append-nil (take start xs)

-- a sample past those of the chunks before a place
module _ {X : Type 0} {format : List Point → List ℕ} (list : X → List Point) (most : X → ℕ) (cs : List X) {room count : ℕ} (h : Stored)
    (view : ◌≡◌ {A = Stored} (record { pieces = map list cs; limits = map most cs; room = room }) h) (are : AreStoredChunks format (map list cs) (map most cs) count) {start end : ℕ} (p : Point)
    (within : start ≤ length h.pieces) (size : end ≡ length h.pieces) (past : IsPast (last_of (joined (take start h.pieces))) p.time) where
  same : map list cs ≡ h.pieces
  same = ap (λ (k : Stored). k.pieces) view

  limits : map most cs ≡ h.limits
  limits = ap (λ (k : Stored). k.limits) view

  kept : AreStoredChunks format h.pieces h.limits count
  kept = kept-view format _ h count view are

  as-many : length h.pieces ≡ length h.limits
  as-many = chunks-length format h.pieces h.limits kept.chunks

  rises : IsAscending (joined (take start h.pieces))
  rises = ascending-left (joined (take start h.pieces)) (joined (drop start h.pieces)) (subst IsAscending (joined-parts start h.pieces) kept.ascending)

  -- the last of the chunks before the place
  module _ {x : X} (some : 0 < start) (is : x ≡ get_or cs (start - 1) x) where
    pub past-chunk : IsPast (last_of (list x)) p.time
    past-chunk =
        let i : ℕ = start - 1 in
        subst (λ (o : Option Point). IsPast o p.time)
        (last-joined format (take start h.pieces) (take start h.limits) (chunks-take format start h.pieces h.limits kept.chunks) i (omega (arith, length-take start h.pieces))
        ∙ ap last_of (get_or-take start h.pieces i [] (omega arith) ∙ sym (mapped-at list i cs h.pieces x [] same (omega arith) is)))
        past

    module _ {none : List X} (empty : none ≡ []) (fits : nat_le (length (format (list x ++ p ∷ []))) (most x) ≡ true) where
      has-room : LastChunkFits format (Some p) (take start h.pieces) (take start h.limits)
      has-room =
          let i : ℕ = start - 1 in
          let piece : list x ≡ get_or (take start h.pieces) i [] = mapped-at list i cs h.pieces x [] same (omega arith) is ∙ sym (get_or-take start h.pieces i [] (omega arith)) in
          let limit : most x ≡ get_or (take start h.limits) i 0 = mapped-at most i cs h.limits x 0 limits (omega (arith, as-many)) is ∙ sym (get_or-take start h.limits i 0 (omega arith)) in
          last-room format p i (take start h.pieces) (take start h.limits) (omega (arith, length-take start h.pieces))
          (omega (arith, length-take start h.pieces, length-take start h.limits, as-many))
          (subst (λ (ps : List Point). IsPast (last_of ps) p.time) piece past-chunk)
          (subst (λ n. Fits format n (get_or (take start h.pieces) i [] ++ p ∷ [])) limit
          (subst (λ (ps : List Point). Fits format (most x) (ps ++ p ∷ [])) piece (leb-true (length (format (list x ++ p ∷ []))) (most x) fits)))

      pub into-list : joined (with_last (Some p) (replaced start end (map list none) h.pieces)) ≡ put p (joined (take start h.pieces))
      into-list =
          ap (λ (l : List X). joined (with_last (Some p) (replaced start end (map list l) h.pieces))) empty
          ∙ ap (λ (l : List (List Point)). joined (with_last (Some p) l)) (front-only start end h.pieces size)
          ∙ joined-last p (take start h.pieces) (omega (arith, length-take start h.pieces))
          ∙ sym (put-past p (joined (take start h.pieces)) rises past)

      pub into-ready : IsReady format h (record { start = start; end = end; pieces = map list none; limits = map most none; appended = Some p })
      into-ready = record {
        ordered = omega arith;
        within = omega arith;
        ascending = subst IsAscending (sym into-list) (ascending-put p (joined (take start h.pieces)) rises);
        appends = subst (λ (l : List X). LastChunkFits format (Some p) (replaced start end (map list l) h.pieces) (replaced start end (map most l) h.limits)) (sym empty)
            (subst (λ (l : List (List Point)). LastChunkFits format (Some p) l (replaced start end [] h.limits)) (sym (front-only start end h.pieces size))
            (subst (λ (l : List ℕ). LastChunkFits format (Some p) (take start h.pieces) l) (sym (front-only start end h.limits (omega (arith, as-many)))) has-room));
        enough = omega arith;
      }

  -- a new chunk with the sample
  module _ {x : X} (one : list x ≡ p ∷ []) {none new : List X} (empty : none ≡ []) (is : new ≡ none ++ x ∷ []) where
    alone : new ≡ x ∷ []
    alone = is ∙ ap (λ (l : List X). l ++ x ∷ []) empty

    pub new-list : joined (replaced start end (map list new) h.pieces) ≡ put p (joined (take start h.pieces))
    new-list =
        ap (λ (l : List X). joined (replaced start end (map list l) h.pieces)) alone
        ∙ joined-replaced start end (list x ∷ []) h.pieces
        ∙ ap (λ (ps : List Point). joined (take start h.pieces) ++ ((ps ++ []) ++ joined (drop end h.pieces))) one
        ∙ ap (λ (pss : List (List Point)). joined (take start h.pieces) ++ ((p ∷ []) ++ joined pss)) (ap (λ n. drop n h.pieces) size ∙ drop-length h.pieces)
        ∙ sym (put-past p (joined (take start h.pieces)) rises past)

    pub new-ready : IsReady format h (record { start = start; end = end; pieces = map list new; limits = map most new; appended = None })
    new-ready =
        ready-none format h start end (map list new) (map most new) (omega arith) (omega arith)
        (subst IsAscending (sym new-list) (ascending-put p (joined (take start h.pieces)) rises))

    pub new-limits : (limit : ℕ) (ms : List ℕ) → most x ≡ limit → AreAmong limit ms (map most new)
    new-limits limit ms bound = subst (λ (l : List X). AreAmong limit ms (map most l)) (sym alone) (subst (IsAmong limit ms) (sym bound) (among-one limit ms), tt)

-- one of the chunks, at its place
pub record IsOne {X : Type 0} (format : List Point → List ℕ) (list : X → List Point) (most : X → ℕ) (h : Stored) (i : ℕ) (x : X) : Type 0 where
  pub within : i < length h.pieces
  pub piece : list x ≡ get_or h.pieces i []
  pub chunk : IsChunk format (most x) (list x)
  pub among : (one start end : ℕ) → start ≤ i → i < end → IsAmong one (slice_range h.limits start end) (most x)

pub one-at : {X : Type 0} {format : List Point → List ℕ} (list : X → List Point) (most : X → ℕ) (cs : List X) {room count : ℕ} (h : Stored)
    → ◌≡◌ {A = Stored} (record { pieces = map list cs; limits = map most cs; room = room }) h → AreStoredChunks format (map list cs) (map most cs) count
    → (i : ℕ) (x : X) → i < length h.pieces → x ≡ get_or cs i x → IsOne format list most h i x
one-at {format = format} list most cs {count = count} h view are i x within is =
    let kept : AreStoredChunks format h.pieces h.limits count = kept-view format _ h count view are in
    let inside : i < length h.limits = omega (arith, chunks-length format h.pieces h.limits kept.chunks) in
    let here : list x ≡ get_or h.pieces i [] = mapped-at list i cs h.pieces x [] (ap (λ (k : Stored). k.pieces) view) within is in
    let limit : most x ≡ get_or h.limits i 0 = mapped-at most i cs h.limits x 0 (ap (λ (k : Stored). k.limits) view) inside is in
    record {
      within = within;
      piece = here;
      chunk = subst (λ n. IsChunk format n (list x)) (sym limit)
          (subst (λ (ps : List Point). IsChunk format (get_or h.limits i 0) ps) (sym here) (chunk-at format i h.pieces h.limits kept.chunks within));
      among = λ one start end from below. subst (IsAmong one (slice_range h.limits start end)) (sym limit) (among-range one i start end h.limits from below inside);
    }

-- these are chunks with these samples, and with limits of the chunks from one place up to another
pub record AreNew (format : List Point → List ℕ) (h : Stored) (start end : ℕ) (ps : List Point) (pieces : List (List Point)) (limits : List ℕ) : Type 0 where
  pub list : joined pieces ≡ ps
  pub chunks : AreChunks format pieces limits
  pub among : (one : ℕ) → AreAmong one (slice_range h.limits start end) limits

module _ {X : Type 0} {format : List Point → List ℕ} {list : X → List Point} {most : X → ℕ} {h : Stored} {i : ℕ} {x : X} (one : IsOne format list most h i x) where
  pub piece-short : length (list x) ≤ longest h.pieces
  piece-short = omega (arith, ap length one.piece, longest-at i h.pieces)

  -- what it is cut into without the samples of an interval
  pub without-it : (start end : ℕ) → start ≤ i → i < end → (from to : ℕ) (new : List X) → IsCut format (most x) (outside from to (list x)) (map list new) → HaveLimit most (most x) new
      → AreNew format h start end (outside from to (get_or h.pieces i [])) (map list new) (map most new)
  without-it start end behind below from to new cut bound = record {
    list = joined-cut format (most x) (outside from to (list x)) (map list new) cut ∙ ap (outside from to) one.piece;
    chunks = cut-chunks format list most (most x) one.chunk.bounds (outside from to (list x)) new cut bound
        (ascending-times (λ t. not (is_within from to t)) (list x) one.chunk.ascending) (fine-times (λ t. not (is_within from to t)) (list x) one.chunk.fine);
    among = λ k. among-all most k (most x) (slice_range h.limits start end) new (one.among k start end behind below) bound;
  }

  -- what it is cut into with a sample
  pub with-it : (start end : ℕ) → start ≤ i → i < end → (p : Point) → IsInBounds p → (new : List X) → IsCut format (most x) (put p (list x)) (map list new) → HaveLimit most (most x) new
      → AreNew format h start end (put p (get_or h.pieces i [])) (map list new) (map most new)
  with-it start end behind below p fine new cut bound = record {
    list = joined-cut format (most x) (put p (list x)) (map list new) cut ∙ ap (put p) one.piece;
    chunks = cut-chunks format list most (most x) one.chunk.bounds (put p (list x)) new cut bound (ascending-put p (list x) one.chunk.ascending) (fine-put p (list x) fine one.chunk.fine);
    among = λ k. among-all most k (most x) (slice_range h.limits start end) new (one.among k start end behind below) bound;
  }

-- where a sample that is not past the last one goes
module _ {format : List Point → List ℕ} (h : Stored) {count : ℕ} (kept : AreStoredChunks format h.pieces h.limits count) {t place : ℕ} (p : Point) (time : t ≡ p.time)
    (late : IsUpTo p.time (last_of (points h))) (within : place ≤ length h.pieces) (early : at_times (nat_le t) (joined (take place h.pieces)) ≡ []) (reach : IsTrimmed t (drop place h.pieces)) where
  pub place-in : place < length h.pieces
  place-in = place-within t place h.pieces kept.ascending (subst (λ u. IsUpTo u (last_of (points h))) (sym time) late) within early

  module _ {next : ℕ} (new : List (List Point)) (after : next ≡ suc place) (is : joined new ≡ put p (get_or h.pieces place [])) where
    pub inserted-list : joined (replaced place next new h.pieces) ≡ put p (points h)
    inserted-list =
        put-piece p place next h.pieces new place-in after
        (subst (λ u. IsBefore u (joined (take place h.pieces))) time (none-from t (joined (take place h.pieces)) early))
        (subst (λ u. IsAfter u (joined (drop (suc place) h.pieces))) time (rest-past t place h.pieces kept.ascending reach)) is

    pub inserted-ready : (ns : List ℕ) → IsReady format h (record { start = place; end = next; pieces = new; limits = ns; appended = None })
    inserted-ready ns =
        ready-none format h place next new ns (omega arith) (omega (arith, place-in)) (subst IsAscending (sym inserted-list) (ascending-put p (points h) kept.ascending))

-- two lists of chunks
module _ {X : Type 0} (list : X → List Point) (most : X → ℕ) (cs ds es : List X) (is : es ≡ cs ++ ds) where
  both-lists : map list es ≡ map list cs ++ map list ds
  both-lists = ap (map list) is ∙ map-append list cs ds

  both-most : map most es ≡ map most cs ++ map most ds
  both-most = ap (map most) is ∙ map-append most cs ds

  pub both-joined : joined (map list es) ≡ joined (map list cs) ++ joined (map list ds)
  both-joined = ap joined both-lists ∙ joined-append (map list cs) (map list ds)

  pub both-chunks : (format : List Point → List ℕ) → AreChunks format (map list cs) (map most cs) → AreChunks format (map list ds) (map most ds) → AreChunks format (map list es) (map most es)
  both-chunks format h k =
      subst (λ (pss : List (List Point)). AreChunks format pss (map most es)) (sym both-lists)
      (subst (AreChunks format (map list cs ++ map list ds)) (sym both-most) (chunks-append format (map list cs) (map list ds) (map most cs) (map most ds) h k))

  pub both-short : (n : ℕ) → longest (map list cs) ≤ n → longest (map list ds) ≤ n → longest (map list es) ≤ n
  both-short n h k = subst (λ (pss : List (List Point)). longest pss ≤ n) (sym both-lists) (longest-both (map list cs) (map list ds) n h k)

  pub both-new : {format : List Point → List ℕ} {h : Stored} {start end : ℕ} {ps qs : List Point} → AreNew format h start end ps (map list cs) (map most cs)
      → AreNew format h start end qs (map list ds) (map most ds) → AreNew format h start end (ps ++ qs) (map list es) (map most es)
  both-new {format} {h} {start} {end} one two = record {
    list = both-joined ∙ (λ i. one.list i ++ two.list i);
    chunks = both-chunks format one.chunks two.chunks;
    among = λ k. subst (AreAmong k (slice_range h.limits start end)) (sym both-most) (among-append k (slice_range h.limits start end) (map most cs) (map most ds) (one.among k) (two.among k));
  }
