-- The chunks after a replacement, and how many samples they can hold.
use Rattle.std.proofs.Common.{◌≡◌, ℕ, ◌+◌, ◌-◌, ◌^◌, ◌≤◌, List, [], ◌∷◌, ◌++◌, length, take, drop, map, sym, ◌∙◌, ap, subst, arith, append_assoc, length-append}
use Rattle.std.specs.Prelude.{slice_range}
use Rattle.std.proofs.lemmas.List.{map-append, take-map, drop-map, take_at, drop_at}
use Rattle.ts_spec.specs.Sample.{Point, IsAfter, IsAscending, MAX_TIME}
use Rattle.ts_sample.specs.Chunk.{AreInBounds, joined}
use Rattle.ts_sample.proofs.Lists.{ascending-left, ascending-right}
use Rattle.ts_series.specs.Stored.{AreChunks, AreStoredChunks, replaced}
use Rattle.ts_series.proofs.Joined.{chunks-take, chunks-drop, chunks-append}
use Rattle.ts_series.proofs.PieceCounts.{three-parts, joined-replaced}
use Rattle.ts_series.proofs.NewChunks.{fine-joined}

-- ---- how many samples there can be

-- samples past a time are no more than there are times past it
spread : (t : ℕ) (ps : List Point) → AreInBounds ps → IsAfter t ps → IsAscending ps → t ≤ MAX_TIME → t + length ps ≤ MAX_TIME
spread t [] fine after up within = omega arith
spread t (p ∷ ps) fine after up within = omega (arith, after.0, spread p.time ps fine.1 up.0 up.1 fine.0.time)

few : (ps : List Point) → AreInBounds ps → IsAscending ps → length ps ≤ 2 ^ 63
few [] fine up = omega arith
few (p ∷ ps) fine up = omega (arith, spread p.time ps fine.1 up.0 up.1 fine.0.time)

pub few-kept : (format : List Point → List ℕ) (pss : List (List Point)) (ns : List ℕ) (count : ℕ) → AreStoredChunks format pss ns count → count ≤ 2 ^ 63
few-kept format pss ns count kept = omega (arith, kept.counted, few (joined pss) (fine-joined format pss ns kept.chunks) kept.ascending)

-- ---- new chunks in the place of others

pub map-replaced : {X Y : Type 0} (f : X → Y) (start end : ℕ) (new old : List X) → map f (replaced start end new old) ≡ replaced start end (map f new) (map f old)
map-replaced {Y = Y} f start end new old =
    map-append f (take start old ++ new) (drop end old)
    ∙ ap (λ (l : List Y). l ++ map f (drop end old)) (map-append f (take start old) new)
    ∙ ap (λ (l : List Y). l ++ map f new ++ map f (drop end old)) (sym (take-map f start old))
    ∙ ap (λ (l : List Y). take start (map f old) ++ map f new ++ l) (sym (drop-map f end old))

-- a list turned back that begins past a place
pub turned-back : {X : Type 0} (start n : ℕ) (firsts news rest items : List X) → items ≡ news ++ (rest ++ firsts) → length firsts ≡ start → n ≡ length items
    → drop (n - start) items ++ take (n - start) items ≡ firsts ++ news ++ rest
turned-back {X = X} start n firsts news rest items is long many =
    let split : items ≡ (news ++ rest) ++ firsts = is ∙ sym (append_assoc news rest firsts) in
    let place : length (news ++ rest) ≡ n - start = omega (arith, ap length split, length-append (news ++ rest) firsts) in
    ap (λ (l : List X). drop (n - start) l ++ take (n - start) l) split
    ∙ ap (λ (l : List X). l ++ take (n - start) ((news ++ rest) ++ firsts)) (drop_at (news ++ rest) firsts (n - start) place)
    ∙ ap (λ (l : List X). firsts ++ l) (take_at (news ++ rest) firsts (n - start) place)
    ∙ sym (append_assoc firsts news rest)

chunks-replaced : (format : List Point → List ℕ) (start end : ℕ) (new old : List (List Point)) (ms ns : List ℕ) → AreChunks format new ms → AreChunks format old ns
    → AreChunks format (replaced start end new old) (replaced start end ms ns)
chunks-replaced format start end new old ms ns h k =
    chunks-append format (take start old ++ new) (drop end old) (take start ns ++ ms) (drop end ns)
    (chunks-append format (take start old) new (take start ns) ms (chunks-take format start old ns k) h)
    (chunks-drop format end old ns k)

-- what is kept once chunks are in the place of others
pub kept-replaced : {X : Type 0} (format : List Point → List ℕ) (list : X → List Point) (most : X → ℕ) (start end : ℕ) (new old items : List X) (count before : ℕ)
    → items ≡ replaced start end new old → count ≡ length (joined (map list items))
    → AreChunks format (map list new) (map most new) → IsAscending (joined (replaced start end (map list new) (map list old))) → AreStoredChunks format (map list old) (map most old) before
    → AreStoredChunks format (map list items) (map most items) count
kept-replaced format list most start end new old items count before is counted chunks up kept =
    let pieces : map list items ≡ replaced start end (map list new) (map list old) = ap (map list) is ∙ map-replaced list start end new old in
    let limits : map most items ≡ replaced start end (map most new) (map most old) = ap (map most) is ∙ map-replaced most start end new old in
    record {
      chunks = subst (λ (pss : List (List Point)). AreChunks format pss (map most items)) (sym pieces)
          (subst (AreChunks format (replaced start end (map list new) (map list old))) (sym limits)
          (chunks-replaced format start end (map list new) (map list old) (map most new) (map most old) chunks kept.chunks));
      ascending = subst (λ (pss : List (List Point)). IsAscending (joined pss)) (sym pieces) up;
      counted = counted;
    }

-- how many samples there are, counted by those that went and came
pub count-replaced : {X : Type 0} (list : X → List Point) (start end : ℕ) (new old items : List X) (before removed added : ℕ) → start ≤ end → items ≡ replaced start end new old
    → before ≡ length (joined (map list old)) → removed ≡ length (joined (slice_range (map list old) start end)) → added ≡ length (joined (map list new))
    → (removed ≤ before) × (before - removed + added ≡ length (joined (map list items)))
count-replaced {X} list start end new old items before removed added ordered is all gone come =
    let front = joined (take start (map list old)) in
    let between = joined (slice_range (map list old) start end) in
    let rest = joined (drop end (map list old)) in
    let one : before ≡ length front + removed + length rest = omega (arith, gone, all, ap length (three-parts start end (map list old) ordered), length-append front (between ++ rest), length-append between rest) in (
      omega (arith, one),
      omega (
        arith,
        one,
        come,
        ap (λ (ks : List X). length (joined (map list ks))) is,
        ap (λ (pss : List (List Point)). length (joined pss)) (map-replaced list start end new old),
        ap length (joined-replaced start end (map list new) (map list old)),
        length-append front (joined (map list new) ++ rest),
        length-append (joined (map list new)) rest,
      ),
    )

-- the new ones have no more samples than all then
pub new-in : {X : Type 0} (list : X → List Point) (start end : ℕ) (new old : List X) → length (joined (map list new)) ≤ length (joined (map list (replaced start end new old)))
new-in list start end new old =
    omega (
      arith,
      ap (λ (pss : List (List Point)). length (joined pss)) (map-replaced list start end new old),
      ap length (joined-replaced start end (map list new) (map list old)),
      length-append (joined (take start (map list old))) (joined (map list new) ++ joined (drop end (map list old))),
      length-append (joined (map list new)) (joined (drop end (map list old))),
    )

-- nor can they be too many to count
pub few-new : (format : List Point → List ℕ) (start end : ℕ) (new old : List (List Point)) (ms : List ℕ) → AreChunks format new ms → IsAscending (joined (replaced start end new old)) → length (joined new) ≤ 2 ^ 63
few-new format start end new old ms chunks up =
    let rest = joined (drop end old) in
    few (joined new) (fine-joined format new ms chunks)
    (ascending-left (joined new) rest (ascending-right (joined (take start old)) (joined new ++ rest) (subst IsAscending (joined-replaced start end new old) up)))

-- as many more come than go as there are more then
pub count-changed : (start end : ℕ) (new old : List (List Point)) (gone come : ℕ) → start ≤ end → gone ≡ length (joined (slice_range old start end)) → come ≡ length (joined new)
    → length (joined (replaced start end new old)) + gone ≡ length (joined old) + come
count-changed start end new old gone come ordered went came =
    let front = joined (take start old) in
    let between = joined (slice_range old start end) in
    let rest = joined (drop end old) in
    omega (
      arith,
      went,
      came,
      ap length (three-parts start end old ordered),
      length-append front (between ++ rest),
      length-append between rest,
      ap length (joined-replaced start end new old),
      length-append front (joined new ++ rest),
      length-append (joined new) rest,
    )
