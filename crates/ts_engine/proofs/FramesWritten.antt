-- Frames written one after another, the last one perhaps only in part.
use Rattle.std.proofs.Common.{◌≡◌, ℕ, ◌+◌, ◌-◌, List, [], ◌∷◌, ◌++◌, length, take, drop, refl, sym, ◌∙◌, ap, subst, append_assoc, append-nil, length-append, length-drop, arith}
use Rattle.std.proofs.Math.Seq.{take-append-add}
use Rattle.std.proofs.lemmas.List.{take_all, take-take, take-append-drop, take-append-le, drop-take, drop-append-le, length-take-le}
use Rattle.std.specs.Prelude.{◌≤◌, slice_range, Result, Ok, Err, OnErr}
use Rattle.ts_io.specs.Sinks.{Grows, GrowsByPrefix}
use Rattle.ts_io.proofs.Growth.{grows_twice}
use Rattle.ts_mux.specs.declared.frame.Frame.{Frame}
use Rattle.ts_mux.specs.Capture.{framed, all_framed}

pub on_err : {T E P : Type 0} (result : Result T E) → P → OnErr result P
on_err (Ok x) p = tt
on_err (Err e) p = p

-- the first bytes were written, and a prefix of the rest
front_after : (had between has : List ℕ → Type 0) (first others : List ℕ) → Grows had between first → GrowsByPrefix between has others → GrowsByPrefix had has (first ++ others)
front_after had between has first others grown front =
    let within = front.within in
    record {
      len = length first + front.len;
      within = omega (arith, within, length-append first others);
      grows = subst (λ l. Grows had has l) (sym (take-append-add first others front.len)) (grows_twice had between has first (take front.len others) grown front.grows);
    }

-- ---- the header with the first bytes, then the rest

-- the header was put before offset `end`
pub header_put : (header room mid : List ℕ) (start end : ℕ) → drop start room ≡ header ++ drop end mid → start + length header ≡ end → slice_range room start end ≡ header
header_put header room mid start end written at =
    let count : end - start ≡ length header + 0 = omega (arith, at) in
    ap (λ n. take n (drop start room)) count ∙ ap (take (length header + 0)) written ∙ take-append-add header (drop end mid) 0 ∙ append-nil header

-- what stands before offset `end`, if the first bytes are put after it
pub before_front : (front mid room : List ℕ) (end : ℕ) → end ≤ length mid → take (end + length front) room ≡ take end mid ++ front → take end room ≡ take end mid
before_front front mid room end fits fronted =
    let size : length (take end mid) ≡ end = length-take-le end mid fits in
    sym (take-take end (end + length front) room (omega arith)) ∙ ap (take end) fronted
    ∙ take-append-le end (take end mid) front (omega (arith, size)) ∙ take_all end (take end mid) (omega (arith, size))

range_before : (room : List ℕ) (start end : ℕ) → start ≤ end → slice_range room start end ≡ drop start (take end room)
range_before room start end within =
    let all : start + (end - start) ≡ end = omega (arith, within) in
    sym (drop-take start (end - start) room) ∙ ap (λ n. drop start (take n room)) all

-- the header stays as the first bytes are put after it
pub header_stays : (front mid room : List ℕ) (start end : ℕ) → start ≤ end → end ≤ length mid → take (end + length front) room ≡ take end mid ++ front
    → slice_range room start end ≡ slice_range mid start end
header_stays front mid room start end within fits fronted =
    range_before room start end within ∙ ap (drop start) (before_front front mid room end fits fronted) ∙ sym (range_before mid start end within)

-- and they stand together
pub put_together : (header front mid room : List ℕ) (start end : ℕ) → start ≤ end → end ≤ length mid → slice_range mid start end ≡ header
    → take (end + length front) room ≡ take end mid ++ front → slice_range room start (end + length front) ≡ header ++ front
put_together header front mid room start end within fits headed fronted =
    let size : length (take end mid) ≡ end = length-take-le end mid fits in
    range_before room start (end + length front) (omega (arith, within)) ∙ ap (drop start) fronted
    ∙ drop-append-le start (take end mid) front (omega (arith, within, size))
    ∙ ap (λ l. l ++ front) (sym (range_before mid start end within) ∙ headed)

pub of_length : (room bytes front : List ℕ) (start end first : ℕ) → first ≤ length bytes → slice_range room start (end + length (take first bytes)) ≡ front
    → slice_range room start (end + first) ≡ front
of_length room bytes front start end first within is = ap (λ n. slice_range room start (end + n)) (sym (length-take-le first bytes within)) ∙ is

written_apart : (header bytes : List ℕ) (first : ℕ) → (header ++ take first bytes) ++ drop first bytes ≡ header ++ bytes
written_apart header bytes first = append_assoc header (take first bytes) (drop first bytes) ∙ ap (λ l. header ++ l) (take-append-drop first bytes)

-- a prefix of the first part was written
pub front_of_first : (had has : List ℕ → Type 0) (header bytes written : List ℕ) (first : ℕ) → written ≡ header ++ take first bytes
    → GrowsByPrefix had has written → GrowsByPrefix had has (header ++ bytes)
front_of_first had has header bytes written first is front =
    let within = front.within in
    subst (λ l. GrowsByPrefix had has l) (ap (λ l. l ++ drop first bytes) is ∙ written_apart header bytes first) (record {
      len = front.len;
      within = omega (arith, within, length-append written (drop first bytes));
      grows = subst (λ l. Grows had has l) (sym (take-append-le front.len written (drop first bytes) within)) front.grows;
    })

-- the first part was written, and a prefix of the rest
pub front_of_others : (had between has : List ℕ → Type 0) (header bytes written : List ℕ) (first : ℕ) → written ≡ header ++ take first bytes
    → Grows had between written → GrowsByPrefix between has (take (length bytes - first) (drop first bytes)) → GrowsByPrefix had has (header ++ bytes)
front_of_others had between has header bytes written first is grown front =
    let others : take (length bytes - first) (drop first bytes) ≡ drop first bytes = take_all _ _ (omega (arith, length-drop first bytes)) in
    subst (λ l. GrowsByPrefix had has l) (ap (λ l. l ++ drop first bytes) is ∙ written_apart header bytes first)
    (front_after had between has written (drop first bytes) grown (subst (λ l. GrowsByPrefix between has l) others front))

-- ---- all frames

pub all_framed-append : (some others : List Frame) → all_framed (some ++ others) ≡ all_framed some ++ all_framed others
all_framed-append [] others = refl
all_framed-append (frame ∷ some) others =
    ap (λ l. framed frame ++ l) (all_framed-append some others) ∙ sym (append_assoc (framed frame) (all_framed some) (all_framed others))
