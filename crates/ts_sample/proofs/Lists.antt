-- Parts of lists of samples, and their concatenations.
use Rattle.std.proofs.Common.{◌≡◌, ℕ, zero, suc, ◌<◌, Bool, true, false, cond, List, [], ◌∷◌, ◌++◌, take, drop, refl, ap, arith}
use Rattle.std.specs.Prelude.{nat_lt, Option, None, Some}
use Rattle.ts_spec.specs.Sample.{Point, IsAfter, IsAscending, at_times, last_of, later_or, put}
use Rattle.ts_sample.specs.Chunk.{AreInBounds, IsPast}
use Rattle.ts_sample.specs.Sample.{IsInBounds}

-- ---- parts of an ascending list

after-take : (t n : ℕ) (ps : List Point) → IsAfter t ps → IsAfter t (take n ps)
after-take t zero ps h = tt
after-take t (suc n) [] h = tt
after-take t (suc n) (p ∷ ps) h = (h.0, after-take t n ps h.1)

pub ascending-take : (n : ℕ) (ps : List Point) → IsAscending ps → IsAscending (take n ps)
ascending-take zero ps h = tt
ascending-take (suc n) [] h = tt
ascending-take (suc n) (p ∷ ps) h = (after-take p.time n ps h.0, ascending-take n ps h.1)

pub ascending-drop : (n : ℕ) (ps : List Point) → IsAscending ps → IsAscending (drop n ps)
ascending-drop zero ps h = h
ascending-drop (suc n) [] h = tt
ascending-drop (suc n) (p ∷ ps) h = ascending-drop n ps h.1

pub after-left : (t : ℕ) (ps qs : List Point) → IsAfter t (ps ++ qs) → IsAfter t ps
after-left t [] qs h = tt
after-left t (p ∷ ps) qs h = (h.0, after-left t ps qs h.1)

pub after-right : (t : ℕ) (ps qs : List Point) → IsAfter t (ps ++ qs) → IsAfter t qs
after-right t [] qs h = h
after-right t (p ∷ ps) qs h = after-right t ps qs h.1

pub ascending-left : (ps qs : List Point) → IsAscending (ps ++ qs) → IsAscending ps
ascending-left [] qs h = tt
ascending-left (p ∷ ps) qs h = (after-left p.time ps qs h.0, ascending-left ps qs h.1)

pub ascending-right : (ps qs : List Point) → IsAscending (ps ++ qs) → IsAscending qs
ascending-right [] qs h = h
ascending-right (p ∷ ps) qs h = ascending-right ps qs h.1

-- ---- two lists

pub after-append : (t : ℕ) (ps qs : List Point) → IsAfter t ps → IsAfter t qs → IsAfter t (ps ++ qs)
after-append t [] qs h k = k
after-append t (p ∷ ps) qs h k = (h.0, after-append t ps qs h.1 k)

-- ---- samples within their bounds

pub fine-left : (ps qs : List Point) → AreInBounds (ps ++ qs) → AreInBounds ps
fine-left [] qs h = tt
fine-left (p ∷ ps) qs h = (h.0, fine-left ps qs h.1)

pub fine-right : (ps qs : List Point) → AreInBounds (ps ++ qs) → AreInBounds qs
fine-right [] qs h = h
fine-right (p ∷ ps) qs h = fine-right ps qs h.1

pub fine-append : (ps qs : List Point) → AreInBounds ps → AreInBounds qs → AreInBounds (ps ++ qs)
fine-append [] qs h k = k
fine-append (p ∷ ps) qs h k = (h.0, fine-append ps qs h.1 k)

pub fine-times : (test : ℕ → Bool) (ps : List Point) → AreInBounds ps → AreInBounds (at_times test ps)
fine-times test [] h = tt
fine-times test (p ∷ ps) h = go (test p.time) (fine-times test ps h.1)
  where
    go : (b : Bool) → AreInBounds (at_times test ps) → AreInBounds (cond b (p ∷ at_times test ps) (at_times test ps))
    go true ih = (h.0, ih)
    go false ih = ih

pub fine-put : (p : Point) (ps : List Point) → IsInBounds p → AreInBounds ps → AreInBounds (put p ps)
fine-put p ps fine h =
    fine-append (at_times (λ t. nat_lt t p.time) ps) (p ∷ at_times (nat_lt p.time) ps) (fine-times (λ t. nat_lt t p.time) ps h) (fine, fine-times (nat_lt p.time) ps h)

-- ---- the last sample

-- the later of one before t and the last of others before t
pub past-later : (q : Point) (last : Option Point) (t : ℕ) → q.time < t → IsPast last t → IsPast (Some (later_or q last)) t
past-later q None t first last = first
past-later q (Some r) t first last = last

-- a sample is past those before it
pub past-before : (ps : List Point) (q : Point) (qs : List Point) → IsAscending (ps ++ q ∷ qs) → IsPast (last_of ps) q.time
past-before [] q qs h = tt
past-before (p ∷ []) q qs h = h.0.0
past-before (p ∷ r ∷ ps) q qs h = past-before (r ∷ ps) q qs h.1

past-first : (q : Point) (ps : List Point) (t : ℕ) → IsAscending (q ∷ ps) → IsPast (last_of (q ∷ ps)) t → q.time < t
past-first q [] t h past = past
past-first q (r ∷ ps) t h past = omega (arith, h.0.0, past-first r ps t h.1 past)

past-rest : (q : Point) (ps : List Point) (t : ℕ) → IsPast (last_of (q ∷ ps)) t → IsPast (last_of ps) t
past-rest q [] t past = tt
past-rest q (r ∷ ps) t past = past

-- a sample past the last one
pub ascending-push : (ps : List Point) (p : Point) → IsAscending ps → IsPast (last_of ps) p.time → IsAscending (ps ++ p ∷ [])
ascending-push [] p h past = (tt, tt)
ascending-push (q ∷ ps) p h past =
    (after-append q.time ps (p ∷ []) h.0 (past-first q ps p.time h past, tt), ascending-push ps p h.1 (past-rest q ps p.time past))

pub last-push : (ps : List Point) (p : Point) → last_of (ps ++ p ∷ []) ≡ Some p
last-push [] p = refl
last-push (q ∷ ps) p = ap (λ o. Some (later_or q o)) (last-push ps p)
