-- Concatenated lists, and the list at an index among them.
use Rattle.std.proofs.Common.{◌≡◌, ◌≢◌, ℕ, zero, suc, ◌<◌, ◌≤◌, List, [], ◌∷◌, ◌++◌, length, get_or, take, drop, map, refl, sym, ◌∙◌, ap, subst, arith, append_assoc}
use Rattle.ts_spec.specs.Sample.{Point, IsAfter, IsAscending}
use Rattle.ts_sample.specs.Chunk.{IsChunk, joined}
use Rattle.ts_sample.proofs.Lists.{after-right, ascending-left, ascending-right}
use Rattle.ts_series.specs.Stored.{AreChunks, longest}

-- the list at a place, between those before it and those after it
pub joined-at : (i : ℕ) (pss : List (List Point)) → joined pss ≡ joined (take i pss) ++ (get_or pss i [] ++ joined (drop (suc i) pss))
joined-at zero [] = refl
joined-at (suc i) [] = refl
joined-at zero (ps ∷ pss) = refl
joined-at (suc i) (ps ∷ pss) = ap (λ (l : List Point). ps ++ l) (joined-at i pss) ∙ sym (append_assoc ps (joined (take i pss)) (get_or pss i [] ++ joined (drop (suc i) pss)))

-- those before a place, and those from it on
pub joined-parts : (i : ℕ) (pss : List (List Point)) → joined pss ≡ joined (take i pss) ++ joined (drop i pss)
joined-parts zero pss = refl
joined-parts (suc i) [] = refl
joined-parts (suc i) (ps ∷ pss) = ap (λ (l : List Point). ps ++ l) (joined-parts i pss) ∙ sym (append_assoc ps (joined (take i pss)) (joined (drop i pss)))

after-ends : (t : ℕ) (ps qs rs : List Point) → IsAfter t (ps ++ (qs ++ rs)) → IsAfter t (ps ++ rs)
after-ends t [] qs rs h = after-right t qs rs h
after-ends t (p ∷ ps) qs rs h = (h.0, after-ends t ps qs rs h.1)

ascending-ends : (ps qs rs : List Point) → IsAscending (ps ++ (qs ++ rs)) → IsAscending (ps ++ rs)
ascending-ends [] qs rs h = ascending-right qs rs h
ascending-ends (p ∷ ps) qs rs h = (after-ends p.time ps qs rs h.0, ascending-ends ps qs rs h.1)

-- so are one and a later one of the lists that it is joined of
pub ascending-two : (i j : ℕ) (pss : List (List Point)) → i < j → j < length pss → IsAscending (joined pss) → IsAscending (get_or pss i [] ++ get_or pss j [])
ascending-two i j [] less within h = absurd (omega arith)
ascending-two i zero (ps ∷ pss) less within h = absurd (omega arith)
ascending-two zero (suc j) (ps ∷ pss) less within h =
    let later : List Point = get_or pss j [] in
    let rest : List Point = joined (drop (suc j) pss) in
    let all : IsAscending (ps ++ (joined (take j pss) ++ (later ++ rest))) = subst (λ (l : List Point). IsAscending (ps ++ l)) (joined-at j pss) h in
    ascending-left (ps ++ later) rest (subst IsAscending (sym (append_assoc ps later rest)) (ascending-ends ps (joined (take j pss)) (later ++ rest) all))
ascending-two (suc i) (suc j) (ps ∷ pss) less within h = ascending-two i j pss (omega arith) (omega arith) (ascending-right ps (joined pss) h)

pub longest-at : (i : ℕ) (pss : List (List Point)) → length (get_or pss i []) ≤ longest pss
longest-at i [] = omega arith
longest-at zero (ps ∷ pss) = omega arith
longest-at (suc i) (ps ∷ pss) = omega (arith, longest-at i pss)

-- what holds of the chunk at a place
pub chunk-at : (format : List Point → List ℕ) (i : ℕ) (pss : List (List Point)) (ns : List ℕ) → AreChunks format pss ns → i < length pss → IsChunk format (get_or ns i 0) (get_or pss i [])
chunk-at format i [] ns h within = absurd (omega arith)
chunk-at format i (ps ∷ pss) [] h within = absurd h
chunk-at format zero (ps ∷ pss) (n ∷ ns) h within = h.0
chunk-at format (suc i) (ps ∷ pss) (n ∷ ns) h within = chunk-at format i pss ns h.1.1 (omega arith)

pub filled-at : (format : List Point → List ℕ) (i : ℕ) (pss : List (List Point)) (ns : List ℕ) → AreChunks format pss ns → i < length pss → get_or pss i [] ≢ []
filled-at format i [] ns h within = absurd (omega arith)
filled-at format i (ps ∷ pss) [] h within = absurd h
filled-at format zero (ps ∷ pss) (n ∷ ns) h within = h.1.0
filled-at format (suc i) (ps ∷ pss) (n ∷ ns) h within = filled-at format i pss ns h.1.1 (omega arith)

-- as many limits as pieces
pub chunks-length : (format : List Point → List ℕ) (pss : List (List Point)) (ns : List ℕ) → AreChunks format pss ns → length pss ≡ length ns
chunks-length format [] [] h = refl
chunks-length format [] (n ∷ ns) h = absurd h
chunks-length format (ps ∷ pss) [] h = absurd h
chunks-length format (ps ∷ pss) (n ∷ ns) h = ap suc (chunks-length format pss ns h.1.1)

-- a part of chunks are chunks
pub chunks-take : (format : List Point → List ℕ) (i : ℕ) (pss : List (List Point)) (ns : List ℕ) → AreChunks format pss ns → AreChunks format (take i pss) (take i ns)
chunks-take format zero pss ns h = _
chunks-take format (suc i) [] [] h = _
chunks-take format (suc i) [] (n ∷ ns) h = absurd h
chunks-take format (suc i) (ps ∷ pss) [] h = absurd h
chunks-take format (suc i) (ps ∷ pss) (n ∷ ns) h = (h.0, (h.1.0, chunks-take format i pss ns h.1.1))

pub chunks-drop : (format : List Point → List ℕ) (i : ℕ) (pss : List (List Point)) (ns : List ℕ) → AreChunks format pss ns → AreChunks format (drop i pss) (drop i ns)
chunks-drop format zero pss ns h = h
chunks-drop format (suc i) [] [] h = _
chunks-drop format (suc i) [] (n ∷ ns) h = absurd h
chunks-drop format (suc i) (ps ∷ pss) [] h = absurd h
chunks-drop format (suc i) (ps ∷ pss) (n ∷ ns) h = chunks-drop format i pss ns h.1.1

pub chunks-append : (format : List Point → List ℕ) (pss qss : List (List Point)) (ns ms : List ℕ) → AreChunks format pss ns → AreChunks format qss ms → AreChunks format (pss ++ qss) (ns ++ ms)
chunks-append format [] qss [] ms h k = k
chunks-append format [] qss (n ∷ ns) ms h k = absurd h
chunks-append format (ps ∷ pss) qss [] ms h k = absurd h
chunks-append format (ps ∷ pss) qss (n ∷ ns) ms h k = (h.0, (h.1.0, chunks-append format pss qss ns ms h.1.1 k))

-- a mapped list at a place
pub map-at : {X Y : Type 0} (f : X → Y) (i : ℕ) (xs : List X) (d : X) (e : Y) → i < length xs → get_or (map f xs) i e ≡ f (get_or xs i d)
map-at f i [] d e within = absurd (omega arith)
map-at f zero (x ∷ xs) d e within = refl
map-at f (suc i) (x ∷ xs) d e within = map-at f i xs d e (omega arith)
