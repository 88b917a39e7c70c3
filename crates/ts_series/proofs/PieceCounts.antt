-- The pieces at an index and between two indexes, and how many samples they have.
use Rattle.std.proofs.Common.{◌≡◌, ℕ, refl, append-nil, zero, suc, ◌+◌, ◌-◌, ◌<◌, ◌≤◌, List, [], ◌∷◌, ◌++◌, length, get_or, take, drop, map, sym, ◌∙◌, ap, arith, append_assoc, length-append}
use Rattle.std.specs.Prelude.{slice_range}
use Rattle.std.proofs.lemmas.List.{take-take, drop-take, length-map}
use Rattle.ts_spec.specs.Sample.{Point}
use Rattle.ts_sample.specs.Chunk.{joined}
use Rattle.ts_sample.proofs.Cuts.{joined-append}
use Rattle.ts_series.specs.Stored.{replaced}
use Rattle.ts_series.proofs.Joined.{joined-parts, map-at}

pub more : (i j : ℕ) (pss : List (List Point)) → j ≡ suc i → joined (take j pss) ≡ joined (take i pss) ++ get_or pss i []
more i zero pss is = absurd (omega arith)
more zero (suc j) [] is = refl
more (suc i) (suc j) [] is = refl
more zero (suc zero) (ps ∷ pss) is = append-nil ps
more zero (suc (suc j)) (ps ∷ pss) is = absurd (omega arith)
more (suc i) (suc j) (ps ∷ pss) is = ap (λ (l : List Point). ps ++ l) (more i j pss (omega arith)) ∙ sym (append_assoc ps (joined (take i pss)) (get_or pss i []))

pub length-more : (i j : ℕ) (pss : List (List Point)) → j ≡ suc i → length (joined (take j pss)) ≡ length (joined (take i pss)) + length (get_or pss i [])
length-more i j pss is = ap length (more i j pss is) ∙ length-append (joined (take i pss)) (get_or pss i [])

pub counted-part : (i : ℕ) (pss : List (List Point)) → length (joined (take i pss)) ≤ length (joined pss)
counted-part i pss = omega (arith, ap length (joined-parts i pss), length-append (joined (take i pss)) (joined (drop i pss)))

-- what a function gives of one of a list
pub mapped-at : {X Y : Type 0} (f : X → Y) (i : ℕ) (cs : List X) (ys : List Y) (x : X) (e : Y) → map f cs ≡ ys → i < length ys → x ≡ get_or cs i x → f x ≡ get_or ys i e
mapped-at {X} {Y} f i cs ys x e same within is =
    let size : length (map f cs) ≡ length cs = length-map cs f in
    ap f is ∙ sym (map-at f i cs x e (omega (arith, ap length same))) ∙ ap (λ (l : List Y). get_or l i e) same

pub joined-same : {X : Type 0} (list : X → List Point) (cs ds : List X) → cs ≡ ds → joined (map list cs) ≡ joined (map list ds)
joined-same {X} list cs ds is = ap (λ (l : List X). joined (map list l)) is

-- one more of what has the pieces
pub counted-item : {X : Type 0} (list : X → List Point) (i next : ℕ) (cs : List X) (pss : List (List Point)) (x : X) → map list cs ≡ pss → i < length pss → x ≡ get_or cs i x → next ≡ suc i
    → length (joined (take next pss)) ≡ length (joined (take i pss)) + length (list x)
counted-item list i next cs pss x same within is after =
    length-more i next pss after ∙ ap (λ (ps : List Point). length (joined (take i pss)) + length ps) (sym (mapped-at list i cs pss x [] same within is))

take-range : {X : Type 0} (start end : ℕ) (xs : List X) → start ≤ end → slice_range xs start end ≡ drop start (take end xs)
take-range start end xs le = sym (drop-take start (end - start) xs) ∙ ap (λ n. drop start (take n xs)) (let all : start + (end - start) ≡ end = omega arith in all)

joined-mid : (start end : ℕ) (pss : List (List Point)) → start ≤ end → joined (take end pss) ≡ joined (take start pss) ++ joined (slice_range pss start end)
joined-mid start end pss le =
    joined-parts start (take end pss)
    ∙ ap (λ (l : List (List Point)). joined l ++ joined (drop start (take end pss))) (take-take start end pss le)
    ∙ ap (λ (l : List (List Point)). joined (take start pss) ++ joined l) (sym (take-range start end pss le))

pub counted-range : (start end : ℕ) (pss : List (List Point)) → start ≤ end → length (joined (take end pss)) ≡ length (joined (take start pss)) + length (joined (slice_range pss start end))
counted-range start end pss le = omega (arith, ap length (joined-mid start end pss le), length-append (joined (take start pss)) (joined (slice_range pss start end)))

pub three-parts : (start end : ℕ) (pss : List (List Point)) → start ≤ end → joined pss ≡ joined (take start pss) ++ (joined (slice_range pss start end) ++ joined (drop end pss))
three-parts start end pss le =
    joined-parts end pss ∙ ap (λ (l : List Point). l ++ joined (drop end pss)) (joined-mid start end pss le)
    ∙ append_assoc (joined (take start pss)) (joined (slice_range pss start end)) (joined (drop end pss))

pub joined-replaced : (start end : ℕ) (new old : List (List Point)) → joined (replaced start end new old) ≡ joined (take start old) ++ (joined new ++ joined (drop end old))
joined-replaced start end new old =
    joined-append (take start old ++ new) (drop end old) ∙ ap (λ (l : List Point). l ++ joined (drop end old)) (joined-append (take start old) new)
    ∙ append_assoc (joined (take start old)) (joined new) (joined (drop end old))
