-- Keys separated by commas, after appending one more.
use Rattle.std.proofs.Common.{◌≡◌, ℕ, Bool, true, if◌then◌else◌, List, [], ◌∷◌, ◌++◌, map, codes, refl, sym, ap, ◌∙◌, append_assoc}
use Rattle.ts_spec.specs.Key.{Key}
use Rattle.ts_spec.specs.Groups.{Labelled, sources}
use Rattle.ts_group.specs.Sources.{SourcesText, joined, are_some, sources_text}

joined-more : (ks : List Key) (k : Key) → joined (ks ++ k ∷ []) ≡ joined ks ++ (if are_some ks then codes "," else []) ++ k
joined-more [] k = refl
joined-more (l ∷ []) k = refl
joined-more (l ∷ m ∷ ks) k =
    ap (λ (t : List ℕ). l ++ codes "," ++ t) (joined-more (m ∷ ks) k)
    ∙ sym (append_assoc (l ++ codes ",") (joined (m ∷ ks) ++ codes ",") k)
    ∙ ap (λ (t : List ℕ). t ++ k) (sym (append_assoc (l ++ codes ",") (joined (m ∷ ks)) (codes ",")))

some-more : (ks : List Key) (k : Key) → are_some (ks ++ k ∷ []) ≡ true
some-more [] k = refl
some-more (l ∷ ks) k = refl

pub sources_text-more : (old new : SourcesText) (ks : List Key) (k : Key) → old ≡ sources_text ks → new.some ≡ true
    → new.text ≡ old.text ++ (if old.some then codes "," else []) ++ k → new ≡ sources_text (ks ++ k ∷ [])
sources_text-more old new ks k is some text =
    let texts : new.text ≡ joined (ks ++ k ∷ []) =
    text ∙ ap (λ (j : SourcesText). j.text ++ (if j.some then codes "," else []) ++ k) is ∙ sym (joined-more ks k) in
    let somes : new.some ≡ are_some (ks ++ k ∷ []) = some ∙ sym (some-more ks k) in
    ap (λ (b : Bool). record { some = b; text = new.text }) somes ∙ ap (λ (t : List ℕ). record { some = are_some (ks ++ k ∷ []); text = t }) texts

-- the sources of a group are its keys
pub sources-joined : (ms : List Labelled) → joined (map (λ m. m.key) ms) ≡ sources ms
sources-joined [] = refl
sources-joined (m ∷ []) = refl
sources-joined (m ∷ n ∷ ms) = ap (λ (t : List ℕ). m.key ++ codes "," ++ t) (sources-joined (n ∷ ms))
