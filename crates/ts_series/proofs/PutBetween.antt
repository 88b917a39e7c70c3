-- Inserting a sample between earlier and later ones, in the piece that covers its time.
use Rattle.std.proofs.Common.{◌≡◌, ◌≢◌, ◌⊎◌, inl, inr, ℕ, suc, ◌<◌, ◌≤◌, Bool, true, false, cond, List, [], ◌∷◌, ◌++◌, length, get_or, take, drop, refl, sym, ◌∙◌, ap, arith, append_assoc, append-nil, leb-false}
use Rattle.std.specs.Prelude.{nat_lt, nat_le}
use Rattle.std.proofs.Math.Seq.{take-length}
use Rattle.std.proofs.lemmas.Bool.Decides.{nat_tests}
use Rattle.ts_spec.specs.Sample.{Point, IsAfter, IsAscending, at_times, put, last_of}
use Rattle.ts_spec.proofs.Samples.{IsBefore}
use Rattle.ts_sample.specs.Chunk.{IsPast, joined}
use Rattle.ts_sample.proofs.Replacing.{none-before, all-past}
use Rattle.ts_series.specs.Stored.{IsUpTo, replaced}
use Rattle.ts_series.proofs.Counting.{times-append}
use Rattle.ts_series.proofs.Joined.{joined-at}
use Rattle.ts_series.proofs.PieceCounts.{joined-replaced}

all-before : (t : ℕ) (ps : List Point) → IsBefore t ps → at_times (λ u. nat_lt u t) ps ≡ ps
all-before t [] h = refl
all-before t (p ∷ ps) h =
    let yes : nat_lt p.time t ≡ true = (let up : p.time < t = h.0 in grind (arith, nat_tests)) in
    ap (λ b. cond b (p ∷ at_times (λ u. nat_lt u t) ps) (at_times (λ u. nat_lt u t) ps)) yes ∙ ap (λ (l : List Point). p ∷ l) (all-before t ps h.1)

none-after : (t : ℕ) (ps : List Point) → IsBefore t ps → at_times (nat_lt t) ps ≡ []
none-after t [] h = refl
none-after t (p ∷ ps) h =
    let no : nat_lt t p.time ≡ false = (let up : p.time < t = h.0 in grind (arith, nat_tests)) in
    ap (λ b. cond b (p ∷ at_times (nat_lt t) ps) (at_times (nat_lt t) ps)) no ∙ none-after t ps h.1

pub put-inside : (p : Point) (ps qs rs : List Point) → IsBefore p.time ps → IsAfter p.time rs → put p (ps ++ (qs ++ rs)) ≡ ps ++ (put p qs ++ rs)
put-inside p ps qs rs before after =
    let low : List Point = at_times (λ u. nat_lt u p.time) qs in
    let high : List Point = at_times (nat_lt p.time) qs in
    let front : at_times (λ u. nat_lt u p.time) (ps ++ (qs ++ rs)) ≡ ps ++ low =
    times-append (λ u. nat_lt u p.time) ps (qs ++ rs)
    ∙ ap (λ (l : List Point). l ++ at_times (λ u. nat_lt u p.time) (qs ++ rs)) (all-before p.time ps before)
    ∙ ap (λ (l : List Point). ps ++ l) (times-append (λ u. nat_lt u p.time) qs rs ∙ ap (λ (l : List Point). low ++ l) (none-before p.time rs after) ∙ append-nil low) in
    let back : at_times (nat_lt p.time) (ps ++ (qs ++ rs)) ≡ high ++ rs =
    times-append (nat_lt p.time) ps (qs ++ rs)
    ∙ ap (λ (l : List Point). l ++ at_times (nat_lt p.time) (qs ++ rs)) (none-after p.time ps before)
    ∙ times-append (nat_lt p.time) qs rs
    ∙ ap (λ (l : List Point). high ++ l) (all-past p.time rs after) in
    ap (λ (l : List Point). l ++ p ∷ at_times (nat_lt p.time) (ps ++ (qs ++ rs))) front
    ∙ ap (λ (l : List Point). (ps ++ low) ++ p ∷ l) back
    ∙ append_assoc ps low (p ∷ (high ++ rs))
    ∙ ap (λ (l : List Point). ps ++ l) (sym (append_assoc low (p ∷ high) rs))

pub past-before : (t : ℕ) (ps : List Point) → IsAscending ps → IsPast (last_of ps) t → IsBefore t ps
past-before t [] h past = tt
past-before t (p ∷ []) h past = (past, tt)
past-before t (p ∷ q ∷ ps) h past =
    let rest : IsBefore t (q ∷ ps) = past-before t (q ∷ ps) h.1 past in
    let up : p.time < q.time = h.0.0 in
    let less : q.time < t = rest.0 in
    (omega arith, rest)

pub put-past : (p : Point) (ps : List Point) → IsAscending ps → IsPast (last_of ps) p.time → put p ps ≡ ps ++ p ∷ []
put-past p ps h past = ap (put p) (sym (append-nil ps)) ∙ put-inside p ps [] [] (past-before p.time ps h past) tt

pub none-from : (t : ℕ) (ps : List Point) → at_times (nat_le t) ps ≡ [] → IsBefore t ps
none-from t [] n = tt
none-from t (p ∷ ps) n = go (none-from t ps) (nat_le t p.time) refl n
  where
    go : (at_times (nat_le t) ps ≡ [] → IsBefore t ps) → (b : Bool) → nat_le t p.time ≡ b → cond b (p ∷ at_times (nat_le t) ps) (at_times (nat_le t) ps) ≡ [] → IsBefore t (p ∷ ps)
    go rest true e m = absurd (cc m)
    go rest false e m = (leb-false t p.time e, rest m)

pub none-upto : (t : ℕ) (ps : List Point) → at_times (λ u. nat_le u t) ps ≡ [] → IsAfter t ps
none-upto t [] n = tt
none-upto t (p ∷ ps) n = go (none-upto t ps) (nat_le p.time t) refl n
  where
    go : (at_times (λ u. nat_le u t) ps ≡ [] → IsAfter t ps) → (b : Bool) → nat_le p.time t ≡ b → cond b (p ∷ at_times (λ u. nat_le u t) ps) (at_times (λ u. nat_le u t) ps) ≡ [] → IsAfter t (p ∷ ps)
    go rest true e m = absurd (cc m)
    go rest false e m = (leb-false p.time t e, rest m)

-- pieces in the place of the one that a sample is put into
pub put-piece : (p : Point) (i next : ℕ) (pss new : List (List Point)) → i < length pss → next ≡ suc i → IsBefore p.time (joined (take i pss)) → IsAfter p.time (joined (drop (suc i) pss))
    → joined new ≡ put p (get_or pss i []) → joined (replaced i next new pss) ≡ put p (joined pss)
put-piece p i next pss new within is before after same =
    ap (λ n. joined (replaced i n new pss)) is ∙ joined-replaced i (suc i) new pss
    ∙ ap (λ (l : List Point). joined (take i pss) ++ (l ++ joined (drop (suc i) pss))) same
    ∙ sym (ap (put p) (joined-at i pss) ∙ put-inside p (joined (take i pss)) (get_or pss i []) (joined (drop (suc i) pss)) before after)

-- where a list has a sample from a time on, some piece does
pub late-some : (t : ℕ) (ps : List Point) → IsAscending ps → IsUpTo t (last_of ps) → at_times (nat_le t) ps ≢ []
late-some t [] h late n = absurd late
late-some t (p ∷ ps) h late n = not-both t p ps (none-from t (p ∷ ps) n) late
  where
    not-both : (t : ℕ) (p : Point) (ps : List Point) → IsBefore t (p ∷ ps) → IsUpTo t (last_of (p ∷ ps)) → ⊥
    not-both t p [] before late = let less : p.time < t = before.0 in let more : t ≤ p.time = late in absurd (omega arith)
    not-both t p (q ∷ ps) before late = not-both t q ps before.1 late

pub place-within : (t i : ℕ) (pss : List (List Point)) → IsAscending (joined pss) → IsUpTo t (last_of (joined pss)) → i ≤ length pss → at_times (nat_le t) (joined (take i pss)) ≡ [] → i < length pss
place-within t i pss h late within early = go (less-or i (length pss) within)
  where
    less-or : (i n : ℕ) → i ≤ n → (i < n) ⊎ (i ≡ n)
    less-or i n le = grind arith

    go : (i < length pss) ⊎ (i ≡ length pss) → i < length pss
    go (inl less) = less
    go (inr same) =
        absurd (late-some t (joined pss) h late (ap (λ (l : List (List Point)). at_times (nat_le t) (joined l)) (sym (ap (λ n. take n pss) same ∙ take-length pss)) ∙ early))
