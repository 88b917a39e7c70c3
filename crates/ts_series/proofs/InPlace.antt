-- Replacing items of a list so that only those after the last common index move.
use Rattle.std.proofs.Common.{◌≡◌, ℕ, ◌+◌, ◌-◌, ◌≤◌, List, ◌++◌, length, take, drop, sym, ◌∙◌, ap, arith, append_assoc}
use Rattle.std.specs.Prelude.{Option, None, Some, IsSome, OnSome}
use Rattle.std.proofs.lemmas.List.{take_at, drop_at, take-append-le, take-append-drop, drop-append-le, length-take}
use Rattle.ts_series.specs.Stored.{replaced}
use Rattle.ts_series.proofs.Changed.{turned-back}

-- ---- a part of a list

take-before : {X : Type 0} (start m : ℕ) (xs : List X) → start ≤ m → m ≤ length xs → take start (take m xs) ≡ take start xs
take-before start m xs le within =
    sym (take-append-le start (take m xs) (drop m xs) (omega (arith, length-take m xs))) ∙ ap (take start) (take-append-drop m xs)

front-in : {X : Type 0} (start m n : ℕ) (new old : List X) → start ≤ m → m ≤ length old → take start (replaced m n new old) ≡ take start old
front-in start m n new old le within =
    ap (take start) (append_assoc (take m old) new (drop n old))
    ∙ take-append-le start (take m old) (new ++ drop n old) (omega (arith, length-take m old))
    ∙ take-before start m old le within

rest-in : {X : Type 0} (m n : ℕ) (new old : List X) → m ≤ length old → drop m (replaced m n new old) ≡ new ++ drop n old
rest-in m n new old within =
    ap (drop m) (append_assoc (take m old) new (drop n old)) ∙ drop_at (take m old) (new ++ drop n old) m (omega (arith, length-take m old))

-- the items in their places, once the last of them went behind the places
pub more-places : {X : Type 0} (start end places : ℕ) (all items old ring : List X) → start ≤ end → end ≤ length old → places ≡ end - start → places ≤ length all
    → items ≡ take places all → ring ≡ replaced end end (drop places all) old → replaced start (start + length items) items ring ≡ replaced start end all old
more-places {X} start end places all items old ring ordered within is few first behind =
    let last : start + length items ≡ end = omega (arith, ap length first, length-take places all) in
    ap (λ n. (take start ring ++ items) ++ drop n ring) last
    ∙ ap (λ (l : List X). (take start l ++ items) ++ drop end l) behind
    ∙ ap (λ (l : List X). (l ++ items) ++ drop end (replaced end end (drop places all) old)) (front-in start end end (drop places all) old ordered within)
    ∙ ap (λ (l : List X). (take start old ++ items) ++ l) (rest-in end end (drop places all) old within)
    ∙ ap (λ (l : List X). (take start old ++ l) ++ (drop places all ++ drop end old)) first
    ∙ sym (append_assoc (take start old ++ take places all) (drop places all) (drop end old))
    ∙ ap (λ (l : List X). l ++ drop end old) (append_assoc (take start old) (take places all) (drop places all))
    ∙ ap (λ (l : List X). (take start old ++ l) ++ drop end old) (take-append-drop places all)

-- ---- turned lists

-- of two lists that are two others, the first of this length
pub parted : {X : Type 0} (n : ℕ) (xs ys all more : List X) → xs ++ ys ≡ all ++ more → length xs ≡ n → n ≤ length all → (xs ≡ take n all) × (ys ≡ drop n all ++ more)
parted n xs ys all more same long few = (
  sym (take_at xs ys n long) ∙ ap (take n) same ∙ take-append-le n all more few,
  sym (drop_at xs ys n long) ∙ ap (drop n) same ∙ drop-append-le n all more few,
)

-- new items and then a turned list, turned back
pub put-back : {X : Type 0} (place n : ℕ) (new old turned items now : List X) → place ≤ length old → turned ≡ drop place old ++ take place old → items ≡ new ++ turned → n ≡ length items
    → now ≡ drop (n - place) items ++ take (n - place) items → now ≡ replaced place place new old
put-back {X} place n new old turned items now within is all many then =
    then ∙ turned-back place n (take place old) new (drop place old) items (all ∙ ap (λ (l : List X). new ++ l) is) (omega (arith, length-take place old)) many

-- ---- an answer that is there

pub on-some : {X P : Type 0} (o : Option X) → IsSome o → OnSome o P → P
on-some None some then = absurd (cc some)
on-some (Some x) some then = then
