-- Labels as arguments: parsed labels have each name once, and parse again from their arguments.
use Rattle.std.proofs.Common.{◌≡◌, suc, Bool, true, false, ◌||◌, if◌then◌else◌, List, [], ◌∷◌, ◌++◌, length, take, refl, sym, ◌∙◌, ap, append_assoc, append-nil}
use Rattle.std.proofs.lemmas.Bool.{false≢true}
use Rattle.std.specs.Prelude.{Ok, Err, IfOk}
use Rattle.ts_spec.specs.Key.{same}
use Rattle.ts_spec.specs.Labels.{with_label}
use Rattle.ts_spec.specs.Refusal.{BadLabels}
use Rattle.ts_spec.specs.Settings.{Word}
use Rattle.ts_spec.specs.SeriesOptions.{is_empty, labels_after, count_pairs}
use Rattle.ts_spec.specs.State.{Label}
use Rattle.ts_spec.proofs.Keys.{same-true}
use Rattle.ts_journal.specs.Record.{label_pairs}

-- whether one of the labels has a name
abbrev has : Word → List Label → Bool
has name [] = false
has name (l ∷ ls) = same l.name name || has name ls

-- no label has the name of one before it, nor of these
abbrev pub AreNew : List Label → List Label → Type 0
AreNew front [] = Unit {0}
AreNew front (l ∷ ls) = (has l.name front ≡ false) × AreNew (front ++ l ∷ []) ls

-- each has a name that is no option, and a value
pub record IsLabel (is_option : Word → Bool) (l : Label) : Type 0 where
  pub name : is_empty l.name ≡ false
  pub value : is_empty l.value ≡ false
  pub no_option : is_option l.name ≡ false

abbrev pub AreLabels : (Word → Bool) → List Label → Type 0
AreLabels is_option [] = Unit {0}
AreLabels is_option (l ∷ ls) = IsLabel is_option l × AreLabels is_option ls

-- labels that can stand as the words of an option
pub record AreReadable (is_option : Word → Bool) (ls : List Label) : Type 0 where
  pub each : AreLabels is_option ls
  pub once : AreNew [] ls

-- ---- one label more

either-false : (one two : Bool) → one ≡ false → two ≡ false → (one || two) ≡ false
either-false false two h k = k
either-false true two h k = absurd (false≢true (sym h))

has-append : (name : Word) (ls ms : List Label) → has name (ls ++ ms) ≡ (has name ls || has name ms)
has-append name [] ms = refl
has-append name (l ∷ ls) ms = go (same l.name name) (has-append name ls ms)
  where
    go : (b : Bool) → has name (ls ++ ms) ≡ (has name ls || has name ms) → (b || has name (ls ++ ms)) ≡ ((b || has name ls) || has name ms)
    go true h = refl
    go false h = h

has-last : (name : Word) (ls : List Label) (l : Label) → has name ls ≡ false → same l.name name ≡ false → has name (ls ++ l ∷ []) ≡ false
has-last name ls l h k = has-append name ls (l ∷ []) ∙ either-false (has name ls) (same l.name name || false) h (either-false (same l.name name) false k refl)

-- labels of the same names before them
new-alike : (front other : List Label) (ls : List Label) → ((name : Word) → has name front ≡ has name other) → AreNew front ls → AreNew other ls
new-alike front other [] alike h = tt
new-alike front other (l ∷ ls) alike h = (
  sym (alike l.name) ∙ h.0,
  new-alike (front ++ l ∷ []) (other ++ l ∷ []) ls
      (λ name. has-append name front (l ∷ []) ∙ ap (λ b. b || (same l.name name || false)) (alike name) ∙ sym (has-append name other (l ∷ []))) h.1,
)

new-with : (front : List Label) (x : Label) (ls : List Label) → has x.name front ≡ false → AreNew front ls → AreNew front (with_label x ls)
new-with front x [] free h = (free, tt)
new-with front x (l ∷ ls) free h = go (same l.name x.name) refl (λ e. new-with (front ++ l ∷ []) x ls (has-last x.name front l free e) h.1)
  where
    go : (b : Bool) → same l.name x.name ≡ b → (same l.name x.name ≡ false → AreNew (front ++ l ∷ []) (with_label x ls)) → AreNew front (if b then x ∷ ls else l ∷ with_label x ls)
    go true e others =
        let named : l.name ≡ x.name = same-true l.name x.name e in (
          free,
          new-alike (front ++ l ∷ []) (front ++ x ∷ []) ls
              (λ name. has-append name front (l ∷ []) ∙ ap (λ n. has name front || (same n name || false)) named ∙ sym (has-append name front (x ∷ []))) h.1,
        )
    go false e others = (h.0, others e)

each-with : (is_option : Word → Bool) (x : Label) (ls : List Label) → IsLabel is_option x → AreLabels is_option ls → AreLabels is_option (with_label x ls)
each-with is_option x [] one h = (one, tt)
each-with is_option x (l ∷ ls) one h = go (same l.name x.name) (each-with is_option x ls one h.1)
  where
    go : (b : Bool) → AreLabels is_option (with_label x ls) → AreLabels is_option (if b then x ∷ ls else l ∷ with_label x ls)
    go true others = (one, h.1)
    go false others = (h.0, others)

-- ---- what is read

-- labels that were read, and more of them from the words before an option
pub labels-readable : (is_option : Word → Bool) (ls : List Label) (words : List Word) → AreReadable is_option ls
    → IfOk (labels_after ls (take (count_pairs is_option words) words)) (AreReadable is_option)
labels-readable is_option ls [] h = h
labels-readable is_option ls (name ∷ []) h = go (is_option name)
  where
    go : (b : Bool) → IfOk (labels_after ls (take (if b then 0 else 1) (name ∷ []))) (AreReadable is_option)
    go true = h
    go false = tt
labels-readable is_option ls (name ∷ value ∷ words) h =
    go (is_option name) refl (λ one. labels-readable is_option (with_label (record { name = name; value = value }) ls) words (record {
      each = each-with is_option (record { name = name; value = value }) ls one h.each;
      once = new-with [] (record { name = name; value = value }) ls refl h.once;
    }))
  where
    x : Label
    x = record { name = name; value = value }

    Others : Type 0
    Others = IsLabel is_option x → IfOk (labels_after (with_label x ls) (take (count_pairs is_option words) words)) (AreReadable is_option)

    some : (a b : Bool) → is_empty name ≡ a → is_empty value ≡ b → is_option name ≡ false → Others
        → IfOk (if a || b then Err BadLabels else labels_after (with_label x ls) (take (count_pairs is_option words) words)) (AreReadable is_option)
    some true b e k free others = tt
    some false true e k free others = tt
    some false false e k free others = others (record { name = e; value = k; no_option = free })

    go : (b : Bool) → is_option name ≡ b → Others
        → IfOk (labels_after ls (take (if b then 0 else suc (suc (count_pairs is_option words))) (name ∷ value ∷ words))) (AreReadable is_option)
    go true e others = h
    go false e others = some (is_empty name) (is_empty value) refl refl e others

-- ---- what is read again

with-new : (x : Label) (front : List Label) → has x.name front ≡ false → with_label x front ≡ front ++ x ∷ []
with-new x [] h = refl
with-new x (l ∷ ls) h = go (same l.name x.name) h (with-new x ls)
  where
    go : (b : Bool) → (b || has x.name ls) ≡ false → (has x.name ls ≡ false → with_label x ls ≡ ls ++ x ∷ [])
        → (if b then x ∷ ls else l ∷ with_label x ls) ≡ l ∷ (ls ++ x ∷ [])
    go true e others = absurd (false≢true (sym e))
    go false e others = ap (λ ms. l ∷ ms) (others e)

-- all words of the labels are their own
pub pairs-counted : (is_option : Word → Bool) (ls : List Label) → AreLabels is_option ls → count_pairs is_option (label_pairs ls) ≡ length (label_pairs ls)
pairs-counted is_option [] h = refl
pairs-counted is_option (l ∷ ls) h = rw (h.0.no_option) (ap (λ n. suc (suc n)) (pairs-counted is_option ls h.1))

pub pairs-read : (is_option : Word → Bool) (front ls : List Label) → AreLabels is_option ls → AreNew front ls → labels_after front (label_pairs ls) ≡ Ok (front ++ ls)
pairs-read is_option front [] h new = ap Ok (sym (append-nil front))
pairs-read is_option front (l ∷ ls) h new =
    ap (λ b. if b then Err BadLabels else labels_after (with_label l front) (label_pairs ls)) (either-false (is_empty l.name) (is_empty l.value) h.0.name h.0.value)
    ∙ ap (λ ms. labels_after ms (label_pairs ls)) (with-new l front new.0)
    ∙ pairs-read is_option (front ++ l ∷ []) ls h.1 new.1
    ∙ ap Ok (append_assoc front (l ∷ []) ls)
