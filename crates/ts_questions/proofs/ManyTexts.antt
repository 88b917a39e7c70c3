-- Writing members one by one.
use Rattle.std.proofs.Common.{◌≡◌, ◌+◌, ℕ, suc, List, [], ◌∷◌, ◌++◌, Bool, true, false, All, length, refl, sym, ap, subst, ◌∙◌, append_assoc, append-nil, arith, length-append}
use Rattle.std.proofs.lemmas.Grind.{flat_map-append}
use Rattle.std.proofs.lemmas.List.Elements.{All-nil, All-cons}
use Rattle.std.specs.Fmt.{decimal}
use Rattle.std.specs.Prelude.{flat_map, Option, None, Some, is_none}
use Rattle.ts_spec.specs.Key.{Key}
use Rattle.ts_spec.specs.Keyed.{Keyed, get}
use Rattle.ts_spec.specs.Replies.{reply_list}
use Rattle.ts_spec.specs.Text.{Reply, line_text, text, texts}
use Rattle.ts_sample.specs.declared.sample.Id.{Id}
use Rattle.ts_db.specs.DbState.{IsLive, AreIdsOf}
use Rattle.ts_questions.specs.Members.{reply_then, each_reply, IsAdded, IsAddedOrLost, AreAddedOrLost}
use Rattle.ts_questions.proofs.ReplyTexts.{count-reply_list}

-- each of these numbers is that of a key
pub numbers-live : (ids : Keyed Id) (keys : List Key) (ns : List Id) → AreIdsOf ids keys ns → All (IsLive ids) ns
numbers-live ids [] [] are = All-nil (IsLive ids)
numbers-live ids [] (n ∷ ns) are = absurd are
numbers-live ids (k ∷ ks) [] are = absurd are
numbers-live ids (k ∷ ks) (n ∷ ns) are = All-cons (IsLive ids) n ns (record { key = k; is = are.0 }) (numbers-live ids ks ns are.1)

numbers-length : (ids : Keyed Id) (keys : List Key) (ns : List Id) → AreIdsOf ids keys ns → length keys ≡ length ns
numbers-length ids [] [] are = refl
numbers-length ids [] (n ∷ ns) are = absurd are
numbers-length ids (k ∷ ks) [] are = absurd are
numbers-length ids (k ∷ ks) (n ∷ ns) are = ap suc (numbers-length ids ks ns are.1)

-- what is told already, and more
abbrev onto_all : {X : Type 0} → List X → Option (List X) → Option (List X)
onto_all done None = None
onto_all done (Some others) = Some (done ++ others)

-- what is told so far is told of the first keys, and the numbers that are left are those of the others; it is written,
-- unless memory was lost
pub record SoFar {X Y : Type 0} (written : X → List Y) (told : Key → Option X) (ids : Keyed Id) (keys : List Key) (rest : List Id) (start now : List Y) (lost : Bool) : Type 0 where
  pub done : List X
  pub left : List Key
  pub numbers : AreIdsOf ids left rest
  pub all : each_reply told keys ≡ onto_all done (each_reply told left)
  pub all_written : lost ≡ false → now ≡ start ++ flat_map written done
  pub count : length done + length left ≡ length keys

onto-none : {X : Type 0} (o : Option (List X)) → o ≡ onto_all [] o
onto-none None = refl
onto-none (Some others) = refl

module _ {X Y : Type 0} (written : X → List Y) (told : Key → Option X) (ids : Keyed Id) (keys : List Key) where
  -- nothing is told yet
  pub so-far-none : (ns : List Id) (start now : List Y) (lost : Bool) → AreIdsOf ids keys ns → (lost ≡ false → now ≡ start) → SoFar written told ids keys ns start now lost
  so-far-none ns start now lost are begun = record {
    done = [];
    left = keys;
    numbers = are;
    all = onto-none (each_reply told keys);
    all_written = λ kept. begun kept ∙ sym (append-nil start);
    count = omega arith;
  }

  onto-more : (done : List X) (x : X) (o : Option (List X)) → onto_all done (reply_then (Some x) o) ≡ onto_all (done ++ x ∷ []) o
  onto-more done x None = refl
  onto-more done x (Some others) = ap (λ (l : List X). Some l) (sym (append_assoc done (x ∷ []) others))

  written-more : (start now next : List Y) (done : List X) (x : X) → now ≡ start ++ flat_map written done → next ≡ now ++ written x → next ≡ start ++ flat_map written (done ++ x ∷ [])
  written-more start now next done x is more =
      more ∙ ap (λ (l : List Y). l ++ written x) is ∙ append_assoc start (flat_map written done) (written x)
      ∙ ap (λ (l : List Y). start ++ l) (ap (λ (l : List Y). flat_map written done ++ l) (sym (append-nil (written x))) ∙ sym (flat_map-append written done (x ∷ [])))

  -- one more was written, unless memory was lost
  pub so-far-more : (id : Id) (rest more : List Id) (start now next : List Y) (lost later : Bool) → rest ≡ id ∷ more → SoFar written told ids keys rest start now lost → (later ≡ false → lost ≡ false)
      → ((key : Key) → get key ids ≡ Some id → IsAddedOrLost written later (told key) now next) → SoFar written told ids keys more start next later
  so-far-more id rest more start now next lost later split so_far stays added = pick so_far.left (subst (AreIdsOf ids so_far.left) split so_far.numbers) so_far.all so_far.count
    where
      go : (k : Key) (ks : List Key) (o : Option X) → IsAddedOrLost written later o now next → AreIdsOf ids ks more → each_reply told keys ≡ onto_all so_far.done (reply_then o (each_reply told ks))
          → length so_far.done + length (k ∷ ks) ≡ length keys → SoFar written told ids keys more start next later
      go k ks None is are all count = absurd is
      go k ks (Some x) is are all count = record {
        done = so_far.done ++ x ∷ [];
        left = ks;
        numbers = are;
        all = all ∙ onto-more so_far.done x (each_reply told ks);
        all_written = λ kept. written-more start now next so_far.done x (so_far.all_written (stays kept)) (is kept);
        count = omega (arith, count, length-append so_far.done (x ∷ []));
      }

      pick : (left : List Key) → AreIdsOf ids left (id ∷ more) → each_reply told keys ≡ onto_all so_far.done (each_reply told left)
          → length so_far.done + length left ≡ length keys → SoFar written told ids keys more start next later
      pick [] are all count = absurd are
      pick (k ∷ ks) are all count = go k ks (told k) (added k are.0) are.1 all count

  -- there is nothing to tell of one key
  pub none-told : (id : Id) (rest more : List Id) (start now : List Y) (lost : Bool) → rest ≡ id ∷ more → SoFar written told ids keys rest start now lost
      → ((key : Key) → get key ids ≡ Some id → told key ≡ None) → each_reply told keys ≡ None
  none-told id rest more start now lost split so_far none = pick so_far.left (subst (AreIdsOf ids so_far.left) split so_far.numbers) so_far.all
    where
      pick : (left : List Key) → AreIdsOf ids left (id ∷ more) → each_reply told keys ≡ onto_all so_far.done (each_reply told left) → each_reply told keys ≡ None
      pick [] are all = absurd are
      pick (k ∷ ks) are all = all ∙ ap (λ (o : Option X). onto_all so_far.done (reply_then o (each_reply told ks))) (none k are.0)

  -- all is told
  pub all-done : (rest : List Id) (start now : List Y) (lost : Bool) → rest ≡ [] → (so_far : SoFar written told ids keys rest start now lost)
      → (each_reply told keys ≡ Some so_far.done) × (length so_far.done ≡ length keys)
  all-done rest start now lost none so_far = pick so_far.left (subst (AreIdsOf ids so_far.left) none so_far.numbers) so_far.all so_far.count
    where
      pick : (left : List Key) → AreIdsOf ids left [] → each_reply told keys ≡ onto_all so_far.done (each_reply told left) → length so_far.done + length left ≡ length keys
          → (each_reply told keys ≡ Some so_far.done) × (length so_far.done ≡ length keys)
      pick (k ∷ ks) are all count = absurd are
      pick [] are all count = (all ∙ ap (λ (l : List X). Some l) (append-nil so_far.done), omega (arith, count))

-- the texts of replies, one after another
flat-texts : (rs : List Reply) → flat_map text rs ≡ texts (reply_list rs)
flat-texts [] = refl
flat-texts (r ∷ rs) = ap (λ (l : List ℕ). text r ++ l) (flat-texts rs)

-- all replies are told
pub all-told : (told : Key → Option Reply) (ids : Keyed Id) (keys : List Key) (ns rest : List Id) (before start now : List ℕ) (lost : Bool) → AreIdsOf ids keys ns → rest ≡ []
    → start ≡ before ++ line_text 42 (decimal (length ns)) → SoFar text told ids keys rest start now lost → AreAddedOrLost lost (each_reply told keys) before now
all-told told ids keys ns rest before start now lost are none begun so_far =
    let done = all-done text told ids keys rest start now lost none so_far in
    let size : length ns ≡ length so_far.done = omega (arith, numbers-length ids keys ns are, done.1) in
    subst (λ (o : Option (List Reply)). AreAddedOrLost lost o before now) (sym done.0)
    (λ kept. so_far.all_written kept ∙ ap (λ (l : List ℕ). start ++ l) (flat-texts so_far.done) ∙ ap (λ (l : List ℕ). l ++ texts (reply_list so_far.done)) begun
    ∙ append_assoc before (line_text 42 (decimal (length ns))) (texts (reply_list so_far.done))
    ∙ ap (λ n. before ++ (line_text 42 (decimal n) ++ texts (reply_list so_far.done))) (size ∙ sym (count-reply_list so_far.done)))

-- one that was written, and one that is not too much where memory was lost
pub added-kept : {X Y : Type 0} (written : X → List Y) (o : Option X) (before after : List Y) → IsAdded written o before after → IsAddedOrLost written false o before after
added-kept written None before after is = is
added-kept written (Some x) before after is = λ kept. is

pub told-lost : {X Y : Type 0} (written : X → List Y) (o : Option X) (before after : List Y) → is_none o ≡ false → IsAddedOrLost written true o before after
told-lost written None before after told = absurd (cc told)
told-lost written (Some x) before after told = λ kept. absurd (cc kept)
