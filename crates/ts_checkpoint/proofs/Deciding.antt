-- What tests on samples, options and lists mean.
use Rattle.std.proofs.Common.{◌≡◌, ◌≢◌, ℕ, ◌≤◌, nat_lt, nat_le, ◌==◌, ◌&&◌, if◌then◌else◌, Bool, true, false, not, List, [], ◌∷◌, Some, refl, sym, ap, ◌∙◌, subst}
use Rattle.std.proofs.lemmas.Bool.{false≢true, and_parts, leb-true, le-leb, not-true, not_from_false}
use Rattle.std.proofs.lemmas.Bool.Decides.{Decides-and, Decides-not, Decides-ltb}
use Rattle.std.specs.Bool.{Decides}
use Rattle.std.specs.List.{list_all}
use Rattle.std.specs.Prelude.{Option, None, is_none}
use Rattle.ts_spec.specs.Sample.{Point, IsAfter, IsAscending, at}
use Rattle.ts_spec.specs.Valid.{Every, IsUpTo}
use Rattle.ts_spec.proofs.Samples.{at-time}
use Rattle.ts_checkpoint.specs.Checks.{is_empty, is_some_and, if_some, every, is_ascending, is_up_to}

pub Decides-le : (a b : ℕ) → Decides (nat_le a b) (a ≤ b)
Decides-le a b = (leb-true a b, le-leb a b)

pub Decides-false : (b : Bool) → Decides (not b) (b ≡ false)
Decides-false b = (not-true b, not_from_false b)

pub Decides-none : {X : Type 0} (o : Option X) → Decides (is_none o) (o ≡ None)
Decides-none None = (λ e. refl, λ e. refl)
Decides-none (Some x) = (λ e. absurd (false≢true e), λ e. absurd (cc e))

pub Decides-empty : {X : Type 0} (xs : List X) → Decides (is_empty xs) (xs ≡ [])
Decides-empty [] = (λ e. refl, λ e. refl)
Decides-empty (x ∷ xs) = (λ e. absurd (false≢true e), λ e. absurd (cc e))

pub Decides-some : {X : Type 0} (xs : List X) → Decides (not (is_empty xs)) (xs ≢ [])
Decides-some xs = Decides-not (is_empty xs) (Decides-empty xs)

-- a value, and that P holds for it
pub record HasSome {X : Type 0} (o : Option X) (P : X → Type 0) : Type 0 where
  pub value : X
  pub is : o ≡ Some value
  pub holds : P value

pub Decides-some_and : {X : Type 0} (test : X → Bool) (P : X → Type 0) → ((x : X) → Decides (test x) (P x)) → (o : Option X)
    → Decides (is_some_and o test) (HasSome o P)
Decides-some_and test P each None = (λ e. absurd (false≢true e), λ h. absurd (cc h.is))
Decides-some_and test P each (Some x) = (
  λ e. record { value = x; is = refl; holds = (each x).0 e },
  λ h. (let same : h.value ≡ x = cc h.is in (each x).1 (subst P same h.holds)),
)

pub Decides-if_some : {X : Type 0} (test : X → Bool) (P : X → Type 0) → ((x : X) → Decides (test x) (P x)) → (o : Option X)
    → Decides (if_some o test) ((x : X) → o ≡ Some x → P x)
Decides-if_some test P each None = (λ e x is. absurd (cc is), λ h. refl)
Decides-if_some test P each (Some y) = (
  λ e x is. (let same : y ≡ x = cc is in subst P same ((each y).0 e)),
  λ h. (each y).1 (h y refl),
)

pub Decides-up_to : (high : Option ℕ) (t : ℕ) → Decides (is_up_to high t) (IsUpTo high t)
Decides-up_to None t = (λ e. absurd (false≢true e), λ h. absurd h)
Decides-up_to (Some h) t = Decides-le t h

-- ---- lists of samples

Decides-after : (t : ℕ) (ps : List Point) → Decides (list_all (λ q. nat_lt t q.time) ps) (IsAfter t ps)
Decides-after t [] = (λ e. tt, λ h. refl)
Decides-after t (p ∷ ps) = Decides-and (nat_lt t p.time) (list_all (λ q. nat_lt t q.time) ps) (Decides-ltb t p.time) (Decides-after t ps)

pub Decides-ascending : (ps : List Point) → Decides (is_ascending ps) (IsAscending ps)
Decides-ascending [] = (λ e. tt, λ h. refl)
Decides-ascending (p ∷ ps) =
    Decides-and (list_all (λ q. nat_lt p.time q.time) ps) (is_ascending ps) (Decides-after p.time ps) (Decides-ascending ps)

-- what passes for all of a list passes for the one at a time
passes-at : (test : Point → Bool) (t : ℕ) (p : Point) (ps : List Point) → list_all test ps ≡ true → at t ps ≡ Some p → test p ≡ true
passes-at test t p [] all is = absurd (cc is)
passes-at test t p (q ∷ ps) all is = go (q.time == t) (passes-at test t p ps (and_parts (test q) (list_all test ps) all).1) is
  where
    go : (b : Bool) → (at t ps ≡ Some p → test p ≡ true) → (if b then Some q else at t ps) ≡ Some p → test p ≡ true
    go true rest e = let same : q ≡ p = cc e in ap test (sym same) ∙ (and_parts (test q) (list_all test ps) all).0
    go false rest e = rest e

all-pass : (test : Point → Bool) → ((p : Point) → test p ≡ true) → (ps : List Point) → list_all test ps ≡ true
all-pass test each [] = refl
all-pass test each (p ∷ ps) = ap (λ b. b && list_all test ps) (each p) ∙ all-pass test each ps

pub Decides-every : (test : Point → Bool) (P : Point → Type 0) → ((p : Point) → Decides (test p) (P p)) → (ps : List Point)
    → Decides (every test ps) (Every P ps)
Decides-every test P each ps = (
  λ all t p is.
      (let time : p.time ≡ t = at-time t ps p is in
      let here : at p.time ps ≡ Some p = ap (λ n. at n ps) time ∙ is in
      let passed : if_some (at p.time ps) test ≡ true = passes-at (λ q. if_some (at q.time ps) test) t p ps all is in
      (each p).0 (sym (ap (λ o. if_some o test) here) ∙ passed)),
  λ h. all-pass (λ q. if_some (at q.time ps) test) (λ q. (Decides-if_some test P each (at q.time ps)).1 (λ x is. h q.time x is)) ps,
)
