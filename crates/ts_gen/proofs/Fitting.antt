-- The requests of a workload are within the usual limits.
use Rattle.std.proofs.Common.{◌≡◌, ◌≢◌, ◌<◌, ◌≤◌, ◌+◌, ◌-◌, ◌*◌, ◌/◌, ◌%◌, ◌^◌, ℕ, suc, Bool, true, false, cond, ◌==◌, if◌then◌else◌, pos, negsuc, List, [], ◌∷◌, ◌++◌, length, length-append, ap, arith}
use Rattle.std.proofs.Math.Nat.{mod-lt}
use Rattle.std.proofs.lemmas.Fmt.{length-decimal-le}
use Rattle.std.proofs.lemmas.List.Elements.{All-nil, All-cons, All-map, All-append}
use Rattle.std.proofs.lemmas.List.FromFn.{length-range_with_len, get_or-range_with_len}
use Rattle.std.proofs.lemmas.List.Sums.{sum_by-le}
use Rattle.std.specs.Fmt.{decimal, signed_decimal}
use Rattle.std.specs.List.{All, range_with_len}
use Rattle.std.specs.Prelude.{codes, sum_by}
use Rattle.ts_spec.specs.Encoded.{Fits}
use Rattle.ts_spec.specs.Limits.{usual}
use Rattle.ts_spec.specs.Wire.{Request}
use Rattle.ts_gen.specs.Workload.{key, raw, create, create_rule, for_each_unit, set_up, generator_state, second_before, delete, value, time, add, change, changes, final_query, workload}

-- a property of each item of a list, item by item
data Each {X : Type 0} (P : X → Type 0) : List X → Type 0 where
  none : Each P []
  and : {x : X} {xs : List X} → P x → Each P xs → Each P (x ∷ xs)

each_all : {X : Type 0} (P : X → Type 0) {xs : List X} → Each P xs → All P xs
each_all P none = All-nil P
each_all P (and {x} {xs} holds rest) = All-cons P x xs holds (each_all P rest)

-- a short argument
abbrev Short : List ℕ → Type 0
Short word = length word ≤ 24

abbrev Fitting : Request → Type 0
Fitting request = Fits usual.wire request

not_empty : (word : List ℕ) (words : Request) → word ∷ words ≢ []
not_empty word words empty = absurd (omega (arith, ap length empty))

-- a request of a few short arguments
small : (word : List ℕ) (words : Request) → length words ≤ 6 → Each Short (word ∷ words) → Fitting (word ∷ words)
small word words few shorts =
    let each : All Short (word ∷ words) = each_all Short shorts in
    let together : sum_by length (word ∷ words) ≤ length (word ∷ words) * 24 = sum_by-le length 24 (word ∷ words) each in
    record {
      some = not_empty word words;
      words = omega arith;
      each = λ k d within. let short : Short _ = each k d within in omega arith;
      together = omega arith;
    }

-- ---- words

short_decimal : (n : ℕ) → n < 2 ^ 63 → length (decimal n) ≤ 20
short_decimal n below = length-decimal-le 20 n (omega arith) (omega arith) (omega arith)

short_key : (kind : List ℕ) (unit : ℕ) → length kind ≡ 3 → unit < 2 ^ 63 → Short (key kind unit)
short_key kind unit three below =
    let digits : length (decimal unit) ≤ 20 = short_decimal unit below in
    omega (arith, length-append (kind ++ codes ":") (decimal unit), length-append kind (codes ":"))

short_signed : (below : Bool) (a b : ℕ) → a < 2 ^ 62 → b < 2 ^ 62 → Short (signed_decimal (cond below (negsuc a) (pos b)))
short_signed true a b small_a small_b = let digits : length (decimal (suc a)) ≤ 20 = short_decimal (suc a) (omega arith) in omega arith
short_signed false a b small_a small_b = let digits : length (decimal b) ≤ 20 = short_decimal b (omega arith) in omega arith

short_value : (r : ℕ) → Short (value r)
short_value r =
    let below : r % 2001 < 2001 = mod-lt r (omega arith) in
    short_signed _ (1000 - suc (r % 2001)) (r % 2001 - 1000) (omega arith) (omega arith)

-- ---- requests

module _ (kind : List ℕ) (three : length kind ≡ 3) where
  create_fits : (unit : ℕ) → unit < 4 → Fitting (create kind unit)
  create_fits unit below = small _ _ (omega arith) (and (omega arith) (and (short_key kind unit three (omega arith)) (and (omega arith) (and (omega arith) (and (omega arith) (and (omega arith) (and (let digits : length (decimal unit) ≤ 20 = short_decimal unit (omega arith) in omega arith) none)))))))

  rule_fits : (unit : ℕ) → unit < 4 → Fitting (create_rule kind unit)
  rule_fits unit below = small _ _ (omega arith) (and (omega arith) (and (short_key (codes "raw") unit (omega arith) (omega arith)) (and (short_key kind unit three (omega arith)) (and (omega arith) (and (omega arith) (and (omega arith) none))))))

either_fits : (test : Bool) (x y : Request) → Fitting x → Fitting y → Fitting (if test then x else y)
either_fits true x y fits other = fits
either_fits false x y fits other = other

either_below : (test : Bool) (x y most : ℕ) → x ≤ most → y ≤ most → (if test then x else y) ≤ most
either_below true x y most below other = below
either_below false x y most below other = other

module _ (k : ℕ) (few : k ≤ 1000000) where
  short_raw : Short (raw (k % 4))
  short_raw = let below : k % 4 < 4 = mod-lt k (omega arith) in short_key (codes "raw") (k % 4) (omega arith) (omega arith)

  delete_fits : Fitting (delete k)
  delete_fits =
      let from : length (decimal (second_before 32 k)) ≤ 20 = short_decimal (second_before 32 k) (omega arith) in
      let to : length (decimal (second_before 32 k + 4000)) ≤ 20 = short_decimal (second_before 32 k + 4000) (omega arith) in
      small _ _ (omega arith) (and (omega arith) (and short_raw (and (omega arith) (and (omega arith) none))))

  add_fits : (r : ℕ) → Fitting (add k r)
  add_fits r =
      let within : time k r ≤ 1000000000 = either_below (r % 16 == 0) (second_before (r / 16 % 64) k) (1000 * k) 1000000000 (omega arith) (omega arith) in
      let at : length (decimal (time k r)) ≤ 20 = short_decimal (time k r) (omega arith) in
      small _ _ (omega arith) (and (omega arith) (and short_raw (and (omega arith) (and (short_value r) (and (omega arith) (and (omega arith) none))))))

  change_fits : (r : ℕ) → Fitting (change k r)
  change_fits r = either_fits _ _ _ delete_fits (add_fits r)

question_fits : Fitting final_query
question_fits = small _ _ (omega arith) (and (omega arith) (and (omega arith) (and (omega arith) (and (omega arith) (and (omega arith) none)))))

-- ---- the whole

units_fit : (f : ℕ → Request) → ((unit : ℕ) → unit < 4 → Fitting (f unit)) → All Fitting (for_each_unit f)
units_fit f fits =
    each_all Fitting (and (fits 0 (omega arith)) (and (fits 1 (omega arith)) (and (fits 2 (omega arith)) (and (fits 3 (omega arith)) none))))

set_up_fits : All Fitting set_up
unfolding set_up
set_up_fits =
    let raws : List Request = for_each_unit (create (codes "raw")) in
    let avgs : List Request = for_each_unit (create (codes "avg")) in
    let maxs : List Request = for_each_unit (create (codes "max")) in
    let to_avgs : List Request = for_each_unit (create_rule (codes "avg")) in
    let to_maxs : List Request = for_each_unit (create_rule (codes "max")) in
    let fit : All Fitting (raws ++ avgs) =
    All-append Fitting raws avgs (units_fit (create (codes "raw")) (create_fits (codes "raw") (omega arith))) (units_fit (create (codes "avg")) (create_fits (codes "avg") (omega arith))) in
    let fit : All Fitting (raws ++ avgs ++ maxs) =
    All-append Fitting (raws ++ avgs) maxs fit (units_fit (create (codes "max")) (create_fits (codes "max") (omega arith))) in
    let fit : All Fitting (raws ++ avgs ++ maxs ++ to_avgs) =
    All-append Fitting (raws ++ avgs ++ maxs) to_avgs fit (units_fit (create_rule (codes "avg")) (rule_fits (codes "avg") (omega arith))) in
    All-append Fitting (raws ++ avgs ++ maxs ++ to_avgs) to_maxs fit (units_fit (create_rule (codes "max")) (rule_fits (codes "max") (omega arith)))

changes_fit : (seed n : ℕ) → n ≤ 1000000 → All Fitting (changes seed n)
changes_fit seed n few = All-map Fitting (λ k. change k (generator_state seed k / 2 ^ 33)) (range_with_len 1 n) (λ i d within.
    let index : i < n = omega (arith, length-range_with_len 1 n) in
    let is : _ ≡ 1 + i = get_or-range_with_len 1 n i d index in
    change_fits _ (omega arith) _)

pub workload_fits : (seed n : ℕ) → n ≤ 1000000 → All (Fits usual.wire) (workload seed n)
workload_fits seed n few = All-append Fitting (set_up ++ changes seed n) (final_query ∷ []) (All-append Fitting set_up (changes seed n) set_up_fits (changes_fit seed n few)) (All-cons Fitting final_query [] question_fits (All-nil Fitting))
