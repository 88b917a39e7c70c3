-- The times of rows and their numbers, after adding one more row.
use Rattle.std.proofs.Common.{◌≡◌, ℕ, ◌==◌, nat_lt, Bool, true, false, if◌then◌else◌, List, [], ◌∷◌, ◌++◌, refl, sym, ap, ◌∙◌, arith, eq-eqb, eqb-true, lt-ltb, le-ltb, append-nil}
use Rattle.std.proofs.lemmas.Bool.{ltb-true, ltb-false, false≢true}
use Rattle.std.specs.Ordering.{nat_cmp}
use Rattle.ts_spec.specs.Sample.{Point}
use Rattle.ts_spec.specs.Answer.{Cell, Number, Nan, Row}
use Rattle.ts_spec.specs.Groups.{with_time, times, number_then, numbers_at}
use Rattle.ts_group.proofs.Ordered.{IsOrder, AreRising, has, put-both, rising-put, not-same, not-others}

before_trans : (a b c : ℕ) → nat_lt a b ≡ true → nat_lt b c ≡ true → nat_lt a c ≡ true
before_trans a b c h k = lt-ltb a c (omega (arith, ltb-true a b h, ltb-true b c k))

before_total : (a b : ℕ) → nat_lt a b ≡ false → nat_lt b a ≡ false → a ≡ b
before_total a b h k = omega (arith, ltb-false a b h, ltb-false b a k)

pub in_time : IsOrder nat_lt (λ a b. a == b) nat_cmp with_time
in_time = record {
  irrefl = λ a. le-ltb a a (omega arith);
  trans = before_trans;
  total = before_total;
  itself = λ a. eq-eqb a a refl;
  one = eqb-true;
  compares = λ a b. refl;
  put_nil = λ a. refl;
  put_cons = λ a b bs. refl;
}

pub rising-times : (rows : List Row) → AreRising in_time (times rows)
rising-times [] = tt
rising-times (r ∷ rows) = rising-put in_time r.time (times rows) (rising-times rows)

pub times-more : (rows : List Row) (r : Row) → times (rows ++ r ∷ []) ≡ with_time r.time (times rows)
times-more [] r = refl
times-more (q ∷ rows) r = ap (with_time q.time) (times-more rows r) ∙ put-both in_time q.time r.time (times rows)

-- ---- the numbers of a time

numbers-then : (t : ℕ) (cell : Cell) (ps qs : List Point) → number_then t cell (ps ++ qs) ≡ number_then t cell ps ++ qs
numbers-then t Nan ps qs = refl
numbers-then t (Number v) ps qs = refl

pub numbers-more : (t : ℕ) (rows : List Row) (r : Row) → numbers_at t (rows ++ r ∷ []) ≡ numbers_at t rows ++ numbers_at t (r ∷ [])
numbers-more t [] r = refl
numbers-more t (q ∷ rows) r = by (q.time == t) (numbers-more t rows r)
  where
    by : (b : Bool) → numbers_at t (rows ++ r ∷ []) ≡ numbers_at t rows ++ numbers_at t (r ∷ [])
        → (if b then number_then t q.value (numbers_at t (rows ++ r ∷ [])) else numbers_at t (rows ++ r ∷ []))
        ≡ (if b then number_then t q.value (numbers_at t rows) else numbers_at t rows) ++ numbers_at t (r ∷ [])
    by true ih = ap (number_then t q.value) ih ∙ numbers-then t q.value (numbers_at t rows) (numbers_at t (r ∷ []))
    by false ih = ih

-- those of one row, at its time and at others
pub numbers-here : (r : Row) → numbers_at r.time (r ∷ []) ≡ number_then r.time r.value []
numbers-here r = rw (eq-eqb r.time r.time refl) refl

pub numbers-elsewhere : (t : ℕ) (rows : List Row) (r : Row) → (r.time == t) ≡ false → numbers_at t (rows ++ r ∷ []) ≡ numbers_at t rows
numbers-elsewhere t rows r e = numbers-more t rows r ∙ ap (λ (ps : List Point). numbers_at t rows ++ ps) (none e) ∙ append-nil (numbers_at t rows)
  where
    none : (r.time == t) ≡ false → numbers_at t (r ∷ []) ≡ []
    none e = rw e refl

-- those of a time that rows do not have
pub none_at : (t : ℕ) (rows : List Row) → has in_time t (times rows) ≡ false → numbers_at t rows ≡ []
none_at t [] h = refl
none_at t (r ∷ rows) h =
    by (r.time == t) refl (not-same in_time t r.time (times rows) h) (none_at t rows (not-others in_time t r.time (times rows) h))
  where
    by : (b : Bool) → (r.time == t) ≡ b → (t == r.time) ≡ false → numbers_at t rows ≡ [] → (if b then number_then t r.value (numbers_at t rows) else numbers_at t rows) ≡ []
    by true e apart ih = absurd (false≢true (sym apart ∙ eq-eqb t r.time (sym (eqb-true r.time t e))))
    by false e apart ih = ih
