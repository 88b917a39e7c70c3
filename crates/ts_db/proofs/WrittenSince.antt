-- The highest time of the samples that were written since a rule was created, and the open bucket that it allows.
use Rattle.std.proofs.Common.{◌≡◌, ℕ, ◌+◌, ◌-◌, ◌^◌, ◌<◌, ◌≤◌, Bool, true, false, cond, ◌==◌, nat_le, if◌then◌else◌, List, [], ◌∷◌, length, refl, sym, ap, ◌∙◌, subst, arith}
use Rattle.std.specs.Prelude.{max, Option, None, Some}
use Rattle.std.proofs.lemmas.Bool.Decides.{nat_tests}
use Rattle.std.specs.Option.{unwrap_or}
use Rattle.ts_spec.specs.Aggregate.{Summary, nothing, summary}
use Rattle.ts_spec.specs.Bucket.{start}
use Rattle.ts_spec.specs.Counting.{raised}
use Rattle.ts_spec.specs.Sample.{Point, MAX_TIME, IsAscending, at, is_within, between}
use Rattle.ts_spec.specs.StoredSeries.{StoredRule}
use Rattle.ts_spec.specs.Valid.{Every, IsUpTo}
use Rattle.ts_spec.proofs.Aggregates.{summary-count}
use Rattle.ts_restore.specs.Restored.{last_since, top_at}
use Rattle.ts_restore.specs.Restorable.{IsBucketAt, IsUnwritten}
use Rattle.ts_restore.specs.Summaries.{IsSummary, IsShortSummary}
use Rattle.ts_restore.proofs.LaidRules.{last-low}
use Rattle.ts_restore.proofs.RestoringSeries.{all-times}
use Rattle.ts_restore.proofs.StoredRules.{every-first, every-rest}
use Rattle.ts_sample.specs.Visit.{visited}
use Rattle.ts_series.specs.History.{History, list_of}
use Rattle.ts_db.specs.declared.restorable.WrittenSince.{WrittenSince}
use Rattle.ts_db.specs.Restorable.{top_since, since_with}
use Rattle.ts_db.specs.Store.{stored_series}

-- ---- the visitor

pub since-visited : (v : WrittenSince) (ps : List Point) → (visited since_with v ps).top ≡ top_since v.made v.top ps
since-visited v [] = refl
since-visited v (p ∷ ps) = since-visited (since_with v p) ps

-- ---- the highest time

-- from a time on it is that of the definition
pub top-some : (made low t : ℕ) (ps : List Point) → low ≤ t → top_since made (Some t) ps ≡ Some (max t (last_since made low ps))
top-some made low t [] l = ap (λ (n : ℕ). Some n) (omega arith)
top-some made low t (p ∷ ps) l = go (nat_le made p.made) (λ u k. top-some made low u ps k)
  where
    go : (b : Bool) → ((u : ℕ) → low ≤ u → top_since made (Some u) ps ≡ Some (max u (last_since made low ps)))
        → top_since made (if b then raised p.time (Some t) else Some t) ps ≡ Some (max t (max (if b then p.time else low) (last_since made low ps)))
    go true ih = ih (max t p.time) (omega arith) ∙ ap (λ (n : ℕ). Some n) (omega arith)
    go false ih = ih t l ∙ ap (λ (n : ℕ). Some n) (omega arith)

-- there is none exactly if no sample counts
pub none-every : (made : ℕ) (ps : List Point) → top_since made None ps ≡ None → Every (λ p. p.made < made) ps
none-every made [] e t p x = absurd (cc x)
none-every made (q ∷ qs) e t p x = go (nat_le made q.made) refl e (λ f. none-every made qs f t p)
  where
    rest : (b : Bool) → q.made < made → (at t qs ≡ Some p → p.made < made) → cond b (Some q) (at t qs) ≡ Some p → p.made < made
    rest true l ih y = let is : q ≡ p = cc y in subst (λ (r : Point). r.made < made) is l
    rest false l ih y = ih y

    go : (b : Bool) → nat_le made q.made ≡ b → top_since made (if b then raised q.time None else None) qs ≡ None
        → (top_since made None qs ≡ None → at t qs ≡ Some p → p.made < made) → p.made < made
    go true y f ih = let some = top-some made 0 q.time qs (omega arith) in absurd (cc (sym some ∙ f))
    go false y f ih = rest (q.time == t) (grind (arith, nat_tests)) (ih f) x

pub every-none : (made : ℕ) (ps : List Point) → IsAscending ps → Every (λ p. p.made < made) ps → top_since made None ps ≡ None
every-none made [] up h = refl
every-none made (p ∷ ps) up h =
    let first : p.made < made = every-first (λ q. q.made < made) p ps h in
    let test : nat_le made p.made ≡ false = grind (arith, nat_tests) in
    ap (λ (b : Bool). top_since made (if b then raised p.time None else None) ps) test
    ∙ every-none made ps up.1 (every-rest (λ q. q.made < made) p ps up h)

-- ---- samples before the time that it starts from don't change it

within : (low t : ℕ) → t ≤ MAX_TIME → low ≤ t → is_within low (2 ^ 64 - 1) t ≡ true
within low t h l = grind (arith, nat_tests)

before : (low t : ℕ) → t < low → is_within low (2 ^ 64 - 1) t ≡ false
before low t l = grind (arith, nat_tests)

from-some : (made low t : ℕ) (ps : List Point) → low ≤ t → IsAscending ps → Every (λ p. p.time ≤ MAX_TIME) ps
    → top_since made (Some t) (between low (2 ^ 64 - 1) ps) ≡ top_since made (Some t) ps
from-some made low t [] l up h = refl
from-some made low t (p ∷ ps) l up h =
    go (nat_le low p.time) refl (nat_le made p.made) (λ u k. from-some made low u ps k up.1 (every-rest (λ q. q.time ≤ MAX_TIME) p ps up h))
  where
    most : p.time ≤ MAX_TIME
    most = every-first (λ q. q.time ≤ MAX_TIME) p ps h

    skipped : (b : Bool) → p.time < low → (if b then raised p.time (Some t) else Some t) ≡ Some t
    skipped true k = ap (λ (n : ℕ). Some n) (omega arith)
    skipped false k = refl

    met : (b : Bool) → ((u : ℕ) → low ≤ u → top_since made (Some u) (between low (2 ^ 64 - 1) ps) ≡ top_since made (Some u) ps)
        → top_since made (if b then raised p.time (Some t) else Some t) (between low (2 ^ 64 - 1) ps) ≡ top_since made (if b then raised p.time (Some t) else Some t) ps
    met true ih = ih (max t p.time) (omega arith)
    met false ih = ih t l

    go : (b : Bool) → nat_le low p.time ≡ b → (c : Bool) → ((u : ℕ) → low ≤ u → top_since made (Some u) (between low (2 ^ 64 - 1) ps) ≡ top_since made (Some u) ps)
        → top_since made (Some t) (cond (is_within low (2 ^ 64 - 1) p.time) (p ∷ between low (2 ^ 64 - 1) ps) (between low (2 ^ 64 - 1) ps))
        ≡ top_since made (if nat_le made p.made then raised p.time (Some t) else Some t) ps
    go true x c ih =
        let k : low ≤ p.time = grind (arith, nat_tests) in
        ap (λ (b : Bool). top_since made (Some t) (cond b (p ∷ between low (2 ^ 64 - 1) ps) (between low (2 ^ 64 - 1) ps))) (within low p.time most k)
        ∙ met (nat_le made p.made) ih
    go false x c ih =
        let k : p.time < low = grind (arith, nat_tests) in
        ap (λ (b : Bool). top_since made (Some t) (cond b (p ∷ between low (2 ^ 64 - 1) ps) (between low (2 ^ 64 - 1) ps))) (before low p.time k)
        ∙ ih t l
        ∙ ap (λ (o : Option ℕ). top_since made o ps) (sym (skipped (nat_le made p.made) k))

pub from-any : (made : ℕ) (o : Option ℕ) (ps : List Point) → IsAscending ps → Every (λ p. p.time ≤ MAX_TIME) ps
    → top_since made o (between (unwrap_or o 0) (2 ^ 64 - 1) ps) ≡ top_since made o ps
from-any made None ps up h = ap (top_since made None) (all-times (is_within 0 (2 ^ 64 - 1)) ps up (λ t p e. within 0 p.time (h t p e) (omega arith)))
from-any made (Some t) ps up h = from-some made t t ps (omega arith) up h

-- ---- the open bucket

-- a summary that counts nothing is nothing
pub zero-nothing : (s : Summary) → IsSummary s → s.count ≡ 0 → s ≡ nothing
zero-nothing s of none = go of.0 of.1
  where
    go : (ps : List Point) → summary ps ≡ s → s ≡ nothing
    go [] e = sym e
    go (p ∷ ps) e =
        let many : length (p ∷ ps) ≡ 0 = sym (summary-count (p ∷ ps)) ∙ ap (λ (x : Summary). x.count) e ∙ none in absurd (omega (arith, many))

-- the highest time of the definition is that of a scan from the end of the counted samples
pub top-is : (q : StoredRule) (b : ℕ) (ps : List Point) → max (b + (q.running.count - 1)) (last_since q.made b ps) ≡ top_at q b ps
top-is q b ps = let low : b ≤ last_since q.made b ps = last-low q.made b ps in omega arith

pub top-from : (q : StoredRule) (b counted : ℕ) (ps : List Point) → counted ≡ b + (q.running.count - 1) → top_since q.made (Some counted) ps ≡ Some (top_at q b ps)
top-from q b counted ps e =
    ap (λ (n : ℕ). top_since q.made (Some n) ps) e
    ∙ top-some q.made b (b + (q.running.count - 1)) ps (omega arith)
    ∙ ap (λ (n : ℕ). Some n) (top-is q b ps)

module _ (h : History) (q : StoredRule) (short : IsShortSummary q.running) where
  -- without an open bucket
  pub unwritten-to : top_since q.made None (list_of h) ≡ None → q.running.count ≡ 0 → IsUnwritten (stored_series [] h) q
  unwritten-to e none = record { running = zero-nothing q.running short.some none; list = none-every q.made (list_of h) e }

  pub unwritten-none : IsAscending (list_of h) → IsUnwritten (stored_series [] h) q → top_since q.made None (list_of h) ≡ None
  unwritten-none up x = every-none q.made (list_of h) up x.list

  pub unwritten-zero : IsUnwritten (stored_series [] h) q → q.running.count ≡ 0
  unwritten-zero x = ap (λ (s : Summary). s.count) x.running

  -- with one
  module _ (b top high : ℕ) (is : Some top ≡ Some (top_at q b (list_of h))) (high_is : Some high ≡ h.high) where
    top-same : top ≡ top_at q b (list_of h)
    top-same = cc is

    pub bucket-at : top ≤ high → start q.grid top ≡ b → IsBucketAt (stored_series [] h) q b
    bucket-at l e = record {
      running = short.some;
      same = ap (start q.grid) (sym top-same) ∙ e;
      high = subst (λ (o : Option ℕ). IsUpTo o (top_at q b (list_of h))) high_is (subst (λ n. n ≤ high) top-same l);
    }

    pub bucket-start : IsBucketAt (stored_series [] h) q b → start q.grid top ≡ b
    bucket-start x = ap (start q.grid) top-same ∙ x.same

    pub bucket-high : IsBucketAt (stored_series [] h) q b → top ≤ high
    bucket-high x = subst (λ n. n ≤ high) (sym top-same) (subst (λ (o : Option ℕ). IsUpTo o (top_at q b (list_of h))) (sym high_is) x.high)
