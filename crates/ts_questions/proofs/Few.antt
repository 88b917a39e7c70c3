-- The greatest number of samples that a key shows.
use Rattle.std.proofs.Common.{◌≡◌, ℕ, suc, ◌+◌, ◌≤◌, Bool, true, false, cond, if◌then◌else◌, List, [], ◌∷◌, length, refl, sym, ap, subst, arith}
use Rattle.std.specs.Prelude.{⊤, ◌&&◌, nat_lt, nat_le, Option, None, Some}
use Rattle.std.proofs.lemmas.Bool.Decides.{nat_tests}
use Rattle.std.proofs.lemmas.List.{length-append}
use Rattle.ts_spec.specs.declared.limits.Limits.{Limits}
use Rattle.ts_spec.specs.Key.{Key}
use Rattle.ts_spec.specs.Keyed.{get}
use Rattle.ts_spec.specs.StoredSeries.{StoredKeys}
use Rattle.ts_spec.specs.StoredQueries.{stored_asked}
use Rattle.ts_spec.specs.Queries.{asked}
use Rattle.ts_spec.specs.Rules.{open_of, has_members, bucket_sample, opened, shown_by, shown_at, latest_at}
use Rattle.ts_spec.specs.Sample.{Point, at_times, put, put_all}
use Rattle.ts_spec.specs.State.{Rule, Record, State, rule_into, edge}
use Rattle.ts_spec.specs.Valid.{IsValid}
use Rattle.ts_spec.proofs.StoredAsked.{asked-kept}
use Rattle.ts_db.specs.DbState.{DbView, RepresentsSome}

not-both : (t u : ℕ) → nat_lt t u ≡ true → nat_lt u t ≡ true → ⊥
not-both t u is other = grind (arith, nat_tests)

-- those before a time and those after it are not more than all
both-sides : (t : ℕ) (ps : List Point) → length (at_times (λ u. nat_lt u t) ps) + length (at_times (nat_lt t) ps) ≤ length ps
both-sides t [] = omega arith
both-sides t (p ∷ ps) = go (nat_lt p.time t) (nat_lt t p.time) refl refl (both-sides t ps)
  where
    go : (before after : Bool) → nat_lt p.time t ≡ before → nat_lt t p.time ≡ after
        → length (at_times (λ u. nat_lt u t) ps) + length (at_times (nat_lt t) ps) ≤ length ps
        → length (cond before (p ∷ at_times (λ u. nat_lt u t) ps) (at_times (λ u. nat_lt u t) ps)) + length (cond after (p ∷ at_times (nat_lt t) ps) (at_times (nat_lt t) ps)) ≤ suc (length ps)
    go true true is other others = absurd (not-both p.time t is other)
    go true false is other others = omega (arith, others)
    go false true is other others = omega (arith, others)
    go false false is other others = omega (arith, others)

few-put : (p : Point) (ps : List Point) → length (put p ps) ≤ suc (length ps)
few-put p ps = omega (arith, length-append (at_times (λ u. nat_lt u p.time) ps) (p ∷ at_times (nat_lt p.time) ps), both-sides p.time ps)

few-opened : (r : Rule) (low born : ℕ) (o : Option ℕ) (ps : List Point) → length (put_all (opened r low born o) ps) ≤ suc (length ps)
few-opened r low born None ps = omega arith
few-opened r low born (Some b) ps = go (has_members r b && nat_le low b)
  where
    go : (x : Bool) → length (put_all (if x then bucket_sample r born b ∷ [] else []) ps) ≤ suc (length ps)
    go true = few-put (bucket_sample r born b) ps
    go false = omega arith

few-latest : (o : Option Record) (r : Option Rule) → length (latest_at o r) ≤ suc (length (shown_at o r))
few-latest None r = omega arith
few-latest (Some d) None = omega arith
few-latest (Some d) (Some r) = few-opened r (edge d) d.born (open_of r) (shown_by (Some r) d)

few-shown : (limits : Limits) (m : State) (k : Key) → IsValid limits m → length (shown_at (get k m) (rule_into m k)) ≤ limits.samples
few-shown limits m k valid = go (get k m) refl
  where
    go : (o : Option Record) → get k m ≡ o → length (shown_at o (rule_into m k)) ≤ limits.samples
    go None is = omega arith
    go (Some d) is = omega (arith, (valid.within k d is).samples, ap (λ (x : Option Record). length (shown_at x (rule_into m k))) is)

few-asked : (limits : Limits) (m : State) (with_open : Bool) (k : Key) → IsValid limits m → length (asked m with_open k) ≤ suc limits.samples
few-asked limits m true k valid = omega (arith, few-latest (get k m) (rule_into m k), few-shown limits m k valid)
few-asked limits m false k valid = omega (arith, few-shown limits m k valid)

-- what is kept of a key shows no more than the limit, and the open bucket
pub few_kept : (db_view : DbView) → RepresentsSome db_view (λ held. ⊤) → (latest : Bool) (k : Key) → length (stored_asked db_view.keys latest k) ≤ suc db_view.limits.samples
few_kept db_view w latest k =
    let m = w.to.state in
    subst (λ (keys : StoredKeys). length (stored_asked keys latest k) ≤ suc db_view.limits.samples) (sym w.stands.state.kept)
    (subst (λ (ps : List Point). length ps ≤ suc db_view.limits.samples) (sym (asked-kept m latest k)) (few-asked db_view.limits m latest k w.stands.state.valid))
