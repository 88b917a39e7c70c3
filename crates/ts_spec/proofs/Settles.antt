-- What settling does to each record, and that it is idempotent.
use Rattle.std.proofs.Common.{◌≡◌, ℕ, Bool, true, false, cond, not, ◌&&◌, ◌||◌, ◌==◌, nat_lt, nat_le, List, [], ◌∷◌, map, filter, Option, Some, None, option_map, refl, sym, ap, ◌∙◌, subst, arith, eqb-true, eq-eqb, map-id}
use Rattle.std.proofs.lemmas.Bool.{false≢true, and_parts, and_from}
use Rattle.ts_spec.specs.Sample.{Point, at_times}
use Rattle.ts_spec.specs.Bucket.{Grid, start, members, starts}
use Rattle.ts_spec.specs.Key.{Key}
use Rattle.ts_spec.specs.Keyed.{get, each}
use Rattle.ts_spec.specs.State.{Rule, Record, State, rule_into, edge, edge_of}
use Rattle.ts_spec.specs.Rules.{is_closed, has_any, has_members, is_row_by, raised, risen, high_by, risen_by, tidied_by, edge_at, cleared, expired, expired_in, expire_record, tidied, settled}
use Rattle.ts_spec.specs.Valid.{IsUpTo}
use Rattle.ts_spec.proofs.Maps.{get-each, maps-same}
use Rattle.ts_spec.proofs.Links.{IsReshape}
use Rattle.ts_spec.proofs.Linked.{rule-uniform}
use Rattle.ts_spec.proofs.Shows.{has, has-told}

-- ---- times

-- what passes the stronger test passes the weaker one
pub times-within : (a b : ℕ → Bool) (ps : List Point) → ((t : ℕ) → b t ≡ true → a t ≡ true) → at_times a (at_times b ps) ≡ at_times b ps
times-within a b [] h = refl
times-within a b (p ∷ ps) h = go (b p.time) refl (times-within a b ps h)
  where
    go : (x : Bool) → b p.time ≡ x → at_times a (at_times b ps) ≡ at_times b ps →
        at_times a (cond x (p ∷ at_times b ps) (at_times b ps)) ≡ cond x (p ∷ at_times b ps) (at_times b ps)
    go true e ih = rw (h p.time e, ih) refl
    go false e ih = ih

-- some of the samples have members only where all of them have
pub any-within : (g : Grid) (b : ℕ) (test : ℕ → Bool) (ps : List Point) → has_any (members g b (at_times test ps)) ≡ true → has_any (members g b ps) ≡ true
any-within g b test [] h = h
any-within g b test (p ∷ ps) h = go (test p.time) (start g p.time == b) refl h (any-within g b test ps)
  where
    go : (x y : Bool) → (start g p.time == b) ≡ y → has_any (members g b (cond x (p ∷ at_times test ps) (at_times test ps))) ≡ true →
        (has_any (members g b (at_times test ps)) ≡ true → has_any (members g b ps) ≡ true) → has_any (cond y (p ∷ members g b ps) (members g b ps)) ≡ true
    go x true e k ih = refl
    go true false e k ih = ih (rw e at k)
    go false false e k ih = ih k

-- ---- the highest time

pub upto-raised : (t u : ℕ) (high : Option ℕ) → IsUpTo high u → IsUpTo (raised t high) u
upto-raised t u None h = absurd h
upto-raised t u (Some x) h = omega arith

pub upto-here : (t : ℕ) (high : Option ℕ) → IsUpTo (raised t high) t
upto-here t None = omega arith
upto-here t (Some x) = omega arith

pub raised-same : (t : ℕ) (high : Option ℕ) → IsUpTo high t → raised t high ≡ high
raised-same t None h = absurd h
raised-same t (Some x) h = ap (λ (y : ℕ). Some y) (omega arith)

pub upto-risen : (bs : List ℕ) (u : ℕ) (high : Option ℕ) → IsUpTo high u → IsUpTo (risen high bs) u
upto-risen [] u high h = h
upto-risen (b ∷ bs) u high h = upto-risen bs u (raised b high) (upto-raised b u high h)

pub risen-covers : (bs : List ℕ) (b : ℕ) (high : Option ℕ) → has bs b ≡ true → IsUpTo (risen high bs) b
risen-covers [] b high h = absurd (false≢true h)
risen-covers (c ∷ bs) b high h = go (c == b) refl h (risen-covers bs b (raised c high))
  where
    go : (x : Bool) → (c == b) ≡ x → (x || has bs b) ≡ true → (has bs b ≡ true → IsUpTo (risen (raised c high) bs) b) → IsUpTo (risen (raised c high) bs) b
    go true e k ih = subst (λ (u : ℕ). IsUpTo (risen (raised c high) bs) u) (eqb-true c b e) (upto-risen bs c (raised c high) (upto-here c high))
    go false e k ih = ih k

pub risen-same : (bs : List ℕ) (high : Option ℕ) → ((b : ℕ) → has bs b ≡ true → IsUpTo high b) → risen high bs ≡ high
risen-same [] high h = refl
risen-same (b ∷ bs) high h =
    let first : raised b high ≡ high = raised-same b high (h b (rw (eq-eqb b b refl) refl)) in
    ap (λ (x : Option ℕ). risen x bs) first ∙ risen-same bs high (λ c k. h c (later (b == c) (has bs c) k))
  where
    later : (x y : Bool) → y ≡ true → (x || y) ≡ true
    later true y e = refl
    later false y e = e

-- the highest time of a destination is at least each closed bucket with counted samples
pub high-covers : (o : Option Rule) (high : Option ℕ) (b : ℕ) → is_row_by o b ≡ true → IsUpTo (high_by o high) b
high-covers None high b h = absurd (false≢true h)
high-covers (Some r) high b h = risen-covers (filter (is_closed r) (starts r.grid r.seen)) b high (has-told r b ∙ h)

pub high-same : (o : Option Rule) (high : Option ℕ) → ((b : ℕ) → is_row_by o b ≡ true → IsUpTo high b) → high_by o high ≡ high
high-same None high h = refl
high-same (Some r) high h = risen-same (filter (is_closed r) (starts r.grid r.seen)) high (λ b k. h b (sym (has-told r b) ∙ k))

pub upto-high : (o : Option Rule) (high : Option ℕ) (u : ℕ) → IsUpTo high u → IsUpTo (high_by o high) u
upto-high None high u h = h
upto-high (Some r) high u h = upto-risen (filter (is_closed r) (starts r.grid r.seen)) u high h

-- ---- each record

-- a rule that counts fewer samples has fewer rows
pub told-cleared : (test : ℕ → Bool) (o : Option Rule) (b : ℕ) → is_row_by (option_map (cleared test) o) b ≡ true → is_row_by o b ≡ true
told-cleared test None b h = h
told-cleared test (Some r) b h =
    let parts : (is_closed r b ≡ true) × (has_members (cleared test r) b ≡ true) = and_parts (is_closed r b) (has_members (cleared test r) b) h in
    and_from (is_closed r b) (has_members r b) parts.0
    (any-within r.grid b (λ t. not (test (start r.grid t) && is_closed r (start r.grid t))) r.seen parts.1)

option-map-twice : {X Y Z : Type 0} (f : Y → Z) (g : X → Y) (o : Option X) → option_map f (option_map g o) ≡ option_map (λ x. f (g x)) o
option-map-twice f g None = refl
option-map-twice f g (Some x) = refl

-- the record of a key after settling
abbrev pub settled_record : State → Key → Record → Record
settled_record m k d = expire_record (tidied m) (tidied_by (rule_into m k) d)

pub get-tidied : (m : State) (k : Key) → get k (tidied m) ≡ option_map (tidied_by (rule_into m k)) (get k m)
get-tidied m k = get-each (λ j d. tidied_by (rule_into m j) d) k m

pub get-settled : (m : State) (k : Key) → get k (settled m) ≡ option_map (settled_record m k) (get k m)
get-settled m k =
    get-each (λ j d. expire_record (tidied m) d) k (tidied m)
    ∙ ap (option_map (expire_record (tidied m))) (get-tidied m k)
    ∙ option-map-twice (expire_record (tidied m)) (tidied_by (rule_into m k)) (get k m)

pub tidied-keeps : (m : State) → IsReshape (λ k d. tidied_by (rule_into m k) d) (λ k d r. r)
tidied-keeps m = record { rules = λ k d. sym (map-id d.rules); dest = λ k d r. refl }

pub expire-keeps : (m : State) → IsReshape (λ k d. expire_record m d) (λ k d r. expired_in m r)
expire-keeps m = record { rules = λ k d. refl; dest = λ k d r. refl }

option-map-id : (o : Option Rule) → option_map (λ (r : Rule). r) o ≡ o
option-map-id None = refl
option-map-id (Some r) = refl

pub rule-tidied : (m : State) (k : Key) → rule_into (tidied m) k ≡ rule_into m k
rule-tidied m k = rule-uniform (λ j d. tidied_by (rule_into m j) d) (λ r. r) (tidied-keeps m) k m ∙ option-map-id (rule_into m k)

pub rule-settled : (m : State) (k : Key) → rule_into (settled m) k ≡ option_map (expired_in (tidied m)) (rule_into m k)
rule-settled m k =
    rule-uniform (λ j d. expire_record (tidied m) d) (expired_in (tidied m)) (expire-keeps (tidied m)) k (tidied m)
    ∙ ap (option_map (expired_in (tidied m))) (rule-tidied m k)

-- expiry changes no edge
pub edge-expired : (m n : State) (k : Key) → edge_at (get k (each (λ j d. expire_record m d) n)) ≡ edge_at (get k n)
edge-expired m n k = ap edge_at (get-each (λ j d. expire_record m d) k n) ∙ go (get k n)
  where
    go : (o : Option Record) → edge_at (option_map (expire_record m) o) ≡ edge_at o
    go None = refl
    go (Some d) = refl

told-expired : (n : State) (o : Option Rule) (b : ℕ) → is_row_by (option_map (expired_in n) o) b ≡ true → is_row_by o b ≡ true
told-expired n None b h = h
told-expired n (Some r) b h = told-cleared (λ c. nat_lt c (edge_at (get r.dest n))) (Some r) b h

-- the test that a tidied record's own samples have passed
abbrev pub stays : (low : ℕ) → Option Rule → ℕ → Bool
stays low o t = nat_le low t && not (is_row_by o t)

-- a record that is tidied by a rule is tidied by one with fewer rows
tidied-again : (n : State) (o q : Option Rule) (d : Record) → ((b : ℕ) → is_row_by q b ≡ true → is_row_by o b ≡ true) →
    tidied_by q (expire_record n (tidied_by o d)) ≡ expire_record n (tidied_by o d)
tidied-again n o q d less =
    let high : high_by q (high_by o d.high) ≡ high_by o d.high = high-same q (high_by o d.high) (λ b h. high-covers o d.high b (less b h)) in
    let low : edge (risen_by q (tidied_by o d)) ≡ edge (risen_by o d) = ap (edge_of d.options.retention) high in
    let plain : at_times (stays (edge (risen_by q (tidied_by o d))) q) (at_times (stays (edge (risen_by o d)) o) d.plain) ≡ at_times (stays (edge (risen_by o d)) o) d.plain =
    times-within (stays (edge (risen_by q (tidied_by o d))) q) (stays (edge (risen_by o d)) o) d.plain
    (λ t h. weaker t (and_parts (nat_le (edge (risen_by o d)) t) (not (is_row_by o t)) h) low) in
    λ i. record (expire_record n (tidied_by o d)) { high = high i; plain = plain i }
  where
    fewer : (t : ℕ) → not (is_row_by o t) ≡ true → not (is_row_by q t) ≡ true
    fewer t h = go (is_row_by q t) (is_row_by o t) refl refl h
      where
        go : (x y : Bool) → is_row_by q t ≡ x → is_row_by o t ≡ y → not y ≡ true → not x ≡ true
        go true true e f k = k
        go true false e f k = absurd (false≢true (sym f ∙ less t e))
        go false y e f k = refl

    weaker : (t : ℕ) → (nat_le (edge (risen_by o d)) t ≡ true) × (not (is_row_by o t) ≡ true) → edge (risen_by q (tidied_by o d)) ≡ edge (risen_by o d) →
        stays (edge (risen_by q (tidied_by o d))) q t ≡ true
    weaker t h low = and_from (nat_le (edge (risen_by q (tidied_by o d))) t) (not (is_row_by q t)) (ap (λ (x : ℕ). nat_le x t) low ∙ h.0) (fewer t h.1)

-- what is settled is tidy
pub settled-tidy : (m : State) → tidied (settled m) ≡ settled m
settled-tidy m = maps-same (tidied (settled m)) (settled m) (λ k. get-tidied (settled m) k ∙ ap (option_map (tidied_by (rule_into (settled m) k))) (get-settled m k) ∙ go k (get k m) ∙ sym (get-settled m k))
  where
    go : (k : Key) (o : Option Record) → option_map (tidied_by (rule_into (settled m) k)) (option_map (settled_record m k) o) ≡ option_map (settled_record m k) o
    go k None = refl
    go k (Some d) = ap (λ (x : Record). Some x)
        (tidied-again (tidied m) (rule_into m k) (rule_into (settled m) k) d
        (λ b h. told-expired (tidied m) (rule_into m k) b (ap (λ (q : Option Rule). is_row_by q b) (sym (rule-settled m k)) ∙ h)))

-- expiry by the same edge is idempotent
expired-twice : (low : ℕ) (r : Rule) → expired low (expired low r) ≡ expired low r
expired-twice low r = λ i. record r { seen = same i }
  where
    same : at_times (λ t. not (nat_lt (start r.grid t) low && is_closed r (start r.grid t))) (at_times (λ t. not (nat_lt (start r.grid t) low && is_closed r (start r.grid t))) r.seen) ≡ at_times (λ t. not (nat_lt (start r.grid t) low && is_closed r (start r.grid t))) r.seen
    same = times-within (λ t. not (nat_lt (start r.grid t) low && is_closed r (start r.grid t))) (λ t. not (nat_lt (start r.grid t) low && is_closed r (start r.grid t))) r.seen (λ t h. h)

-- Settling is idempotent.
pub settled-twice : (m : State) → settled (settled m) ≡ settled m
settled-twice m =
    ap (λ (x : State). each (λ k d. expire_record x d) x) (settled-tidy m)
    ∙ maps-same (each (λ k d. expire_record (settled m) d) (settled m)) (settled m)
    (λ k. get-each (λ j d. expire_record (settled m) d) k (settled m) ∙ ap (option_map (expire_record (settled m))) (get-settled m k) ∙ go k (get k m) ∙ sym (get-settled m k))
  where
    same_edges : (k : Key) → edge_at (get k (settled m)) ≡ edge_at (get k (tidied m))
    same_edges k = edge-expired (tidied m) (tidied m) k

    rules : (rs : List Rule) → map (expired_in (settled m)) (map (expired_in (tidied m)) rs) ≡ map (expired_in (tidied m)) rs
    rules [] = refl
    rules (r ∷ rs) =
        let first : expired_in (settled m) (expired_in (tidied m) r) ≡ expired_in (tidied m) r =
        ap (λ (low : ℕ). expired low (expired_in (tidied m) r)) (same_edges r.dest) ∙ expired-twice (edge_at (get r.dest (tidied m))) r in
        let rest : map (expired_in (settled m)) (map (expired_in (tidied m)) rs) ≡ map (expired_in (tidied m)) rs = rules rs in
        λ i. first i ∷ rest i

    go : (k : Key) (o : Option Record) → option_map (expire_record (settled m)) (option_map (settled_record m k) o) ≡ option_map (settled_record m k) o
    go k None = refl
    go k (Some d) = λ i. Some (record (settled_record m k d) { rules = rules d.rules i })
