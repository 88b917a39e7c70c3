-- The update of a destination: after a command on its source, its stored series has the new rows at their times.
use Rattle.std.proofs.Common.{◌≡◌, ℕ, ◌≤◌, Bool, true, false, not, ◌||◌, ◌==◌, nat_le, if◌then◌else◌, List, [], ◌∷◌, map, filter, Option, Some, None, is_some, option_map, refl, sym, ap, ◌∙◌, arith, leb-true, le-leb}
use Rattle.std.specs.Option.{option_or}
use Rattle.std.proofs.lemmas.Bool.{false≢true}
use Rattle.ts_spec.specs.Sample.{Point, at, at_times, put_all}
use Rattle.ts_spec.specs.Bucket.{starts}
use Rattle.ts_spec.specs.Key.{Key}
use Rattle.ts_spec.specs.Keyed.{get}
use Rattle.ts_spec.specs.State.{Rule, Record, State, Link, link_to, rule_into, edge, edge_of}
use Rattle.ts_spec.specs.Rules.{is_closed, has_row_of, is_row_by, bucket_sample, raised, risen, high_by, lost_by, shown, shown_by, settled}
use Rattle.ts_spec.specs.Valid.{EachRecord, IsUpTo, IsSound}
use Rattle.ts_spec.specs.StoredSeries.{stored_record, kept}
use Rattle.ts_spec.specs.StoredUpdates.{high_after_rows, updated_list, updated_series}
use Rattle.ts_spec.proofs.Samples.{at-times, at-put_all, ascending-times, ascending-put_all, ascending-same}
use Rattle.ts_spec.proofs.Shows.{has, has-told, at-shown, ascending-shown}
use Rattle.ts_spec.proofs.Settles.{upto-risen, risen-covers, risen-same}
use Rattle.ts_spec.proofs.Tidy.{high-tidy}
use Rattle.ts_spec.proofs.Bodies.{bodies}
use Rattle.ts_spec.proofs.Exact.{IsDone, dest-rule, dest-other}
use Rattle.ts_spec.proofs.ShownAfter.{tells}
use Rattle.ts_spec.proofs.ClientChanges.{ascending-key, edge-raised, shown-dest}
use Rattle.ts_spec.proofs.StoredBodies.{kept-bodies}

-- A rule r becomes r1 by a command on its source. At times in `gone`, r1 has exactly the new rows, and at others
-- either a new row or that of r.
-- Without a row, the destination loses its own samples exactly at the times in `gone`.
pub record IsUpdate (r r1 : Rule) (born : ℕ) (lost gone : ℕ → Bool) (rows : List Point) : Type 0 where
  pub told : (t : ℕ) → tells r1 born t ≡ option_or (at t rows) (if gone t then None else tells r born t)
  pub own : (t : ℕ) → at t rows ≡ None → lost t ≡ gone t

-- ---- the highest time

raised-swap : (a b : ℕ) (high : Option ℕ) → raised a (raised b high) ≡ raised b (raised a high)
raised-swap a b None = ap (λ (x : ℕ). Some x) (omega arith)
raised-swap a b (Some h) = ap (λ (x : ℕ). Some x) (omega arith)

risen-raised : (bs : List ℕ) (a : ℕ) (high : Option ℕ) → risen (raised a high) bs ≡ raised a (risen high bs)
risen-raised [] a high = refl
risen-raised (b ∷ bs) a high = ap (λ (x : Option ℕ). risen x bs) (raised-swap b a high) ∙ risen-raised bs a (raised b high)

risen-swap : (bs cs : List ℕ) (high : Option ℕ) → risen (risen high bs) cs ≡ risen (risen high cs) bs
risen-swap [] cs high = refl
risen-swap (b ∷ bs) cs high = risen-swap bs cs (raised b high) ∙ ap (λ (x : Option ℕ). risen x bs) (risen-raised cs b high)

-- raised by either of two lists, each covered by what the other raises
pub risen-alike : (bs cs : List ℕ) (high : Option ℕ) → ((b : ℕ) → has bs b ≡ true → IsUpTo (risen high cs) b) → ((c : ℕ) → has cs c ≡ true → IsUpTo (risen high bs) c) →
    risen high bs ≡ risen high cs
risen-alike bs cs high f g = sym (risen-same cs (risen high bs) g) ∙ risen-swap bs cs high ∙ risen-same bs (risen high cs) f

-- the times of rows
abbrev pub times_of : List Point → List ℕ
times_of rows = map (λ p. p.time) rows

pub high_after_rows-risen : (rows : List Point) (high : Option ℕ) → high_after_rows rows high ≡ risen high (times_of rows)
high_after_rows-risen [] high = refl
high_after_rows-risen (p ∷ rows) high = high_after_rows-risen rows (raised p.time high)

pub has-times : (b : ℕ) (rows : List Point) → has (times_of rows) b ≡ is_some (at b rows)
has-times b [] = refl
has-times b (p ∷ rows) = go (p.time == b) (has-times b rows)
  where
    go : (x : Bool) → has (times_of rows) b ≡ is_some (at b rows) → (x || has (times_of rows) b) ≡ is_some (if x then Some p else at b rows)
    go true ih = refl
    go false ih = ih

some-tells : (r : Rule) (born t : ℕ) → is_some (tells r born t) ≡ has_row_of r t
some-tells r born t = go (has_row_of r t)
  where
    go : (b : Bool) → is_some (if b then Some (bucket_sample r born t) else None) ≡ b
    go true = refl
    go false = refl

-- The highest time of a destination rises to the rows.
pub high-updated_list : (r r1 : Rule) (born : ℕ) (lost gone : ℕ → Bool) (rows : List Point) (high : Option ℕ) → IsUpdate r r1 born lost gone rows →
    ((b : ℕ) → has_row_of r b ≡ true → IsUpTo high b) → high_by (Some r1) high ≡ high_after_rows rows high
high-updated_list r r1 born lost gone rows high h up =
    risen-alike (filter (is_closed r1) (starts r1.grid r1.seen)) (times_of rows) high
    (λ b x. covered b (at b rows) refl (gone b) (has_row_of r b) refl (sym (told-by b) ∙ sym (has-told r1 b) ∙ x))
    (λ b x. risen-covers (filter (is_closed r1) (starts r1.grid r1.seen)) b high (has-told r1 b ∙ told-by b ∙ row b (at b rows) (sym (has-times b rows) ∙ x)))
    ∙ sym (high_after_rows-risen rows high)
  where
    -- whether r1 has a row
    told-by : (b : ℕ) → has_row_of r1 b ≡ is_some (option_or (at b rows) (if gone b then None else tells r born b))
    told-by b = sym (some-tells r1 born b) ∙ ap is_some (h.told b)

    covered : (b : ℕ) (o : Option Point) → at b rows ≡ o → (x y : Bool) → has_row_of r b ≡ y →
        is_some (option_or o (if x then None else (if y then Some (bucket_sample r born b) else None))) ≡ true → IsUpTo (risen high (times_of rows)) b
    covered b (Some p) e x y w z = risen-covers (times_of rows) b high (has-times b rows ∙ ap is_some e)
    covered b None e false true w z = upto-risen (times_of rows) b high (up b w)
    covered b None e false false w z = absurd (false≢true z)
    covered b None e true y w z = absurd (false≢true z)

    row : (b : ℕ) (o : Option Point) → is_some o ≡ true → is_some (option_or o (if gone b then None else tells r born b)) ≡ true
    row b (Some p) z = refl
    row b None z = absurd (false≢true z)

-- ---- the list

high_after_rows-up : (retention : ℕ) (rows : List Point) (high : Option ℕ) → edge_of retention high ≤ edge_of retention (high_after_rows rows high)
high_after_rows-up retention [] high = omega arith
high_after_rows-up retention (p ∷ rows) high =
    let first : edge_of retention high ≤ edge_of retention (raised p.time high) = edge-raised retention p.time high in
    let rest : edge_of retention (raised p.time high) ≤ edge_of retention (high_after_rows rows (raised p.time high)) = high_after_rows-up retention rows (raised p.time high) in
    omega arith

-- what an updated destination shows at a time
at-updated_list : (r r1 : Rule) (lost gone : ℕ → Bool) (rows : List Point) (e : Record) (t : ℕ) → IsUpdate r r1 e.born lost gone rows →
    at t (updated_list e.options.retention e.high gone rows (shown_by (Some r) e)) ≡
    (if nat_le (edge_of e.options.retention (high_after_rows rows e.high)) t then option_or (tells r1 e.born t) (if not (lost t) then at t e.plain else None) else None)
at-updated_list r r1 lost gone rows e t h =
    at-times t (nat_le (edge_of e.options.retention (high_after_rows rows e.high))) (put_all rows (at_times (λ u. not (gone u)) (shown_by (Some r) e)))
    ∙ go (nat_le (edge_of e.options.retention (high_after_rows rows e.high)) t) refl
  where
    cases : (o : Option Point) → at t rows ≡ o → (x y : Bool) → gone t ≡ x → lost t ≡ y → option_or o (if not x then option_or (tells r e.born t) (at t e.plain) else None) ≡
        option_or (option_or o (if x then None else tells r e.born t)) (if not y then at t e.plain else None)
    cases (Some p) w x y u v = refl
    cases None w true true u v = refl
    cases None w false false u v = refl
    cases None w true false u v = absurd (false≢true (sym v ∙ h.own t w ∙ u))
    cases None w false true u v = absurd (false≢true (sym u ∙ sym (h.own t w) ∙ v))

    go : (b : Bool) → nat_le (edge_of e.options.retention (high_after_rows rows e.high)) t ≡ b →
        (if b then at t (put_all rows (at_times (λ u. not (gone u)) (shown_by (Some r) e))) else None) ≡
        (if b then option_or (tells r1 e.born t) (if not (lost t) then at t e.plain else None) else None)
    go false x = refl
    go true x =
        let up : edge e ≤ edge_of e.options.retention (high_after_rows rows e.high) = high_after_rows-up e.options.retention rows e.high in
        let low : edge_of e.options.retention (high_after_rows rows e.high) ≤ t = leb-true (edge_of e.options.retention (high_after_rows rows e.high)) t x in
        at-put_all t rows (at_times (λ u. not (gone u)) (shown_by (Some r) e))
        ∙ ap (option_or (at t rows))
        (at-times t (λ u. not (gone u)) (shown_by (Some r) e)
        ∙ ap (λ (o : Option Point). if not (gone t) then o else None)
        (at-shown r e t ∙ ap (λ (b : Bool). if b then option_or (tells r e.born t) (at t e.plain) else None) (le-leb (edge e) t (omega arith))))
        ∙ cases (at t rows) refl (gone t) (lost t) refl refl
        ∙ ap (λ (o : Option Point). option_or o (if not (lost t) then at t e.plain else None)) (sym (h.told t))

-- ---- a destination

module _ (m : State) (key : Key) (d : Record) (f : Record → Record) (g : Record → Rule → Rule) (touches : Rule → ℕ → Bool) (test : ℕ → Bool) (h : IsDone m key d f g) where
  -- The stored series of a destination after a command on its source is the old one, updated.
  pub kept-updated_list : EachRecord (λ k c. IsSound c) m → EachRecord (λ k c. IsSound c) (settled (bodies key f touches test m)) →
      (k : Key) (r : Rule) (e : Record) (gone : ℕ → Bool) (rows : List Point) → link_to m k ≡ Some (record { source = key; rule = r }) → get k m ≡ Some e →
      IsUpdate r (g d r) e.born (lost_by key touches (Some (record { source = key; rule = g d r }))) gone rows →
      get k (kept (settled (bodies key f touches test m))) ≡ Some (updated_series gone rows (stored_record (Some (record { source = key; rule = r })) e))
  kept-updated_list sound sound_after k r e gone rows x there mends =
      kept-bodies key f g touches test m h.keeps k e there
      ∙ ap (λ (b : Bool). Some (record (stored_record (link_to m k) (if b then f e else e)) {
        list = shown (settled (bodies key f touches test m)) k;
        high = high_by (rule_into (bodies key f touches test m) k) (if b then f e else e).high;
      })) (dest-other m key d f g touches test h k r x)
      ∙ ap (λ (o : Option Link). Some (record (stored_record o e) { list = shown (settled (bodies key f touches test m)) k; high = high_by (rule_into (bodies key f touches test m) k) e.high })) x
      ∙ (λ i. Some (record (stored_record (Some (record { source = key; rule = r })) e) { list = list i; high = high i }))
    where
      risen : high_by (Some (g d r)) e.high ≡ high_after_rows rows e.high
      risen = high-updated_list r (g d r) e.born (lost_by key touches (Some (record { source = key; rule = g d r }))) gone rows e.high mends
          (λ b y. high-tidy m k e b h.settled there (ap (λ (o : Option Link). is_row_by (option_map (λ (l : Link). l.rule) o) b) x ∙ y))

      high : high_by (rule_into (bodies key f touches test m) k) e.high ≡ high_after_rows rows e.high
      high = ap (λ (o : Option Rule). high_by o e.high) (dest-rule m key d f g touches test h k r x (dest-other m key d f g touches test h k r x)) ∙ risen

      list : shown (settled (bodies key f touches test m)) k ≡ updated_list e.options.retention e.high gone rows (shown_by (Some r) e)
      list =
          ascending-same (shown (settled (bodies key f touches test m)) k) (updated_list e.options.retention e.high gone rows (shown_by (Some r) e))
          (ascending-key (settled (bodies key f touches test m)) k sound_after)
          (ascending-times (nat_le (edge_of e.options.retention (high_after_rows rows e.high))) (put_all rows (at_times (λ t. not (gone t)) (shown_by (Some r) e)))
          (ascending-put_all rows (at_times (λ t. not (gone t)) (shown_by (Some r) e))
          (ascending-times (λ t. not (gone t)) (shown_by (Some r) e) (ascending-shown (Some r) e (sound k e there).ascending))))
          (λ t. shown-dest m key d f g touches test h k r e x there t
          ∙ ap (λ (o : Option ℕ). if nat_le (edge_of e.options.retention o) t then option_or (tells (g d r) e.born t) (if not (lost_by key touches (Some (record { source = key; rule = g d r })) t) then at t e.plain else None) else None) risen
          ∙ sym (at-updated_list r (g d r) (lost_by key touches (Some (record { source = key; rule = g d r }))) gone rows e t mends))
