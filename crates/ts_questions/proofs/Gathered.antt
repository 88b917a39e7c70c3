-- Adding series to groups, and writing groups one by one.
use Rattle.std.proofs.Common.{Bor, ◌≡◌, ◌||◌, ℕ, ◌+◌, ◌≤◌, Bool, true, false, All, List, [], ◌∷◌, ◌++◌, map, length, refl, sym, ap, subst, ◌∙◌, append-nil, append_assoc, arith}
use Rattle.std.specs.Prelude.{Option, None, Some, option_map, is_none, is_some, if◌then◌else◌, sum_by, Result, Ok, Err, OnOk}
use Rattle.std.specs.Result.{is_err}
use Rattle.std.specs.declared.alloc.AllocError.{AllocError}
use Rattle.std.specs.List.{list_any}
use Rattle.std.specs.Option.{option_copied}
use Rattle.std.proofs.lemmas.List.{length-map}
use Rattle.std.proofs.lemmas.List.Elements.{All-filter}
use Rattle.std.proofs.lemmas.List.Sums.{sum_by-cons}
use Rattle.std.specs.Fmt.{decimal}
use Rattle.ts_spec.specs.Answer.{Row, answer}
use Rattle.ts_spec.specs.Command.{Query}
use Rattle.ts_spec.specs.Filter.{value_of}
use Rattle.ts_spec.specs.Groups.{Labelled, is_value}
use Rattle.ts_spec.specs.Key.{Key}
use Rattle.ts_spec.specs.Keyed.{get}
use Rattle.ts_spec.specs.StoredQueries.{stored_asked, stored_labels_at}
use Rattle.ts_spec.specs.Replies.{array}
use Rattle.ts_spec.specs.Text.{Reply, line_text, text}
use Rattle.ts_multi.proofs.Texts.{GoesOn, goes-on, whole}
use Rattle.ts_group.specs.Grouped.{grouped}
use Rattle.ts_group.specs.Sorted.{having_of, values_of, by_values_of}
use Rattle.ts_group.specs.declared.one_group.Group.{Group}
use Rattle.ts_group.proofs.Sorted.{sum-sorted}
use Rattle.ts_sample.specs.declared.sample.Id.{Id}
use Rattle.ts_range.specs.Query.{query_of}
use Rattle.ts_db.specs.Faults.{key_of_id}
use Rattle.ts_db.specs.DbState.{DbView}
use Rattle.ts_questions.specs.declared.group_query.GroupQuery.{GroupQuery}
use Rattle.ts_questions.specs.Bounds.{series_query_steps}
use Rattle.ts_questions.specs.GroupQuery.{IsIdOfOneKey, AreAddedTo, has_label, alone, series_at, is_group_refused, group_steps, numbered, is_too_long, id_steps, ids_steps, refusals, one_if, group_reply, groups_of_ids}

-- there is no series exactly where its rows are too many
module _ (db_view : DbView) (latest : Bool) (q : Query) (key : Key) where
  abbrev with_rows : List Row → Labelled
  with_rows rows = record { key = key; labels = stored_labels_at (get key db_view.keys); rows = rows }

  pub series-refused : is_none (answer db_view.limits.empty_rows q (stored_asked db_view.keys latest key)) ≡ is_none (series_at db_view latest q key)
  series-refused = go (answer db_view.limits.empty_rows q (stored_asked db_view.keys latest key))
    where
      go : (o : Option (List Row)) → is_none o ≡ is_none (option_map with_rows o)
      go None = refl
      go (Some rows) = refl

-- there was memory
pub not-lost : (r : Result (Unit {0}) AllocError) (P : Type 0) → is_err r ≡ false → OnOk r P → P
not-lost (Ok done) P e h = h
not-lost (Err fault) P e h = absurd (cc e)

-- whether something is there
pub some-copied : {T : Type 0} (o : Option (Bor T)) → is_some o ≡ is_some (option_copied o)
some-copied None = refl
some-copied (Some x) = refl

none-alone : (o : Option Labelled) → is_none o ≡ is_none (option_map alone o)
none-alone None = refl
none-alone (Some m) = refl

module _ (o : Option Labelled) where
  -- of a key without the label nothing is told
  pub without-too-much : (b : Bool) → b ≡ false → is_none (if b then option_map alone o else Some []) ≡ false
  without-too-much b is = rw is refl

  -- of one that has it, the key itself
  pub with-too-much : (b : Bool) → b ≡ true → is_none o ≡ is_none (if b then option_map alone o else Some [])
  with-too-much b is = rw is (none-alone o)

-- steps are taken only of keys with the label
pub steps-with : (b : Bool) (old new most : ℕ) → b ≡ true → new ≤ old + most → new ≤ old + (if b then most else 0)
steps-with b old new most is few = rw is few

pub steps-without : (b : Bool) (now most : ℕ) → now ≤ now + (if b then most else 0)
steps-without true now most = omega arith
steps-without false now most = omega arith

fewer : (b : Bool) (most : ℕ) → (if b then most else 0) ≤ most
fewer true most = omega arith
fewer false most = omega arith

-- and no more than the question takes of each
pub groups-few : (g : GroupQuery) (db_view : DbView) (ks : List Key) → sum_by (group_steps g db_view) ks ≤ sum_by (λ key. series_query_steps db_view key g.query.from g.query.to) ks
groups-few g db_view [] = omega arith
groups-few g db_view (k ∷ ks) =
    let most = λ (key : Key). series_query_steps db_view key g.query.from g.query.to in
    omega (arith, sum_by-cons (group_steps g db_view) k ks, sum_by-cons most k ks, groups-few g db_view ks, fewer (has_label db_view g.by.label k) (most k))

pub fewer-steps : (old new selection some all : ℕ) → new ≤ old + (selection + some) → some ≤ all → new ≤ old + (selection + all)
fewer-steps old new selection some all few less = omega (arith, few, less)

module _ (db_view : DbView) (g : GroupQuery) where
  abbrev long : Id → Bool
  long = is_too_long db_view g

  abbrev most : Id → ℕ
  most = id_steps db_view g

  abbrev series : Id → Labelled
  series = numbered db_view g

  -- ---- the series of one group

  -- the group has some series, which with those that are left are all of these
  pub record IsOn (now : Group) (rest : List Id) (all : List Labelled) : Type 0 where
    pub done : List Labelled
    pub is : now ≡ grouped done
    pub both : done ++ map series rest ≡ all

  -- the series of these numbers are left, and of the others none has too many rows
  pub record AreLeft (ns rest : List Id) (start now : Group) (before lost : Bool) (old steps : ℕ) : Type 0 where
    pub none : list_any long rest ≡ list_any long ns
    pub added : lost ≡ false → (ms : List Labelled) → start ≡ grouped ms → IsOn now rest (ms ++ map series ns)
    pub stays : lost ≡ false → before ≡ false
    pub few : steps + sum_by most rest ≤ old + sum_by most ns

  pub left-all : (ns : List Id) (start : Group) (before : Bool) (old : ℕ) → AreLeft ns ns start start before before old old
  left-all ns start before old = record {
    none = refl;
    added = λ kept ms is. record { done = ms; is = is; both = refl };
    stays = λ kept. kept;
    few = omega arith;
  }

  not-first : (n : Id) (rest more : List Id) → rest ≡ n ∷ more → long n ≡ false → list_any long more ≡ list_any long rest
  not-first n rest more split short = sym (ap (λ (b : Bool). b || list_any long more) short) ∙ ap (list_any long) (sym split)

  module _ (ns rest more : List Id) (n : Id) (start now next : Group) (before lost later : Bool) (old steps new : ℕ) (split : rest ≡ n ∷ more) (left : AreLeft ns rest start now before lost old steps) where
    -- one series more
    pub left-less : long n ≡ false → (later ≡ false → AreAddedTo db_view g (n ∷ []) now next) → (later ≡ false → lost ≡ false) → new ≤ steps + most n
        → AreLeft ns more start next before later old new
    left-less short adds stay one = record {
      none = not-first n rest more split short ∙ left.none;
      added = λ kept ms is.
          let on = left.added (stay kept) ms is in
          record {
            done = on.done ++ series n ∷ [];
            is = adds kept on.done on.is;
            both = append_assoc on.done (series n ∷ []) (map series more) ∙ ap (λ (l : List Id). on.done ++ map series l) (sym split) ∙ on.both;
          };
      stays = λ kept. left.stays (stay kept);
      few = omega (arith, left.few, one, sum_by-cons most n more, ap (sum_by most) split);
    }

    -- the rows of one are too many
    pub left-long : long n ≡ true → list_any long ns ≡ true
    left-long is = sym left.none ∙ ap (list_any long) split ∙ ap (λ (b : Bool). b || list_any long more) is

    pub left-long-few : new ≤ steps + most n → new ≤ old + sum_by most ns
    left-long-few one = omega (arith, left.few, one, sum_by-cons most n more, ap (sum_by most) split)

  module _ (ns rest : List Id) (start now : Group) (before lost : Bool) (old steps : ℕ) (none : rest ≡ []) (left : AreLeft ns rest start now before lost old steps) where
    -- none is left
    pub left-told : list_any long ns ≡ false
    left-told = sym left.none ∙ ap (list_any long) none

    pub left-added : lost ≡ false → AreAddedTo db_view g ns start now
    left-added kept = λ ms is.
        let on = left.added kept ms is in
        on.is ∙ ap grouped (sym (append-nil on.done) ∙ ap (λ (l : List Id). on.done ++ map series l) (sym none) ∙ on.both)

    pub left-few : steps ≤ old + sum_by most ns
    left-few = omega (arith, left.few)

  -- ---- all groups

  abbrev having : List Id → List ℕ → List Id
  having ns v = having_of series g.by.label v ns

  abbrev values : List Id → List (List ℕ)
  values ns = values_of series g.by.label ns

  abbrev ones : List Id → ℕ
  ones ns = sum_by (λ n. one_if (long n)) ns

  none-ones : (ns : List Id) → list_any long ns ≡ false → ones ns ≡ 0
  none-ones [] e = refl
  none-ones (n ∷ ns) e = go (long n) e (none-ones ns) (sum_by-cons (λ m. one_if (long m)) n ns)
    where
      go : (b : Bool) → (b || list_any long ns) ≡ false → (list_any long ns ≡ false → ones ns ≡ 0) → ones (n ∷ ns) ≡ one_if b + ones ns → ones (n ∷ ns) ≡ 0
      go true d ih sum = absurd (cc d)
      go false d ih sum = omega (arith, sum, ih d)

  some-ones : (ns : List Id) → list_any long ns ≡ true → 1 ≤ ones ns
  some-ones [] e = absurd (cc e)
  some-ones (n ∷ ns) e = go (long n) e (some-ones ns) (sum_by-cons (λ m. one_if (long m)) n ns)
    where
      go : (b : Bool) → (b || list_any long ns) ≡ true → (list_any long ns ≡ true → 1 ≤ ones ns) → ones (n ∷ ns) ≡ one_if b + ones ns → 1 ≤ ones (n ∷ ns)
      go true d ih sum = omega (arith, sum)
      go false d ih sum = omega (arith, sum, ih d)

  abbrev shown : List Id → List ℕ → Reply
  shown ns v = group_reply db_view g v (having ns v)

  -- these groups are to come; they are written after the others, of which none was refused
  pub record AreToCome (ns : List Id) (es : List (List ℕ × List Id)) (start now : List ℕ) (first lost : Bool) (old steps : ℕ) : Type 0 where
    pub left : List (List ℕ)
    pub entries : es ≡ map (λ v. (v, having ns v)) left
    pub none : sum_by (λ v. ones (having ns v)) left ≡ sum_by (λ v. ones (having ns v)) (values ns)
    pub texts : lost ≡ false → GoesOn (shown ns) start now left (values ns)
    pub stays : lost ≡ false → first ≡ false
    pub few : steps + sum_by (λ v. sum_by most (having ns v)) left ≤ old + sum_by (λ v. sum_by most (having ns v)) (values ns)

  pub to-come-all : (ns : List Id) (es : List (List ℕ × List Id)) (start : List ℕ) (first : Bool) (old : ℕ) → es ≡ by_values_of series g.by.label ns → AreToCome ns es start start first first old old
  to-come-all ns es start first old are = record {
    left = values ns;
    entries = are;
    none = refl;
    texts = λ kept. refl;
    stays = λ kept. kept;
    few = omega arith;
  }

  -- the next one
  pub record IsNext (ns : List Id) (e : List ℕ × List Id) (rest : List (List ℕ × List Id)) (left : List (List ℕ)) : Type 0 where
    pub others : List (List ℕ)
    pub first : left ≡ e.0 ∷ others
    pub has : e.1 ≡ having ns e.0
    pub entries : rest ≡ map (λ v. (v, having ns v)) others

  next : (ns : List Id) (es rest : List (List ℕ × List Id)) (e : List ℕ × List Id) (left : List (List ℕ)) → es ≡ e ∷ rest → es ≡ map (λ v. (v, having ns v)) left → IsNext ns e rest left
  next ns es rest e [] split are = cc
  next ns es rest e (v ∷ vs) split are =
      let both : e ∷ rest ≡ (v, having ns v) ∷ map (λ w. (w, having ns w)) vs = sym split ∙ are in
      let one : e ≡ (v, having ns v) = cc in
      let others : rest ≡ map (λ w. (w, having ns w)) vs = cc in
      record {
        others = vs;
        first = ap (λ (d : List ℕ × List Id). d.0 ∷ vs) (sym one);
        has = ap (λ (d : List ℕ × List Id). d.1) one ∙ ap (λ (d : List ℕ × List Id). having ns d.0) (sym one);
        entries = others;
      }

  module _ (ns : List Id) (es rest : List (List ℕ × List Id)) (e : List ℕ × List Id) (start now : List ℕ) (first lost : Bool) (old steps : ℕ) (split : es ≡ e ∷ rest) (to_come : AreToCome ns es start now first lost old steps) where
    here : IsNext ns e rest to_come.left
    here = next ns es rest e to_come.left split to_come.entries

    -- its series are some of all
    pub next-numbered : All (IsIdOfOneKey db_view.ids) ns → All (IsIdOfOneKey db_view.ids) e.1
    next-numbered all =
        subst (All (IsIdOfOneKey db_view.ids)) (sym here.has) (All-filter (λ n. is_value e.0 (value_of g.by.label (series n).labels)) (IsIdOfOneKey db_view.ids) ns all)

    ones-split : sum_by (λ v. ones (having ns v)) (values ns) ≡ ones e.1 + sum_by (λ v. ones (having ns v)) here.others
    ones-split =
        sym to_come.none ∙ ap (sum_by (λ v. ones (having ns v))) here.first ∙ sum_by-cons (λ v. ones (having ns v)) e.0 here.others
        ∙ ap (λ (l : List Id). ones l + sum_by (λ v. ones (having ns v)) here.others) (sym here.has)

    steps-split : sum_by (λ v. sum_by most (having ns v)) to_come.left ≡ sum_by most e.1 + sum_by (λ v. sum_by most (having ns v)) here.others
    steps-split =
        ap (sum_by (λ v. sum_by most (having ns v))) here.first ∙ sum_by-cons (λ v. sum_by most (having ns v)) e.0 here.others
        ∙ ap (λ (l : List Id). sum_by most l + sum_by (λ v. sum_by most (having ns v)) here.others) (sym here.has)

    pub to-come-next : (after : List ℕ) (later : Bool) (new : ℕ) → list_any long e.1 ≡ false → (later ≡ false → after ≡ now ++ text (group_reply db_view g e.0 e.1)) → (later ≡ false → lost ≡ false)
        → new ≤ steps + sum_by most e.1 → AreToCome ns rest start after first later old new
    to-come-next after later new short adds stay one = record {
      left = here.others;
      entries = here.entries;
      none = omega (arith, ones-split, none-ones e.1 short);
      texts = λ kept. goes-on (shown ns) start now after e.0 to_come.left here.others (values ns) (to_come.texts (stay kept)) here.first
          (adds kept ∙ ap (λ (l : List Id). now ++ text (group_reply db_view g e.0 l)) here.has);
      stays = λ kept. to_come.stays (stay kept);
      few = omega (arith, to_come.few, steps-split, one);
    }

    -- the rows of one series are too many
    pub to-come-long : list_any long e.1 ≡ true → 1 ≤ refusals db_view g ns
    to-come-long is = omega (arith, sum-sorted series g.by.label (λ n. one_if (long n)) ns, ones-split, some-ones e.1 is)

    pub to-come-long-few : (new : ℕ) → new ≤ steps + sum_by most e.1 → new ≤ old + ids_steps db_view g ns
    to-come-long-few new one = omega (arith, sum-sorted series g.by.label most ns, to_come.few, steps-split, one)

  none-left : (ns : List Id) (left : List (List ℕ)) → [] ≡ map {B = List ℕ × List Id} (λ v. (v, having ns v)) left → left ≡ []
  none-left ns [] e = refl
  none-left ns (v ∷ vs) e = cc

  module _ (ns : List Id) (es : List (List ℕ × List Id)) (start now : List ℕ) (first lost : Bool) (old steps : ℕ) (none : es ≡ []) (to_come : AreToCome ns es start now first lost old steps) where
    no-more : to_come.left ≡ []
    no-more = none-left ns to_come.left (sym none ∙ to_come.entries)

    -- all are written
    pub come-told : refusals db_view g ns ≡ 0
    come-told = sym (sum-sorted series g.by.label (λ n. one_if (long n)) ns) ∙ sym to_come.none ∙ ap (sum_by (λ v. ones (having ns v))) no-more

    pub come-added : (before : List ℕ) (count : ℕ) (all : List (List ℕ × List Id)) → lost ≡ false → (first ≡ false → start ≡ before ++ line_text 42 (decimal count)) → count ≡ length all → all ≡ by_values_of series g.by.label ns
        → now ≡ before ++ text (array (groups_of_ids db_view g ns))
    come-added before count all kept begun many are =
        whole (shown ns) before start now count to_come.left (values ns) (to_come.texts kept) no-more (begun (to_come.stays kept))
        (many ∙ ap length are ∙ length-map (values ns) (λ v. (v, having ns v)))

    pub come-few : steps ≤ old + ids_steps db_view g ns
    come-few = omega (arith, sum-sorted series g.by.label most ns, to_come.few)

  -- ---- where memory was lost before any was written

  -- these numbers are left, and of the others none was refused
  pub record AreUnasked (ns rest : List Id) (old steps : ℕ) : Type 0 where
    pub none : refusals db_view g rest ≡ refusals db_view g ns
    pub few : steps + ids_steps db_view g rest ≤ old + ids_steps db_view g ns

  pub unasked-all : (ns : List Id) (old : ℕ) → AreUnasked ns ns old old
  unasked-all ns old = record { none = refl; few = omega arith }

  abbrev asked : Id → ℕ
  asked n = if has_label db_view g.by.label (key_of_id db_view.ids n) then one_if (long n) else 0

  abbrev taken : Id → ℕ
  taken n = if has_label db_view g.by.label (key_of_id db_view.ids n) then most n else 0

  refused-ones : (b : Bool) (o : Option Labelled) (r : Bool) → r ≡ is_none (if b then option_map alone o else Some []) → (l : Bool) → is_none o ≡ l → (if b then one_if l else 0) ≡ one_if r
  refused-ones false o r e l d = rw e refl
  refused-ones true None r e l d = rw (e, sym d) refl
  refused-ones true (Some m) r e l d = rw (e, sym d) refl

  -- whether a number is refused
  pub asked-one : (n : Id) (r : Bool) → r ≡ is_group_refused g db_view (key_of_id db_view.ids n) → asked n ≡ one_if r
  asked-one n r e =
      refused-ones (has_label db_view g.by.label (key_of_id db_view.ids n)) (series_at db_view g.latest (query_of g.query) (key_of_id db_view.ids n)) r e (long n)
      (sym (series-refused db_view g.latest (query_of g.query) (key_of_id db_view.ids n)))

  module _ (ns rest more : List Id) (n : Id) (old steps new : ℕ) (r : Bool) (split : rest ≡ n ∷ more) (left : AreUnasked ns rest old steps) (is : r ≡ is_group_refused g db_view (key_of_id db_view.ids n))
      (one : new ≤ steps + group_steps g db_view (key_of_id db_view.ids n)) where
    pub unasked-less : r ≡ false → AreUnasked ns more old new
    unasked-less short = record {
      none = omega (arith, left.none, ap (refusals db_view g) split, sum_by-cons asked n more, asked-one n r is ∙ ap one_if short);
      few = omega (arith, left.few, ap (ids_steps db_view g) split, sum_by-cons taken n more, one);
    }

    pub unasked-long : r ≡ true → 1 ≤ refusals db_view g ns
    unasked-long is_long = omega (arith, left.none, ap (refusals db_view g) split, sum_by-cons asked n more, asked-one n r is ∙ ap one_if is_long)

    pub unasked-few : new ≤ old + ids_steps db_view g ns
    unasked-few = omega (arith, left.few, ap (ids_steps db_view g) split, sum_by-cons taken n more, one)

  module _ (ns rest : List Id) (old steps : ℕ) (none : rest ≡ []) (left : AreUnasked ns rest old steps) where
    pub unasked-none : refusals db_view g ns ≡ 0
    unasked-none = sym left.none ∙ ap (refusals db_view g) none

    pub unasked-none-few : steps ≤ old + ids_steps db_view g ns
    unasked-none-few = omega (arith, left.few)
