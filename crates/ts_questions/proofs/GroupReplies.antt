-- Replies with GROUPBY are those of the specification.
use Rattle.std.proofs.Common.{◌≡◌, ◌+◌, ◌≤◌, inl, inr, Bool, true, false, ℕ, All, List, [], ◌∷◌, ◌++◌, map, refl, sym, ap, subst, ◌∙◌, arith}
use Rattle.std.specs.Prelude.{flat_map, filter, Option, None, Some, option_map, is_none, is_some, if◌then◌else◌, sum_by}
use Rattle.std.specs.List.{list_any}
use Rattle.std.proofs.lemmas.List.Elements.{All-head, All-tail}
use Rattle.std.proofs.lemmas.List.Sums.{sum_by-cons}
use Rattle.ts_spec.specs.declared.limits.Limits.{Limits}
use Rattle.ts_spec.specs.Answer.{Row, answer}
use Rattle.ts_spec.specs.Command.{Query}
use Rattle.ts_spec.specs.Filter.{Filter, selection, value_of}
use Rattle.ts_spec.specs.Groups.{Labelled, with_value, with_value_of, is_value, values, having, labelled, labelled_then, labelled_keys, group, groups, uncounted, ranges_response}
use Rattle.ts_spec.specs.Key.{Key, same}
use Rattle.ts_spec.specs.Keyed.{Keyed, get}
use Rattle.ts_spec.specs.StoredSeries.{StoredKeys, kept}
use Rattle.ts_spec.specs.StoredQueries.{stored_asked, stored_labels_at, stored_ranges_response, stored_selection}
use Rattle.ts_spec.specs.Queries.{members_response}
use Rattle.ts_spec.specs.Refusal.{EmptyRows}
use Rattle.ts_spec.specs.Replies.{member_reply, array, memory_reply, refusal_reply, reply_to}
use Rattle.ts_spec.specs.Response.{Response}
use Rattle.ts_spec.specs.State.{Label}
use Rattle.ts_spec.specs.Text.{Reply, text}
use Rattle.ts_spec.proofs.StoredAsked.{ranges-kept, selection-kept}
use Rattle.ts_labels.specs.Show.{show_of}
use Rattle.ts_range.specs.Query.{query_of}
use Rattle.ts_command.specs.GroupBy.{group_of}
use Rattle.ts_group.specs.Sorted.{having_of}
use Rattle.ts_group.proofs.Sorted.{having-series}
use Rattle.ts_sample.specs.declared.sample.Id.{Id}
use Rattle.ts_db.specs.Faults.{key_of_id}
use Rattle.ts_db.specs.DbState.{DbState, DbView, Represents, AreIdsOf, AllowsOutOfMemory}
use Rattle.ts_questions.specs.declared.group_query.GroupQuery.{GroupQuery}
use Rattle.ts_questions.specs.Answering.{IsReplyText, IsManyText}
use Rattle.ts_questions.specs.GroupQuery.{IsGroupQuery, IsIdOfOneKey, counted, has_label, alone, themselves, grouped_series_at, is_group_refused, group_steps, rows_at_id, rows_or_none, numbered, is_too_long, id_steps, ids_steps, one_if, refusals, group_reply, groups_of_ids, stored_groups, groups_response}
use Rattle.ts_questions.specs.Members.{reply_then, each_reply}
use Rattle.ts_questions.proofs.ManyReplies.{none-by, none-any}

-- all series that are told, one after another
abbrev flat : List (List Labelled) → List Labelled
flat all = flat_map themselves all

module _ (labels : Key → List Label) (rows : Key → Option (List Row)) (label : List ℕ) where
  -- what a key adds
  abbrev adds : Key → Option (List Labelled)
  adds k = if is_some (value_of label (labels k)) then option_map alone (option_map (λ rs. record { key = k; labels = labels k; rows = rs }) (rows k)) else Some []

  in_front : (k : Key) (r : Option (List Row)) (o : Option (List (List Labelled))) (x : Option (List Labelled)) → option_map flat o ≡ x
      → option_map flat (reply_then (option_map alone (option_map (λ rs. record { key = k; labels = labels k; rows = rs }) r)) o) ≡ labelled_then k (labels k) r x
  in_front k None o x is = refl
  in_front k (Some rs) None x is = ap (labelled_then k (labels k) (Some rs)) is
  in_front k (Some rs) (Some xs) x is = ap (labelled_then k (labels k) (Some rs)) is

  -- the series that are told are those of the keys with the label
  labelled-told : (ks : List Key) → option_map flat (each_reply adds ks) ≡ labelled labels rows (labelled_keys label labels ks)
  labelled-told [] = refl
  labelled-told (k ∷ ks) = go (is_some (value_of label (labels k))) (each_reply adds ks) (labelled_keys label labels ks) (labelled-told ks)
    where
      go : (b : Bool) (o : Option (List (List Labelled))) (rest : List Key) → option_map flat o ≡ labelled labels rows rest
          → option_map flat (reply_then (if b then option_map alone (option_map (λ rs. record { key = k; labels = labels k; rows = rs }) (rows k)) else Some []) o)
          ≡ labelled labels rows (if b then k ∷ rest else rest)
      go false None rest is = is
      go false (Some xs) rest is = is
      go true o rest is = in_front k (rows k) o (labelled labels rows rest) is

-- the keys of these numbers
keys-numbered : (ids : Keyed Id) (keys : List Key) (ns : List Id) → AreIdsOf ids keys ns → All (IsIdOfOneKey ids) ns → keys ≡ map (key_of_id ids) ns
keys-numbered ids [] [] are all = refl
keys-numbered ids [] (n ∷ ns) are all = absurd are
keys-numbered ids (k ∷ ks) [] are all = absurd are
keys-numbered ids (k ∷ ks) (n ∷ ns) are all =
    ap (λ (j : Key). j ∷ ks) (sym ((All-head (IsIdOfOneKey ids) n ns all).one k are.0))
    ∙ ap (λ (js : List Key). key_of_id ids n ∷ js) (keys-numbered ids ks ns are.1 (All-tail (IsIdOfOneKey ids) n ns all))

module _ (db_view : DbView) (g : GroupQuery) where
  abbrev key_of : Id → Key
  key_of n = key_of_id db_view.ids n

  -- those that have the label
  abbrev with_label : List Id → List Id
  with_label ns = filter (λ n. has_label db_view g.by.label (key_of n)) ns

  abbrev ones : Id → ℕ
  ones n = if has_label db_view g.by.label (key_of n) then one_if (is_too_long db_view g n) else 0

  abbrev told_at : (b : Bool) → Id → Option (List Row) → Option (List Labelled)
  told_at b n r = if b then option_map alone (option_map (λ rs. record { key = key_of n; labels = stored_labels_at (get (key_of n) db_view.keys); rows = rs }) r) else Some []

  abbrev series_with : Id → Option (List Row) → Labelled
  series_with n r = record { key = key_of n; labels = stored_labels_at (get (key_of n) db_view.keys); rows = rows_or_none r }

  refused-told : (ns : List Id) → 1 ≤ refusals db_view g ns → each_reply (grouped_series_at db_view g) (map key_of ns) ≡ None
  refused-told [] some = absurd (omega (arith, some))
  refused-told (n ∷ ns) some =
      go (has_label db_view g.by.label (key_of n)) (rows_at_id db_view g n) (sum_by-cons ones n ns) (refused-told ns)
    where
      go : (b : Bool) (r : Option (List Row)) → refusals db_view g (n ∷ ns) ≡ (if b then one_if (is_none r) else 0) + refusals db_view g ns
          → (1 ≤ refusals db_view g ns → each_reply (grouped_series_at db_view g) (map key_of ns) ≡ None) → reply_then (told_at b n r) (each_reply (grouped_series_at db_view g) (map key_of ns)) ≡ None
      go true None sum ih = refl
      go true (Some rows) sum ih = rw (ih (omega (arith, sum, some))) refl
      go false r sum ih = rw (ih (omega (arith, sum, some))) refl

  flat-told : (ns : List Id) → refusals db_view g ns ≡ 0 → option_map flat (each_reply (grouped_series_at db_view g) (map key_of ns)) ≡ Some (map (numbered db_view g) (with_label ns))
  flat-told [] none = refl
  flat-told (n ∷ ns) none =
      go (has_label db_view g.by.label (key_of n)) (rows_at_id db_view g n) refl (each_reply (grouped_series_at db_view g) (map key_of ns)) (sum_by-cons ones n ns) (flat-told ns)
    where
      go : (b : Bool) (r : Option (List Row)) → rows_at_id db_view g n ≡ r → (o : Option (List (List Labelled))) → refusals db_view g (n ∷ ns) ≡ (if b then one_if (is_none r) else 0) + refusals db_view g ns
          → (refusals db_view g ns ≡ 0 → option_map flat o ≡ Some (map (numbered db_view g) (with_label ns)))
          → option_map flat (reply_then (told_at b n r) o) ≡ Some (map (numbered db_view g) (if b then n ∷ with_label ns else with_label ns))
      go true None e o sum ih = absurd (omega (arith, sum, none))
      go true (Some rows) e None sum ih = absurd (cc (ih (omega (arith, sum, none))))
      go true (Some rows) e (Some xs) sum ih =
          ap (option_map (λ (l : List Labelled). series_with n (Some rows) ∷ l)) (ih (omega (arith, sum, none)))
          ∙ ap (λ (r : Option (List Row)). Some (series_with n r ∷ map (numbered db_view g) (with_label ns))) (sym e)
      go false r e None sum ih = absurd (cc (ih (omega (arith, sum, none))))
      go false r e (Some xs) sum ih = ih (omega (arith, sum, none))

  -- the others are in no group
  values-with : (ns : List Id) → values g.by.label (map (numbered db_view g) (with_label ns)) ≡ values g.by.label (map (numbered db_view g) ns)
  values-with [] = refl
  values-with (n ∷ ns) = go (value_of g.by.label (stored_labels_at (get (key_of n) db_view.keys))) refl (values-with ns)
    where
      go : (o : Option (List ℕ)) → value_of g.by.label (stored_labels_at (get (key_of n) db_view.keys)) ≡ o
          → values g.by.label (map (numbered db_view g) (with_label ns)) ≡ values g.by.label (map (numbered db_view g) ns)
          → values g.by.label (map (numbered db_view g) (if is_some o then n ∷ with_label ns else with_label ns)) ≡ with_value_of o (values g.by.label (map (numbered db_view g) ns))
      go None e ih = ih
      go (Some v) e ih = ap (λ (x : Option (List ℕ)). with_value_of x (values g.by.label (map (numbered db_view g) (with_label ns)))) e ∙ ap (with_value v) ih

  having-with : (v : List ℕ) (ns : List Id) → having g.by.label v (map (numbered db_view g) (with_label ns)) ≡ having g.by.label v (map (numbered db_view g) ns)
  having-with v [] = refl
  having-with v (n ∷ ns) = go (value_of g.by.label (stored_labels_at (get (key_of n) db_view.keys))) refl (having-with v ns)
    where
      go : (o : Option (List ℕ)) → value_of g.by.label (stored_labels_at (get (key_of n) db_view.keys)) ≡ o
          → having g.by.label v (map (numbered db_view g) (with_label ns)) ≡ having g.by.label v (map (numbered db_view g) ns)
          → having g.by.label v (map (numbered db_view g) (if is_some o then n ∷ with_label ns else with_label ns))
          ≡ (if is_value v o then numbered db_view g n ∷ having g.by.label v (map (numbered db_view g) ns) else having g.by.label v (map (numbered db_view g) ns))
      go None e ih = ih
      go (Some w) e ih =
          ap (λ (x : Option (List ℕ)). if is_value v x then numbered db_view g n ∷ having g.by.label v (map (numbered db_view g) (with_label ns)) else having g.by.label v (map (numbered db_view g) (with_label ns))) e
          ∙ ap (λ (l : List Labelled). if same v w then numbered db_view g n ∷ l else l) ih

  abbrev group_with : List ℕ → List Labelled → Reply
  group_with v ms = member_reply (group (group_of g.by) (show_of g.show) g.count g.query.reverse v ms)

  -- the groups of those that have the label are the groups of all
  groups-numbered : (ns : List Id) → map member_reply (groups (group_of g.by) (show_of g.show) g.count g.query.reverse (map (numbered db_view g) (with_label ns))) ≡ groups_of_ids db_view g ns
  groups-numbered ns =
      each (values g.by.label (map (numbered db_view g) (with_label ns)))
      ∙ ap (map (λ v. group_reply db_view g v (having_of (numbered db_view g) g.by.label v ns))) (values-with ns)
    where
      same_group : (v : List ℕ) → group_with v (having g.by.label v (map (numbered db_view g) (with_label ns))) ≡ group_reply db_view g v (having_of (numbered db_view g) g.by.label v ns)
      same_group v = ap (group_with v) (having-with v ns ∙ sym (having-series (numbered db_view g) g.by.label v ns))

      each : (vs : List (List ℕ)) → map member_reply (map (λ v. group (group_of g.by) (show_of g.show) g.count g.query.reverse v (having g.by.label v (map (numbered db_view g) (with_label ns)))) vs)
          ≡ map (λ v. group_reply db_view g v (having_of (numbered db_view g) g.by.label v ns)) vs
      each [] = refl
      each (v ∷ vs) =
          ap (λ (l : List Reply). group_with v (having g.by.label v (map (numbered db_view g) (with_label ns))) ∷ l) (each vs)
          ∙ ap (λ (r : Reply). r ∷ map (λ w. group_reply db_view g w (having_of (numbered db_view g) g.by.label w ns)) vs) (same_group v)

  -- ---- steps

  -- those with the label take what the keys take
  steps-numbered : (ns : List Id) → ids_steps db_view g ns ≡ sum_by (group_steps g db_view) (map key_of ns)
  steps-numbered [] = refl
  steps-numbered (n ∷ ns) =
      let one = λ (m : Id). if has_label db_view g.by.label (key_of m) then id_steps db_view g m else 0 in
      omega (arith, sum_by-cons one n ns, sum_by-cons (group_steps g db_view) (key_of n) (map key_of ns), steps-numbered ns)

-- the steps of all
pub numbers-steps : (db_view : DbView) (g : GroupQuery) (keys : List Key) (ns : List Id) (old new : ℕ) → AreIdsOf db_view.ids keys ns → All (IsIdOfOneKey db_view.ids) ns
    → new ≤ old + ids_steps db_view g ns → new ≤ old + sum_by (group_steps g db_view) keys
numbers-steps db_view g keys ns old new numbers all few =
    omega (arith, few, steps-numbered db_view g ns, ap (sum_by (group_steps g db_view)) (keys-numbered db_view.ids keys ns numbers all))

module _ (db_view : DbView) (g : GroupQuery) (is : IsGroupQuery g) where
  abbrev rows_of : Query → Key → Option (List Row)
  rows_of q k = answer db_view.limits.empty_rows q (stored_asked db_view.keys g.latest k)

  abbrev labels_of : Key → List Label
  labels_of k = stored_labels_at (get k db_view.keys)

  -- the response by what is told of keys
  abbrev response_by : Option (List Labelled) → Response
  response_by o = members_response (option_map (groups (group_of g.by) (show_of g.show) g.count g.query.reverse) o)

  -- the question asks all rows
  asks-all : uncounted (counted g) ≡ query_of g.query
  asks-all = λ i. record (query_of g.query) { count = sym is.all i }

  kept-groups : (ks : List Key) → stored_groups db_view g ks ≡ response_by (option_map flat (each_reply (grouped_series_at db_view g) ks))
  kept-groups ks =
      ap (λ (q : Query). response_by (labelled labels_of (rows_of q) (labelled_keys g.by.label labels_of ks))) asks-all
      ∙ ap response_by (sym (labelled-told labels_of (rows_of (query_of g.query)) g.by.label ks))

  -- it is the response of each state that is stood for
  kept-stands : (fs : List Filter) (from : DbState) → Represents db_view from → stored_groups db_view g (stored_selection db_view.keys fs) ≡ groups_response from g fs
  kept-stands fs from stands =
      ap (λ (keys : StoredKeys). stored_ranges_response db_view.limits keys g.latest (show_of g.show) (counted g) (Some (group_of g.by)) (stored_selection keys fs)) stands.state.kept
      ∙ ap (stored_ranges_response db_view.limits (kept from.state) g.latest (show_of g.show) (counted g) (Some (group_of g.by))) (selection-kept from.state fs)
      ∙ ranges-kept db_view.limits from.state g.latest (show_of g.show) (counted g) (Some (group_of g.by)) (selection from.state fs)
      ∙ ap (λ (l : Limits). ranges_response l from.state g.latest (show_of g.show) (counted g) (Some (group_of g.by)) (selection from.state fs)) (sym stands.limits)

  module _ (fs : List Filter) (after : List ℕ) where
    abbrev told : Option (List (List Labelled))
    told = each_reply (grouped_series_at db_view g) (stored_selection db_view.keys fs)

    as-told : (from : DbState) → Represents db_view from → response_by (option_map flat told) ≡ groups_response from g fs
    as-told from stands = sym (kept-groups (stored_selection db_view.keys fs)) ∙ kept-stands fs from stands

    -- the rows of one are too many
    groups-refused : told ≡ None → after ≡ text (refusal_reply EmptyRows) → (from : DbState) → Represents db_view from → IsReplyText (groups_response from g fs) after
    groups-refused none written from stands =
        inl (written ∙ ap (λ r. text (reply_to r)) (sym (ap (λ (o : Option (List (List Labelled))). response_by (option_map flat o)) none) ∙ as-told from stands))

    yields : (o : Option (List (List Labelled))) → is_none o ≡ false → AllowsOutOfMemory (response_by (option_map flat o))
    yields None some = absurd (cc some)
    yields (Some all) some = tt

    -- there was no memory
    groups-lost : is_none told ≡ false → after ≡ text memory_reply → (from : DbState) → Represents db_view from → IsReplyText (groups_response from g fs) after
    groups-lost some written from stands = inr (subst AllowsOutOfMemory (as-told from stands) (yields told some), written)

    -- what was written answers in groups over the series that pass filters
    pub groups-written : IsManyText (list_any (is_group_refused g db_view) (stored_selection db_view.keys fs)) (stored_groups db_view g (stored_selection db_view.keys fs)) after
        → (from : DbState) → Represents db_view from → IsReplyText (groups_response from g fs) after
    groups-written = go (list_any (is_group_refused g db_view) (stored_selection db_view.keys fs)) (none-any (grouped_series_at db_view g) (stored_selection db_view.keys fs))
      where
        go : (b : Bool) → is_none told ≡ b → IsManyText b (stored_groups db_view g (stored_selection db_view.keys fs)) after → (from : DbState) → Represents db_view from → IsReplyText (groups_response from g fs) after
        go true any is = groups-refused (none-by told any) is
        go false any (inl is) = λ from stands. inl (is ∙ ap (λ r. text (reply_to r)) (kept-stands fs from stands))
        go false any (inr is) = groups-lost any is

  -- ---- by the numbers of keys

  module _ (keys : List Key) (ns : List Id) (numbers : AreIdsOf db_view.ids keys ns) (each : All (IsIdOfOneKey db_view.ids) ns) where
    told-by : each_reply (grouped_series_at db_view g) keys ≡ each_reply (grouped_series_at db_view g) (map (key_of_id db_view.ids) ns)
    told-by = ap (each_reply (grouped_series_at db_view g)) (keys-numbered db_view.ids keys ns numbers each)

    -- the rows of one are too many
    pub numbers-over : 1 ≤ refusals db_view g ns → list_any (is_group_refused g db_view) keys ≡ true
    numbers-over some = sym (none-any (grouped_series_at db_view g) keys) ∙ ap (λ (o : Option (List (List Labelled))). is_none o) (told-by ∙ refused-told db_view g ns some)

    all-told : refusals db_view g ns ≡ 0 → option_map flat (each_reply (grouped_series_at db_view g) keys) ≡ Some (map (numbered db_view g) (with_label db_view g ns))
    all-told none = ap (option_map flat) told-by ∙ flat-told db_view g ns none

    is-told : (o : Option (List (List Labelled))) (all : List Labelled) → option_map flat o ≡ Some all → is_none o ≡ false
    is-told None all e = absurd (cc e)
    is-told (Some xs) all e = refl

    -- those of none are
    pub numbers-few : refusals db_view g ns ≡ 0 → list_any (is_group_refused g db_view) keys ≡ false
    numbers-few none = sym (none-any (grouped_series_at db_view g) keys) ∙ is-told (each_reply (grouped_series_at db_view g) keys) (map (numbered db_view g) (with_label db_view g ns)) (all-told none)

    -- the text of the groups is that of the response
    pub numbers-text : (before after : List ℕ) → before ≡ [] → refusals db_view g ns ≡ 0 → after ≡ before ++ text (array (groups_of_ids db_view g ns)) → after ≡ text (reply_to (stored_groups db_view g keys))
    numbers-text before after empty none added =
        added ∙ ap (λ (l : List ℕ). l ++ text (array (groups_of_ids db_view g ns))) empty
        ∙ ap (λ (rs : List Reply). text (array rs)) (sym (groups-numbered db_view g ns))
        ∙ ap (λ r. text (reply_to r)) (sym (ap response_by (all-told none)) ∙ sym (kept-groups keys))
