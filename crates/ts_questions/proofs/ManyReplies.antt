-- Replies over many series are those of the specification.
use Rattle.std.proofs.Common.{◌≡◌, Bool, true, false, ℕ, List, [], ◌∷◌, ◌++◌, map, inl, inr, refl, sym, ap, subst, ◌∙◌}
use Rattle.std.proofs.lemmas.Simd.{map-map}
use Rattle.std.specs.List.{list_any}
use Rattle.std.specs.Prelude.{◌||◌, Option, None, Some, is_none, option_map}
use Rattle.ts_spec.specs.declared.limits.Limits.{Limits}
use Rattle.ts_spec.specs.Answer.{Row, answer}
use Rattle.ts_spec.specs.Command.{Show, Query}
use Rattle.ts_spec.specs.Filter.{Filter, selection}
use Rattle.ts_spec.specs.Key.{Key}
use Rattle.ts_spec.specs.StoredSeries.{StoredKeys, kept}
use Rattle.ts_spec.specs.StoredQueries.{stored_asked, stored_member, stored_member_then, stored_members_of, stored_last_member, stored_selection}
use Rattle.ts_spec.specs.Queries.{members_of, members_response}
use Rattle.ts_spec.specs.Refusal.{EmptyRows}
use Rattle.ts_spec.specs.Replies.{member_reply, last_member_reply, array, memory_reply, refusal_reply, reply_to}
use Rattle.ts_spec.specs.Response.{Member, Response, Refused, Keys, LastRows}
use Rattle.ts_spec.specs.Text.{Reply, Bulk, text}
use Rattle.ts_spec.proofs.StoredAsked.{ranges-kept, last_members-kept, selection-kept}
use Rattle.ts_labels.specs.Show.{show_of}
use Rattle.ts_range.specs.Query.{query_of}
use Rattle.ts_db.specs.DbState.{DbState, DbView, Represents, AllowsOutOfMemory}
use Rattle.ts_questions.specs.declared.members.MemberContent.{MemberContent}
use Rattle.ts_questions.specs.declared.members.MemberContent.TheVariants as wanted
use Rattle.ts_questions.specs.Answering.{IsReplyText, IsManyText}
use Rattle.ts_questions.specs.Members.{rows_at, reply_at, is_over_limit_at, reply_then, each_reply, AreAddedOrLost, stored_many, many_response}

-- the text of an array of replies was added
abbrev AreAdded : Option (List Reply) → (before after : List ℕ) → Type 0
AreAdded o before after = AreAddedOrLost false o before after

-- a reply to each
each-replied : (reply : Key → Reply) (ks : List Key) → each_reply (λ k. Some (reply k)) ks ≡ Some (map reply ks)
each-replied reply [] = refl
each-replied reply (k ∷ ks) = ap (reply_then (Some (reply k))) (each-replied reply ks)

module _ (limits : Limits) (m : StoredKeys) (latest : Bool) (show : Show) (q : Query) where
  rows-then : (k : Key) (rows : Option (List Row)) (others : Option (List Member))
      → reply_then (option_map (λ r. member_reply (stored_member m show k r)) rows) (option_map (map member_reply) others) ≡ option_map (map member_reply) (stored_member_then m show k rows others)
  rows-then k None others = refl
  rows-then k (Some rows) None = refl
  rows-then k (Some rows) (Some others) = refl

  -- the rows of each
  rows-replied : (ks : List Key) → each_reply (rows_at limits m latest show q) ks ≡ option_map (map member_reply) (stored_members_of limits m latest show q ks)
  rows-replied [] = refl
  rows-replied (k ∷ ks) =
      ap (reply_then (rows_at limits m latest show q k)) (rows-replied ks)
      ∙ rows-then k (answer limits.empty_rows q (stored_asked m latest k)) (stored_members_of limits m latest show q ks)

text-added : (replies : List Reply) (o : Option (List Reply)) (before after : List ℕ) → o ≡ Some replies → before ≡ [] → AreAdded o before after → after ≡ text (array replies)
text-added replies o before after is empty added =
    subst (λ (p : Option (List Reply)). AreAdded p before after) is added refl ∙ ap (λ (l : List ℕ). l ++ text (array replies)) empty

-- the text that was written is that of the response
kept-told : (limits : Limits) (m : StoredKeys) (w : MemberContent) (ks : List Key) (before after : List ℕ) → before ≡ [] → AreAdded (each_reply (reply_at limits m w) ks) before after
    → after ≡ text (reply_to (stored_many limits m w ks))
kept-told limits m wanted.Key ks before after empty added = text-added (map (λ k. Bulk k) ks) _ before after (each-replied (λ k. Bulk k) ks) empty added
kept-told limits m (wanted.Last latest show) ks before after empty added =
    text-added (map (λ k. last_member_reply (stored_last_member m latest (show_of show) k)) ks) _ before after
    (each-replied (λ k. last_member_reply (stored_last_member m latest (show_of show) k)) ks) empty added
    ∙ ap (λ (l : List Reply). text (array l)) (sym (map-map last_member_reply (stored_last_member m latest (show_of show)) ks))
kept-told limits m (wanted.Rows asked filters) ks before after empty added =
    go (stored_members_of limits m asked.latest (show_of asked.show) (query_of asked.query) ks)
    (subst (λ (p : Option (List Reply)). AreAdded p before after) (rows-replied limits m asked.latest (show_of asked.show) (query_of asked.query) ks) added)
  where
    go : (o : Option (List Member)) → AreAdded (option_map (map member_reply) o) before after → after ≡ text (reply_to (members_response o))
    go None is = absurd is
    go (Some members) is = is refl ∙ ap (λ (l : List ℕ). l ++ text (array (map member_reply members))) empty

-- where there is nothing to tell of one key, it is that its rows are too many
kept-none : (limits : Limits) (m : StoredKeys) (w : MemberContent) (ks : List Key) → each_reply (reply_at limits m w) ks ≡ None → stored_many limits m w ks ≡ Refused EmptyRows
kept-none limits m wanted.Key ks none = absurd (cc (each-replied (λ k. Bulk k) ks, none))
kept-none limits m (wanted.Last latest show) ks none = absurd (cc (each-replied (λ k. last_member_reply (stored_last_member m latest (show_of show) k)) ks, none))
kept-none limits m (wanted.Rows asked filters) ks none =
    go (stored_members_of limits m asked.latest (show_of asked.show) (query_of asked.query) ks) (sym (rows-replied limits m asked.latest (show_of asked.show) (query_of asked.query) ks) ∙ none)
  where
    go : (o : Option (List Member)) → option_map (map member_reply) o ≡ None → members_response o ≡ Refused EmptyRows
    go None is = refl
    go (Some members) is = absurd (cc is)

-- it is the response of each state that is stood for
kept-stands : (db_view : DbView) (w : MemberContent) (fs : List Filter) (from : DbState) → Represents db_view from → stored_many db_view.limits db_view.keys w (stored_selection db_view.keys fs) ≡ many_response from w fs
kept-stands db_view w fs from stands =
    ap (λ (keys : StoredKeys). stored_many db_view.limits keys w (stored_selection keys fs)) stands.state.kept
    ∙ ap (stored_many db_view.limits (kept from.state) w) (selection-kept from.state fs)
    ∙ go w
  where
    go : (w : MemberContent) → stored_many db_view.limits (kept from.state) w (selection from.state fs) ≡ many_response from w fs
    go wanted.Key = refl
    go (wanted.Last latest show) = ap (λ (ms : List Member). LastRows ms) (last_members-kept from.state latest (show_of show) (selection from.state fs))
    go (wanted.Rows asked filters) =
        ranges-kept db_view.limits from.state asked.latest (show_of asked.show) (query_of asked.query) None (selection from.state fs)
        ∙ ap (λ (l : Limits). members_response (members_of l from.state asked.latest (show_of asked.show) (query_of asked.query) (selection from.state fs))) (sym stands.limits)

many-refused : (db_view : DbView) (w : MemberContent) (fs : List Filter) (after : List ℕ) → each_reply (reply_at db_view.limits db_view.keys w) (stored_selection db_view.keys fs) ≡ None
    → after ≡ text (refusal_reply EmptyRows) → (from : DbState) → Represents db_view from → IsReplyText (many_response from w fs) after
many-refused db_view w fs after none is from stands =
    inl (is ∙ ap (λ r. text (reply_to r)) (sym (kept-none db_view.limits db_view.keys w (stored_selection db_view.keys fs) none) ∙ kept-stands db_view w fs from stands))

-- where there is something to tell of each key, the response yields to want of memory
kept-yields : (limits : Limits) (m : StoredKeys) (w : MemberContent) (ks : List Key) → is_none (each_reply (reply_at limits m w) ks) ≡ false → AllowsOutOfMemory (stored_many limits m w ks)
kept-yields limits m wanted.Key ks told = tt
kept-yields limits m (wanted.Last latest show) ks told = tt
kept-yields limits m (wanted.Rows asked filters) ks told =
    go (stored_members_of limits m asked.latest (show_of asked.show) (query_of asked.query) ks)
    (subst (λ (p : Option (List Reply)). is_none p ≡ false) (rows-replied limits m asked.latest (show_of asked.show) (query_of asked.query) ks) told)
  where
    go : (o : Option (List Member)) → is_none (option_map (map member_reply) o) ≡ false → AllowsOutOfMemory (members_response o)
    go None is = absurd (cc is)
    go (Some members) is = tt

many-lost : (db_view : DbView) (w : MemberContent) (fs : List Filter) (after : List ℕ) → is_none (each_reply (reply_at db_view.limits db_view.keys w) (stored_selection db_view.keys fs)) ≡ false
    → after ≡ text memory_reply → (from : DbState) → Represents db_view from → IsReplyText (many_response from w fs) after
many-lost db_view w fs after told is from stands =
    inr (subst AllowsOutOfMemory (kept-stands db_view w fs from stands) (kept-yields db_view.limits db_view.keys w (stored_selection db_view.keys fs) told), is)

-- whether there is none, by cases
pub none-by : {T : Type 0} (o : Option T) → is_none o ≡ true → o ≡ None
none-by None is = refl
none-by (Some x) is = absurd (cc is)

-- there is nothing to tell of one of them exactly where it is too much of one
pub none-any : {X : Type 0} (told : Key → Option X) (ks : List Key) → is_none (each_reply told ks) ≡ list_any (λ k. is_none (told k)) ks
none-any told [] = refl
none-any {X = X} told (k ∷ ks) = go (told k) (each_reply told ks) ∙ ap (λ (b : Bool). is_none (told k) || b) (none-any told ks)
  where
    go : (o : Option X) (others : Option (List X)) → is_none (reply_then o others) ≡ (is_none o || is_none others)
    go None others = refl
    go (Some x) None = refl
    go (Some x) (Some xs) = refl

module _ (db_view : DbView) (w : MemberContent) where
  -- what there is to tell of a key
  abbrev replied : Key → Option Reply
  replied = reply_at db_view.limits db_view.keys w

  -- where something was told of each of them, or memory was lost, it is too much of none
  pub many-few : (ks : List Key) (before after : List ℕ) (lost : Bool) → AreAddedOrLost lost (each_reply replied ks) before after → list_any (is_over_limit_at w db_view) ks ≡ false
  many-few ks before after lost added = sym (none-any replied ks) ∙ go (each_reply replied ks) added
    where
      go : (o : Option (List Reply)) → AreAddedOrLost lost o before after → is_none o ≡ false
      go None is = absurd is
      go (Some replies) is = refl

  -- and where there is nothing to tell of one, it is too much of that one
  pub many-over : (ks : List Key) → each_reply replied ks ≡ None → list_any (is_over_limit_at w db_view) ks ≡ true
  many-over ks none = sym (none-any replied ks) ∙ ap (λ (o : Option (List Reply)). is_none o) none

  -- where no memory was lost, the text is that of the response
  pub many-text : (ks : List Key) (before after : List ℕ) (lost : Bool) → before ≡ [] → AreAddedOrLost lost (each_reply replied ks) before after → lost ≡ false
      → after ≡ text (reply_to (stored_many db_view.limits db_view.keys w ks))
  many-text ks before after lost empty added kept =
      kept-told db_view.limits db_view.keys w ks before after empty (subst (λ (b : Bool). AreAddedOrLost b (each_reply replied ks) before after) kept added)

  -- what was written answers what is wanted of the series that pass filters
  pub many-written : (fs : List Filter) (after : List ℕ)
      → IsManyText (list_any (is_over_limit_at w db_view) (stored_selection db_view.keys fs)) (stored_many db_view.limits db_view.keys w (stored_selection db_view.keys fs)) after
      → (from : DbState) → Represents db_view from → IsReplyText (many_response from w fs) after
  many-written fs after = go (list_any (is_over_limit_at w db_view) (stored_selection db_view.keys fs)) (none-any replied (stored_selection db_view.keys fs))
    where
      go : (b : Bool) → is_none (each_reply replied (stored_selection db_view.keys fs)) ≡ b → IsManyText b (stored_many db_view.limits db_view.keys w (stored_selection db_view.keys fs)) after
          → (from : DbState) → Represents db_view from → IsReplyText (many_response from w fs) after
      go true any is = many-refused db_view w fs after (none-by (each_reply replied (stored_selection db_view.keys fs)) any) is
      go false any (inl is) = λ from stands. inl (is ∙ ap (λ r. text (reply_to r)) (kept-stands db_view w fs from stands))
      go false any (inr is) = many-lost db_view w fs after any is
