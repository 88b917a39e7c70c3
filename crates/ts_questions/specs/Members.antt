-- Replies over many series, member by member.
use Rattle.std.specs.Prelude.{◌≡◌, ◌&&◌, ⊤, is_none, Bool, true, false, ℕ, List, [], ◌∷◌, ◌++◌, map, flat_map, Option, None, Some, option_map, Result, Ok, Err}
use Rattle.std.specs.Option.{ForSome}
use Rattle.std.specs.declared.alloc.AllocError.{AllocError}
use Rattle.ts_spec.specs.declared.limits.Limits.{Limits}
use Rattle.ts_spec.specs.Key.{Key}
use Rattle.ts_spec.specs.Keyed.{get}
use Rattle.ts_spec.specs.Command.{Show, Query}
use Rattle.ts_spec.specs.Filter.{Filter, all_hold, selection}
use Rattle.ts_spec.specs.Answer.{answer, passes_filters}
use Rattle.ts_spec.specs.Sample.{Point}
use Rattle.ts_spec.specs.Response.{Response, Keys, LastRows}
use Rattle.ts_spec.specs.Replies.{member_reply, last_member_reply, array}
use Rattle.ts_spec.specs.Text.{Reply, Bulk, text}
use Rattle.ts_spec.specs.StoredSeries.{StoredKeys}
use Rattle.ts_spec.specs.StoredQueries.{stored_asked, stored_labels_at, stored_member, stored_last_member, stored_members_of}
use Rattle.ts_spec.specs.Queries.{members_of, members_response, last_member}
use Rattle.ts_labels.specs.Show.{show_of}
use Rattle.ts_range.specs.Filters.{passes}
use Rattle.ts_range.specs.Query.{query_of}
use Rattle.ts_range.specs.declared.query.RangeFault.{RangeFault}
use Rattle.ts_range.specs.declared.query.RangeFault.TheVariants.{EmptyRows, Memory}
use Rattle.ts_db.specs.DbState.{DbState, DbView}
use Rattle.ts_questions.specs.declared.members.MemberContent.{MemberContent}
use Rattle.ts_questions.specs.declared.members.MemberContent.TheVariants as wanted

-- the result of a call that can only fail for lack of memory
abbrev pub in_memory : Result (Unit {0}) AllocError → Result (Unit {0}) RangeFault
in_memory (Ok done) = Ok done
in_memory (Err fault) = Err (Memory fault)

-- whether the error is that the rows are too many
abbrev pub is_too_many : RangeFault → Bool
is_too_many EmptyRows = true
is_too_many (Memory fault) = false

-- the member of a key with the rows of a query, unless these are too many
abbrev pub rows_at : Limits → StoredKeys → Bool → Show → Query → Key → Option Reply
rows_at limits m latest show q k = option_map (λ rows. member_reply (stored_member m show k rows)) (answer limits.empty_rows q (stored_asked m latest k))

-- the member of a key, unless its rows are too many
abbrev pub reply_at : Limits → StoredKeys → MemberContent → Key → Option Reply
reply_at limits m wanted.Key k = Some (Bulk k)
reply_at limits m (wanted.Last latest show) k = Some (last_member_reply (stored_last_member m latest (show_of show) k))
reply_at limits m (wanted.Rows asked filters) k = rows_at limits m asked.latest (show_of asked.show) (query_of asked.query) k

-- an element in front of the others, or nothing if either is missing
abbrev pub reply_then : {X : Type 0} → Option X → Option (List X) → Option (List X)
reply_then None others = None
reply_then (Some one) None = None
reply_then (Some one) (Some others) = Some (one ∷ others)

-- the elements of all keys, or nothing if one is missing
abbrev pub each_reply : {X : Type 0} → (Key → Option X) → List Key → Option (List X)
each_reply element [] = Some []
each_reply element (k ∷ ks) = reply_then (element k) (each_reply element ks)

-- the element exists, and its text was appended
abbrev pub IsAdded : {X Y : Type 0} → (X → List Y) → Option X → (before after : List Y) → Type 0
IsAdded written None before after = ⊥
IsAdded written (Some one) before after = after ≡ before ++ written one

-- the element exists, and its text was appended unless memory ran out
abbrev pub IsAddedOrLost : {X Y : Type 0} → (X → List Y) → (lost : Bool) → Option X → (before after : List Y) → Type 0
IsAddedOrLost written lost None before after = ⊥
IsAddedOrLost written lost (Some one) before after = lost ≡ false → after ≡ before ++ written one

-- the replies exist, and the text of their array was appended unless memory ran out
abbrev pub AreAddedOrLost : (lost : Bool) → Option (List Reply) → (before after : List ℕ) → Type 0
AreAddedOrLost lost None before after = ⊥
AreAddedOrLost lost (Some replies) before after = lost ≡ false → after ≡ before ++ text (array replies)

-- all elements exist, and they were appended unless memory ran out
abbrev pub AreGatheredOrLost : {Y : Type 0} → (lost : Bool) → Option (List (List Y)) → (before after : List Y) → Type 0
AreGatheredOrLost lost None before after = ⊥
AreGatheredOrLost lost (Some all) before after = lost ≡ false → after ≡ before ++ flat_map (λ ys. ys) all

-- whether a key has too many rows
abbrev pub is_over_limit_at : MemberContent → DbView → Key → Bool
is_over_limit_at w db_view k = is_none (reply_at db_view.limits db_view.keys w k)

-- whether a key matches the filters and has too many rows
abbrev pub is_refused_at : DbView → List Filter → (is_over_limit : Key → Bool) → Key → Bool
is_refused_at db_view fs is_over_limit k = all_hold fs (stored_labels_at (get k db_view.keys)) && is_over_limit k

-- the prepared filters, if there was memory for them, match the query
abbrev pub AreAsAsked : MemberContent → Type 0
AreAsAsked wanted.Key = ⊤
AreAsAsked (wanted.Last latest show) = ⊤
AreAsAsked (wanted.Rows asked filters) = ForSome filters (λ f. (p : Point) → passes f p ≡ passes_filters (query_of asked.query) p)

-- the response over these keys, from the stored data
abbrev pub stored_many : Limits → StoredKeys → MemberContent → List Key → Response
stored_many limits m wanted.Key ks = Keys ks
stored_many limits m (wanted.Last latest show) ks = LastRows (map (stored_last_member m latest (show_of show)) ks)
stored_many limits m (wanted.Rows asked filters) ks = members_response (stored_members_of limits m asked.latest (show_of asked.show) (query_of asked.query) ks)

-- the response over the series that match the filters
abbrev pub many_response : DbState → MemberContent → List Filter → Response
many_response from wanted.Key fs = Keys (selection from.state fs)
many_response from (wanted.Last latest show) fs = LastRows (map (last_member from.state latest (show_of show)) (selection from.state fs))
many_response from (wanted.Rows asked filters) fs =
    members_response (members_of from.limits from.state asked.latest (show_of asked.show) (query_of asked.query) (selection from.state fs))
