-- Queries have the same responses over the stored data as over the state.
use Rattle.std.proofs.Common.{◌≡◌, ℕ, ℤ, ◌==◌, Bool, true, false, ◌&&◌, nat_le, if◌then◌else◌, List, [], ◌∷◌, map, length, Option, Some, None, option_map, refl, sym, ap, ◌∙◌, arith, ne_eqb}
use Rattle.std.proofs.lemmas.Simd.{map-map}
use Rattle.ts_spec.specs.declared.limits.Limits.{Limits}
use Rattle.ts_spec.specs.declared.bucket.Aggregator.{Aggregator}
use Rattle.ts_spec.specs.Sample.{Point, put_all, first_of, last_of}
use Rattle.ts_spec.specs.Bucket.{members}
use Rattle.ts_spec.specs.Aggregate.{aggregate, result_of, summary}
use Rattle.ts_spec.specs.Key.{Key}
use Rattle.ts_spec.specs.Keyed.{Entry, each_in, get}
use Rattle.ts_spec.specs.State.{Rule, Record, State, Link, link_to, rule_into, edge}
use Rattle.ts_spec.specs.ShownSamples.{open_of, has_any, has_members, bucket_sample, shown_by, opened, latest_by, latest_at}
use Rattle.ts_spec.specs.Rules.{shown, latest}
use Rattle.ts_spec.specs.Filter.{Filter, all_hold, selected_in, keys_of, selection}
use Rattle.ts_spec.specs.Command.{Query, Show, GroupBy}
use Rattle.ts_spec.specs.Answer.{Row, answer}
use Rattle.ts_spec.specs.Response.{Member, LastRow, KeyInfo}
use Rattle.ts_spec.specs.Queries.{asked, range_response, rows_response, labels_shown, labels_at, member, member_then, members_of, members_response, last_row, row_list, last_response, last_member, rule_info, time_or_0, info_of, info_response}
use Rattle.ts_spec.specs.Groups.{uncounted, grouped_response, ranges_response}
use Rattle.ts_spec.specs.StoredSeries.{StoredRule, summary_at, stored_rule, stored_record, kept}
use Rattle.ts_spec.specs.StoredUpdates.{bucket_row}
use Rattle.ts_spec.specs.StoredQueries.{open_row, with_open, latest_list_at, stored_asked, stored_range_response, stored_labels_at, stored_member, stored_member_then, stored_members_of, stored_ranges_response, stored_last_response, stored_last_member, stored_selected_in, stored_selection, stored_rule_info, stored_info_response}
use Rattle.ts_spec.proofs.Aggregates.{summary-count}
use Rattle.ts_spec.proofs.Keeps.{shown-there}
use Rattle.ts_spec.proofs.StoredMaps.{read-kept, list-kept, rule_from-kept}

-- ---- the open bucket

-- a row
abbrev row_of_bucket : (born b : ℕ) → ℤ → Point
row_of_bucket born b v = record { time = b; value = v; made = born }

-- the row of the summary of a list; an empty list has none
pub row-summary : (agg : Aggregator) (born b : ℕ) (ps : List Point) →
    bucket_row agg born b (summary ps) ≡ (if has_any ps then row_of_bucket born b (aggregate agg ps) ∷ [] else [])
row-summary agg born b ps = ap (λ (n : ℕ). if n == 0 then [] else row_of_bucket born b (result_of agg (summary ps)) ∷ []) (summary-count ps) ∙ go ps (aggregate agg ps)
  where
    go : (qs : List Point) (v : ℤ) → (if length qs == 0 then [] else row_of_bucket born b v ∷ []) ≡ (if has_any qs then row_of_bucket born b v ∷ [] else [])
    go [] v = refl
    go (q ∷ qs) v = ap (λ (x : Bool). if x then [] else row_of_bucket born b v ∷ []) (ne_eqb (length (q ∷ qs)) 0 (λ d. absurd (omega arith)))

open-row : (r : Rule) (low born : ℕ) → open_row low born (stored_rule r) (open_of r) ≡ opened r low born (open_of r)
open-row r low born = go (open_of r) refl
  where
    both : (a b : Bool) (p : Point) → (if b then (if a then p ∷ [] else []) else []) ≡ (if a && b then p ∷ [] else [])
    both true true p = refl
    both true false p = refl
    both false true p = refl
    both false false p = refl

    go : (o : Option ℕ) → open_of r ≡ o → open_row low born (stored_rule r) o ≡ opened r low born o
    go None x = refl
    go (Some b) x =
        ap (λ (o : Option ℕ). if nat_le low b then bucket_row r.agg born b (summary_at r o) else []) x
        ∙ ap (λ (rows : List Point). if nat_le low b then rows else []) (row-summary r.agg born b (members r.grid b r.seen))
        ∙ both (has_members r b) (nat_le low b) (bucket_sample r born b)

with-open : (o : Option Rule) (l : Option Link) (d : Record) → option_map (λ l. l.rule) l ≡ o → with_open (option_map stored_rule o) (stored_record l d) ≡ latest_by o d
with-open None l d x = ap (λ (o : Option Rule). shown_by o d) x
with-open (Some r) l d x =
    ap (λ (rows : List Point). put_all rows (shown_by (option_map (λ l. l.rule) l) d)) (open-row r (edge d) d.born)
    ∙ ap (λ (o : Option Rule). put_all (opened r (edge d) d.born (open_of r)) (shown_by o d)) x

latest-kept : (m : State) (k : Key) → latest_list_at (kept m) k (get k (kept m)) ≡ latest m k
latest-kept m k =
    read-kept m k (latest_list_at (kept m) k) (λ o. latest_at o (rule_into m k)) refl
    (λ d x. ap (λ (o : Option StoredRule). with_open o (stored_record (link_to m k) d)) (rule_from-kept m k) ∙ with-open (rule_into m k) (link_to m k) d refl)

-- A query reads the same samples as over the state.
pub asked-kept : (m : State) (and_open : Bool) (k : Key) → stored_asked (kept m) and_open k ≡ asked m and_open k
asked-kept m true k = latest-kept m k
asked-kept m false k = list-kept m k

-- ---- queries over one series

pub range-kept : (limits : Limits) (m : State) (k : Key) (and_open : Bool) (q : Query) → stored_range_response limits (kept m) k and_open q (get k (kept m)) ≡ range_response limits m k and_open q (get k m)
range-kept limits m k and_open q =
    read-kept m k (stored_range_response limits (kept m) k and_open q) (range_response limits m k and_open q) refl
    (λ d x. ap (λ (ps : List Point). rows_response (answer limits.empty_rows q ps)) (asked-kept m and_open k))

pub last-kept : (m : State) (k : Key) (and_open : Bool) → stored_last_response (kept m) k and_open (get k (kept m)) ≡ last_response m k and_open (get k m)
last-kept m k and_open =
    read-kept m k (stored_last_response (kept m) k and_open) (last_response m k and_open) refl (λ d x. ap (λ (ps : List Point). LastRow (last_row ps)) (asked-kept m and_open k))

pub info-kept : (m : State) (k : Key) → stored_info_response (get k (kept m)) ≡ info_response m k (get k m)
info-kept m k =
    read-kept m k stored_info_response (info_response m k) refl
    (λ d x. (let list : shown_by (rule_into m k) d ≡ shown m k = sym (shown-there m k d x) in
    let rules : map stored_rule_info (map stored_rule d.rules) ≡ map rule_info d.rules = map-map stored_rule_info stored_rule d.rules in
    λ i. KeyInfo (record (info_of m k d) { total = length (list i); first = time_or_0 (first_of (list i)); last = time_or_0 (last_of (list i)); rules = rules i })))

-- ---- queries over many series

pub labels-kept : (m : State) (k : Key) → stored_labels_at (get k (kept m)) ≡ labels_at (get k m)
labels-kept m k = read-kept m k stored_labels_at labels_at refl (λ d x. refl)

member-kept : (m : State) (show : Show) (k : Key) (rows : List Row) → stored_member (kept m) show k rows ≡ member m show k rows
member-kept m show k rows = let labels : stored_labels_at (get k (kept m)) ≡ labels_at (get k m) = labels-kept m k in λ i. record { key = k; labels = labels_shown show (labels i); rows = rows }

member_then-kept : (m : State) (show : Show) (k : Key) (o : Option (List Row)) (others : Option (List Member)) → stored_member_then (kept m) show k o others ≡ member_then m show k o others
member_then-kept m show k None others = refl
member_then-kept m show k (Some rows) None = refl
member_then-kept m show k (Some rows) (Some others) = ap (λ (x : Member). Some (x ∷ others)) (member-kept m show k rows)

members-kept : (limits : Limits) (m : State) (and_open : Bool) (show : Show) (q : Query) (ks : List Key) → stored_members_of limits (kept m) and_open show q ks ≡ members_of limits m and_open show q ks
members-kept limits m and_open show q [] = refl
members-kept limits m and_open show q (k ∷ ks) =
    ap (λ (ps : List Point). stored_member_then (kept m) show k (answer limits.empty_rows q ps) (stored_members_of limits (kept m) and_open show q ks)) (asked-kept m and_open k)
    ∙ ap (stored_member_then (kept m) show k (answer limits.empty_rows q (asked m and_open k))) (members-kept limits m and_open show q ks)
    ∙ member_then-kept m show k (answer limits.empty_rows q (asked m and_open k)) (members_of limits m and_open show q ks)

pub ranges-kept : (limits : Limits) (m : State) (and_open : Bool) (show : Show) (q : Query) (group : Option GroupBy) (ks : List Key) → stored_ranges_response limits (kept m) and_open show q group ks ≡ ranges_response limits m and_open show q group ks
ranges-kept limits m and_open show q None ks = ap members_response (members-kept limits m and_open show q ks)
ranges-kept limits m and_open show q (Some by) ks =
    λ i. grouped_response by show q (λ k. labels-kept m k i) (λ k. answer limits.empty_rows (uncounted q) (asked-kept m and_open k i)) ks

last_member-kept : (m : State) (and_open : Bool) (show : Show) (k : Key) → stored_last_member (kept m) and_open show k ≡ last_member m and_open show k
last_member-kept m and_open show k =
    ap (λ (ps : List Point). stored_member (kept m) show k (row_list (last_row ps))) (asked-kept m and_open k)
    ∙ member-kept m show k (row_list (last_row (asked m and_open k)))

pub last_members-kept : (m : State) (and_open : Bool) (show : Show) (ks : List Key) → map (stored_last_member (kept m) and_open show) ks ≡ map (last_member m and_open show) ks
last_members-kept m and_open show ks = λ i. map (λ k. last_member-kept m and_open show k i) ks

selected-kept : (filters : List Filter) (m : State) (es : List (Entry Record)) → stored_selected_in filters (each_in (λ k d. stored_record (link_to m k) d) es) ≡ keys_of (selected_in filters es)
selected-kept filters m [] = refl
selected-kept filters m (e ∷ es) = rw (selected-kept filters m es) (go (all_hold filters e.value.labels))
  where
    go : (b : Bool) → (if b then e.key ∷ keys_of (selected_in filters es) else keys_of (selected_in filters es)) ≡ keys_of (if b then e ∷ selected_in filters es else selected_in filters es)
    go true = refl
    go false = refl

pub selection-kept : (m : State) (filters : List Filter) → stored_selection (kept m) filters ≡ selection m filters
selection-kept m filters = selected-kept filters m m.entries
