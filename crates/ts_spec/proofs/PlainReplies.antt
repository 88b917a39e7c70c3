-- The replies of the server are plain if their texts are shorter than 2^64 bytes.
use Rattle.std.proofs.Common.{◌≡◌, ℕ, ◌+◌, ◌^◌, ◌<◌, ◌≤◌, ⊎_elim, List, [], ◌∷◌, ◌++◌, map, length, codes, Option, Some, None, All, refl, sym, subst, arith, length-append}
use Rattle.std.proofs.lemmas.List.Elements.{All-head, All-tail}
use Rattle.std.specs.Fmt.{decimal}
use Rattle.ts_spec.specs.declared.wire.Kind.{Kind}
use Rattle.ts_spec.specs.State.{Label}
use Rattle.ts_spec.specs.Refusal.{Fault}
use Rattle.ts_spec.specs.Messages.{memory_message}
use Rattle.ts_spec.specs.Answer.{Row}
use Rattle.ts_spec.specs.Response as response
use Rattle.ts_spec.specs.Response.{Item, Wrote, IsWrong, IsRefused, ShownLabel, Member, RuleInfo, Info, Response}
use Rattle.ts_spec.specs.Text.{Reply, Simple, Error, Int, Value, Bulk, Nil, Array, Replies, Empty, CRLF, line_text, IsOneLine, IsPlain, ArePlain, count_of, text, texts, protocol_message}
use Rattle.ts_spec.specs.Text as replies
use Rattle.ts_spec.specs.Replies.{reply_list, array, fault_reply, memory_reply, item_reply, row_reply, first_row_reply, last_row_reply, bulk_or_nil, shown_label_reply, member_reply, last_member_reply, label_reply, rule_reply, info_reply, reply_to, IsItemReply}
use Rattle.ts_spec.proofs.OwnWords.{one_line, fault-line, refusal-line, aggregator-line, encoding-line, policy-line, kind-line}

-- ---- lines, and what the length of a text bounds

-- no line of a reply has a CR
abbrev mutual
  pub HasLines : Reply → Type 0
  HasLines (Simple words) = IsOneLine words
  HasLines (Error words) = IsOneLine words
  HasLines (Array replies) = HaveLines replies
  HasLines other = Unit {0}

  pub HaveLines : Replies → Type 0
  HaveLines Empty = Unit {0}
  HaveLines (replies.Replies.Item reply replies) = HasLines reply × HaveLines replies

some-text : (a : Reply) → 1 ≤ length (text a)
some-text (Simple words) = omega arith
some-text (Error words) = omega arith
some-text (Int number) = omega arith
some-text (Value cell) = omega arith
some-text (Bulk bytes) = omega arith
some-text Nil = omega arith
some-text (Array replies) = omega arith

count-texts : (rs : Replies) → count_of rs ≤ length (texts rs)
count-texts Empty = omega arith
count-texts (replies.Replies.Item a rs) = let one : 1 ≤ length (text a) = some-text a in let more : count_of rs ≤ length (texts rs) = count-texts rs in omega (arith, length-append (text a) (texts rs))

mutual
  pub plain-lines : (a : Reply) → HasLines a → length (text a) < 2 ^ 64 → IsPlain a
  plain-lines (Simple words) h n = h
  plain-lines (Error words) h n = h
  plain-lines (Int number) h n = tt
  plain-lines (Value cell) h n = tt
  plain-lines (Bulk bytes) h n = omega (arith, length-append (line_text 36 (decimal (length bytes)) ++ bytes) CRLF, length-append (line_text 36 (decimal (length bytes))) bytes)
  plain-lines Nil h n = tt
  plain-lines (Array rs) h n =
      let whole : length (text (Array rs)) ≡ length (line_text 42 (decimal (count_of rs))) + length (texts rs) = length-append (line_text 42 (decimal (count_of rs))) (texts rs) in
      let few : count_of rs ≤ length (texts rs) = count-texts rs in
      (omega arith, all-plain rs h (omega arith))

  all-plain : (rs : Replies) → HaveLines rs → length (texts rs) < 2 ^ 64 → ArePlain rs
  all-plain Empty h n = tt
  all-plain (replies.Replies.Item a rs) h n =
      let whole : length (texts (replies.Replies.Item a rs)) ≡ length (text a) + length (texts rs) = length-append (text a) (texts rs) in
      (plain-lines a h.0 (omega arith), all-plain rs h.1 (omega arith))

-- ---- replies

all-lines : {X : Type 0} (f : X → Reply) → ((x : X) → HasLines (f x)) → (xs : List X) → HaveLines (reply_list (map f xs))
all-lines f h [] = tt
all-lines f h (x ∷ xs) = (h x, all-lines f h xs)

item-lines : (item : Item) → HasLines (item_reply item)
item-lines (Wrote time) = tt
item-lines (IsWrong fault) = fault-line fault
item-lines (IsRefused refusal) = refusal-line refusal

row-lines : (row : Row) → HasLines (row_reply row)
row-lines row = (tt, (tt, tt))

first_row-lines : (rows : List Row) → HasLines (first_row_reply rows)
first_row-lines [] = tt
first_row-lines (row ∷ rows) = row-lines row

last_row-lines : (row : Option Row) → HasLines (last_row_reply row)
last_row-lines None = tt
last_row-lines (Some row) = row-lines row

bulk-lines : (bytes : Option (List ℕ)) → HasLines (bulk_or_nil bytes)
bulk-lines None = tt
bulk-lines (Some bytes) = tt

shown_label-lines : (label : ShownLabel) → HasLines (shown_label_reply label)
shown_label-lines label = (tt, (bulk-lines label.value, tt))

member-lines : (member : Member) → HasLines (member_reply member)
member-lines member = (tt, (all-lines shown_label_reply shown_label-lines member.labels, (all-lines row_reply row-lines member.rows, tt)))

last_member-lines : (member : Member) → HasLines (last_member_reply member)
last_member-lines member = (tt, (all-lines shown_label_reply shown_label-lines member.labels, (first_row-lines member.rows, tt)))

label-lines : (label : Label) → HasLines (label_reply label)
label-lines label = (tt, (tt, tt))

rule-lines : (rule : RuleInfo) → HasLines (rule_reply rule)
rule-lines rule = (tt, (tt, (aggregator-line rule.agg, (tt, tt))))

info-lines : (info : Info) → HasLines (info_reply info)
info-lines info = (
  one_line (codes "totalSamples") refl,
  (
    tt,
    (
      one_line (codes "firstTimestamp") refl,
      (
        tt,
        (
          one_line (codes "lastTimestamp") refl,
          (
            tt,
            (
              one_line (codes "retentionTime") refl,
              (
                tt,
                (
                  one_line (codes "chunkSize") refl,
                  (
                    tt,
                    (
                      one_line (codes "chunkType") refl,
                      (
                        encoding-line info.options.encoding,
                        (
                          one_line (codes "duplicatePolicy") refl,
                          (
                            policy-line info.options.policy,
                            (
                              one_line (codes "labels") refl,
                              (
                                all-lines label_reply label-lines info.labels,
                                (
                                  one_line (codes "sourceKey") refl,
                                  (
                                    bulk-lines info.source,
                                    (
                                      one_line (codes "rules") refl,
                                      (
                                        all-lines rule_reply rule-lines info.rules,
                                        (one_line (codes "ignoreMaxTimeDiff") refl, (tt, (one_line (codes "ignoreMaxValDiff") refl, (tt, tt)))),
                                      ),
                                    ),
                                  ),
                                ),
                              ),
                            ),
                          ),
                        ),
                      ),
                    ),
                  ),
                ),
              ),
            ),
          ),
        ),
      ),
    ),
  ),
)

pub reply-lines : (r : Response) → HasLines (reply_to r)
reply-lines response.Done = one_line (codes "OK") refl
reply-lines (response.Count n) = tt
reply-lines (response.Refused refusal) = refusal-line refusal
reply-lines (response.Items items) = all-lines item_reply item-lines items
reply-lines (response.Rows rows) = all-lines row_reply row-lines rows
reply-lines (response.LastRow row) = last_row-lines row
reply-lines (response.Members members) = all-lines member_reply member-lines members
reply-lines (response.LastRows members) = all-lines last_member_reply last_member-lines members
reply-lines (response.Keys keys) = all-lines (λ key. Bulk key) (λ key. tt) keys
reply-lines (response.KeyInfo info) = info-lines info
reply-lines response.Pong = one_line (codes "PONG") refl
reply-lines (response.Word word) = tt

pub fault-plain : (fault : Fault) → IsPlain (fault_reply fault)
fault-plain fault = fault-line fault

-- of bytes that are no requests
pub kind-plain : (k : Kind) → IsPlain (Error (protocol_message k))
kind-plain k = kind-line k

pub memory-plain : IsPlain memory_reply
memory-plain = one_line memory_message refl

triples-lines : (items : List Reply) → All IsItemReply items → HaveLines (reply_list items)
triples-lines [] h = tt
triples-lines (item ∷ items) h = (first (All-head IsItemReply item items h), triples-lines items (All-tail IsItemReply item items h))
  where
    first : IsItemReply item → HasLines item
    first = ⊎_elim (λ t. subst HasLines (sym t.1) (item-lines t.0)) (λ e. subst HasLines (sym e) memory-plain)

-- The reply to a response is plain, if its text is shorter than 2^64 bytes.
pub reply-plain : (r : Response) → length (text (reply_to r)) < 2 ^ 64 → IsPlain (reply_to r)
reply-plain r n = plain-lines (reply_to r) (reply-lines r) n

pub triples-plain : (items : List Reply) → All IsItemReply items → length (text (array items)) < 2 ^ 64 → IsPlain (array items)
triples-plain items h n = plain-lines (array items) (triples-lines items h) n
