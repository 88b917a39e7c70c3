-- Replies as ts_spec defines them.
use Rattle.std.specs.Prelude.{ℤ, List, [], ◌∷◌, map, Option, Some, None}
use Rattle.ts_sample.specs.declared.sample.Cell.{Cell}
use Rattle.ts_sample.specs.declared.sample.Cell.TheVariants as cell
use Rattle.ts_spec.specs.Text as text
use Rattle.ts_resp.specs.declared.reply.Reply.{Reply, fold-Reply}
use Rattle.ts_resp.specs.declared.reply.Reply.TheOpen.{Reply-F}

-- the value in millionths, if there is one
abbrev pub value_of : Cell → Option ℤ
value_of (cell.Number value) = Some value
value_of cell.Nan = None

-- a list of replies as ts_spec defines it
abbrev pub replies_of : List text.Reply → text.Replies
replies_of [] = text.Replies.Empty
replies_of (reply ∷ replies) = text.Replies.Item reply (replies_of replies)

-- one level of a reply whose items are already converted
abbrev pub seen : Reply-F text.Reply → text.Reply
seen (Reply-F.Simple words) = text.Reply.Simple words.now
seen (Reply-F.Error words) = text.Reply.Error words.now
seen (Reply-F.Int number) = text.Reply.Int number
seen (Reply-F.Value cell) = text.Reply.Value (value_of cell)
seen (Reply-F.Bulk word) = text.Reply.Bulk word
seen Reply-F.Nil = text.Reply.Nil
seen (Reply-F.Array replies) = text.Reply.Array (replies_of replies.items)

-- a reply as ts_spec defines it
abbrev pub reply_of : Reply → text.Reply
reply_of = fold-Reply text.Reply seen

-- replies as ts_spec defines them
abbrev pub all_of : List Reply → text.Replies
all_of replies = replies_of (map reply_of replies)
