-- How the requests of many connections are answered in order, while connections end.
use Rattle.std.specs.Prelude.{◌≡◌, ℕ, ◌+◌, ◌==◌, if◌then◌else◌, List, [], ◌∷◌, ◌++◌}
use Rattle.ts_spec.specs.Text.{protocol_error_text}
use Rattle.ts_spec.specs.Wire.{Request}
use Rattle.ts_mux.specs.declared.frame.Frame.{Frame}
use Rattle.ts_mux.specs.Order.{Event, Asked, Failed, Item, without}
use Rattle.ts_words.specs.declared.lines.LinkEnd.{LinkEnd}
use Rattle.ts_words.specs.Lines.{link_line_of}

-- how many requests of each connection were executed since it began
abbrev pub Counts : Type 0
Counts = ℕ → ℕ

abbrev pub none_executed : Counts
none_executed link = 0

-- two counts of each connection are the same
abbrev pub Agree : (old new : Counts) → Type 0
Agree old new = (link : ℕ) → new link ≡ old link

-- an event counts if it is a request
abbrev pub weight_of : Event → ℕ
weight_of (Asked request) = 1
weight_of (Failed fault) = 0

-- the counts after an item was answered, and after a connection ended
abbrev pub counted : Item → Counts → Counts
counted item counts link = if link == item.link then counts link + weight_of item.event else counts link

abbrev pub forgotten : (link : ℕ) → Counts → Counts
forgotten link counts at = if at == link then 0 else counts at

-- the end of a connection: its number, how many of its requests were executed, and how it ended
pub record Ending : Type 0 where
  pub link : ℕ
  pub executed : ℕ
  pub how : LinkEnd

-- the lines that tell these ends
abbrev pub lines_of : List Ending → List ℕ
lines_of [] = []
lines_of (ending ∷ endings) = link_line_of ending.link ending.executed ending.how ++ lines_of endings

-- the requests among these events
abbrev pub with_event : Event → List Request → List Request
with_event (Asked request) requests = request ∷ requests
with_event (Failed fault) requests = requests

-- `handles` says how one request changes the world, and what its reply is.
module _ {World : Type 0} (handles : World → Request → List ℕ → World → Type 0) where
  -- the text of a reply: a request is handled; an error is reported and changes nothing
  abbrev pub IsReply : World → Event → List ℕ → World → Type 0
  IsReply from (Asked request) text to = handles from request text to
  IsReply from (Failed fault) text to = (text ≡ protocol_error_text fault.kind) × (to ≡ from)

  -- `Answers from counts items frames endings to counts' left`: the first of these items were answered in order, each
  -- by a frame of its connection, and `left` are still to answer. At any moment a connection may end, with all its
  -- items that are left; its end tells how many of its requests were executed.
  pub data Answers : World → Counts → List Item → List Frame → List Ending → World → Counts → List Item → Type 0 where
    none : {at : World} {counts counts' : Counts} {items : List Item} → Agree counts counts' → Answers at counts items [] [] at counts' items
    reply : {from mid to : World} {counts next counts' : Counts} {item : Item} {items left : List Item} {text : List ℕ} {frames : List Frame} {endings : List Ending}
        → IsReply from item.event text mid → Agree (counted item counts) next
        → Answers mid next items frames endings to counts' left
        → Answers from counts (item ∷ items) (record { link = item.link; bytes = text } ∷ frames) endings to counts' left
    leave : {from to : World} {counts next counts' : Counts} {items left : List Item} {frames : List Frame} {endings : List Ending} {link : ℕ} {how : LinkEnd}
        → Agree (forgotten link counts) next
        → Answers from next (without link items) frames endings to counts' left
        → Answers from counts items frames (record { link = link; executed = counts link; how = how } ∷ endings) to counts' left

  -- the requests that were answered
  abbrev pub answered : {from to : World} {counts counts' : Counts} {items left : List Item} {frames : List Frame} {endings : List Ending} → Answers from counts items frames endings to counts' left → List Request
  answered (none agree) = []
  answered (leave forgets others) = answered others
  answered (reply {item} here counts others) = with_event item.event (answered others)
