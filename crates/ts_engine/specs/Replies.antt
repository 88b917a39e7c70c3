-- The replies to interleaved connections: each item is answered by one frame.
use Rattle.std.specs.Prelude.{◌≡◌, ℕ, List, [], ◌∷◌}
use Rattle.ts_mux.specs.declared.frame.Frame.{Frame}
use Rattle.ts_mux.specs.Order.{Event, Asked, Failed, Item}
use Rattle.ts_spec.specs.Text.{protocol_error_text}
use Rattle.ts_execution.specs.Handling.{World, handles}

-- the text of a reply: a request is handled; an error is reported and changes nothing
abbrev pub IsReply : World → Event → List ℕ → World → Type 0
IsReply from (Asked request) text to = handles from request text to
IsReply from (Failed fault) text to = (text ≡ protocol_error_text fault.kind) × (to ≡ from)

-- the frame of a reply to an item's connection
abbrev pub reply_frame : Item → List ℕ → Frame
reply_frame item text = record { link = item.link; bytes = text }

-- the first frame answers the item, and the other frames follow
pub record ReplyThen (from : World) (item : Item) (later : World → List Frame → Type 0) (frames : List Frame) : Type 0 where
  pub text : List ℕ
  pub others : List Frame
  pub mid : World
  pub split : frames ≡ reply_frame item text ∷ others
  pub here : IsReply from item.event text mid
  pub after : later mid others

-- each item is answered in order by a frame of its connection
abbrev pub Replies : World → List Item → List Frame → World → Type 0
Replies from [] frames to = (frames ≡ []) × (to ≡ from)
Replies from (item ∷ items) frames to = ReplyThen from item (λ mid others. Replies mid items others to) frames
