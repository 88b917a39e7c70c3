-- Replies to items one after another.
use Rattle.std.proofs.Common.{ℕ, List, [], ◌∷◌, ◌++◌, refl, sym, ap, subst}
use Rattle.ts_mux.specs.declared.frame.Frame.{Frame}
use Rattle.ts_mux.specs.Order.{Item}
use Rattle.ts_execution.specs.Handling.{World}
use Rattle.ts_engine.specs.Replies.{IsReply, Replies, reply_frame}

pub Replies-append : (from mid to : World) (before after : List Item) (some others : List Frame)
    → Replies from before some mid → Replies mid after others to → Replies from (before ++ after) (some ++ others) to
Replies-append from mid to [] after some others one two =
    subst (λ (w : World). Replies w after (some ++ others) to) one.1 (subst (λ (l : List Frame). Replies mid after (l ++ others) to) (sym one.0) two)
Replies-append from mid to (item ∷ before) after some others one two = record {
  text = one.text;
  others = one.others ++ others;
  mid = one.mid;
  split = ap (λ (l : List Frame). l ++ others) one.split;
  here = one.here;
  after = Replies-append one.mid mid to before after one.others others one.after two;
}

pub Replies-one : (from to : World) (item : Item) (text : List ℕ) → IsReply from item.event text to → Replies from (item ∷ []) (reply_frame item text ∷ []) to
Replies-one from to item text here = record { text = text; others = []; mid = to; split = refl; here = here; after = (refl, refl) }
