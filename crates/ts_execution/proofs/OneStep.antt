-- If no triple of TS.MADD runs out of memory, its items are those of the step of the specification.
use Rattle.std.proofs.Common.{◌≡◌, ◌≢◌, ⊎_elim, ℕ, List, [], ◌∷◌, ◌++◌, map, All, sym, ◌∙◌, ap, subst, append_assoc}
use Rattle.std.proofs.lemmas.List.{append-nil, map-append}
use Rattle.std.proofs.lemmas.List.Elements.{All-head, All-tail}
use Rattle.ts_spec.specs.Command.{Triple, Madd}
use Rattle.ts_spec.specs.Replies.{array, item_reply, memory_reply, reply_to}
use Rattle.ts_spec.specs.Response.{Item, Items}
use Rattle.ts_spec.specs.State.{State}
use Rattle.ts_spec.specs.Step.{Outcome, step, madd, triple_step, item_of}
use Rattle.ts_spec.specs.Text.{Reply}
use Rattle.ts_spec.specs.declared.limits.Limits.{Limits}
use Rattle.ts_db.specs.DbState.{DbState}
use Rattle.ts_execution.specs.Handling.{IsItem, ItemRunsOutOfMemory, IsStep, HaveItems, HasAllItems}

-- an item other than out of memory
abbrev IsNoWant : Reply → Type 0
IsNoWant item = item ≢ memory_reply

-- the outcome with this state and these items
abbrev outcome : State → List Item → Outcome
outcome m items = record { state = m; response = Items items }

-- the step adds these items to those so far, and leaves this state
record Tells (done : Outcome) (so_far : List Item) (items : List Reply) (new : State) : Type 0 where
  pub more : List Item
  pub are : map item_reply more ≡ items
  pub is : done ≡ outcome new (so_far ++ more)

module _ (limits : Limits) (reading : ℕ) where
  tells-none : (old new : State) (so_far : List Item) (items : List Reply) → items ≡ [] → new ≡ old → Tells (madd limits old reading so_far []) so_far items new
  tells-none old new so_far items none same = record {
    more = [];
    are = sym none;
    is = ap (λ (m : State). outcome m so_far) (sym same)
        ∙ ap (λ (l : List Item). outcome new l) (sym (append-nil so_far));
  }

  tells-more : (triple : Triple) (triples : List Triple) (old mid new : State) (so_far : List Item) (items : List Reply) (first : Reply) (others : List Reply) → items ≡ first ∷ others
      → IsItem (triple_step limits old reading triple.key triple.at triple.value) first mid
      → Tells (madd limits mid reading (so_far ++ item_of (triple_step limits old reading triple.key triple.at triple.value).response) triples) (so_far ++ item_of (triple_step limits old reading triple.key triple.at triple.value).response) others new
      → Tells (madd limits old reading so_far (triple ∷ triples)) so_far items new
  tells-more triple triples old mid new so_far items first others split item rest =
      let here : List Item = item_of (triple_step limits old reading triple.key triple.at triple.value).response in
      record {
        more = here ++ rest.more;
        are = map-append item_reply here rest.more ∙ ap (λ (l : List Reply). l ++ map item_reply rest.more) item.reply ∙ ap (λ (l : List Reply). first ∷ l) rest.are ∙ sym split;
        is = ap (λ (m : State). madd limits m reading (so_far ++ here) triples) (sym item.state) ∙ rest.is
            ∙ ap (λ (l : List Item). outcome new l) (append_assoc so_far here rest.more);
      }

  tells : (triples : List Triple) (old new : State) (so_far : List Item) (items : List Reply) → HaveItems limits reading triples old items new → All IsNoWant items
      → Tells (madd limits old reading so_far triples) so_far items new
  tells [] old new so_far items told memory = tells-none old new so_far items told.0 told.1
  tells (triple ∷ triples) old new so_far items told memory =
      let all : All IsNoWant (told.first ∷ told.others) = subst (λ (l : List Reply). All IsNoWant l) told.split memory in
      let done : Outcome = triple_step limits old reading triple.key triple.at triple.value in
      ⊎_elim
      (λ (item : IsItem done told.first told.mid). tells-more triple triples old told.mid new so_far items told.first told.others told.split item
      (tells triples told.mid new (so_far ++ item_of done.response) told.others told.after (All-tail IsNoWant told.first told.others all)))
      (λ (lost : ItemRunsOutOfMemory done triple old told.first told.mid). absurd (All-head IsNoWant told.first told.others all lost.reply))
      told.here

pub all_items_are_a_step : (reading : ℕ) (triples : List Triple) (old new : DbState) (reply : Reply) → (all : HasAllItems reading triples old reply new)
    → All (λ item. item ≢ memory_reply) all.items → IsStep (step old.limits old.state reading (Madd triples)) old reply new
all_items_are_a_step reading triples old new reply all memory =
    let told : Tells (madd old.limits old.state reading [] triples) [] all.items new.state = tells old.limits reading triples old.state new.state [] all.items all.each memory in
    record {
      says = all.says ∙ ap array (sym told.are) ∙ ap (λ (done : Outcome). reply_to done.response) (sym told.is);
      state = ap (λ (done : Outcome). done.state) (sym told.is);
      limits = all.limits;
    }
