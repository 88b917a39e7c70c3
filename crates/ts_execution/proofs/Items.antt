-- The items of TS.MADD add up.
use Rattle.std.proofs.Common.{◌≡◌, ◌+◌, ◌*◌, ◌≤◌, ℕ, List, [], ◌∷◌, ◌++◌, length, refl, sym, ◌∙◌, ap, subst, append_assoc, arith, length-append}
use Rattle.std.proofs.lemmas.List.{append-nil, length-map}
use Rattle.std.specs.Fmt.{decimal}
use Rattle.ts_spec.specs.Command.{Triple}
use Rattle.ts_spec.specs.Replies.{reply_list, array}
use Rattle.ts_spec.specs.State.{State}
use Rattle.ts_spec.specs.Text.{Reply, text, texts, line_text, count_of}
use Rattle.ts_spec.specs.declared.limits.Limits.{Limits}
use Rattle.ts_command.specs.declared.command.Triple.{Triple as Given}
use Rattle.ts_command.specs.Reading.{triple_of, triples_of}
use Rattle.ts_db.specs.DbState.{DbState, DbView, Simulates}
use Rattle.ts_questions.specs.Answering.{IsShort}
use Rattle.ts_questions.proofs.ReplyTexts.{count-reply_list}
use Rattle.ts_execution.specs.Handling.{HasItem, HaveItems, WritesAll}
use Rattle.ts_execution.proofs.Carried.{carries_none, carries_as, carries_then}
use Rattle.ts_execution.proofs.TripleItems.{Tells}

pub no_items : {X : Type 0} (xs : List X) → length xs ≡ 0 → xs ≡ []
no_items [] none = refl
no_items (x ∷ xs) none = absurd (omega (arith, none))

pub length-triples : (triples : List Given) → length (triples_of triples) ≡ length triples
length-triples triples = length-map triples triple_of

-- the first triples have these items; with those of the rest they are all items
pub record SoFar (reading : ℕ) (all rest : List Triple) (old now : DbState) (written : List ℕ) : Type 0 where
  pub items : List Reply
  pub goes_on : (others : List Reply) (to : State) → HaveItems old.limits reading rest now.state others to → HaveItems old.limits reading all old.state (items ++ others) to
  pub bytes : written ≡ line_text 42 (decimal (length all)) ++ texts (reply_list items)
  pub count : length items + length rest ≡ length all
  pub limits : now.limits ≡ old.limits

so_far_none : (reading : ℕ) (all : List Triple) (old : DbState) (written : List ℕ) → written ≡ line_text 42 (decimal (length all)) → SoFar reading all all old old written
so_far_none reading all old written is = record {
  items = [];
  goes_on = λ others to told. told;
  bytes = is ∙ sym (append-nil (line_text 42 (decimal (length all))));
  count = omega arith;
  limits = refl;
}

pub texts-append : (a b : List Reply) → texts (reply_list (a ++ b)) ≡ texts (reply_list a) ++ texts (reply_list b)
texts-append [] b = refl
texts-append (r ∷ a) b = ap (λ (l : List ℕ). text r ++ l) (texts-append a b) ∙ sym (append_assoc (text r) (texts (reply_list a)) (texts (reply_list b)))

-- one more triple has its item
so_far_more : (reading : ℕ) (all rest : List Triple) (triple : Triple) (old mid new : DbState) (item : Reply) (before after : List ℕ) → SoFar reading all (triple ∷ rest) old mid before
    → HasItem mid.limits reading triple mid.state item new.state → new.limits ≡ mid.limits → after ≡ before ++ text item → SoFar reading all rest old new after
so_far_more reading all rest triple old mid new item before after so_far told limits is = record {
  items = so_far.items ++ item ∷ [];
  goes_on = λ others to rest_of_triples_answered.
      subst (λ (l : List Reply). HaveItems old.limits reading all old.state l to) (sym (append_assoc so_far.items (item ∷ []) others))
      (so_far.goes_on (item ∷ others) to (record {
        first = item;
        others = others;
        mid = new.state;
        split = refl;
        here = subst (λ (l : Limits). HasItem l reading triple mid.state item new.state) so_far.limits told;
        after = rest_of_triples_answered;
      }));
  bytes = is ∙ ap (λ (l : List ℕ). l ++ text item) so_far.bytes
      ∙ append_assoc (line_text 42 (decimal (length all))) (texts (reply_list so_far.items)) (text item)
      ∙ ap (λ (l : List ℕ). line_text 42 (decimal (length all)) ++ l)
      (ap (λ (l : List ℕ). texts (reply_list so_far.items) ++ l) (sym (append-nil (text item))) ∙ sym (texts-append so_far.items (item ∷ [])));
  count = omega (arith, so_far.count, length-append so_far.items (item ∷ []));
  limits = limits ∙ so_far.limits;
}

-- the same for each state that the database represented
pub record EachSoFar (reading : ℕ) (all rest : List Triple) (first now : DbView) (written : List ℕ) : Type 0 where
  pub each : Simulates first now (λ from to. SoFar reading all rest from to written)

pub each_none : (reading : ℕ) (all rest : List Triple) (db_view : DbView) (written : List ℕ) → rest ≡ all → written ≡ line_text 42 (decimal (length all)) → EachSoFar reading all rest db_view db_view written
each_none reading all rest db_view written same is = record {
  each = carries_none db_view (λ from to. SoFar reading all rest from to written)
      (λ from stands. subst (λ (l : List Triple). SoFar reading all l from from written) (sym same) (so_far_none reading all from written is));
}

pub each_more : (reading : ℕ) (all here rest : List Triple) (triple : Triple) (first mid new : DbView) (item : Reply) (before after : List ℕ) → EachSoFar reading all here first mid before
    → here ≡ triple ∷ rest → Simulates mid new (λ from to. Tells reading triple item from to) → after ≡ before ++ text item → EachSoFar reading all rest first new after
each_more reading all here rest triple first mid new item before after so_far split told is = record {
  each = carries_then first mid new (λ from to. SoFar reading all here from to before) (λ from to. Tells reading triple item from to) (λ from to. SoFar reading all rest from to after)
      (λ from between to so one.
      so_far_more reading all rest triple from between to item before after (subst (λ (l : List Triple). SoFar reading all l from between before) split so) one.0 one.1 is)
      so_far.each told;
}

-- all triples have their items
all_triples_answered : (reading : ℕ) (all : List Triple) (old new : DbState) (written : List ℕ) → SoFar reading all [] old new written → WritesAll reading all old written new
all_triples_answered reading all old new written so_far =
    let size : length all ≡ count_of (reply_list so_far.items) = omega (arith, so_far.count, count-reply_list so_far.items) in
    record {
      reply = array so_far.items;
      its_text = so_far.bytes ∙ ap (λ n. line_text 42 (decimal n) ++ texts (reply_list so_far.items)) size;
      all = record {
        items = so_far.items;
        each = subst (λ (l : List Reply). HaveItems old.limits reading all old.state l new.state) (append-nil so_far.items) (so_far.goes_on [] new.state (refl, refl));
        says = refl;
        limits = so_far.limits;
      };
    }

pub each_triple_answered : (reading : ℕ) (all rest : List Triple) (old new : DbView) (written : List ℕ) → EachSoFar reading all rest old new written → rest ≡ [] → Simulates old new (λ from to. WritesAll reading all from written to)
each_triple_answered reading all rest old new written so_far none =
    carries_as old new (λ from to. SoFar reading all rest from to written) (λ from to. WritesAll reading all from written to)
    (λ from to so. all_triples_answered reading all from to written (subst (λ (l : List Triple). SoFar reading all l from to written) none so)) so_far.each

-- the items so far are in the buffer, which has space for those of the remaining triples
pub record Adding (reading : ℕ) (all rest : List Triple) (first now : DbView) (written : List ℕ) (spare : ℕ) : Type 0 where
  pub so_far : EachSoFar reading all rest first now written
  pub items : 64 * length rest ≤ spare
  pub room : 128 ≤ length written + spare

-- one more item was written
pub adding_more : (reading : ℕ) (all here rest : List Triple) (triple : Triple) (first mid new : DbView) (item : Reply) (before after : List ℕ) (spare spare' : ℕ)
    → Adding reading all here first mid before spare → here ≡ triple ∷ rest → Simulates mid new (λ from to. Tells reading triple item from to) → IsShort item
    → after ≡ before ++ text item → spare' + length (text item) ≡ spare → Adding reading all rest first new after spare'
adding_more reading all here rest triple first mid new item before after spare spare' adding split told short is left = record {
  so_far = each_more reading all here rest triple first mid new item before after adding.so_far split told is;
  items = omega (arith, ap length split, adding.items, short, left);
  room = omega (arith, ap length is, length-append before (text item), adding.items, ap length split, short, left, adding.room);
}
