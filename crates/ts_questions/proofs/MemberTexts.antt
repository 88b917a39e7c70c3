-- Writing one member.
use Rattle.std.proofs.Common.{◌≡◌, Bool, false, ℕ, List, ◌++◌, refl, sym, ap, subst, ◌∙◌}
use Rattle.std.specs.Prelude.{Option, None, Some, option_map, is_none, Result, Ok, Err, IfErr, OnOk}
use Rattle.std.specs.declared.alloc.AllocError.{AllocError}
use Rattle.ts_spec.specs.declared.limits.Limits.{Limits}
use Rattle.ts_spec.specs.Answer.{Row, answer}
use Rattle.ts_spec.specs.Command as command
use Rattle.ts_spec.specs.Key.{Key}
use Rattle.ts_spec.specs.Keyed.{get}
use Rattle.ts_spec.specs.StoredSeries.{StoredKeys}
use Rattle.ts_spec.specs.StoredQueries.{stored_asked, stored_labels_at, stored_member}
use Rattle.ts_spec.specs.Queries.{labels_shown}
use Rattle.ts_spec.specs.Replies.{member_reply}
use Rattle.ts_spec.specs.Response.{Member}
use Rattle.ts_spec.specs.State.{Label}
use Rattle.ts_spec.specs.Text.{text}
use Rattle.ts_labels.specs.declared.labels.Show.{Show}
use Rattle.ts_labels.specs.Show.{show_of}
use Rattle.ts_range.specs.declared.query.RangeFault.{RangeFault}
use Rattle.ts_multi.specs.Members.{member_with}
use Rattle.ts_questions.specs.Members.{in_memory, is_too_many, rows_at, IsAdded}

-- what follows where a call that may only find no memory is done
pub in-memory-done : (r : Result (Unit {0}) AllocError) (x : Result (Unit {0}) RangeFault) (P Q : Type 0) → x ≡ in_memory r → (P → Q) → OnOk r P → OnOk x Q
in-memory-done (Ok done) x P Q is more h = subst (λ (y : Result (Unit {0}) RangeFault). OnOk y Q) (sym is) (more h)
in-memory-done (Err fault) x P Q is more h = subst (λ (y : Result (Unit {0}) RangeFault). OnOk y Q) (sym is) tt

-- its fault is not that the rows are too many
pub memory-fault : (r : Result (Unit {0}) AllocError) (x : Result (Unit {0}) RangeFault) (Q : Bool → Type 0) → x ≡ in_memory r → Q false → IfErr x (λ fault. Q (is_too_many fault))
memory-fault (Ok done) x Q is told = subst (λ (y : Result (Unit {0}) RangeFault). IfErr y (λ fault. Q (is_too_many fault))) (sym is) tt
memory-fault (Err fault) x Q is told = subst (λ (y : Result (Unit {0}) RangeFault). IfErr y (λ fault. Q (is_too_many fault))) (sym is) told

-- the member that a key and labels make is that of what is kept
pub member-told : (m : StoredKeys) (show : Show) (key k : Key) (labels : List Label) (rows : List Row) → k ≡ key → labels ≡ stored_labels_at (get key m)
    → member_with show k labels rows ≡ stored_member m (show_of show) key rows
member-told m show key k labels rows name own = λ i. record { key = name i; labels = labels_shown (show_of show) (own i); rows = rows }

module _ (limits : Limits) (m : StoredKeys) (latest : Bool) (show : command.Show) (q : command.Query) (key : Key) where
  -- its rows are told
  pub rows-added : (rows : List Row) (member : Member) (before after : List ℕ) → answer limits.empty_rows q (stored_asked m latest key) ≡ Some rows → member ≡ stored_member m show key rows
      → after ≡ before ++ text (member_reply member) → IsAdded text (rows_at limits m latest show q key) before after
  rows-added rows member before after answered is added =
      subst (λ (o : Option (List Row)). IsAdded text (option_map (λ rows. member_reply (stored_member m show key rows)) o) before after) (sym answered)
      (added ∙ ap (λ (x : Member). before ++ text (member_reply x)) is)

  -- they are not
  pub rows-some : (rows : List Row) → answer limits.empty_rows q (stored_asked m latest key) ≡ Some rows → is_none (rows_at limits m latest show q key) ≡ false
  rows-some rows answered = ap (λ (o : Option (List Row)). is_none (option_map (λ rows. member_reply (stored_member m show key rows)) o)) answered

  -- there is no member exactly where they are
  pub rows-refused : is_none (answer limits.empty_rows q (stored_asked m latest key)) ≡ is_none (rows_at limits m latest show q key)
  rows-refused = go (answer limits.empty_rows q (stored_asked m latest key))
    where
      go : (o : Option (List Row)) → is_none o ≡ is_none (option_map (λ rows. member_reply (stored_member m show key rows)) o)
      go None = refl
      go (Some rows) = refl
