use Rattle.std.proofs.Common.{◌≡◌, ◌+◌, ℕ, refl, sym, ◌∙◌, ap, subst}
use Rattle.std.specs.Prelude.{None, Some}
use Rattle.slab.specs.Slab as slab
use Rattle.ts_db.specs.Indexed.{IsIndexed}
use Rattle.ts_db.specs.Store.{Nodes}
use Rattle.ts_db.proofs.Indexing.{node_labels, indexed-updates}
use Rattle.ts_db.proofs.nodes.Nodes.insert.Goals as goal

pub insert-requires : goal.insert-requires
insert-requires c =
    let kept : IsIndexed c.reserve.new.self c.self.inside.index =
    subst (λ (s : Nodes). IsIndexed s c.self.inside.index) (sym c.in_ok-reserve.ensures.rest_kept) c.self.invariant in
    record { absent = kept c.vacant_key.result ∙ ap node_labels c.vacant_key.ensures.vacant }

pub invariant_of-self-in_err-insert : goal.invariant_of-self-in_err-insert
invariant_of-self-in_err-insert c =
    let kept : IsIndexed c.reserve.new.self c.self.inside.index =
    subst (λ (s : Nodes). IsIndexed s c.self.inside.index) (sym c.in_ok-reserve.ensures.rest_kept) c.self.invariant in
    subst (IsIndexed c.reserve.new.self) (sym c.in_err-insert.ensures.err) kept

pub invariant_of-self-in-Err : goal.invariant_of-self-in-Err
invariant_of-self-in-Err c =
    let kept : IsIndexed c.reserve.new.self c.self.inside.index =
    subst (λ (s : Nodes). IsIndexed s c.self.inside.index) (sym c.in_ok-reserve.ensures.rest_kept) c.self.invariant in
    indexed-updates c.reserve.new.self c.reserve.new.self c.self.inside.index c.remove.new.self (record { 0 = c.vacant_key.result }) None
    (record { changed = c.vacant_key.ensures.vacant; others = λ k other. refl })
    (record { here = c.remove.ensures.here; others = λ k other. c.remove.ensures.others k other ∙ c.in_ok-insert.ensures.ok.others k other })
    kept

pub returns-in-Err-clause-unchanged : goal.returns-in-Err-clause-unchanged
returns-in-Err-clause-unchanged c =
    ap (λ (s : Nodes). s.slots) c.in_ok-reserve.ensures.rest_kept ∙ ap (λ (s : Nodes). s.slots) c.self.view_is

pub invariant_of-self-2 : goal.invariant_of-self-2
invariant_of-self-2 c =
    let kept : IsIndexed c.reserve.new.self c.self.inside.index =
    subst (λ (s : Nodes). IsIndexed s c.self.inside.index) (sym c.in_ok-reserve.ensures.rest_kept) c.self.invariant in
    let updates : slab.Updates c.reserve.new.self c.insert_reserved.new.self c.vacant_key.result (Some c.args.node) =
    subst (λ (k : ℕ). slab.Updates c.reserve.new.self c.insert_reserved.new.self k (Some c.args.node)) (c.insert_reserved.ensures.key ∙ sym c.vacant_key.ensures.value) c.insert_reserved.ensures.updates in
    indexed-updates c.reserve.new.self c.insert_reserved.new.self c.self.inside.index c.insert.new.self (record { 0 = c.vacant_key.result }) (Some c.args.node) updates c.in_ok-insert.ensures.ok kept

pub returns-clause-added : goal.returns-clause-added
returns-clause-added c =
    let updates : slab.Updates c.reserve.new.self c.insert_reserved.new.self c.vacant_key.result (Some c.args.node) =
    subst (λ (k : ℕ). slab.Updates c.reserve.new.self c.insert_reserved.new.self k (Some c.args.node)) (c.insert_reserved.ensures.key ∙ sym c.vacant_key.ensures.value) c.insert_reserved.ensures.updates in
    let before : (k : ℕ) → slab.get c.reserve.new.self k ≡ slab.get c.args.self.now k =
    λ k. ap (λ (s : Nodes). slab.get s k) c.in_ok-reserve.ensures.rest_kept ∙ ap (λ (s : Nodes). slab.get s k) c.self.view_is in
    let many : slab.slab_len c.reserve.new.self ≡ slab.slab_len c.args.self.now =
    ap (λ (s : Nodes). slab.slab_len s) c.in_ok-reserve.ensures.rest_kept ∙ ap (λ (s : Nodes). slab.slab_len s) c.self.view_is in
    record {
      vacant = sym (before c.vacant_key.result) ∙ c.vacant_key.ensures.vacant;
      updates = record { changed = updates.changed; others = λ k other. updates.others k other ∙ before k };
      one_more = c.insert_reserved.ensures.len ∙ ap (λ (n : ℕ). n + 1) many;
    }
