use Rattle.std.proofs.Common.{◌≡◌, sym, ◌∙◌, ap, arith}
use Rattle.std.specs.Prelude.{Some, Ok, Err}
use Rattle.slab.specs.Slab as slab
use Rattle.ts_spec.specs.Key.{Key}
use Rattle.ts_spec.specs.Keyed.{get}
use Rattle.ts_spec.specs.StoredQueries.{stored_info_response}
use Rattle.ts_spec.specs.Queries.{info_response}
use Rattle.ts_spec.specs.Response.{KeyInfo}
use Rattle.ts_sample.specs.declared.sample.Id.{Id}
use Rattle.ts_series.specs.History.{reach}
use Rattle.ts_db.specs.declared.fault.DbFault.TheVariants.{Memory}
use Rattle.ts_db.specs.declared.info.Info.{Info}
use Rattle.ts_db.specs.declared.node.Node.{Node}
use Rattle.ts_db.specs.declared.store.Store.{Store}
use Rattle.ts_db.specs.DbState.{DbView, reach_at}
use Rattle.ts_db.specs.Information.{info_of}
use Rattle.ts_db.specs.Store.{stored_node, db_view_of, IsInOrder, Holds}
use Rattle.ts_db.proofs.Applying.{there}
use Rattle.ts_db.proofs.Asking.{numbered-holds, node-live, finds-no-key, finds-there}
use Rattle.ts_db.proofs.Indexing.{contains}
use Rattle.ts_db.proofs.Laws.{told-law}
use Rattle.ts_db.proofs.Reaches.{reach-held}
use Rattle.ts_db.proofs.db.Db.info.Goals as goal

-- a node under the id that the key has
module _ (s : Store) (store : IsInOrder s) (db_view : DbView) (view : db_view_of s ≡ db_view) (key : Key) (id : Id) (is : Some id ≡ get key db_view.ids) where
  number : get key (db_view_of s).ids ≡ Some id
  number = ap (λ (st : DbView). get key st.ids) view ∙ sym is

  module _ (n : Node) (at : Some n ≡ slab.get s.nodes id.0) where
    holds : Holds s key id n
    holds = numbered-holds s key id n number (sym at)

    told : stored_info_response (Some (stored_node s.nodes n)) ≡ stored_info_response (get key db_view.keys)
    told = sym (ap stored_info_response (there s store key id n holds)) ∙ ap (λ (st : DbView). stored_info_response (get key st.keys)) view

    far : reach_at db_view key ≡ reach n.series
    far = sym (ap (λ (st : DbView). reach_at st key) view) ∙ reach-held s key id n holds

pub returns-in_default-clause-info : goal.returns-in_default-clause-info
returns-in_default-clause-info g c =
    finds-no-key {T = Info} c.args.self.now c.args.key.now (λ held info. KeyInfo (info_of info) ≡ info_response held.state c.args.key.now (get c.args.key.now held.state)) c.in_default.ensures.there

pub node-node-requires : goal.node-node-requires
node-node-requires g c =
    let s = c.self.inside.store in
    let of = node-live s c.self.invariant.store c.in-Some.id (record { key = c.args.key.now; is = number s c.self.invariant.store c.args.self.now c.self.view_is c.args.key.now c.in-Some.id c.in-Some.ensures.id }) in
    contains s.nodes c.in-Some.id of.0 of.1

pub returns-in-Ok-clause-info : goal.returns-in-Ok-clause-info
returns-in-Ok-clause-info g c =
    finds-there c.args.self.now c.args.key.now (λ held info. KeyInfo (info_of info) ≡ info_response held.state c.args.key.now (get c.args.key.now held.state)) (Ok c.in-Ok.info) c.in-Some.ensures.there
    (λ held st. c.in-Ok.ensures.info
    ∙ told c.self.inside.store c.self.invariant.store c.args.self.now c.self.view_is c.args.key.now c.in-Some.id c.in-Some.ensures.id c.node-node.result.now (sym c.node-node.ensures)
    ∙ told-law c.args.self.now c.args.key.now held st)

pub returns-in-Err-clause-info : goal.returns-in-Err-clause-info
returns-in-Err-clause-info g c =
    finds-there {T = Info} c.args.self.now c.args.key.now (λ held info. KeyInfo (info_of info) ≡ info_response held.state c.args.key.now (get c.args.key.now held.state)) (Err (Memory c.in-Err.fault)) c.in-Some.ensures.there
    (λ held st. tt)

pub returns-in-Ok-clause-steps : goal.returns-in-Ok-clause-steps
returns-in-Ok-clause-steps g c =
    record {
      counted = c.info_of.ensures.steps.counted;
      bounded = omega (arith, c.info_of.ensures.steps.bounded, far c.self.inside.store c.self.invariant.store c.args.self.now c.self.view_is c.args.key.now c.in-Some.id c.in-Some.ensures.id c.node-node.result.now (sym c.node-node.ensures));
    }

pub returns-in-Err-clause-steps : goal.returns-in-Err-clause-steps
returns-in-Err-clause-steps g c =
    record {
      counted = c.info_of.ensures.steps.counted;
      bounded = omega (arith, c.info_of.ensures.steps.bounded, far c.self.inside.store c.self.invariant.store c.args.self.now c.self.view_is c.args.key.now c.in-Some.id c.in-Some.ensures.id c.node-node.result.now (sym c.node-node.ensures));
    }
