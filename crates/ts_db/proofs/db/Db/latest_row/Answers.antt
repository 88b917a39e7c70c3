use Rattle.std.proofs.Common.{sym, ◌∙◌, ap, subst}
use Rattle.std.specs.Prelude.{Option}
use Rattle.ts_spec.specs.Keyed.{get}
use Rattle.ts_spec.specs.StoredStep.{list_at}
use Rattle.ts_spec.specs.Sample.{Point, put_all}
use Rattle.ts_rules.specs.Rules.{one_of}
use Rattle.ts_db.specs.DbState.{DbView, IsLive}
use Rattle.ts_db.specs.Latest.{rule_among}
use Rattle.ts_db.specs.Store.{db_view_of, IsLiveSource}
use Rattle.ts_db.proofs.Asking.{numbered-holds, node-live}
use Rattle.ts_db.proofs.Indexing.{contains}
use Rattle.ts_db.proofs.Opened.{asked-bare, asked-missing, asked-row}
use Rattle.ts_db.proofs.db.Db.latest_row.Goals as goal

pub node-node-requires : goal.node-node-requires
node-node-requires c =
    let of = node-live c.self.inside.store c.self.invariant.store c.args.id (subst (λ (db_view : DbView). IsLive db_view.ids c.args.id) (sym c.self.view_is) c.requires) in
    contains c.self.inside.store.nodes c.args.id of.0 of.1

pub node-source-requires : goal.node-source-requires
node-source-requires c =
    let live = subst (IsLiveSource c.self.inside.store.nodes) c.in_ok-node.was (c.self.invariant.store.live c.args.id.0 c.node-node.result.now c.node-node.ensures).source in
    contains c.self.inside.store.nodes c.in_ok-node.field-0 live.node live.there

pub returns-in_err-node : goal.returns-in_err-node
returns-in_err-node c = rw (← c.self.view_is) (λ key at.
    let s = c.self.inside.store in
    let holds = numbered-holds s key c.args.id c.node-node.result.now at c.node-node.ensures in
    asked-bare s c.self.invariant.store key c.args.id c.node-node.result.now holds c.in_err-node.was
    ∙ ap (λ (o : Option Point). put_all (one_of o) (list_at (get key (db_view_of s).keys))) (sym c.from_residual.ensures))

pub returns-in_err-rule : goal.returns-in_err-rule
returns-in_err-rule c = rw (← c.self.view_is) (λ key at.
    let s = c.self.inside.store in
    let holds = numbered-holds s key c.args.id c.node-node.result.now at c.node-node.ensures in
    asked-missing s c.self.invariant.store key c.args.id c.node-node.result.now holds c.in_ok-node.field-0 c.node-source.result.now c.in_ok-node.was c.node-source.ensures
    (c.in_err-rule.ensures ∙ ap (rule_among c.args.id.0) c.deref.ensures.value)
    ∙ ap (λ (o : Option Point). put_all (one_of o) (list_at (get key (db_view_of s).keys))) (sym c.from_residual-in_err-rule.ensures))

pub returns : goal.returns
returns c = rw (← c.self.view_is) (λ key at.
    let s = c.self.inside.store in
    let holds = numbered-holds s key c.args.id c.node-node.result.now at c.node-node.ensures in
    asked-row s c.self.invariant.store key c.args.id c.node-node.result.now holds c.in_ok-node.field-0 c.node-source.result.now c.in_ok-node.was c.node-source.ensures c.in_ok-rule.rule (one_of c.row_for.result)
    (c.in_ok-rule.ensures ∙ ap (rule_among c.args.id.0) c.deref.ensures.value) c.row_for.ensures)
