use Rattle.std.proofs.Common.{sym, ◌∙◌, ap}
use Rattle.std.specs.Prelude.{is_some, if◌then◌else◌}
use Rattle.ts_spec.specs.StoredKeys.{keys_dropped}
use Rattle.ts_db.specs.Store.{db_view_of}
use Rattle.ts_db.proofs.Ending.{still-numbered}
use Rattle.ts_db.proofs.Removal.{free-of, drops-nothing}
use Rattle.ts_db.proofs.Storing.{found-some}
use Rattle.ts_db.proofs.store.Store.drop_key.Goals as goal

pub returns-in_default-clause-there : goal.returns-in_default-clause-there
returns-in_default-clause-there c =
    ap is_some (c.in_default.ensures ∙ c.get.ensures.value) ∙ sym (found-some c.args.self.now.limits c.args.self.now.nodes c.args.self.now.keys.entries c.requires.store c.args.key.now)

pub returns-in_default-clause-keys : goal.returns-in_default-clause-keys
returns-in_default-clause-keys c =
    drops-nothing c.args.self.now.limits c.args.self.now.nodes c.args.self.now.keys.entries c.requires.store c.args.key.now (sym (c.in_default.ensures ∙ c.get.ensures.value))

pub end_rules-requires-clause-there : goal.end_rules-requires-clause-there
end_rules-requires-clause-there c =
    let is = sym (c.in-Some.ensures ∙ c.get.ensures.value) in
    let n = c.requires.store.stored c.args.key.now c.in-Some.id is in
    record { key = c.args.key.now; node = n.0; holds = record { number = is; node = n.1 } }

pub remove_key-requires-clause-there : goal.remove_key-requires-clause-there
remove_key-requires-clause-there c none =
    let is = sym (c.in-Some.ensures ∙ c.get.ensures.value) in
    let n = c.requires.store.stored c.args.key.now c.in-Some.id is in
    absurd (cc (sym none ∙ still-numbered c.args.self.now c.end_rules.new.self c.args.key.now c.in-Some.id (c.end_rules.ensures.alone c.args.key.now n.0 (record { number = is; node = n.1 })) is))

pub remove_key-requires-clause-free : goal.remove_key-requires-clause-free
remove_key-requires-clause-free c =
    let is = sym (c.in-Some.ensures ∙ c.get.ensures.value) in
    let n = c.requires.store.stored c.args.key.now c.in-Some.id is in
    free-of (db_view_of c.args.self.now).keys (db_view_of c.end_rules.new.self).keys c.args.key.now (c.end_rules.ensures.alone c.args.key.now n.0 (record { number = is; node = n.1 })).keys

pub returns-clause-there : goal.returns-clause-there
returns-clause-there c =
    ap is_some (c.in-Some.ensures ∙ c.get.ensures.value) ∙ sym (found-some c.args.self.now.limits c.args.self.now.nodes c.args.self.now.keys.entries c.requires.store c.args.key.now)

pub returns-clause-keys : goal.returns-clause-keys
returns-clause-keys c =
    let is = sym (c.in-Some.ensures ∙ c.get.ensures.value) in
    let n = c.requires.store.stored c.args.key.now c.in-Some.id is in
    c.remove_key.ensures.keys
    ∙ (c.end_rules.ensures.alone c.args.key.now n.0 (record { number = is; node = n.1 })).keys
    ∙ ap (λ b. if b then keys_dropped c.args.key.now (db_view_of c.args.self.now).keys else (db_view_of c.args.self.now).keys)
    (ap is_some (c.in-Some.ensures ∙ c.get.ensures.value) ∙ sym (found-some c.args.self.now.limits c.args.self.now.nodes c.args.self.now.keys.entries c.requires.store c.args.key.now))
