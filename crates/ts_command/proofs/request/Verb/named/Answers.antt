use Rattle.std.proofs.Common.{map, ap, ◌∙◌}
use Rattle.std.specs.Prelude.{option_map}
use Rattle.ts_spec.specs.Names.{Table, named}
use Rattle.ts_spec.specs.Grammar.{commands}
use Rattle.ts_command.specs.declared.request.Verb.{Verb}
use Rattle.ts_command.specs.declared.request.TheConstants.{WRITES, OTHERS}
use Rattle.ts_command.specs.Forms.{form_of}
use Rattle.ts_command.proofs.TableLemmas.{found_else, named-append-map}
use Rattle.ts_command.proofs.request.Verb.named.Goals as goal

abbrev writes : Table Verb
writes = map (λ row. (row.0.now, row.1)) WRITES

abbrev others : Table Verb
others = map (λ row. (row.0.now, row.1)) OTHERS

pub returns-in-Some : goal.returns-in-Some
unfolding commands
returns-in-Some c =
    let word = c.args.word.now in
    ap (λ found. option_map form_of (found_else found (named others word))) c.in-Some.ensures ∙ named-append-map form_of writes others word

pub returns-in-None : goal.returns-in-None
unfolding commands
returns-in-None c =
    let word = c.args.word.now in
    ap (option_map form_of) c.named-in-None.ensures
    ∙ ap (λ found. option_map form_of (found_else found (named others word))) c.in-None.ensures ∙ named-append-map form_of writes others word
