-- The options of a record parse as the same options.
use Rattle.std.proofs.Common.{◌≡◌, ℕ, ◌≤◌, true, List, ◌∷◌, ◌++◌, codes, refl, ◌∙◌, ap, append_assoc}
use Rattle.std.specs.Prelude.{Option, None, Some, IfSome, Ok}
use Rattle.std.specs.Fmt.{decimal}
use Rattle.ts_spec.specs.declared.command.At.{At}
use Rattle.ts_spec.specs.declared.command.At.TheVariants.{Time}
use Rattle.ts_spec.specs.declared.series.Ignore.{Ignore}
use Rattle.ts_spec.specs.declared.series.Policy.{Policy}
use Rattle.ts_spec.specs.Command.{Spec, Change}
use Rattle.ts_spec.specs.Names.{Table, named}
use Rattle.ts_spec.specs.Sample.{MAX_TIME}
use Rattle.ts_spec.specs.SeriesOptions.{is_chunk_size, on_duplicate, timestamp, alter_options, add_options, incr_options}
use Rattle.ts_spec.specs.Settings.{Word, Given, nothing, Setting, is_known, options}
use Rattle.ts_spec.specs.State.{Label}
use Rattle.ts_journal.specs.Record as record_
use Rattle.ts_journal.specs.Record.{encoding_name, policy_name, retention_words, encoding_words, chunk_size_words, policy_words, on_duplicate_words, ignore_words, label_pairs, labels_words, spec_words, change_words}
use Rattle.ts_journal.proofs.LabelWords.{AreReadable}
use Rattle.ts_journal.proofs.Numbers.{at-decimal}
use Rattle.ts_journal.proofs.Readable.{IsSmall}
use Rattle.ts_journal.proofs.ReadableOptions.{IsReadableIgnore, IsReadableSpec, IsReadableChange}
use Rattle.ts_journal.proofs.OptionWords.{policy-named, one-read, Knows, KnowsAll, add-knows, incr-knows, alter-knows, retention-read, encoding-read, chunk_size-read, policy-read, ignore-read, labels-read}

-- ---- all options of a new series

-- what was said before the options of a series are
abbrev pub begun : Option Policy → Option At → Given
begun on at = record nothing { on = on; at = at }

abbrev pub spec_given : Option Policy → Option At → Spec → Given
spec_given on at s = record nothing {
  retention = Some s.options.retention;
  encoding = Some s.options.encoding;
  chunk_size = Some s.options.chunk_size;
  policy = Some s.options.policy;
  ignore = Some s.options.ignore;
  on = on;
  at = at;
  labels = Some s.labels;
}

pub spec-read : (known : Table Setting) → KnowsAll known → (on : Option Policy) (at : Option At) (s : Spec) → IsReadableSpec known s
    → options known (begun on at) 0 (spec_words s) ≡ Ok (spec_given on at s)
spec-read known k on at s h =
    let one : Given = record (begun on at) { retention = Some s.options.retention } in
    let two : Given = record one { encoding = Some s.options.encoding } in
    let three : Given = record two { chunk_size = Some s.options.chunk_size } in
    let four : Given = record three { policy = Some s.options.policy } in
    let five : Given = record four { ignore = Some s.options.ignore } in
    retention-read known k.others (begun on at) refl s.options.retention h.retention _
    ∙ encoding-read known k one refl s.options.encoding _
    ∙ chunk_size-read known k.others two refl s.options.chunk_size h.chunk_size _
    ∙ policy-read known k.others three refl s.options.policy _
    ∙ ignore-read known k.others four refl s.options.ignore h.ignore _
    ∙ labels-read known k.others five refl s.labels h.labels

-- ---- the options of a change, where they are given

retention-read-if : (known : Table Setting) → Knows known → (given : Given) → given.retention ≡ None → (o : Option ℕ) → IfSome o IsSmall → (rest : List Word)
    → options known given 0 (record_.given retention_words o ++ rest) ≡ options known (record given { retention = o }) 0 rest
retention-read-if known k given new None h rest = ap (λ o. options known (record given { retention = o }) 0 rest) new
retention-read-if known k given new (Some n) h rest = retention-read known k given new n h rest

chunk_size-read-if : (known : Table Setting) → Knows known → (given : Given) → given.chunk_size ≡ None → (o : Option ℕ) → IfSome o (λ n. is_chunk_size n ≡ true) → (rest : List Word)
    → options known given 0 (record_.given chunk_size_words o ++ rest) ≡ options known (record given { chunk_size = o }) 0 rest
chunk_size-read-if known k given new None h rest = ap (λ o. options known (record given { chunk_size = o }) 0 rest) new
chunk_size-read-if known k given new (Some n) h rest = chunk_size-read known k given new n h rest

policy-read-if : (known : Table Setting) → Knows known → (given : Given) → given.policy ≡ None → (o : Option Policy) → (rest : List Word)
    → options known given 0 (record_.given policy_words o ++ rest) ≡ options known (record given { policy = o }) 0 rest
policy-read-if known k given new None rest = ap (λ o. options known (record given { policy = o }) 0 rest) new
policy-read-if known k given new (Some p) rest = policy-read known k given new p rest

ignore-read-if : (known : Table Setting) → Knows known → (given : Given) → given.ignore ≡ None → (o : Option Ignore) → IfSome o IsReadableIgnore → (rest : List Word)
    → options known given 0 (record_.given ignore_words o ++ rest) ≡ options known (record given { ignore = o }) 0 rest
ignore-read-if known k given new None h rest = ap (λ o. options known (record given { ignore = o }) 0 rest) new
ignore-read-if known k given new (Some i) h rest = ignore-read known k given new i h rest

labels-read-if : (known : Table Setting) → Knows known → (given : Given) → given.labels ≡ None → (o : Option (List Label)) → IfSome o (AreReadable (is_known known))
    → options known given 0 (record_.given labels_words o) ≡ Ok (record given { labels = o })
labels-read-if known k given new None h = ap (λ o. Ok (record given { labels = o })) new
labels-read-if known k given new (Some ls) h = labels-read known k given new ls h

abbrev pub change_given : Change → Given
change_given c = record nothing {
  retention = c.retention;
  chunk_size = c.chunk_size;
  policy = c.policy;
  ignore = c.ignore;
  labels = c.labels;
}

in-turn : (a b c d e : List Word) → a ++ b ++ c ++ d ++ e ≡ a ++ (b ++ (c ++ (d ++ e)))
in-turn a b c d e = append_assoc (a ++ b ++ c) d e ∙ append_assoc (a ++ b) c (d ++ e) ∙ append_assoc a b (c ++ (d ++ e))

pub change-read : (c : Change) → IsReadableChange alter_options c → options alter_options nothing 0 (change_words c) ≡ Ok (change_given c)
change-read c h =
    let one : Given = record nothing { retention = c.retention } in
    let two : Given = record one { chunk_size = c.chunk_size } in
    let three : Given = record two { policy = c.policy } in
    let four : Given = record three { ignore = c.ignore } in
    ap (options alter_options nothing 0) (in-turn (record_.given retention_words c.retention) (record_.given chunk_size_words c.chunk_size)
    (record_.given policy_words c.policy) (record_.given ignore_words c.ignore) (record_.given labels_words c.labels))
    ∙ retention-read-if alter_options alter-knows nothing refl c.retention h.retention _
    ∙ chunk_size-read-if alter_options alter-knows one refl c.chunk_size h.chunk_size _
    ∙ policy-read-if alter_options alter-knows two refl c.policy _
    ∙ ignore-read-if alter_options alter-knows three refl c.ignore h.ignore _
    ∙ labels-read-if alter_options alter-knows four refl c.labels h.labels

-- ---- options of one command

knows-on : named add_options (codes "ON_DUPLICATE") ≡ Some on_duplicate
unfolding add_options
knows-on = refl

knows-timestamp : named incr_options (codes "TIMESTAMP") ≡ Some timestamp
unfolding incr_options
knows-timestamp = refl

pub add-options-read : (on : Option Policy) (s : Spec) → IsReadableSpec add_options s
    → options add_options nothing 0 (record_.given on_duplicate_words on ++ spec_words s) ≡ Ok (spec_given on None s)
add-options-read None s h = spec-read add_options add-knows None None s h
add-options-read (Some p) s h =
    one-read add_options nothing (begun (Some p) None) (codes "ON_DUPLICATE") (policy_name p) (spec_words s) _ _ knows-on refl (rw (policy-named p) refl)
    ∙ spec-read add_options add-knows (Some p) None s h

pub incr-options-read : (t : ℕ) (s : Spec) → t ≤ MAX_TIME → IsReadableSpec incr_options s
    → options incr_options nothing 0 (codes "TIMESTAMP" ∷ decimal t ∷ spec_words s) ≡ Ok (spec_given None (Some (Time t)) s)
incr-options-read t s early h =
    one-read incr_options nothing (begun None (Some (Time t))) (codes "TIMESTAMP") (decimal t) (spec_words s) _ _ knows-timestamp refl (rw (at-decimal t early) refl)
    ∙ spec-read incr_options incr-knows None (Some (Time t)) s h
