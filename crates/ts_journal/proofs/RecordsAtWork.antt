-- Worked examples of records, one for each kind of change.
use Rattle.std.specs.Prelude.{◌≡◌, refl, pos, negsuc, List, [], ◌∷◌, codes, Some, None, Ok, Err, false}
use Rattle.std.specs.Fmt.{digits}
use Rattle.ts_spec.specs.declared.bucket.Aggregator.TheVariants.{Avg}
use Rattle.ts_spec.specs.declared.command.At.TheVariants.{Clock, Time}
use Rattle.ts_spec.specs.declared.series.Encoding.TheVariants.{Uncompressed}
use Rattle.ts_spec.specs.declared.series.Policy.TheVariants.{Last, Max}
use Rattle.ts_spec.specs.declared.units.ValueFault.TheVariants.{NotANumber}
use Rattle.ts_spec.specs.Command.{Spec, Command, Create, Alter, Add, Madd, Incr, DelRange, CreateRule, DeleteRule, Get, Drop}
use Rattle.ts_spec.specs.Refusal.{BadValue, NoKey, Duplicate}
use Rattle.ts_spec.specs.Replies.{array, number, fault_reply, refusal_reply}
use Rattle.ts_spec.specs.Settings.{Word, nothing}
use Rattle.ts_spec.specs.SeriesOptions.{spec}
use Rattle.ts_spec.specs.Text.{Simple}
use Rattle.ts_spec.specs.Value.{shown_value, shown_whole}
use Rattle.ts_journal.specs.Record.{record_words, accepted, record_of}

-- nothing but the usual options, and their words
abbrev usual : Spec
usual = spec nothing

abbrev usual_words : List Word
usual_words =
    codes "RETENTION" ∷ codes "0" ∷ codes "ENCODING" ∷ codes "COMPRESSED" ∷ codes "CHUNK_SIZE" ∷ codes "4096"
    ∷ codes "DUPLICATE_POLICY" ∷ codes "BLOCK" ∷ codes "IGNORE" ∷ codes "0" ∷ codes "0" ∷ codes "LABELS" ∷ []

-- `TS.ADD a * 1` at 1000
abbrev addition : Command
addition = Add (codes "a") Clock (pos 1000000) None usual

an_addition : record_words 1000 addition ≡ codes "TS.ADD" ∷ codes "a" ∷ codes "1000" ∷ codes "1" ∷ usual_words
unfolding digits shown_value shown_whole
an_addition = refl

its_bytes : record_of addition 1000 (number 1000)
    ≡ codes "*16\r\n$6\r\nTS.ADD\r\n$1\r\na\r\n$4\r\n1000\r\n$1\r\n1\r\n$9\r\nRETENTION\r\n$1\r\n0\r\n$8\r\nENCODING\r\n$10\r\nCOMPRESSED\r\n$10\r\nCHUNK_SIZE\r\n$4\r\n4096\r\n$16\r\nDUPLICATE_POLICY\r\n$5\r\nBLOCK\r\n$6\r\nIGNORE\r\n$1\r\n0\r\n$1\r\n0\r\n$6\r\nLABELS\r\n"
unfolding digits shown_value shown_whole
its_bytes = refl

refused : record_of addition 1000 (refusal_reply Duplicate) ≡ []
refused = refl

with_a_policy : record_words 1000 (Add (codes "k") (Time 5) (negsuc 1499999) (Some Max) usual)
    ≡ codes "TS.ADD" ∷ codes "k" ∷ codes "5" ∷ codes "-1.5" ∷ codes "ON_DUPLICATE" ∷ codes "MAX" ∷ usual_words
unfolding digits shown_value shown_whole
with_a_policy = refl

a_new_series : record_words 1000 (Create (codes "k") (record {
  options = record { retention = 7; encoding = Uncompressed; chunk_size = 128; policy = Last; ignore = record { time = 5; value = pos 2500000 } };
  labels = record { name = codes "x"; value = codes "3" } ∷ record { name = codes "y"; value = codes "2" } ∷ [];
}))
    ≡ codes "TS.CREATE" ∷ codes "k" ∷ codes "RETENTION" ∷ codes "7" ∷ codes "ENCODING" ∷ codes "UNCOMPRESSED" ∷ codes "CHUNK_SIZE" ∷ codes "128"
    ∷ codes "DUPLICATE_POLICY" ∷ codes "LAST" ∷ codes "IGNORE" ∷ codes "5" ∷ codes "2.5" ∷ codes "LABELS" ∷ codes "x" ∷ codes "3" ∷ codes "y" ∷ codes "2" ∷ []
unfolding digits shown_value shown_whole
a_new_series = refl

other_options : record_words 1000 (Alter (codes "k") (record { retention = Some 5; chunk_size = None; policy = None; ignore = None; labels = Some [] }))
    ≡ codes "TS.ALTER" ∷ codes "k" ∷ codes "RETENTION" ∷ codes "5" ∷ codes "LABELS" ∷ []
unfolding digits
other_options = refl

more_of_them : record_words 1000 (Alter (codes "k") (record {
  retention = None;
  chunk_size = Some 64;
  policy = Some Max;
  ignore = Some (record { time = 1; value = pos 500000 });
  labels = None;
}))
    ≡ codes "TS.ALTER" ∷ codes "k" ∷ codes "CHUNK_SIZE" ∷ codes "64" ∷ codes "DUPLICATE_POLICY" ∷ codes "MAX" ∷ codes "IGNORE" ∷ codes "1" ∷ codes "0.5" ∷ []
unfolding digits shown_value shown_whole
more_of_them = refl

-- `TS.MADD a * 1 b 5 x c 7 -3 d * 4.5`
abbrev additions : Command
additions = Madd (
    record { key = codes "a"; at = Ok Clock; value = Ok (pos 1000000) }
    ∷ record { key = codes "b"; at = Ok (Time 5); value = Err (BadValue NotANumber) }
    ∷ record { key = codes "c"; at = Ok (Time 7); value = Ok (negsuc 2999999) }
    ∷ record { key = codes "d"; at = Ok Clock; value = Ok (pos 4500000) }
    ∷ [])

two_of_four : record_words 1000 (accepted additions (array (number 1000 ∷ fault_reply (BadValue NotANumber) ∷ refusal_reply NoKey ∷ number 1000 ∷ [])))
    ≡ codes "TS.MADD" ∷ codes "a" ∷ codes "1000" ∷ codes "1" ∷ codes "d" ∷ codes "1000" ∷ codes "4.5" ∷ []
unfolding digits shown_value shown_whole
two_of_four = refl

none_of_them : record_of additions 1000 (array (refusal_reply NoKey ∷ fault_reply (BadValue NotANumber) ∷ refusal_reply NoKey ∷ refusal_reply NoKey ∷ [])) ≡ []
none_of_them = refl

-- `TS.DECRBY c 2.5`, at a reading past the greatest time
a_decrease : record_words 100000000000000000000 (Incr (codes "c") (negsuc 2499999) Clock usual)
    ≡ codes "TS.INCRBY" ∷ codes "c" ∷ codes "-2.5" ∷ codes "TIMESTAMP" ∷ codes "9223372036854775807" ∷ usual_words
unfolding digits shown_value shown_whole
a_decrease = refl

a_deletion : record_words 1000 (DelRange (codes "k") 0 9223372036854775807)
    ≡ codes "TS.DEL" ∷ codes "k" ∷ codes "0" ∷ codes "9223372036854775807" ∷ []
unfolding digits
a_deletion = refl

a_new_rule : record_words 1000 (CreateRule (codes "a") (codes "b") Avg (record { align = 7; duration = 60000 }))
    ≡ codes "TS.CREATERULE" ∷ codes "a" ∷ codes "b" ∷ codes "AGGREGATION" ∷ codes "avg" ∷ codes "60000" ∷ codes "7" ∷ []
unfolding digits
a_new_rule = refl

no_rule : record_words 1000 (DeleteRule (codes "a") (codes "b")) ≡ codes "TS.DELETERULE" ∷ codes "a" ∷ codes "b" ∷ []
no_rule = refl

no_keys : record_words 1000 (Drop (codes "a" ∷ codes "b" ∷ [])) ≡ codes "DEL" ∷ codes "a" ∷ codes "b" ∷ []
no_keys = refl

a_question : record_of (Get (codes "a") false) 1000 (Simple (codes "OK")) ≡ []
a_question = refl
