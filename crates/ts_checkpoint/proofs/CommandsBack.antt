-- The commands in the records of series and rules read back.
use Rattle.std.proofs.Common.{◌≡◌, ◌≢◌, ℕ, ◌≤◌, ◌^◌, nat_lt, false, [], length, refl, arith}
use Rattle.std.proofs.lemmas.Bool.{le-leb}
use Rattle.std.proofs.lemmas.Bool.Decides.{nat_tests}
use Rattle.std.specs.Prelude.{Ok}
use Rattle.std.specs.Fmt.{decimal}
use Rattle.ts_spec.specs.declared.bucket.Aggregator.{Aggregator}
use Rattle.ts_spec.specs.declared.bucket.Aggregator.TheVariants as agg
use Rattle.ts_spec.specs.declared.limits.Limits.{Limits}
use Rattle.ts_spec.specs.Bucket.{Grid}
use Rattle.ts_spec.specs.Command.{Spec, Command, Create, CreateRule}
use Rattle.ts_spec.specs.Grammar.{commands, command}
use Rattle.ts_spec.specs.Key.{Key}
use Rattle.ts_spec.specs.Limits.{usual}
use Rattle.ts_spec.specs.Names.{aggregators}
use Rattle.ts_spec.specs.Ranges.{aggregator_word, duration_word}
use Rattle.ts_spec.specs.Replies.{aggregator_name, reply_to}
use Rattle.ts_spec.specs.ResolvedCommands.{resolved}
use Rattle.ts_spec.specs.Response.{Response, Done}
use Rattle.ts_spec.specs.Sample.{MAX_TIME}
use Rattle.ts_spec.specs.Settings.{time_word}
use Rattle.ts_spec.specs.State.{State, empty}
use Rattle.ts_spec.specs.Step.{step}
use Rattle.ts_spec.specs.Text.{Reply}
use Rattle.ts_spec.specs.Wire.{Request}
use Rattle.ts_bucket.specs.Grid.{IsGrid}
use Rattle.ts_journal.specs.Record.{accepted, record_words, record_of}
use Rattle.ts_journal.specs.RecordReplay.{IsRecorded}
use Rattle.ts_journal.proofs.Numbers.{number-decimal}

-- ---- TS.CREATERULE

aggregator-read : (a : Aggregator) → aggregator_word (aggregator_name a) ≡ Ok a
unfolding aggregator_word aggregators
aggregator-read agg.Avg = refl
aggregator-read agg.Sum = refl
aggregator-read agg.Min = refl
aggregator-read agg.Max = refl
aggregator-read agg.Range = refl
aggregator-read agg.Count = refl
aggregator-read agg.First = refl
aggregator-read agg.Last = refl

duration-read : (n : ℕ) → 1 ≤ n → n ≤ 10 ^ 14 → duration_word (decimal n) ≡ Ok n
unfolding duration_word
duration-read n from to = rw (number-decimal n (omega arith), le-leb 1 n from, le-leb n (10 ^ 14) to) refl

align-read : (n : ℕ) → n ≤ MAX_TIME → time_word (decimal n) ≡ Ok n
unfolding time_word
align-read n h = rw (number-decimal n h) refl

pub create_rule-read : (source dest : Key) (a : Aggregator) (grid : Grid) → IsGrid grid
    → command (record_words 0 (CreateRule source dest a grid)) ≡ Ok (CreateRule source dest a grid)
unfolding commands
create_rule-read source dest a grid h =
    rw (aggregator-read a, duration-read grid.duration h.some h.short, align-read grid.align h.align) refl

-- ---- TS.CREATE

-- records of executed commands read back
abbrev pub RecordsRead : Type 0
RecordsRead =
    (limits : Limits) (reading : ℕ) (c : Command) (old new : State) (reply : Reply) → IsRecorded limits reading c old reply new
    → command (record_words reading (accepted c reply)) ≡ Ok (resolved reading (accepted c reply))

-- limits that leave room for this series
abbrev room-for : Spec → Limits
room-for s = record usual { labels = length s.labels }

not-below : (n : ℕ) → nat_lt n n ≡ false
not-below n = grind (arith, nat_tests)

-- an empty database creates it
created : (key : Key) (s : Spec) → (step (room-for s) empty 0 (Create key s)).response ≡ Done
created key s = rw (not-below (length s.labels)) refl

some-record : (key : Key) (s : Spec) (response : Response) → response ≡ Done → record_of (Create key s) 0 (reply_to response) ≢ []
some-record key s response is = rw is (λ e. cc)

pub create-read : RecordsRead → (key : Key) (s : Spec) (words : Request) → command words ≡ Ok (Create key s)
    → command (record_words 0 (Create key s)) ≡ Ok (Create key s)
create-read law key s words says =
    law (room-for s) 0 (Create key s) empty (step (room-for s) empty 0 (Create key s)).state (reply_to (step (room-for s) empty 0 (Create key s)).response) (record {
      words = words;
      says = says;
      done = record { says = refl; state = refl };
      some = some-record key s (step (room-for s) empty 0 (Create key s)).response (created key s);
    })
