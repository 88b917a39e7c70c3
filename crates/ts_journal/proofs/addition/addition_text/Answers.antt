use Rattle.std.proofs.Common.{◌≡◌, ◌-◌, ◌++◌, ◌∷◌, List, ℕ, codes, take, drop, ◌∙◌, ap, arith}
use Rattle.std.proofs.lemmas.List.{take_all, length-drop}
use Rattle.std.specs.Prelude.{slice_range}
use Rattle.std.specs.Fmt.{decimal}
use Rattle.ts_spec.specs.Encoded.{encoded_request}
use Rattle.ts_spec.specs.SeriesOptions.{spec}
use Rattle.ts_spec.specs.Settings.{nothing}
use Rattle.ts_spec.specs.Value.{shown_value}
use Rattle.ts_journal.specs.Record.{given, on_duplicate_words, spec_words}
use Rattle.ts_journal.proofs.AdditionLemmas.{record-text}
use Rattle.ts_journal.proofs.addition.addition_text.Goals as goal

pub returns : goal.returns
returns c =
    let a = c.args.addition.now in
    let key = c.bytes-key.result.now in
    let time = c.time_of-time.result in
    let options = given on_duplicate_words a.on ++ spec_words (spec nothing) in
    let head = drop c.write_head-start.result c.write_head-start.new.block in
    let head_size = 128 - c.write_head-start.result in
    let head_whole : take head_size head ≡ head = take_all head_size head (omega (arith, length-drop c.write_head-start.result c.write_head-start.new.block)) in
    let sample = c.write_sample-sample in
    record-text key (decimal time) (shown_value a.value) a.on (take head_size head) (slice_range sample.new.block sample.result.start sample.result.end)
    c.in_ok-text.text.items c.extend_from_slice.new.self.items c.extend_from_slice-2.new.self.items c.extend_from_slice-3.new.self.items c.append_on_duplicate.new.text.items c.extend_from_slice-4.new.self.items
    (head_whole ∙ c.write_head-start.ensures.text) sample.ensures.text c.in_ok-text.ensures.items
    c.in_ok-extend_from_slice.ensures.items c.in_ok-extend_from_slice-2.ensures.items c.in_ok-extend_from_slice-3.ensures.items c.in_ok-append_on_duplicate.ensures c.in_ok-extend_from_slice-4.ensures.items
    ∙ ap (λ (k : List ℕ). encoded_request (codes "TS.ADD" ∷ k ∷ decimal time ∷ shown_value a.value ∷ options)) c.bytes-key.ensures
    ∙ ap (λ (n : ℕ). encoded_request (codes "TS.ADD" ∷ a.key.now ∷ decimal n ∷ shown_value a.value ∷ options)) c.time_of-time.ensures
