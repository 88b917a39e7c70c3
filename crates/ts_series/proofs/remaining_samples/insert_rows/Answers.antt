use Rattle.std.proofs.Common.{◌≡◌, ◌++◌, List, take, drop, sym, ◌∙◌, ap, subst}
use Rattle.std.specs.Prelude.{nat_lt, nat_le}
use Rattle.std.proofs.lemmas.List.{take-append-drop}
use Rattle.ts_spec.specs.Sample.{Point, at_times}
use Rattle.ts_series.proofs.MendedPieces.{rows-among}
use Rattle.ts_series.proofs.remaining_samples.insert_rows.Goals as goal

pub returns : goal.returns
returns c =
    let from = c.args.from in
    let place = c.lower_bound-place.result in
    let samples : List Point = c.args.samples.now.items in
    let rows : List Point = c.args.rows.now in
    let rest : List Point = c.in_ok-rest.rest.items in
    let value = c.deref.ensures.value in
    rows-among from c.args.to place rows samples c.append.new.self.items
    (subst (λ (l : List Point). take place l ≡ at_times (λ t. nat_lt t from) l) value c.lower_bound-place.ensures.before)
    (subst (λ (l : List Point). drop place l ≡ at_times (nat_le from) l) value c.lower_bound-place.ensures.after)
    c.requires.none_within c.requires.within c.requires.rows (sym (take-append-drop place samples))
    (c.in_ok-append.ensures.items
    ∙ ap (λ (l : List Point). l ++ rest) (c.in_ok-extend_from_slice.ensures.items ∙ ap (λ (l : List Point). l ++ rows) c.in_ok-rest.ensures.items)
    ∙ ap (λ (l : List Point). (take place samples ++ rows) ++ l) c.in_ok-rest.ensures.tail)
