use Rattle.ts_spec.specs.declared.wire.Kind.TheVariants.{Multibulk}
use Rattle.ts_spec.specs.Wire.{Start, CountFeed, after_count}
use Rattle.ts_resp.specs.declared.header.Header.TheVariants as header
use Rattle.ts_resp.specs.Headers.{IsHeader, IsBegun}
use Rattle.ts_spec.proofs.Lines.{count_fed}
use Rattle.ts_resp.proofs.HeaderLemmas.{of_slice, count_led, IsHeader-none, IsHeader-open, IsHeader-wrong, IsHeader-feed}
use Rattle.ts_resp.proofs.BegunLemmas.{IsBegun-none, IsBegun-open, IsBegun-wrong, IsBegun-feed}
use Rattle.std.proofs.Common.{◌+◌, refl}
use Rattle.ts_resp.proofs.header.count_header.Goals as goal

pub returns-in_default-clause-meaning : goal.returns-in_default-clause-meaning
returns-in_default-clause-meaning c =
    IsHeader-none c.args.limits.now Start (after_count c.args.limits.now) c.args.bytes.now c.in_default.len_below

pub returns-in-Open-clause-meaning : goal.returns-in-Open-clause-meaning
returns-in-Open-clause-meaning c =
    of_slice (λ bytes. IsHeader c.args.limits.now Start (after_count c.args.limits.now) bytes header.Open) c.args.bytes.now c.in-len1-up.len_at_least
    (IsHeader-open (count_led c.args.limits.now _ (c.requires c.in-len1-up.len_at_least)) (after_count c.args.limits.now) _ c.in-Open.ensures.line)

pub returns-in-Whole-clause-meaning : goal.returns-in-Whole-clause-meaning
returns-in-Whole-clause-meaning c =
    of_slice (λ bytes. IsHeader c.args.limits.now Start (after_count c.args.limits.now) bytes c.line_feed.result) c.args.bytes.now c.in-len1-up.len_at_least
    (IsHeader-feed (count_led c.args.limits.now _ (c.requires c.in-len1-up.len_at_least)) _ (CountFeed c.in-Whole.number) _ _ _ _ c.in-Whole.ensures.line refl (count_fed c.args.limits.now c.in-Whole.number) c.line_feed.ensures.line)

pub returns-in-Wrong-clause-meaning : goal.returns-in-Wrong-clause-meaning
returns-in-Wrong-clause-meaning c =
    of_slice (λ bytes. IsHeader c.args.limits.now Start (after_count c.args.limits.now) bytes (header.Broken Multibulk (c.in-Wrong.at + 1))) c.args.bytes.now c.in-len1-up.len_at_least
    (IsHeader-wrong (count_led c.args.limits.now _ (c.requires c.in-len1-up.len_at_least)) (after_count c.args.limits.now) _ _ c.in-Wrong.ensures.line)

pub returns-in_default-clause-begun : goal.returns-in_default-clause-begun
returns-in_default-clause-begun c = IsBegun-none c.args.limits.now c.args.bytes.now c.in_default.len_below

pub returns-in-Open-clause-begun : goal.returns-in-Open-clause-begun
returns-in-Open-clause-begun c =
    of_slice (λ bytes. IsBegun c.args.limits.now bytes header.Open) c.args.bytes.now c.in-len1-up.len_at_least
    (IsBegun-open c.args.limits.now _ _ (c.requires c.in-len1-up.len_at_least) c.in-Open.ensures.line)

pub returns-in-Whole-clause-begun : goal.returns-in-Whole-clause-begun
returns-in-Whole-clause-begun c =
    of_slice (λ bytes. IsBegun c.args.limits.now bytes c.line_feed.result) c.args.bytes.now c.in-len1-up.len_at_least
    (IsBegun-feed c.args.limits.now _ _ _ _ _ (c.requires c.in-len1-up.len_at_least) c.in-Whole.ensures.line c.line_feed.ensures.line)

pub returns-in-Wrong-clause-begun : goal.returns-in-Wrong-clause-begun
returns-in-Wrong-clause-begun c =
    of_slice (λ bytes. IsBegun c.args.limits.now bytes (header.Broken Multibulk (c.in-Wrong.at + 1))) c.args.bytes.now c.in-len1-up.len_at_least
    (IsBegun-wrong c.args.limits.now _ _ _ (c.requires c.in-len1-up.len_at_least) c.in-Wrong.ensures.line)

pub returns-in-Some-clause-meaning : goal.returns-in-Some-clause-meaning
returns-in-Some-clause-meaning c =
    of_slice (λ bytes. IsHeader c.args.limits.now Start (after_count c.args.limits.now) bytes (header.Whole c.in-Some.number (c.in-Some.len + 2))) c.args.bytes.now c.in-len1-up.len_at_least
    (IsHeader-feed (count_led c.args.limits.now _ (c.requires c.in-len1-up.len_at_least)) (after_count c.args.limits.now) (CountFeed c.in-Some.number) _ _ _ _ c.in-Some.ensures.line refl (count_fed c.args.limits.now c.in-Some.number) c.in-Some.ensures.feed)

pub returns-in-Some-clause-begun : goal.returns-in-Some-clause-begun
returns-in-Some-clause-begun c =
    of_slice (λ bytes. IsBegun c.args.limits.now bytes (header.Whole c.in-Some.number (c.in-Some.len + 2))) c.args.bytes.now c.in-len1-up.len_at_least
    (IsBegun-feed c.args.limits.now _ _ _ _ _ (c.requires c.in-len1-up.len_at_least) c.in-Some.ensures.line c.in-Some.ensures.feed)
