use Rattle.std.proofs.Common.{sym, subst, arith}
use Rattle.ts_resp.specs.Texts.{IsText, IsTextBegun, IsTextWithin}
use Rattle.ts_resp.proofs.TextLemmas.{IsText-at, IsTextBegun-at, IsTextWithin-at, before_feed-within}
use Rattle.ts_resp.proofs.text.found_text.Goals as goal

pub text_end-requires-clause-within : goal.text_end-requires-clause-within
text_end-requires-clause-within c = omega (arith, before_feed-within c.args.bytes.now, c.requires.scanned)

pub returns-clause-meaning : goal.returns-clause-meaning
returns-clause-meaning c =
    subst (IsText c.args.limits.now c.args.bytes.now) (sym c.text_end.ensures) (IsText-at c.args.limits.now c.args.bytes.now (c.requires.some, c.requires.line))

pub returns-clause-begun : goal.returns-clause-begun
returns-clause-begun c =
    subst (IsTextBegun c.args.limits.now c.args.bytes.now) (sym c.text_end.ensures) (IsTextBegun-at c.args.limits.now c.args.bytes.now (c.requires.some, c.requires.line))

pub returns-clause-within : goal.returns-clause-within
returns-clause-within c =
    subst (IsTextWithin c.args.limits.now c.args.bytes.now) (sym c.text_end.ensures) (IsTextWithin-at c.args.limits.now c.args.bytes.now)
