use Rattle.std.proofs.Common.{◌+◌, ◌^◌, ◌<◌, ◌≤◌, length, sym, subst, ap, ◌∙◌, length-append, arith}
use Rattle.ts_resp.specs.Reading.{fed}
use Rattle.ts_resp.specs.Texts.{before_feed}
use Rattle.ts_resp.proofs.ScanLemmas.{before_feed-more}
use Rattle.ts_resp.proofs.reader.Reader.feed.Goals as goal

pub invariant_of-self-2 : goal.invariant_of-self-2
invariant_of-self-2 c =
    let grown = c.in_ok-extend_from_slice.ensures.ok in
    let long = ap length grown ∙ length-append c.self.inside.unread.items c.args.piece.now in
    let fits = subst (λ r. fed r + length c.args.piece.now < 2 ^ 64) (sym c.self.view_is) c.requires in (
      c.self.invariant.0,
      omega (arith, long, fits),
      subst (λ items. c.self.inside.scanned ≤ before_feed items) (sym grown) (before_feed-more c.self.inside.scanned c.self.inside.unread.items c.args.piece.now c.self.invariant.2),
    )
