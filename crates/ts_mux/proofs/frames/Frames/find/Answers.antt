use Rattle.std.proofs.Common.{◌+◌, length, subst, sym, ap, ◌∙◌, arith}
use Rattle.ts_mux.specs.declared.found_header.FoundHeader.TheVariants as header
use Rattle.ts_mux.specs.declared.frames.FoundFrame.TheVariants as found
use Rattle.ts_mux.specs.Headers.{IsWholeHeader, IsHeader}
use Rattle.ts_mux.specs.NextFrames.{IsFound}
use Rattle.ts_mux.proofs.FramingLemmas.{found_whole, found_inside, found_not_yet, found_broken}
use Rattle.ts_mux.proofs.frames.Frames.find.Goals as goal

pub returns-then-left-len-clause-found : goal.returns-then-left-len-clause-found
returns-then-left-len-clause-found c =
    let same = c.as_slice-unread.ensures ∙ ap (λ r. r.unread) c.self.view_is in
    let within = c.in-Whole.ensures.within in
    found_inside c.args.self.now c.in-Whole.link c.in-Whole.len c.in-Whole.start
    (subst (λ bytes. IsWholeHeader bytes c.in-Whole.link c.in-Whole.len c.in-Whole.start) same c.in-Whole.ensures)
    (omega (arith, ap length same, within))

pub returns-else-left-len-clause-found : goal.returns-else-left-len-clause-found
returns-else-left-len-clause-found c =
    let same = c.as_slice-unread.ensures ∙ ap (λ r. r.unread) c.self.view_is in
    let within = c.in-Whole.ensures.within in
    found_whole c.args.self.now c.in-Whole.link c.in-Whole.len c.in-Whole.start
    (subst (λ bytes. IsWholeHeader bytes c.in-Whole.link c.in-Whole.len c.in-Whole.start) same c.in-Whole.ensures)
    (omega (arith, ap length same, within))

pub returns-in-NotYet-clause-found : goal.returns-in-NotYet-clause-found
returns-in-NotYet-clause-found c =
    found_not_yet c.args.self.now (subst (IsHeader header.NotYet) (c.as_slice-unread.ensures ∙ ap (λ r. r.unread) c.self.view_is) c.in-NotYet.ensures)

pub returns-in-Broken-clause-found : goal.returns-in-Broken-clause-found
returns-in-Broken-clause-found c =
    subst (λ begin. IsFound (found.Broken (begin + c.in-Broken.at)) c.args.self.now) (sym (ap (λ r. r.begin) c.self.view_is))
    (found_broken c.args.self.now c.in-Broken.at
    (subst (IsHeader (header.Broken c.in-Broken.at)) (c.as_slice-unread.ensures ∙ ap (λ r. r.unread) c.self.view_is) c.in-Broken.ensures))
