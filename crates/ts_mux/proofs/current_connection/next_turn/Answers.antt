use Rattle.std.proofs.Common.{refl, sym, ◌∙◌}
use Rattle.ts_mux.proofs.UnreadBytes.{none_unread}
use Rattle.ts_mux.proofs.current_connection.next_turn.Goals as goal

pub returns-then-not-has_unread-clause-says : goal.returns-then-not-has_unread-clause-says
returns-then-not-has_unread-clause-says c =
    (λ more. refl, none_unread c.args.reader.now (sym c.has_unread.ensures ∙ c.if-not-has_unread.true))

pub returns-in-Request-clause-says : goal.returns-in-Request-clause-says
returns-in-Request-clause-says c = (refl, (_, c.in-Request.ensures.request))
