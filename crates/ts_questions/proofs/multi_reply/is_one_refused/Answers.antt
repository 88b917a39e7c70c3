use Rattle.std.proofs.Common.{sym}
use Rattle.ts_spec.specs.StoredQueries.{stored_selection}
use Rattle.ts_questions.proofs.Searching.{none-of, search-begun, search-live, search-more, search-found, search-few, search-none, search-ended}
use Rattle.ts_questions.proofs.multi_reply.is_one_refused.Goals as goal

pub loop-id-init : goal.loop-id-init
loop-id-init g c =
    let db_view = c.args.db.now in
    record {
      searched = search-begun (g.T.MultiReply.is_over_limit c.args.multi_reply.now db_view) (g.T.MultiReply.most c.args.multi_reply.now db_view) db_view c.args.filters.now c.candidates-id-items.result c.into_iter-id-iterator.result c.args.steps.now
          c.into_iter-id-iterator.ensures.into_iter_gives c.candidates-id-items.ensures.live c.candidates-id-items.ensures.covers c.candidates-id-items.ensures.few;
    }

pub is_refused_of-requires : goal.is_refused_of-requires
is_refused_of-requires g c =
    let db_view = c.args.db.now in
    search-live (g.T.MultiReply.is_over_limit c.args.multi_reply.now db_view) (g.T.MultiReply.most c.args.multi_reply.now db_view) db_view c.args.filters.now
    c.in-Some.id c.loop-id.id-iterator c.next.new.self c.args.steps.now c.loop-id.steps c.in-Some.ensures.steps c.loop-id.invariant.searched

pub loop-id-preserved : goal.loop-id-preserved
loop-id-preserved g c =
    let db_view = c.args.db.now in
    record {
      searched = search-more (g.T.MultiReply.is_over_limit c.args.multi_reply.now db_view) (g.T.MultiReply.most c.args.multi_reply.now db_view) db_view c.args.filters.now
          c.in-Some.id c.loop-id.id-iterator c.next.new.self c.args.steps.now c.loop-id.steps c.in-Some.ensures.steps c.loop-id.invariant.searched
          c.is_refused_of.new.steps c.is_refused_of.result (record { is = c.is_refused_of.ensures.refused; steps = c.is_refused_of.ensures.steps }) c.if-is_refused_of.false;
    }

pub returns-then-is_refused_of-clause-refused : goal.returns-then-is_refused_of-clause-refused
returns-then-is_refused_of-clause-refused g c =
    let db_view = c.args.db.now in
    sym (search-found (g.T.MultiReply.is_over_limit c.args.multi_reply.now db_view) (g.T.MultiReply.most c.args.multi_reply.now db_view) db_view c.args.filters.now
    c.in-Some.id c.loop-id.id-iterator c.next.new.self c.args.steps.now c.loop-id.steps c.in-Some.ensures.steps c.loop-id.invariant.searched
    c.is_refused_of.new.steps c.is_refused_of.result (record { is = c.is_refused_of.ensures.refused; steps = c.is_refused_of.ensures.steps }) c.if-is_refused_of.true)

pub returns-then-is_refused_of-clause-steps : goal.returns-then-is_refused_of-clause-steps
returns-then-is_refused_of-clause-steps g c =
    let db_view = c.args.db.now in
    search-few (g.T.MultiReply.is_over_limit c.args.multi_reply.now db_view) (g.T.MultiReply.most c.args.multi_reply.now db_view) db_view c.args.filters.now
    c.in-Some.id c.loop-id.id-iterator c.next.new.self c.args.steps.now c.loop-id.steps c.in-Some.ensures.steps c.loop-id.invariant.searched
    c.is_refused_of.new.steps c.is_refused_of.result (record { is = c.is_refused_of.ensures.refused; steps = c.is_refused_of.ensures.steps })

pub returns-then-not-can_be_refused-clause-refused : goal.returns-then-not-can_be_refused-clause-refused
returns-then-not-can_be_refused-clause-refused g c =
    let db_view = c.args.db.now in
    sym (none-of (g.T.MultiReply.is_over_limit c.args.multi_reply.now db_view) (stored_selection db_view.keys c.args.filters.now) (c.can_be_refused.ensures c.if-not-can_be_refused.true db_view))

pub returns-clause-refused : goal.returns-clause-refused
returns-clause-refused g c =
    let db_view = c.args.db.now in
    sym (search-none (g.T.MultiReply.is_over_limit c.args.multi_reply.now db_view) (g.T.MultiReply.most c.args.multi_reply.now db_view) db_view c.args.filters.now
    c.loop-id.id-iterator c.args.steps.now c.loop-id.steps c.in-None.ensures.steps.0 c.loop-id.invariant.searched)

pub returns-clause-steps : goal.returns-clause-steps
returns-clause-steps g c =
    let db_view = c.args.db.now in
    search-ended (g.T.MultiReply.is_over_limit c.args.multi_reply.now db_view) (g.T.MultiReply.most c.args.multi_reply.now db_view) db_view c.args.filters.now
    c.loop-id.id-iterator c.args.steps.now c.loop-id.steps c.loop-id.invariant.searched
