use Rattle.std.proofs.Common.{◌≡◌, Bool, true, false, ℕ, ◌+◌, ◌≤◌, length, sym, ap, ◌∙◌, arith}
use Rattle.std.specs.Prelude.{◌&&◌, if◌then◌else◌}
use Rattle.ts_spec.specs.Filter.{all_hold}
use Rattle.ts_spec.specs.Keyed.{get}
use Rattle.ts_spec.specs.StoredQueries.{stored_labels_at}
use Rattle.ts_questions.proofs.multi_reply.is_refused_of.Goals as goal

-- after the filters come the steps of the key itself, where it is selected
module _ (filters old mid new most : ℕ) (tried : mid ≤ old + filters) where
  passed : (b : Bool) → b ≡ true → new ≤ mid + most → new ≤ old + (filters + (if b then most else 0))
  passed b is later = rw is (omega (arith, tried, later))

  failed : (b : Bool) → b ≡ false → mid ≤ old + (filters + (if b then most else 0))
  failed b is = rw is (omega (arith, tried))

pub returns-then-not-passes-clause-refused : goal.returns-then-not-passes-clause-refused
returns-then-not-passes-clause-refused g c = λ key at.
    sym (ap (λ (b : Bool). b && g.T.MultiReply.is_over_limit c.args.multi_reply.now c.args.db.now key) (sym (c.passes.ensures.passes key at) ∙ c.if-not-passes.true))

pub returns-then-not-passes-clause-steps : goal.returns-then-not-passes-clause-steps
returns-then-not-passes-clause-steps g c = λ key at.
    failed (length c.args.filters.now) c.args.steps.now c.passes.new.steps c.passes.new.steps (g.T.MultiReply.most c.args.multi_reply.now c.args.db.now key) c.passes.ensures.steps
    (all_hold c.args.filters.now (stored_labels_at (get key c.args.db.now.keys))) (sym (c.passes.ensures.passes key at) ∙ c.if-not-passes.true)

pub returns-clause-refused : goal.returns-clause-refused
returns-clause-refused g c = λ key at.
    c.is_refused.ensures.refused key at
    ∙ sym (ap (λ (b : Bool). b && g.T.MultiReply.is_over_limit c.args.multi_reply.now c.args.db.now key) (sym (c.passes.ensures.passes key at) ∙ c.if-not-passes.false))

pub returns-clause-steps : goal.returns-clause-steps
returns-clause-steps g c = λ key at.
    passed (length c.args.filters.now) c.args.steps.now c.passes.new.steps c.is_refused.new.steps (g.T.MultiReply.most c.args.multi_reply.now c.args.db.now key) c.passes.ensures.steps
    (all_hold c.args.filters.now (stored_labels_at (get key c.args.db.now.keys))) (sym (c.passes.ensures.passes key at) ∙ c.if-not-passes.false) (c.is_refused.ensures.steps key at)
