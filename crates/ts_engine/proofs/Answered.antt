-- From what `pipe` did to how an input was answered.
use Rattle.std.specs.Prelude.{Option, Some}
use Rattle.std.proofs.Common.{◌≡◌, ℕ, List, [], refl, subst}
use Rattle.ts_spec.specs.declared.wire.WireLimits.{WireLimits}
use Rattle.ts_execution.specs.Handling.{World, plain}
use Rattle.ts_execution.specs.Handler.{Handler}
use Rattle.ts_engine.specs.declared.piped.Outcome.{Outcome}
use Rattle.ts_engine.specs.Answered.{InputAnswered}
use Rattle.ts_engine.specs.Headline.{Exchange}
use Rattle.ts_engine.specs.Piping.{PipedWith, Piped, HasCauses}
use Rattle.ts_engine.specs.Serving.{Link, StreamViews, IsServed, link_exchange}
use Rattle.ts_engine.proofs.Spending.{by_budget}
use Rattle.ts_engine.proofs.Taking.{piped_alone, writes_of, executed_of, near_of}
use Rattle.ts_engine.proofs.Tops.{by_grammar}

module _ {handler : Handler} (exchange : Exchange handler) (budget : ℕ) (outcome : Outcome) (reads reads' writes writes' : ℕ) (causes : HasCauses outcome.end reads reads' writes writes') (bytes : List ℕ) (left : Option (List ℕ)) where
  -- an input whose bytes are known
  pub input_answered : PipedWith handler exchange.limits budget outcome exchange.from exchange.to (Some bytes) left exchange.had exchange.has → InputAnswered exchange budget bytes left outcome reads reads' writes writes'
  input_answered piped = record {
    written = writes_of exchange budget outcome bytes left piped;
    executed = executed_of exchange budget outcome bytes left piped;
    read_bound = near_of exchange budget outcome bytes left piped;
    complete = λ below no_read no_write.
        by_grammar exchange budget bytes left outcome.end reads reads' writes writes' (writes_of exchange budget outcome bytes left piped) causes below no_read no_write;
    spent = λ enough no_read no_write. by_budget exchange budget outcome bytes (Some bytes) left refl piped reads reads' writes writes' causes enough no_read no_write;
  }

  pub answered_told : (told : Option (List ℕ)) → told ≡ Some bytes → PipedWith handler exchange.limits budget outcome exchange.from exchange.to told left exchange.had exchange.has
      → InputAnswered exchange budget bytes left outcome reads reads' writes writes'
  answered_told told tells piped = input_answered (subst (λ (o : Option (List ℕ)). PipedWith handler exchange.limits budget outcome exchange.from exchange.to o left exchange.had exchange.has) tells piped)

-- a connection was served
module _ {I O : Type 0} (views : StreamViews I O) (limits : WireLimits) (budget : ℕ) (link : Link I O) (from to : World) where
  pub is_served : Piped limits budget link.outcome from to (views.left link.came.input) (views.left link.back.input) (views.has link.came.out) (views.has link.back.out)
      → HasCauses link.outcome.end (views.reads link.came.input) (views.reads link.back.input) (views.writes link.came.out) (views.writes link.back.out)
      → IsServed views limits budget link from to
  is_served piped causes =
      let exchange : Exchange plain = link_exchange views limits budget link from to in
      let alone = piped_alone plain limits budget link.outcome from to (views.left link.came.input) (views.left link.back.input) (views.has link.came.out) (views.has link.back.out) piped in
      record {
        front = piped.bytes;
        count = piped.count;
        within = piped.within;
        took = piped.took;
        alone = input_answered exchange budget link.outcome _ _ _ _ causes piped.bytes (Some []) alone;
        answered = λ bytes told. answered_told exchange budget link.outcome _ _ _ _ causes bytes (views.left link.back.input) (views.left link.came.input) told piped;
        causes = causes;
      }
