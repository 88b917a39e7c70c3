use Rattle.std.proofs.Common.{◌≡◌, ◌∷◌, ◌-◌, ◌∙◌, ap, refl, sym, subst, length, arith}
use Rattle.std.specs.Prelude.{[], nat_lt, nat_le}
use Rattle.ts_spec.specs.Sample.{Point, IsAscending, at_times}
use Rattle.ts_chunk_packed.specs.Packed.{State, next, state_from}
use Rattle.ts_chunk_packed.specs.Decoder.{UndecodedList, samples_from}
use Rattle.ts_chunk_packed.proofs.Resting.{none_left, follows, no_earlier, first_then, left_then, none_there, all_there, same_rest, same_state}
use Rattle.ts_chunk_packed.proofs.decoder.Decoder.pass.Goals as goal
use Rattle.ts_chunk_packed.proofs.decoder.Decoder.pass.Goals.{After-decode-sample}

pub returns-then-self-eq0-clause-none : goal.returns-then-self-eq0-clause-none
returns-then-self-eq0-clause-none c =
    let f = c.self.inside in
    let none : c.args.self.now.list ≡ [] = ap (λ (l : UndecodedList). l.list) (sym c.self.view_is) ∙ none_left f.context f.count f.bytes.now (omega (arith, c.if-self-eq0.true)) in
    λ _. ap (at_times (λ t. nat_lt t c.args.time)) none

pub returns-then-self-eq0-clause-all : goal.returns-then-self-eq0-clause-all
returns-then-self-eq0-clause-all c =
    let f = c.self.inside in
    let none : c.args.self.now.list ≡ [] = ap (λ (l : UndecodedList). l.list) (sym c.self.view_is) ∙ none_left f.context f.count f.bytes.now (omega (arith, c.if-self-eq0.true)) in
    λ _. ap (at_times (nat_le c.args.time)) none ∙ sym none

pub decode-sample-requires : goal.decode-sample-requires
decode-sample-requires c = follows (omega (arith, c.if-self-eq0.false)) c.self.invariant

-- the samples are the one that is read, and those after it
parts : (c : After-decode-sample) (t : State) → t ≡ next c.self.inside.context c.decode-sample.result.0
    → c.args.self.now.list ≡ c.decode-sample.result.0 ∷ samples_from t (c.self.inside.count - 1) c.decode-sample.result.1.now
parts c t is = ap (λ (l : UndecodedList). l.list) (sym c.self.view_is) ∙ first_then (omega (arith, c.if-self-eq0.false)) c.self.invariant c.decode-sample.ensures.sample c.decode-sample.ensures.rest t is

pub returns-then-sample-time-clause-none : goal.returns-then-sample-time-clause-none
returns-then-sample-time-clause-none c =
    let p = c.decode-sample.result.0 in
    let time = ap (λ (q : Point). q.time) c.sample.view_is in
    let rises = subst (λ (l : UndecodedList). IsAscending l.list) c.self.view_is c.self.invariant.ascending in
    λ _. none_there c.args.time c.args.self.now.list p _ (parts (goal.at.returns-then-sample-time-clause-none c).After-decode-sample _ refl) rises (omega (arith, time, c.if-sample-time.true))

pub returns-then-sample-time-clause-all : goal.returns-then-sample-time-clause-all
returns-then-sample-time-clause-all c =
    let p = c.decode-sample.result.0 in
    let time = ap (λ (q : Point). q.time) c.sample.view_is in
    let rises = subst (λ (l : UndecodedList). IsAscending l.list) c.self.view_is c.self.invariant.ascending in
    λ _. all_there c.args.time c.args.self.now.list p _ (parts (goal.at.returns-then-sample-time-clause-all c).After-decode-sample _ refl) rises (omega (arith, time, c.if-sample-time.true))

pub after-self-inside-requires : goal.after-self-inside-requires
after-self-inside-requires c = no_earlier (omega (arith, c.if-self-eq0.false)) c.self.invariant c.decode-sample.ensures.sample c.decode-sample.ensures.rest

pub invariant_of-self : goal.invariant_of-self
invariant_of-self c =
    left_then (omega (arith, c.if-self-eq0.false)) c.self.invariant c.decode-sample.ensures.sample c.decode-sample.ensures.rest c.after-self-inside.result c.after-self-inside.ensures

pub returns-clause-list : goal.returns-clause-list
returns-clause-list c =
    let is = parts (goal.at.returns-clause-list c).After-decode-sample c.after-self-inside.result c.after-self-inside.ensures in
    let time = ap (λ (q : Point). q.time) c.sample.view_is in
    same_rest c.args.time c.args.self.now.list c.decode-sample.result.0 _ is (omega (arith, time, c.if-sample-time.false))

pub returns-clause-state : goal.returns-clause-state
returns-clause-state c =
    let is = parts (goal.at.returns-clause-state c).After-decode-sample c.after-self-inside.result c.after-self-inside.ensures in
    let time = ap (λ (q : Point). q.time) c.sample.view_is in
    same_state c.args.time c.args.self.now.list c.decode-sample.result.0 _ is (omega (arith, time, c.if-sample-time.false)) c.self.inside.context c.after-self-inside.result c.after-self-inside.ensures
    ∙ ap (λ (l : UndecodedList). state_from l.state (at_times (λ t. nat_lt t c.args.time) c.args.self.now.list)) c.self.view_is

pub returns-clause-passed : goal.returns-clause-passed
returns-clause-passed c = λ _. omega (arith, ap length (parts (goal.at.returns-clause-passed c).After-decode-sample c.after-self-inside.result c.after-self-inside.ensures))

pub returns-clause-one : goal.returns-clause-one
returns-clause-one c =
    let time = ap (λ (q : Point). q.time) c.sample.view_is in
    λ _. record {
      sample = c.decode-sample.result.0;
      before = omega (arith, time, c.if-sample-time.false);
      list = parts (goal.at.returns-clause-one c).After-decode-sample c.after-self-inside.result c.after-self-inside.ensures;
      state = c.after-self-inside.ensures ∙ ap (λ (l : UndecodedList). next l.state c.decode-sample.result.0) c.self.view_is;
    }
