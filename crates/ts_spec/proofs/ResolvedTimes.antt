-- A command with resolved times has the same effect.
use Rattle.std.proofs.Common.{◌≡◌, ℕ, true, false, if◌then◌else◌, List, [], ◌∷◌, ◌++◌, map, refl, ◌∙◌, ap}
use Rattle.std.specs.Prelude.{Result, Ok, Err, ℤ}
use Rattle.ts_spec.specs.declared.command.At.{At}
use Rattle.ts_spec.specs.declared.limits.Limits.{Limits}
use Rattle.ts_spec.specs.Command.{Triple, Command, Create, Alter, Add, Madd, Incr, DelRange, CreateRule, DeleteRule, Range, MRange, Get, MGet, QueryIndex, InfoOf, Ping, Echo, Quit, Drop, Exists}
use Rattle.ts_spec.specs.Grammar.{any_clock, is_clock_at, needs_clock}
use Rattle.ts_spec.specs.Key.{Key}
use Rattle.ts_spec.specs.Refusal.{Fault}
use Rattle.ts_spec.specs.ResolvedCommands.{resolved_word, resolved_triple, resolved}
use Rattle.ts_spec.specs.Response.{Item}
use Rattle.ts_spec.specs.State.{State}
use Rattle.ts_spec.specs.Step.{Outcome, step, triple_step, item_of, madd}

pub triple-resolved : (limits : Limits) (m : State) (reading other : ℕ) (key : Key) (at : Result At Fault) (v : Result ℤ Fault)
    → triple_step limits m other key (resolved_word reading at) v ≡ triple_step limits m reading key at v
triple-resolved limits m reading other key (Err fault) v = refl
triple-resolved limits m reading other key (Ok at) (Err fault) = refl
triple-resolved limits m reading other key (Ok at) (Ok v) = refl

triples-resolved : (limits : Limits) (m : State) (reading other : ℕ) (so_far : List Item) (ts : List Triple)
    → madd limits m other so_far (map (resolved_triple reading) ts) ≡ madd limits m reading so_far ts
triples-resolved limits m reading other so_far [] = refl
triples-resolved limits m reading other so_far (t ∷ ts) =
    let done : Outcome = triple_step limits m reading t.key t.at t.value in
    ap (λ (o : Outcome). madd limits o.state other (so_far ++ item_of o.response) (map (resolved_triple reading) ts)) (triple-resolved limits m reading other t.key t.at t.value)
    ∙ triples-resolved limits done.state reading other (so_far ++ item_of done.response) ts

pub step-resolved : (limits : Limits) (m : State) (reading other : ℕ) (c : Command) → step limits m other (resolved reading c) ≡ step limits m reading c
step-resolved limits m reading other (Create key spec) = refl
step-resolved limits m reading other (Alter key change) = refl
step-resolved limits m reading other (Add key at v on spec) = refl
step-resolved limits m reading other (Madd triples) = triples-resolved limits m reading other [] triples
step-resolved limits m reading other (Incr key change at spec) = refl
step-resolved limits m reading other (DelRange key from to) = refl
step-resolved limits m reading other (CreateRule source dest agg grid) = refl
step-resolved limits m reading other (DeleteRule source dest) = refl
step-resolved limits m reading other (Range key latest q) = refl
step-resolved limits m reading other (MRange latest show filters q group) = refl
step-resolved limits m reading other (Get key latest) = refl
step-resolved limits m reading other (MGet latest show filters) = refl
step-resolved limits m reading other (QueryIndex filters) = refl
step-resolved limits m reading other (InfoOf key) = refl
step-resolved limits m reading other (Ping word) = refl
step-resolved limits m reading other (Echo word) = refl
step-resolved limits m reading other Quit = refl
step-resolved limits m reading other (Drop keys) = refl
step-resolved limits m reading other (Exists keys) = refl

-- it needs no reading of the clock
no-clock-at : (reading : ℕ) (at : Result At Fault) → is_clock_at (resolved_word reading at) ≡ false
no-clock-at reading (Ok at) = refl
no-clock-at reading (Err fault) = refl

none-clock : (reading : ℕ) (ts : List Triple) → any_clock (map (resolved_triple reading) ts) ≡ false
none-clock reading [] = refl
none-clock reading (t ∷ ts) = ap (λ b. if b then true else any_clock (map (resolved_triple reading) ts)) (no-clock-at reading t.at) ∙ none-clock reading ts

pub no-clock : (reading : ℕ) (c : Command) → needs_clock (resolved reading c) ≡ false
no-clock reading (Create key spec) = refl
no-clock reading (Alter key change) = refl
no-clock reading (Add key at v on spec) = refl
no-clock reading (Madd triples) = none-clock reading triples
no-clock reading (Incr key change at spec) = refl
no-clock reading (DelRange key from to) = refl
no-clock reading (CreateRule source dest agg grid) = refl
no-clock reading (DeleteRule source dest) = refl
no-clock reading (Range key latest q) = refl
no-clock reading (MRange latest show filters q group) = refl
no-clock reading (Get key latest) = refl
no-clock reading (MGet latest show filters) = refl
no-clock reading (QueryIndex filters) = refl
no-clock reading (InfoOf key) = refl
no-clock reading (Ping word) = refl
no-clock reading (Echo word) = refl
no-clock reading Quit = refl
no-clock reading (Drop keys) = refl
no-clock reading (Exists keys) = refl
