-- What `serve` does to a listener, an output and a database: it serves connections one after another.
use Rattle.std.specs.Prelude.{◌≡◌, ℕ, ◌+◌, ◌≤◌, ◌<◌, List, [], ◌∷◌, ◌++◌, length, map, take, Option, Some}
use Rattle.std.specs.Io.KnownBytes.{Consumes}
use Rattle.std.specs.Option.{option_map}
use Rattle.ts_io.specs.Sinks.{Grows}
use Rattle.ts_io.specs.declared.listener.Ends.{Ends}
use Rattle.ts_spec.specs.declared.wire.WireLimits.{WireLimits}
use Rattle.ts_words.specs.Lines.{link_line_of}
use Rattle.ts_words.specs.declared.lines.LinkEnd.{LinkEnd}
use Rattle.ts_words.specs.declared.lines.LinkEnd.TheVariants as word
use Rattle.ts_execution.specs.Handling.{World, plain}
use Rattle.ts_engine.specs.declared.piped.End.{End}
use Rattle.ts_engine.specs.declared.piped.End.TheVariants as end
use Rattle.ts_engine.specs.declared.piped.Outcome.{Outcome}
use Rattle.ts_engine.specs.declared.serving.Served.{Served}
use Rattle.ts_engine.specs.declared.serving.Served.TheVariants.{Done, AcceptFault, WriteFault}
use Rattle.ts_engine.specs.Answered.{InputAnswered}
use Rattle.ts_engine.specs.Headline.{Exchange}
use Rattle.ts_engine.specs.Piping.{HasCauses}

-- ---- lines

-- how the line of a connection names the end of its stream
abbrev pub link_end_of : End → LinkEnd
link_end_of end.Ended = word.Ended
link_end_of (end.Truncated place) = word.Truncated
link_end_of (end.Protocol fault) = word.Protocol
link_end_of end.ReadFault = word.ReadFault
link_end_of end.WriteFault = word.WriteFault
link_end_of end.Memory = word.Memory
link_end_of end.Budget = word.Budget

-- the line of the connection with this number
abbrev pub line_at : (number : ℕ) → Outcome → List ℕ
line_at number outcome = link_line_of number outcome.executed (link_end_of outcome.end)

-- a served connection: as accepted, as closed, and the outcome of its stream
pub record Link (I O : Type 0) : Type 0 where
  pub came : Ends I O
  pub back : Ends I O
  pub outcome : Outcome

-- the lines of these connections, the first of which has this number
abbrev pub lines_from : {I O : Type 0} → (number : ℕ) → List (Link I O) → List ℕ
lines_from number [] = []
lines_from number (link ∷ links) = line_at number link.outcome ++ lines_from (number + 1) links

-- ---- connections

-- what the streams of a connection show: the input's bytes left, the output's bytes, and their fault counters
pub record StreamViews (I O : Type 0) : Type 1 where
  pub left : I → Option (List ℕ)
  pub reads : I → ℕ
  pub has : O → List ℕ → Type 0
  pub writes : O → ℕ

-- the listener handed out these connections in order, and got them back closed in the same order
pub record LinksMoved {I O : Type 0} (links : List (Link I O)) (coming coming' closed closed' : Option (List (Ends I O))) : Type 0 where
  pub came : coming ≡ option_map (λ rest. map (λ link. link.came) links ++ rest) coming'
  pub back : closed' ≡ option_map (λ before. before ++ map (λ link. link.back) links) closed

module _ {I O : Type 0} (views : StreamViews I O) (limits : WireLimits) (budget : ℕ) where
  -- the exchange over a connection, between two worlds
  abbrev pub link_exchange : Link I O → (from to : World) → Exchange plain
  link_exchange link from to = record { limits = limits; from = from; to = to; had = views.has link.came.out; has = views.has link.back.out }

  -- these bytes of the connection's input were answered; `left` is what it has left
  abbrev pub LinkAnswered : (link : Link I O) → (from to : World) → List ℕ → (left : Option (List ℕ)) → Type 0
  LinkAnswered link from to bytes left =
      InputAnswered (link_exchange link from to) budget bytes left link.outcome
      (views.reads link.came.input) (views.reads link.back.input) (views.writes link.came.out) (views.writes link.back.out)

  -- At most `budget` bytes of the connection's input were read. They were answered like an input that ends there; and
  -- if all bytes of the input are known, those were answered. An end is a fault if and only if its counter rose.
  pub record IsServed (link : Link I O) (from to : World) : Type 0 where
    pub front : List ℕ
    pub count : length front ≡ link.outcome.taken
    pub within : link.outcome.taken ≤ budget
    pub took : Consumes (views.left link.came.input) (views.left link.back.input) front
    pub alone : LinkAnswered link from to front (Some [])
    pub answered : (bytes : List ℕ) → views.left link.came.input ≡ Some bytes → LinkAnswered link from to bytes (views.left link.back.input)
    pub causes : HasCauses link.outcome.end (views.reads link.came.input) (views.reads link.back.input) (views.writes link.came.out) (views.writes link.back.out)

  -- the connections were served in order, each in the world that the one before left
  abbrev pub AreServed : List (Link I O) → (from to : World) → Type 0
  AreServed [] from to = to ≡ from
  AreServed (link ∷ links) from to = (mid : World) × IsServed link from mid × AreServed links mid to

  -- the output has the lines of these connections, but perhaps only a prefix of the last line
  pub record LineCut (number most : ℕ) (links : List (Link I O)) (had has : List ℕ → Type 0) : Type 0 where
    pub first : List (Link I O)
    pub last : Link I O
    pub split : links ≡ first ++ last ∷ []
    pub within : length links ≤ most
    pub kept : ℕ
    pub grown : Grows had has (lines_from number first ++ take kept (line_at (number + length first) last.outcome))

  -- how many connections were served, and which lines were written, by how serving ended
  abbrev pub Lines : Served → (number most : ℕ) → List (Link I O) → (had has : List ℕ → Type 0) → Type 0
  Lines Done number most links had has = (length links ≡ most) × Grows had has (lines_from number links)
  Lines AcceptFault number most links had has = (length links < most) × Grows had has (lines_from number links)
  Lines WriteFault number most links had has = LineCut number most links had has

  -- Connections were served, the first of which has this number: `most` of them, or fewer if a fault ended that.
  pub record Serves (served : Served) (number most : ℕ) (from to : World) (coming coming' closed closed' : Option (List (Ends I O))) (had has : List ℕ → Type 0) : Type 0 where
    pub links : List (Link I O)
    pub run : AreServed links from to
    pub handed : LinksMoved links coming coming' closed closed'
    pub lines : Lines served number most links had has
