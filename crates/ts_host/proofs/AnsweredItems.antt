-- One item that a host answered, by what became of its reply and its connection.
use Rattle.std.proofs.Common.{◌≡◌, ℕ, ◌+◌, Bool, true, false, ◌==◌, if◌then◌else◌, List, [], ◌∷◌, refl, sym, ap, ◌∙◌, subst, append-nil, arith}
use Rattle.std.specs.Prelude.{Option}
use Rattle.ts_io.specs.Hubs.{Gains, Outgoing, Same}
use Rattle.ts_io.specs.Sinks.{Grows, GrowsByPrefix}
use Rattle.ts_io.specs.declared.hub.Step.{Step}
use Rattle.ts_mux.specs.declared.frame.Frame.{Frame}
use Rattle.ts_mux.specs.Muxing.{pending_items}
use Rattle.ts_mux.specs.Order.{Event, Item, ends, closing, without}
use Rattle.ts_mux.proofs.Closings.{closing-without, without_twice}
use Rattle.ts_words.specs.declared.lines.LinkEnd.{LinkEnd}
use Rattle.ts_words.specs.Lines.{link_line_of}
use Rattle.ts_execution.specs.Journaling.{Snapshot, IsJournaled}
use Rattle.ts_host.specs.Answers.{Agree, IsReply, Counts, counted, weight_of}
use Rattle.ts_host.specs.Http.{closes}
use Rattle.ts_host.specs.Leaving.{Leaves}
use Rattle.ts_host.specs.RequestCounts.{executed_by}
use Rattle.ts_host.specs.Serving.{Went, Halted}
use Rattle.ts_host.specs.Shown.{Progress, View, coming}
use Rattle.ts_host.specs.Steps.{Extends, frames_of}
use Rattle.ts_host.specs.declared.connections.Connections.{Connections}
use Rattle.ts_host.proofs.Lines.{gave_none, gave_one, grows_as_prefix}
use Rattle.ts_host.proofs.Stretches.{stretch_one, stretch_last}

-- a host's progress from its connections and its world, and its view
abbrev pub progress_in : Connections → Snapshot → Progress
progress_in c world = record { items = λ steps. coming c (frames_of steps); counts = executed_by c.counts; world = world }

abbrev pub view_in : Connections → Snapshot → (stored : Option (List ℕ)) → Outgoing → (List ℕ → Type 0) → View
view_in c world stored out has = record { progress = progress_in c world; stored = stored; out = out; has = has }

-- an item that counts nothing
pub uncounted : (item : Item) (one two : Counts) → weight_of item.event ≡ 0 → Agree one two → Agree (counted item one) two
uncounted item one two none agree = λ link. agree link ∙ go link (link == item.link)
  where
    go : (link : ℕ) (test : Bool) → one link ≡ (if test then one link + weight_of item.event else one link)
    go link true = omega (arith, none)
    go link false = refl

-- `mid` is the state behind the item, whose reply is `text`
module _ (oldc midc newc : Connections) (from to : Snapshot) (stored stored' : Option (List ℕ)) (out out' : Outgoing) (had has : List ℕ → Type 0) (at : ℕ) (event : Event) (text : List ℕ)
    (next : (frames : List Frame) → pending_items oldc.mux frames ≡ record { link = at; event = event } ∷ pending_items midc.mux frames)
    (extends : Extends stored stored') where
  abbrev pub item : Item
  item = record { link = at; event = event }

  -- the items behind it, by whether it ends its connection
  abbrev pub rest_if : Bool → List Step → List Item
  rest_if ending more = if ending then without at (coming midc (frames_of more)) else coming midc (frames_of more)

  behind : (ending : Bool) → ends closes event ≡ ending → (more : List Step) → coming oldc (frames_of more) ≡ item ∷ rest_if ending more
  behind ending is more =
      ap (closing closes) (next (frames_of more))
      ∙ ap (λ (test : Bool). item ∷ (if test then without at (coming midc (frames_of more)) else coming midc (frames_of more))) is

  -- the state behind the item
  abbrev pub rest_in : Bool → Snapshot → Progress
  rest_in ending world = record { items = rest_if ending; counts = counted item (executed_by oldc.counts); world = world }

  module _ (here : IsReply IsJournaled from event text to) (counts : Agree (counted item (executed_by oldc.counts)) (executed_by midc.counts)) where
    -- its connection goes on
    pub answered_one : ends closes event ≡ false → newc ≡ midc → Gains out out' (record { link = at; bytes = text }) → Grows had has []
        → Went (view_in oldc from stored out had) (view_in newc to stored' out' has) []
    answered_one is same gains lines = record {
      stretch = stretch_one (progress_in oldc from) (progress_in newc to) item text
          (λ more. behind false is more ∙ ap (λ (c : Connections). item ∷ coming c (frames_of more)) (sym same)) here
          (λ link. ap (λ (c : Connections). executed_by c.counts link) same ∙ counts link);
      stored = extends;
      gave = gave_one out out' (record { link = at; bytes = text }) gains;
      lines = lines;
    }

    -- its connection ended
    leaves_none : Leaves at midc newc → (more : List Step) → coming newc (frames_of more) ≡ without at (rest_if true more)
    leaves_none left more =
        ap (closing closes) (left.others (frames_of more)) ∙ closing-without closes at (pending_items midc.mux (frames_of more))
        ∙ sym (without_twice at (coming midc (frames_of more)))

    pub answered_last : (how : LinkEnd) → ends closes event ≡ true → Leaves at midc newc → Gains out out' (record { link = at; bytes = text })
        → Grows had has (link_line_of at (executed_by midc.counts at) how) → Went (view_in oldc from stored out had) (view_in newc to stored' out' has) []
    answered_last how is left gains lines = record {
      stretch = stretch_last (progress_in oldc from) (progress_in newc to) item text (executed_by midc.counts) how (rest_if true) (behind true is) (leaves_none left) here counts left.counts;
      stored = extends;
      gave = gave_one out out' (record { link = at; bytes = text }) gains;
      lines = subst (λ (l : List ℕ). Grows had has l) (sym (append-nil (link_line_of at (executed_by midc.counts at) how))) lines;
    }

    -- its line was cut
    pub line_halts : (how : LinkEnd) → ends closes event ≡ true → Leaves at midc newc → Gains out out' (record { link = at; bytes = text }) → Extends stored' to.content
        → GrowsByPrefix had has (link_line_of at (executed_by midc.counts at) how) → Halted (view_in oldc from stored out had) (view_in newc to stored' out' has) []
    line_halts how is left gains within lines = record {
      to = progress_in newc to;
      held = refl;
      readings = refl;
      stretch = stretch_last (progress_in oldc from) (progress_in newc to) item text (executed_by midc.counts) how (rest_if true) (behind true is) (leaves_none left) here counts left.counts;
      stored = extends;
      within = within;
      given = record { link = at; bytes = text } ∷ [];
      gave = gave_one out out' (record { link = at; bytes = text }) gains;
      lines = subst (λ (l : List ℕ). GrowsByPrefix had has l) (sym (append-nil (link_line_of at (executed_by midc.counts at) how))) lines;
    }

  -- its reply was not given; `world` is what the journal was to tell
  pub untold_halts : (ending : Bool) (world : Snapshot) → ends closes event ≡ ending → IsReply IsJournaled from event text world → world.held ≡ to.held → world.readings ≡ to.readings
      → Extends stored' world.content → Same out out' → Grows had has [] → Halted (view_in oldc from stored out had) (view_in newc to stored' out' has) []
  untold_halts ending world is here held readings within same lines = record {
    to = rest_in ending world;
    held = held;
    readings = readings;
    stretch = stretch_one (progress_in oldc from) (rest_in ending world) item text (behind ending is) here (λ link. refl);
    stored = extends;
    within = within;
    given = [];
    gave = gave_none out out' same;
    lines = grows_as_prefix had has [] lines;
  }
