-- The journal after a run: its content, and what each prefix of it loads to.
use Rattle.std.specs.Prelude.{All, Option, Some}
use Rattle.std.proofs.Common.{◌≡◌, ◌⊎◌, inl, inr, ◌≤◌, ◌<◌, ◌+◌, ◌-◌, ℕ, Bool, true, false, if◌then◌else◌, min, List, [], ◌∷◌, ◌++◌, length, take, refl, sym, ◌∙◌, ap, subst, arith, append_assoc, append-nil, length-take, take-take}
use Rattle.std.proofs.lemmas.List.{take_all, take-append-le}
use Rattle.std.proofs.lemmas.List.Elements.{All-nil, All-cons, All-head, All-tail}
use Rattle.std.proofs.Math.Seq.{take-append-add, take-append_seam}
use Rattle.std.specs.Io.KnownBytes.{append_known}
use Rattle.ts_spec.specs.StreamPrefixes.{IsStreamPrefix, IsWithin}
use Rattle.ts_spec.specs.Run.{Runs, is_quit, until_quit}
use Rattle.ts_spec.specs.Wire.{Request, Stream, Then, Ended, Inside, Broken, Start, stream_at, requests_of}
use Rattle.ts_spec.specs.declared.limits.Limits.{Limits}
use Rattle.ts_spec.specs.declared.wire.WireLimits.{WireLimits}
use Rattle.ts_spec.proofs.StreamPrefixes.{read_on-front}
use Rattle.ts_spec.proofs.Runs.{Runs-append, Runs-one}
use Rattle.ts_spec.proofs.Within.{requests-within}
use Rattle.ts_journal.specs.Limits.{IsBounded}
use Rattle.ts_checkpoint.specs.Loading.{LoadsTo}
use Rattle.ts_checkpoint.specs.Fronts.{FrontLoads}
use Rattle.ts_checkpoint.proofs.JournalFronts.{fronts-load}
use Rattle.ts_execution.specs.Journaling.{Snapshot, served, IsJournaled, journaled}
use Rattle.ts_engine.specs.declared.piped.End.{End}
use Rattle.ts_engine.specs.declared.piped.End.TheVariants as end
use Rattle.ts_engine.specs.Headline.{Exchange, requests, asks_to_quit, PrefixAnswered, Writes}
use Rattle.ts_engine.specs.JournalPrefixes.{HandledRun, run_of_all, run_of, PrefixReplays, ReplaysToFault}
use Rattle.ts_engine.specs.NotJournaled.{NotJournaled}
use Rattle.ts_engine.proofs.Quits.{until_quit-append}
use Rattle.ts_engine.proofs.PrefixReplayLemmas.{GrowsOn, a_run, all-done, added-to, run-replay_matches, grows_by_turn}

-- ---- the requests of an input

-- they are within the wire limits
until-within : (limits : WireLimits) (asked : List Request) → All (IsWithin limits) asked → All (IsWithin limits) (until_quit asked)
until-within limits [] all = all
until-within limits (request ∷ asked) all =
    All-cons (IsWithin limits) request _ (All-head (IsWithin limits) request asked all) (go (is_quit request) (until-within limits asked (All-tail (IsWithin limits) request asked all)))
  where
    go : (quits : Bool) → All (IsWithin limits) (until_quit asked) → All (IsWithin limits) (if quits then [] else until_quit asked)
    go true rest = All-nil (IsWithin limits)
    go false rest = rest

pub input-within : (limits : WireLimits) (bytes : List ℕ) → All (IsWithin limits) (requests limits bytes)
input-within limits bytes = until-within limits (requests_of (stream_at limits 0 bytes)) (requests-within limits 0 0 Start bytes tt)

-- the requests of a prefix come first
front-requests : (stream other : Stream) → IsStreamPrefix stream other → (others : List Request) × (requests_of other ≡ requests_of stream ++ others)
front-requests (Then request place rest) other front =
    let more = front-requests rest front.0 front.2 in
    (more.0, ap requests_of front.1 ∙ ap (λ (l : List Request). request ∷ l) more.1)
front-requests Ended other front = (requests_of other, refl)
front-requests (Inside place) other front = (requests_of other, refl)
front-requests (Broken kind place) other front = ([], ap requests_of front)

first-requests : (limits : WireLimits) (bytes front rest : List ℕ) → bytes ≡ front ++ rest → asks_to_quit limits front ≡ false
    → (others : List Request) × (requests limits bytes ≡ requests limits front ++ others)
first-requests limits bytes front rest split none =
    let first : List Request = requests_of (stream_at limits 0 front) in
    let more = front-requests (stream_at limits 0 front) (stream_at limits 0 (front ++ rest)) (read_on-front limits 0 0 Start front rest) in (
      until_quit more.0,
      ap (requests limits) split ∙ ap until_quit more.1 ∙ until_quit-append first more.0 none
          ∙ ap (λ (l : List Request). l ++ until_quit more.0) (sym (sym (ap until_quit (append-nil first)) ∙ until_quit-append first [] none ∙ append-nil first)),
    )

-- ---- the run of an input

-- the first requests in these bytes were handled in this run
pub record FirstRun (exchange : Exchange journaled) (bytes : List ℕ) (done : HandledRun) : Type 0 where
  pub others : List Request
  pub first : requests exchange.limits bytes ≡ done.asked ++ others
  pub ends : done.to ≡ exchange.to
  pub run : Runs IsJournaled exchange.from done.asked done.text done.to

module _ (exchange : Exchange journaled) (budget : ℕ) (bytes : List ℕ) (left : Option (List ℕ)) where
  all-run : (text : List ℕ) → Runs IsJournaled exchange.from (requests exchange.limits bytes) text exchange.to → FirstRun exchange bytes (run_of_all exchange budget bytes left bytes text)
  all-run text run = record { others = []; first = sym (append-nil (requests exchange.limits bytes)); ends = refl; run = run }

  front-run : (answered : PrefixAnswered exchange bytes left) → FirstRun exchange bytes (run_of_all exchange budget bytes left answered.front answered.answered.text)
  front-run answered =
      let more = first-requests exchange.limits bytes answered.front answered.rest answered.split answered.goes_on in
      record { others = more.0; first = more.1; ends = refl; run = answered.answered.run }

  pub first-run : (e : End) (written : Writes exchange budget bytes left e) → FirstRun exchange bytes (run_of exchange budget bytes left e written)
  first-run end.Ended (inl all) = all-run all.answered.text all.answered.run
  first-run end.Ended (inr quitted) = all-run quitted.0.text quitted.0.run
  first-run (end.Truncated place) written = all-run written.answered.text written.answered.run
  first-run (end.Protocol fault) written = all-run written.0.text written.0.run
  first-run end.ReadFault written = front-run written
  first-run end.Budget written = front-run written.0
  first-run end.Memory written = record { others = written.others; first = written.first; ends = refl; run = written.run }
  first-run end.WriteFault (inl cut) = record {
    others = cut.others;
    first = cut.first ∙ sym (append_assoc cut.done (cut.last ∷ []) cut.others);
    ends = refl;
    run = Runs-append IsJournaled exchange.from cut.mid exchange.to cut.done (cut.last ∷ []) cut.text cut.reply cut.run (Runs-one IsJournaled cut.mid exchange.to cut.last cut.reply cut.turned);
  }
  first-run end.WriteFault (inr cut) = all-run cut.answered.text cut.answered.run

-- ---- the content of the journal, and what its prefixes load to

-- the content, what it begins with, and what its prefixes load to
pub record HasJournal (limits : Limits) (loaded : List ℕ) (replays : (front : List ℕ) → Type 0) (left : Option (List ℕ)) : Type 0 where
  pub journal : List ℕ
  pub content : left ≡ Some journal
  pub begins : take (length loaded) journal ≡ loaded
  pub prefixes_load : (n : ℕ) → FrontLoads limits journal n
  pub replay_matches : (n : ℕ) → length loaded ≤ n → replays (take n journal)

first-within : (limits : WireLimits) (done others : List Request) → All (IsWithin limits) (done ++ others) → All (IsWithin limits) done
first-within limits [] others all = All-nil (IsWithin limits)
first-within limits (request ∷ done) others all =
    All-cons (IsWithin limits) request done (All-head (IsWithin limits) request (done ++ others) all) (first-within limits done others (All-tail (IsWithin limits) request (done ++ others) all))

-- ---- a journal that failed

last-within : (limits : WireLimits) (done : List Request) (last : Request) (others : List Request) → All (IsWithin limits) (done ++ last ∷ others) → IsWithin limits last
last-within limits [] last others all = All-head (IsWithin limits) last others all
last-within limits (request ∷ done) last others all = last-within limits done last others (All-tail (IsWithin limits) request (done ++ last ∷ others) all)

within-or-past : (n m : ℕ) → (n < m) ⊎ (m ≤ n)
within-or-past n m = grind arith

take-twice : (n m : ℕ) (l : List ℕ) → take n (take m l) ≡ take (min n m) l
take-twice n m l = go (within-or-past n m)
  where
    go : (n < m) ⊎ (m ≤ n) → take n (take m l) ≡ take (min n m) l
    go (inl less) =
        let is : min n m ≡ n = omega (arith, less) in
        take-take n m l (omega (arith, less)) ∙ ap (λ (i : ℕ). take i l) (sym is)
    go (inr past) =
        let is : min n m ≡ m = omega (arith, past) in
        take_all n (take m l) (omega (arith, past, length-take m l)) ∙ ap (λ (i : ℕ). take i l) (sym is)

module _ (limits : Limits) (exchange : Exchange journaled) (bytes : List ℕ) (failed : NotJournaled exchange bytes) (loaded more : List ℕ) (its : failed.mid.content ≡ Some (loaded ++ more))
    (grown : GrowsOn limits (loaded ++ more) failed.mid.held exchange.to.held failed.torn.record_) where
  -- the journal with a prefix of the last record, or all of it
  torn-part : (m : ℕ) → m ≤ failed.torn.kept → (m < length failed.torn.record_) ⊎ (length failed.torn.record_ ≤ m)
      → ReplaysToFault limits exchange bytes failed ((loaded ++ more) ++ take m failed.torn.record_)
  torn-part m few (inl less) =
      inl (all-done limits exchange.from failed.done failed.text failed.mid (loaded ++ more) ((loaded ++ more) ++ take m failed.torn.record_) failed.run its
      (take-append_seam (loaded ++ more) (take m failed.torn.record_)) (grown.1.torn m less))
  torn-part m few (inr all) =
      let record_ : List ℕ = failed.torn.record_ in
      let whole : failed.torn.kept ≡ length record_ = omega (arith, few, all, failed.torn.within) in
      let same : take failed.torn.kept record_ ≡ take m record_ = take_all failed.torn.kept record_ (omega (arith, whole)) ∙ sym (take_all m record_ all) in
      inr (record {
        whole = whole;
        content = added-to failed.mid.content exchange.to.content (loaded ++ more) (take m record_) its
            (failed.torn.content ∙ ap (λ (l : List ℕ). append_known failed.mid.content l) same);
        loads = subst (λ (l : List ℕ). LoadsTo limits ((loaded ++ more) ++ l) exchange.to.held.state) (sym (take_all m record_ all)) grown.1.whole;
      })

  -- a prefix that ends before the last record or in it
  torn-fronts : ((n : ℕ) → length loaded ≤ n → PrefixReplays limits exchange.from (a_run failed.done failed.text failed.mid) (take n (loaded ++ more)))
      → (n : ℕ) → length loaded ≤ n → (n < length (loaded ++ more)) ⊎ (length (loaded ++ more) ≤ n)
      → ReplaysToFault limits exchange bytes failed (take n ((loaded ++ more) ++ take failed.torn.kept failed.torn.record_))
  torn-fronts fronts n past (inl before) =
      inl (subst (λ (l : List ℕ). PrefixReplays limits exchange.from (a_run failed.done failed.text failed.mid) l)
      (sym (take-append-le n (loaded ++ more) (take failed.torn.kept failed.torn.record_) (omega (arith, before)))) (fronts n past))
  torn-fronts fronts n past (inr after) =
      let k : ℕ = n - length (loaded ++ more) in
      let is : length (loaded ++ more) + k ≡ n = omega (arith, after) in
      subst (λ (l : List ℕ). ReplaysToFault limits exchange bytes failed l)
      (sym (ap (λ (i : ℕ). take i ((loaded ++ more) ++ take failed.torn.kept failed.torn.record_)) (sym is)
      ∙ take-append-add (loaded ++ more) (take failed.torn.kept failed.torn.record_) k
      ∙ ap (λ (l : List ℕ). (loaded ++ more) ++ l) (take-twice k failed.torn.kept failed.torn.record_)))
      (torn-part (min k failed.torn.kept) (omega arith) (within-or-past (min k failed.torn.kept) (length failed.torn.record_)))

  -- each prefix of the journal loads
  torn-load : (failed.torn.kept < length failed.torn.record_) ⊎ (length failed.torn.record_ ≤ failed.torn.kept) → (n : ℕ)
      → FrontLoads limits ((loaded ++ more) ++ take failed.torn.kept failed.torn.record_) n
  torn-load (inl less) = fronts-load limits ((loaded ++ more) ++ take failed.torn.kept failed.torn.record_) failed.mid.held.state (length (loaded ++ more)) (grown.1.torn failed.torn.kept less)
  torn-load (inr all) =
      subst (λ (l : List ℕ). (n : ℕ) → FrontLoads limits ((loaded ++ more) ++ l) n) (sym (take_all failed.torn.kept failed.torn.record_ all))
      (fronts-load limits ((loaded ++ more) ++ failed.torn.record_) exchange.to.held.state (length ((loaded ++ more) ++ failed.torn.record_)) grown.1.whole)

module _ (limits : Limits) (bounded : IsBounded limits.wire) (exchange : Exchange journaled) (same : exchange.limits ≡ limits.wire) (bytes loaded : List ℕ)
    (its_limits : exchange.from.held.limits ≡ limits) (its_content : exchange.from.content ≡ Some loaded) (loads : LoadsTo limits loaded exchange.from.held.state) where
  asked-within : (done others : List Request) → requests exchange.limits bytes ≡ done ++ others → All (IsWithin limits.wire) done
  asked-within done others split =
      first-within limits.wire done others (subst (λ (l : List Request). All (IsWithin limits.wire) l) split
      (subst (λ (w : WireLimits). All (IsWithin w) (requests exchange.limits bytes)) same (input-within exchange.limits bytes)))

  pub journal-first : (run : HandledRun) → FirstRun exchange bytes run → HasJournal limits loaded (PrefixReplays limits exchange.from run) exchange.to.content
  journal-first run first =
      let done = run-replay_matches limits bounded run.asked loaded exchange.from run.to run.text (asked-within run.asked first.others first.first) its_limits its_content loads first.run in
      record {
        journal = loaded ++ done.more;
        content = ap (λ (s : Snapshot). s.content) (sym first.ends) ∙ done.content;
        begins = take-append_seam loaded done.more;
        prefixes_load = fronts-load limits (loaded ++ done.more) run.to.held.state (length (loaded ++ done.more)) done.loads;
        replay_matches = done.fronts;
      }

  -- the journal failed within the next record
  pub journal-torn : (failed : NotJournaled exchange bytes) → HasJournal limits loaded (ReplaysToFault limits exchange bytes failed) exchange.to.content
  journal-torn failed =
      let all : List Request = failed.done ++ failed.last ∷ failed.others in
      let within : All (IsWithin limits.wire) all = asked-within all [] (failed.first ∙ sym (append-nil all)) in
      let done = run-replay_matches limits bounded failed.done loaded exchange.from failed.mid failed.text (first-within limits.wire failed.done (failed.last ∷ failed.others) within)
      its_limits its_content loads failed.run in
      let record_ : List ℕ = failed.torn.record_ in
      let kept : ℕ = failed.torn.kept in
      let journal : List ℕ = loaded ++ done.more in
      let grown = grows_by_turn limits bounded journal failed.last (served failed.mid) (served exchange.to) failed.reply record_
      (last-within limits.wire failed.done failed.last failed.others within) done.limits_stay done.loads failed.torn.recorded in
      record {
        journal = journal ++ take kept record_;
        content = added-to failed.mid.content exchange.to.content journal (take kept record_) done.content failed.torn.content;
        begins = ap (take (length loaded)) (append_assoc loaded done.more (take kept record_)) ∙ take-append_seam loaded (done.more ++ take kept record_);
        prefixes_load = torn-load limits exchange bytes failed loaded done.more done.content grown (within-or-past kept (length record_));
        replay_matches = λ n past. torn-fronts limits exchange bytes failed loaded done.more done.content grown done.fronts n past (within-or-past n (length journal));
      }
