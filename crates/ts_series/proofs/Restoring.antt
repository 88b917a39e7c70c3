-- A series with a further chunk.
use Rattle.std.proofs.Common.{◌≡◌, ◌≢◌, ℕ, ◌≤◌, Bool, true, false, cond, ◌==◌, List, [], ◌∷◌, ◌++◌, length, refl, sym, ◌∙◌, ap, subst, arith, append-nil, eq-eqb, eqb-true, ◌+◌, map, length-append, inl, inr}
use Rattle.std.proofs.lemmas.Bool.{cases_lt}
use Rattle.std.proofs.lemmas.List.{map-append}
use Rattle.std.specs.Prelude.{nat_le, max, Option, None, Some}
use Rattle.std.specs.Option.{option_or}
use Rattle.ts_spec.specs.declared.series.Options.{Options}
use Rattle.ts_spec.specs.Sample.{Point, IsAscending, at, at_times, first_of, last_of, later_or}
use Rattle.ts_spec.specs.State.{edge_of}
use Rattle.ts_spec.specs.Valid.{Every, IsUpTo, IsOwn}
use Rattle.ts_spec.proofs.Samples.{IsBefore, at-after, at-append, ascending-join, ascending-times}
use Rattle.ts_spec.proofs.Settles.{times-within}
use Rattle.ts_spec.proofs.Sound.{IsPart, part-times}
use Rattle.ts_sample.specs.Chunk.{IsChunk, IsPast, joined, AreMade}
use Rattle.ts_sample.specs.Visit.{visited}
use Rattle.ts_sample.proofs.Cuts.{joined-append}
use Rattle.ts_sample.proofs.Lists.{ascending-right, past-before}
use Rattle.ts_chunk_packed.specs.Packed.{packed}
use Rattle.ts_series.specs.declared.chunked_series_restoring.GreatestMade.{GreatestMade}
use Rattle.ts_series.specs.Stored.{Stored, points, AreChunks, AreStoredChunks, IsTrimmed}
use Rattle.ts_series.specs.History.{History, history_of, low, record_of, format_of, IsKeptIn}
use Rattle.ts_series.specs.Restoring.{CanFollow, IsNextChunk, RestoresChunk, with_chunk}
use Rattle.ts_series.proofs.Counting.{times-append}
use Rattle.ts_series.proofs.Expired.{none-kept}
use Rattle.ts_series.proofs.Formats.{same-packed}
use Rattle.ts_series.proofs.Joined.{chunks-append}
use Rattle.ts_series.proofs.Latest.{each-upto}
use Rattle.ts_series.proofs.Ready.{Shows}

-- ---- the chunks with one more

-- their samples
pub points-more : (pss : List (List Point)) (ps : List Point) → joined (pss ++ ps ∷ []) ≡ joined pss ++ ps
points-more pss ps = joined-append pss (ps ∷ []) ∙ ap (λ (l : List Point). joined pss ++ l) (append-nil ps)

-- what holds of them
pub stored-more : {X : Type 0} (format : List Point → List ℕ) (list : X → List Point) (most : X → ℕ) (xs : List X) (x : X) (count n : ℕ) → AreStoredChunks format (map list xs) (map most xs) count
    → IsChunk format (most x) (list x) → list x ≢ [] → IsAscending (joined (map list xs) ++ list x) → n ≡ count + length (list x)
    → AreStoredChunks format (map list (xs ++ x ∷ [])) (map most (xs ++ x ∷ [])) n
stored-more format list most xs x count n kept chunk some up long =
    let pieces = map-append list xs (x ∷ []) in
    let limits = map-append most xs (x ∷ []) in
    let samples : joined (map list (xs ++ x ∷ [])) ≡ joined (map list xs) ++ list x = ap joined pieces ∙ points-more (map list xs) (list x) in
    record {
      chunks = subst (λ (pss : List (List Point)). AreChunks format pss (map most (xs ++ x ∷ []))) (sym pieces)
          (subst (AreChunks format (map list xs ++ list x ∷ [])) (sym limits)
          (chunks-append format (map list xs) (list x ∷ []) (map most xs) (most x ∷ []) kept.chunks (chunk, (some, tt))));
      ascending = subst IsAscending (sym samples) up;
      counted = omega (arith, long, kept.counted, ap length samples, length-append (joined (map list xs)) (list x));
    }

-- the first one stays, if there is one
first-stays : (edge : ℕ) (pss : List (List Point)) (ps : List Point) → IsTrimmed edge pss → (pss ≡ [] → at_times (nat_le edge) ps ≢ []) → IsTrimmed edge (pss ++ ps ∷ [])
first-stays edge [] ps trimmed first = first refl
first-stays edge (qs ∷ pss) ps trimmed first = trimmed

-- each sample is up to the highest time if the last one is
upto-high : (high : Option ℕ) (ps : List Point) → IsAscending ps → ((p : Point) → last_of ps ≡ Some p → IsUpTo high p.time) → Every (λ p. IsUpTo high p.time) ps
upto-high None [] up last t p is = absurd (cc is)
upto-high None (q ∷ ps) up last t p is = absurd (last (later_or q (last_of ps)) refl)
upto-high (Some high) ps up last t p is = each-upto high ps up last t p is

module _ {format : List Point → List ℕ} (h : History) (limit : ℕ) (ps : List Point) (room : ℕ) (shows : Shows h) (kept : IsKeptIn format h) (chunk : IsChunk format limit ps) (follows : CanFollow h ps) where
  abbrev more : List Point
  more = at_times (nat_le (low h)) ps

  list : h.samples ++ more ≡ at_times (nat_le (low h)) (points h.held ++ ps)
  list = ap (λ (l : List Point). l ++ more) shows ∙ sym (times-append (nat_le (low h)) (points h.held) ps)

  own-more : (t : ℕ) (p : Point) → at t more ≡ Some p → IsOwn (record_of [] (with_chunk h limit ps room)) p
  own-more t p is =
      let up : IsAscending ps = ascending-right (points h.held) ps follows.ascending in
      let part : IsPart more ps = part-times (nat_le (low h)) ps up in
      record { time = upto-high h.high ps up follows.high t p (part.of t p is); made = follows.made t p is }

  own-each : (t : ℕ) (p : Point) (o : Option Point) → at t h.samples ≡ o → option_or o (at t more) ≡ Some p → IsOwn (record_of [] (with_chunk h limit ps room)) p
  own-each t p (Some q) there is = (let own : IsOwn (record_of [] h) p = kept.own t p (there ∙ is) in record { time = own.time; made = own.made })
  own-each t p None there is = own-more t p is

  -- the series stays in order
  pub kept-with : IsKeptIn format (with_chunk h limit ps room)
  kept-with = record {
    ascending = subst IsAscending (sym list) (ascending-times (nat_le (low h)) (points h.held ++ ps) follows.ascending);
    past_edge = ap (at_times (nat_le (low h))) list ∙ times-within (nat_le (low h)) (nat_le (low h)) (points h.held ++ ps) (λ t x. x) ∙ sym list;
    own = λ t p is. own-each t p (at t h.samples) refl (sym (at-append t h.samples more) ∙ is);
    chunks = record {
      chunks = chunks-append format h.held.pieces (ps ∷ []) h.held.limits (limit ∷ []) kept.chunks.chunks (chunk, (follows.some, tt));
      ascending = subst IsAscending (sym (points-more h.held.pieces ps)) follows.ascending;
      counted = refl;
    };
    trimmed = first-stays (low h) h.held.pieces ps kept.trimmed follows.trimmed;
  }

-- the parts of a series with a further chunk
pub with-is : (o : Options) (high : Option ℕ) (born : ℕ) (old new : Stored) (h : History) (limit : ℕ) (ps : List Point) → history_of o high born old ≡ h
    → new.pieces ≡ old.pieces ++ ps ∷ [] → new.limits ≡ old.limits ++ limit ∷ [] → history_of o high born new ≡ with_chunk h limit ps new.room
with-is o high born old new h limit ps view pieces limits =
    let edge = edge_of o.retention high in
    let samples : at_times (nat_le edge) (points new) ≡ at_times (nat_le edge) (points old) ++ at_times (nat_le edge) ps =
    ap (λ (pss : List (List Point)). at_times (nat_le edge) (joined pss)) pieces ∙ ap (at_times (nat_le edge)) (points-more old.pieces ps) ∙ times-append (nat_le edge) (points old) ps in
    let here : history_of o high born new ≡ with_chunk (history_of o high born old) limit ps new.room =
    (λ i. record { options = o; samples = samples i; high = high; born = born; held = record { pieces = pieces i; limits = limits i; room = new.room } }) in
    here ∙ ap (λ (k : History). with_chunk k limit ps new.room) view

-- ---- the last sample

pub no-last : (ps : List Point) → None ≡ last_of ps → ps ≡ []
no-last [] is = refl
no-last (p ∷ ps) is = absurd (cc is)

pub some-last : (ps : List Point) (p : Point) → last_of ps ≡ Some p → ps ≢ []
some-last [] p is = absurd (cc is)
some-last (q ∷ ps) p is = λ none. absurd (cc none)

pub no-pieces : (pss : List (List Point)) → length pss ≤ 0 → pss ≡ []
no-pieces [] none = refl
no-pieces (ps ∷ pss) none = absurd (omega arith)

-- where some sample is from the edge on, the last one is
pub last-shows : (edge : ℕ) (ps : List Point) (p : Point) → IsAscending ps → last_of ps ≡ Some p → at_times (nat_le edge) ps ≢ [] → edge ≤ p.time
last-shows edge ps p up is some = elim (cases_lt p.time edge) [
  | inl less ↦ absurd (some (none-kept edge ps p up is less))
  | inr late ↦ late
]

-- ---- the order of the samples

before-past : (t : ℕ) (ps : List Point) → IsAscending ps → IsPast (last_of ps) t → IsBefore t ps
before-past t [] up past = tt
before-past t (q ∷ []) up past = (past, tt)
before-past t (q ∷ r ∷ ps) up past = let rest : IsBefore t (r ∷ ps) = before-past t (r ∷ ps) up.1 past in (omega (arith, up.0.0, rest.0), rest)

-- a list whose first sample is past the last one of another can follow it
pub ascending-past : (ps qs : List Point) (p : Point) → IsAscending ps → IsAscending qs → first_of qs ≡ Some p → IsPast (last_of ps) p.time → IsAscending (ps ++ qs)
ascending-past ps [] p up more first past = absurd (cc first)
ascending-past ps (q ∷ qs) p up more first past =
    let same : q ≡ p = cc in
    ascending-join ps q qs up (before-past q.time ps up (subst (λ (r : Point). IsPast (last_of ps) r.time) (sym same) past)) more

-- and no other can
pub past-last : (ps qs : List Point) (p : Point) → first_of qs ≡ Some p → IsAscending (ps ++ qs) → IsPast (last_of ps) p.time
past-last ps [] p first up = absurd (cc first)
past-last ps (q ∷ qs) p first up =
    let same : q ≡ p = cc in
    subst (λ (r : Point). IsPast (last_of ps) r.time) same (past-before ps q qs up)

-- ---- the number of rules that samples were written after

each-made : (most : ℕ) (ps : List Point) → AreMade most ps → Every (λ p. p.made ≤ most) ps
each-made most [] made t p is = absurd (cc is)
each-made most (q ∷ ps) made t p is = go (q.time == t) is (each-made most ps made.1 t p)
  where
    go : (b : Bool) → cond b (Some q) (at t ps) ≡ Some p → (at t ps ≡ Some p → p.made ≤ most) → p.made ≤ most
    go true here later = (let same : q ≡ p = cc in subst (λ (r : Point). r.made ≤ most) same made.0)
    go false there later = later there

-- a bound for all samples is one for those that are shown
pub made-shown : (most born edge : ℕ) (ps : List Point) → IsAscending ps → AreMade most ps → most ≤ born → Every (λ p. p.made ≤ born) (at_times (nat_le edge) ps)
made-shown most born edge ps up made few t p is = omega (arith, few, each-made most ps made t p ((part-times (nat_le edge) ps up).of t p is))

all-made : (most : ℕ) (ps : List Point) → IsAscending ps → Every (λ p. p.made ≤ most) ps → AreMade most ps
all-made most [] up each = tt
all-made most (q ∷ ps) up each =
    (each q.time q (ap (λ b. cond b (Some q) (at q.time ps)) (eq-eqb q.time q.time refl)), all-made most ps up.1 (λ t p is. each t p (later t p is (q.time == t) refl)))
  where
    later : (t : ℕ) (p : Point) → at t ps ≡ Some p → (b : Bool) → (q.time == t) ≡ b → cond b (Some q) (at t ps) ≡ Some p
    later t p is true here =
        let same : q.time ≡ t = eqb-true q.time t here in
        let none : at t ps ≡ None = at-after t q.time ps up.0 (omega arith) in
        absurd (cc (is, none))
    later t p is false here = is

abbrev pub greater : GreatestMade → Point → GreatestMade
greater g p = record { made = max g.made p.made }

greatest-from : (g : GreatestMade) (ps : List Point) (most : ℕ) → (visited greater g ps).made ≤ most → (g.made ≤ most) × AreMade most ps
greatest-from g [] most few = (few, tt)
greatest-from g (p ∷ ps) most few = let rest = greatest-from (greater g p) ps most few in (omega (arith, rest.0), (omega (arith, rest.0), rest.1))

greatest-to : (g : GreatestMade) (ps : List Point) (most : ℕ) → g.made ≤ most → AreMade most ps → (visited greater g ps).made ≤ most
greatest-to g [] most few made = few
greatest-to g (p ∷ ps) most few made = greatest-to (greater g p) ps most (omega (arith, few, made.0)) made.1

-- the greatest one bounds each, and nothing less does
pub greatest-bounds : (g : GreatestMade) (ps : List Point) (most : ℕ) → g.made ≡ 0 → IsAscending ps → (visited greater g ps).made ≤ most → Every (λ p. p.made ≤ most) ps
greatest-bounds g ps most none up few = each-made most ps (greatest-from g ps most few).1

pub bounds-greatest : (g : GreatestMade) (ps : List Point) (most : ℕ) → g.made ≡ 0 → IsAscending ps → Every (λ p. p.made ≤ most) ps → (visited greater g ps).made ≤ most
bounds-greatest g ps most none up each = greatest-to g ps most (omega arith) (all-made most ps up each)

-- ---- what a restored chunk is

-- the chunk that has these bytes came next
pub restores : (h k : History) (limit : ℕ) (bytes : List ℕ) (ps : List Point) → packed ps ≡ bytes → IsChunk packed limit ps → IsChunk (format_of h.options.encoding) limit ps → CanFollow h ps
    → (room : ℕ) → k ≡ with_chunk h limit ps room → RestoresChunk h limit bytes k
restores h k limit bytes ps coded packs chunk follows room added = record {
  list = ps;
  packs_to = coded;
  next = record { packs = packs; chunk = chunk; follows = follows };
  added = subst (λ (x : History). x ≡ with_chunk h limit ps x.held.room) (sym added) refl;
}

-- bytes of samples that can't follow are not those of the next chunk
pub refuses : (h : History) (limit : ℕ) (bytes : List ℕ) (ps : List Point) → packed ps ≡ bytes → (CanFollow h ps → ⊥) → (qs : List Point) → packed qs ≡ bytes → IsNextChunk h limit qs → ⊥
refuses h limit bytes ps coded never qs also next = never (subst (CanFollow h) (same-packed qs ps (also ∙ sym coded)) next.follows)
