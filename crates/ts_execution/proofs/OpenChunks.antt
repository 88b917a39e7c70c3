-- The chunks of a series that is restored chunk by chunk.
use Rattle.std.proofs.Common.{◌≡◌, ℕ, Bool, true, false, if◌then◌else◌, List, [], ◌∷◌, ◌++◌, length, refl, sym, ◌∙◌, ap, subst, append-nil, arith}
use Rattle.std.proofs.lemmas.Bool.{false≢true}
use Rattle.std.proofs.lemmas.List.Elements.{filter-append}
use Rattle.std.specs.Prelude.{map, nat_le, Option, None, Some, Result, Ok, Err, ◌↔◌}
use Rattle.std.specs.declared.alloc.AllocError.{AllocError}
use Rattle.ts_spec.specs.Key.{Key}
use Rattle.ts_spec.specs.Sample.{Point, IsAscending, at_times}
use Rattle.ts_spec.specs.State.{Label, State}
use Rattle.ts_spec.specs.declared.limits.Limits.{Limits}
use Rattle.ts_spec.specs.declared.series.Encoding.{Encoding}
use Rattle.ts_spec.specs.declared.series.Encoding.TheVariants.{Compressed, Uncompressed}
use Rattle.ts_sample.specs.Chunk.{IsChunk, joined}
use Rattle.ts_sample.proofs.Cuts.{joined-append}
use Rattle.ts_chunk_plain.specs.Laws.{length-plain}
use Rattle.ts_chunk_packed.specs.Packed.{packed}
use Rattle.ts_restore.specs.Checkpoint.{SeriesPart}
use Rattle.ts_series.specs.History.{History, IsKept, list_of, low, format_of}
use Rattle.ts_series.specs.Restoring.{IsNextChunk, RestoresChunk, with_chunk}
use Rattle.ts_series.specs.Stored.{AreChunks, points}
use Rattle.ts_db.specs.Restoring.{part_of_series}
use Rattle.ts_checkpoint.specs.Checks.{FitsEncoding, can_follow}
use Rattle.ts_checkpoint.specs.Checks as checks
use Rattle.ts_checkpoint.specs.Loading.{OpenSeries, series_so_far, with_open, with_samples}
use Rattle.ts_checkpoint.specs.Loading as opened
use Rattle.ts_checkpoint.specs.Restoring.{Chunk, shown_series}
use Rattle.ts_checkpoint.specs.Unpacked.{unpacked}
use Rattle.ts_execution.specs.SeriesChunks.{chunks_of, open_series, IsRestored}

-- ---- chunks, limits and samples

-- their samples
lists-of : (format : List Point → List ℕ) (pieces : List (List Point)) (limits : List ℕ) → AreChunks format pieces limits → map (λ (c : Chunk). c.list) (chunks_of limits pieces) ≡ pieces
lists-of format [] [] chunks = refl
lists-of format (ps ∷ pss) (n ∷ ns) chunks = ap (λ (l : List (List Point)). ps ∷ l) (lists-of format pss ns chunks.1.1)
lists-of format [] (n ∷ ns) chunks = absurd chunks
lists-of format (ps ∷ pss) [] chunks = absurd chunks

-- how many there are
length-of : (format : List Point → List ℕ) (pieces : List (List Point)) (limits : List ℕ) → AreChunks format pieces limits → length (chunks_of limits pieces) ≡ length pieces
length-of format [] [] chunks = refl
length-of format (ps ∷ pss) (n ∷ ns) chunks = omega (arith, length-of format pss ns chunks.1.1)
length-of format [] (n ∷ ns) chunks = absurd chunks
length-of format (ps ∷ pss) [] chunks = absurd chunks

-- one more
more-of : (format : List Point → List ℕ) (pieces : List (List Point)) (limits : List ℕ) (n : ℕ) (ps : List Point) → AreChunks format pieces limits
    → chunks_of (limits ++ n ∷ []) (pieces ++ ps ∷ []) ≡ chunks_of limits pieces ++ record { limit = n; list = ps } ∷ []
more-of format [] [] n ps chunks = refl
more-of format (qs ∷ pss) (m ∷ ns) n ps chunks = ap (λ (l : List Chunk). record { limit = m; list = qs } ∷ l) (more-of format pss ns n ps chunks.1.1)
more-of format [] (m ∷ ns) n ps chunks = absurd chunks
more-of format (qs ∷ pss) [] n ps chunks = absurd chunks

-- there are none
none-of : (format : List Point → List ℕ) (pieces : List (List Point)) (limits : List ℕ) → AreChunks format pieces limits → chunks_of limits pieces ≡ [] → pieces ≡ []
none-of format [] limits chunks none = refl
none-of format (ps ∷ pss) (n ∷ ns) chunks none = absurd cc
none-of format (ps ∷ pss) [] chunks none = absurd chunks

of-none : (pieces : List (List Point)) (limits : List ℕ) → pieces ≡ [] → chunks_of limits pieces ≡ []
of-none [] [] none = refl
of-none [] (n ∷ ns) none = refl
of-none (ps ∷ pss) limits none = absurd cc

-- ---- a series

module _ (key : Key) (labels : List Label) (pieces : ℕ) (h : History) (restored : IsRestored h) where
  abbrev held : AreChunks (format_of h.options.encoding) h.held.pieces h.held.limits
  held = restored.kept.chunks.chunks

  -- how many chunks it has
  pub chunk-count : length (open_series key labels pieces h).chunks ≡ length h.held.pieces
  chunk-count = length-of (format_of h.options.encoding) h.held.pieces h.held.limits held

  abbrev shown-as : List Point → SeriesPart
  shown-as l = record { key = key; options = h.options; labels = labels; list = l; high = h.high; born = h.born }

  -- what a checkpoint says of it
  pub shown-part : shown_series (series_so_far (open_series key labels pieces h)) ≡ part_of_series key labels h
  shown-part =
      let list : at_times (nat_le (low h)) (joined (map (λ (c : Chunk). c.list) (chunks_of h.held.limits h.held.pieces))) ≡ list_of h =
      ap (λ (l : List (List Point)). at_times (nat_le (low h)) (joined l)) (lists-of (format_of h.options.encoding) h.held.pieces h.held.limits held) ∙ sym restored.shown in
      ap (λ (l : List Point). shown-as l) list

  joined-lists : joined (map (λ (c : Chunk). c.list) (open_series key labels pieces h).chunks) ≡ points h.held
  joined-lists = ap joined (lists-of (format_of h.options.encoding) h.held.pieces h.held.limits held)

  -- ---- the next chunk

  fits-in : (e : Encoding) (limit : ℕ) (ps : List Point) → IsChunk (format_of e) limit ps → FitsEncoding e limit ps
  fits-in Compressed limit ps chunk = tt
  fits-in Uncompressed limit ps chunk = omega (arith, chunk.fits, length-plain ps)

  chunk-in : (e : Encoding) (limit : ℕ) (ps : List Point) → IsChunk packed limit ps → FitsEncoding e limit ps → IsChunk (format_of e) limit ps
  chunk-in Compressed limit ps packs fits = packs
  chunk-in Uncompressed limit ps packs fits =
      record { bounds = packs.bounds; ascending = packs.ascending; fine = packs.fine; fits = omega (arith, fits, length-plain ps) }

  -- both definitions of it agree
  to-follow : (limit : ℕ) (ps : List Point) → IsNextChunk h limit ps → checks.CanFollow (open_series key labels pieces h).head (open_series key labels pieces h).chunks limit ps
  to-follow limit ps next = record {
    chunk = next.packs;
    fits = fits-in h.options.encoding limit ps next.chunk;
    some = next.follows.some;
    ascending = subst (λ (l : List Point). IsAscending (l ++ ps)) (sym joined-lists) next.follows.ascending;
    high = next.follows.high;
    made = next.follows.made;
    first = λ none. next.follows.trimmed (none-of (format_of h.options.encoding) h.held.pieces h.held.limits held none);
  }

  from-follow : (limit : ℕ) (ps : List Point) → checks.CanFollow (open_series key labels pieces h).head (open_series key labels pieces h).chunks limit ps → IsNextChunk h limit ps
  from-follow limit ps follows = record {
    packs = follows.chunk;
    chunk = chunk-in h.options.encoding limit ps follows.chunk follows.fits;
    follows = record {
      some = follows.some;
      ascending = subst (λ (l : List Point). IsAscending (l ++ ps)) joined-lists follows.ascending;
      high = follows.high;
      made = follows.made;
      trimmed = λ none. follows.first (of-none h.held.pieces h.held.limits none);
    };
  }

  module _ (exact : (limit : ℕ) (ps : List Point) → (can_follow (open_series key labels pieces h).head (open_series key labels pieces h).chunks limit ps ≡ true)
      ↔ checks.CanFollow (open_series key labels pieces h).head (open_series key labels pieces h).chunks limit ps)
      (packs : (bytes : List ℕ) (ps : List Point) → unpacked bytes ≡ Some ps → packed ps ≡ bytes) (unpacks : (ps : List Point) → unpacked (packed ps) ≡ Some ps)
      (limit : ℕ) (bytes : List ℕ) where
    -- it was added
    pub chunk-added : (after : History) → RestoresChunk h limit bytes after → (limits : Limits) (m : State)
        → with_samples limits m (open_series key labels pieces h) limit (unpacked bytes) ≡ with_open limits m (open_series key labels pieces after)
    chunk-added after is limits m =
        let o : OpenSeries = open_series key labels pieces h in
        let its : unpacked bytes ≡ Some is.list = ap unpacked (sym is.packs_to) ∙ unpacks is.list in
        let more : open_series key labels pieces after ≡ opened.with_chunk (record { limit = limit; list = is.list }) o =
        ap (open_series key labels pieces) is.added
        ∙ ap (λ (l : List Chunk). record o { chunks = l }) (more-of (format_of h.options.encoding) h.held.pieces h.held.limits limit is.list held) in
        ap (with_samples limits m o limit) its
        ∙ ap (λ (b : Bool). if b then with_open limits m (opened.with_chunk (record { limit = limit; list = is.list }) o) else None) ((exact limit is.list).1 (to-follow limit is.list is.next))
        ∙ ap (with_open limits m) (sym more)

    -- it was refused
    pub chunk-refused : ((ps : List Point) → packed ps ≡ bytes → IsNextChunk h limit ps → ⊥) → (limits : Limits) (m : State)
        → with_samples limits m (open_series key labels pieces h) limit (unpacked bytes) ≡ None
    chunk-refused none limits m = go (unpacked bytes) refl
      where
        refused : (ps : List Point) (b : Bool) → packed ps ≡ bytes → can_follow (open_series key labels pieces h).head (open_series key labels pieces h).chunks limit ps ≡ b
            → (if b then with_open limits m (opened.with_chunk (record { limit = limit; list = ps }) (open_series key labels pieces h)) else None) ≡ None
        refused ps true its can = absurd (none ps its (from-follow limit ps ((exact limit ps).0 can)))
        refused ps false its can = refl

        go : (o : Option (List Point)) → unpacked bytes ≡ o → with_samples limits m (open_series key labels pieces h) limit o ≡ None
        go None is = refl
        go (Some ps) is = refused ps (can_follow (open_series key labels pieces h).head (open_series key labels pieces h).chunks limit ps) (packs bytes ps is) refl

  -- it shows the samples of the chunk from the edge on
  pub restored-with : (limit : ℕ) (bytes : List ℕ) (after : History) → RestoresChunk h limit bytes after → IsKept after → IsRestored after
  restored-with limit bytes after is kept = record { kept = kept; shown = subst (λ (k : History). list_of k ≡ at_times (nat_le (low k)) (points k.held)) (sym is.added) shown }
    where
      points-more : points (with_chunk h limit is.list after.held.room).held ≡ points h.held ++ is.list
      points-more = joined-append h.held.pieces (is.list ∷ []) ∙ ap (λ (l : List Point). points h.held ++ l) (append-nil is.list)

      shown : h.samples ++ at_times (nat_le (low h)) is.list ≡ at_times (nat_le (low h)) (points (with_chunk h limit is.list after.held.room).held)
      shown = ap (λ (l : List Point). l ++ at_times (nat_le (low h)) is.list) restored.shown
          ∙ sym (filter-append (λ (p : Point). nat_le (low h) p.time) (points h.held) is.list) ∙ ap (at_times (nat_le (low h))) (sym points-more)

-- whether it was added or not
pub restored-after : (h after : History) (limit : ℕ) (bytes : List ℕ) (result : Result Bool AllocError) → IsRestored h
    → (result ≡ Ok true → RestoresChunk h limit bytes after) → ((result ≡ Ok true → ⊥) → after ≡ h) → IsKept after → IsRestored after
restored-after h after limit bytes (Ok true) restored added same kept = restored-with [] [] 0 h restored limit bytes after (added refl) kept
restored-after h after limit bytes (Ok false) restored added same kept = subst IsRestored (sym (same (λ e. false≢true cc))) restored
restored-after h after limit bytes (Err error) restored added same kept = subst IsRestored (sym (same (λ e. cc))) restored
