-- The chunks of a stored series, and what a checkpoint says of it.
use Rattle.std.proofs.Common.{◌≡◌, ℕ, zero, suc, ◌+◌, ◌<◌, ◌≤◌, List, [], ◌∷◌, ◌++◌, length, get_or, take, map, refl, sym, ◌∙◌, ap, subst, append-nil, add-one, arith}
use Rattle.std.proofs.lemmas.List.{map-append, take_all}
use Rattle.std.specs.Prelude.{nat_le, Option, Some}
use Rattle.ts_spec.specs.declared.series.Encoding.{Encoding}
use Rattle.ts_spec.specs.declared.series.Encoding.TheVariants.{Compressed, Uncompressed}
use Rattle.ts_spec.specs.declared.series.Options.{Options}
use Rattle.ts_spec.specs.declared.wire.WireLimits.{WireLimits}
use Rattle.ts_spec.specs.Key.{Key}
use Rattle.ts_spec.specs.Keyed.{Entry, get}
use Rattle.ts_spec.specs.Sample.{Point, IsAscending, at_times}
use Rattle.ts_spec.specs.State.{Label}
use Rattle.ts_spec.specs.StoredQueries.{stored_labels_at}
use Rattle.ts_spec.specs.StoredSeries.{StoredSeries}
use Rattle.ts_sample.specs.Chunk.{joined}
use Rattle.ts_chunk_plain.specs.Laws.{length-plain}
use Rattle.ts_restore.specs.Checkpoint.{series_part}
use Rattle.ts_checkpoint.specs.declared.part.SeriesHead as code
use Rattle.ts_checkpoint.specs.Parts.{SeriesHead, Series, series_of}
use Rattle.ts_checkpoint.specs.Reading.{ReadsBack}
use Rattle.ts_checkpoint.specs.Sayable.{IsSayableSeries}
use Rattle.ts_checkpoint.specs.Restoring.{Chunk, ChunkedSeries, shown_series, chunk_part, head_of, series_parts, AreStoredChunks, IsTrimmed, HasStoredChunks}
use Rattle.ts_series.specs.History.{History, list_of, low, format_of, IsKept}
use Rattle.ts_series.specs.Stored as stored
use Rattle.ts_series.specs.Stored.{points, AreChunks}
use Rattle.ts_series.proofs.Formats.{plain-packs}
use Rattle.ts_db.specs.DbState.{DbView, chunk_samples_at}
use Rattle.ts_db.specs.Restoring.{StoresSeries}
use Rattle.ts_execution.specs.Checkpoints.{Written, WrittenSeries, chunk_at, chunks_from, chunked}
use Rattle.ts_execution.proofs.Drafting.{written-then}

-- ---- chunks from their samples and limits

pub chunks-lists : (format : List Point → List ℕ) (pss : List (List Point)) (ns : List ℕ) → AreChunks format pss ns → map (λ c. c.list) (chunks_from pss ns) ≡ pss
chunks-lists format [] [] are = refl
chunks-lists format [] (n ∷ ns) are = refl
chunks-lists format (ps ∷ pss) [] are = absurd are
chunks-lists format (ps ∷ pss) (n ∷ ns) are = ap (λ (l : List (List Point)). ps ∷ l) (chunks-lists format pss ns are.1.1)

pub chunks-length : (format : List Point → List ℕ) (pss : List (List Point)) (ns : List ℕ) → AreChunks format pss ns → length (chunks_from pss ns) ≡ length pss
chunks-length format [] [] are = refl
chunks-length format [] (n ∷ ns) are = refl
chunks-length format (ps ∷ pss) [] are = absurd are
chunks-length format (ps ∷ pss) (n ∷ ns) are = ap suc (chunks-length format pss ns are.1.1)

chunks-stored : (encoding : Encoding) (pss : List (List Point)) (ns : List ℕ) → AreChunks (format_of encoding) pss ns → AreStoredChunks encoding (chunks_from pss ns)
chunks-stored Compressed [] [] are = tt
chunks-stored Compressed [] (n ∷ ns) are = tt
chunks-stored Compressed (ps ∷ pss) [] are = absurd are
chunks-stored Compressed (ps ∷ pss) (n ∷ ns) are =
    (record { chunk = are.0; fits = λ e. absurd cc; some = are.1.0 }, chunks-stored Compressed pss ns are.1.1)
chunks-stored Uncompressed [] [] are = tt
chunks-stored Uncompressed [] (n ∷ ns) are = tt
chunks-stored Uncompressed (ps ∷ pss) [] are = absurd are
chunks-stored Uncompressed (ps ∷ pss) (n ∷ ns) are =
    (record { chunk = plain-packs n ps are.0; fits = λ e. omega (arith, length-plain ps, are.0.fits); some = are.1.0 }, chunks-stored Uncompressed pss ns are.1.1)

chunks-trimmed : (edge : ℕ) (pss : List (List Point)) (ns : List ℕ) → stored.IsTrimmed edge pss → IsTrimmed edge (chunks_from pss ns)
chunks-trimmed edge [] ns trimmed = tt
chunks-trimmed edge (ps ∷ pss) [] trimmed = tt
chunks-trimmed edge (ps ∷ pss) (n ∷ ns) trimmed = trimmed

next-chunk : (format : List Point → List ℕ) (pss : List (List Point)) (ns : List ℕ) (i : ℕ) → AreChunks format pss ns → i < length pss
    → take (suc i) (chunks_from pss ns) ≡ take i (chunks_from pss ns) ++ record { limit = get_or ns i 0; list = get_or pss i [] } ∷ []
next-chunk format [] [] i are within = absurd (omega (arith, within))
next-chunk format [] (n ∷ ns) i are within = absurd are
next-chunk format (ps ∷ pss) [] i are within = absurd are
next-chunk format (ps ∷ pss) (n ∷ ns) zero are within = refl
next-chunk format (ps ∷ pss) (n ∷ ns) (suc i) are within =
    ap (λ (l : List Chunk). record { limit = n; list = ps } ∷ l) (next-chunk format pss ns i are.1.1 (omega (arith, within)))

-- the record of the next chunk was written
pub chunks-next : {limits : WireLimits} {a b c : Option (List ℕ)} (h : History) (i : ℕ) → IsKept h → i < length h.held.pieces
    → Written limits a b (map chunk_part (take i (chunks_from h.held.pieces h.held.limits))) → Written limits b c (chunk_part (chunk_at h.held i) ∷ [])
    → Written limits a c (map chunk_part (take (i + 1) (chunks_from h.held.pieces h.held.limits)))
chunks-next {limits} {a} {b} {c} h i kept within before one =
    let chunks = chunks_from h.held.pieces h.held.limits in
    let more : take (i + 1) chunks ≡ take i chunks ++ chunk_at h.held i ∷ [] =
    ap (λ (k : ℕ). take k chunks) (add-one i) ∙ next-chunk (format_of h.options.encoding) h.held.pieces h.held.limits i kept.chunks.chunks within in
    subst (Written limits a c) (sym (ap (λ (l : List Chunk). map chunk_part l) more ∙ map-append chunk_part (take i chunks) (chunk_at h.held i ∷ []))) (written-then before one)

-- behind the last index there is no chunk
pub all-chunks : (h : History) (i : ℕ) → IsKept h → length h.held.pieces ≤ i → take i (chunks_from h.held.pieces h.held.limits) ≡ chunks_from h.held.pieces h.held.limits
all-chunks h i kept past =
    take_all i (chunks_from h.held.pieces h.held.limits) (omega (arith, chunks-length (format_of h.options.encoding) h.held.pieces h.held.limits kept.chunks.chunks, past))

-- the head of a series, made of its parts
pub head-same : (key : Key) (labels : List Label) (h : History) → IsKept h → {options : Options} {high : Option ℕ} {born pieces : ℕ} → options ≡ h.options → high ≡ h.high → born ≡ h.born
    → pieces ≡ length h.held.pieces
    → record { key = key; spec = record { options = options; labels = labels }; high = high; born = born; pieces = pieces } ≡ head_of (chunked key labels h)
head-same key labels h kept same_options same_high same_born count = λ i. record {
  key = key;
  spec = record { options = same_options i; labels = labels };
  high = same_high i;
  born = same_born i;
  pieces = (count ∙ sym (chunks-length (format_of h.options.encoding) h.held.pieces h.held.limits kept.chunks.chunks)) i;
}

-- what holds of what reads back
pub reads-back : (wanted is : SeriesHead) (o : Option code.SeriesHead) (head : code.SeriesHead) → wanted ≡ is → o ≡ Some head → ReadsBack wanted o → IsSayableSeries is × (series_of head ≡ is)
reads-back wanted is o head same found reads =
    let both : ReadsBack wanted (Some head) = subst (ReadsBack wanted) found reads in
    (subst IsSayableSeries same both.0, both.1 ∙ same)

-- ---- a stored series

module _ (db_view : DbView) (e : Entry StoredSeries) (labels : List Label) (h : History) (stores : StoresSeries db_view e.key h) (kept : IsKept h)
    (shown : list_of h ≡ at_times (nat_le (low h)) (points h.held)) (there : get e.key db_view.keys ≡ Some e.value) (labelled : labels ≡ stored_labels_at (get e.key db_view.keys)) where
  abbrev its : ChunkedSeries
  its = chunked e.key labels h

  lists-same : map (λ c. c.list) its.chunks ≡ h.held.pieces
  lists-same = chunks-lists (format_of h.options.encoding) h.held.pieces h.held.limits kept.chunks.chunks

  has-chunks : HasStoredChunks its
  has-chunks = record {
    chunks = chunks-stored h.options.encoding h.held.pieces h.held.limits kept.chunks.chunks;
    ascending = subst (λ (pss : List (List Point)). IsAscending (joined pss)) (sym lists-same) kept.chunks.ascending;
    trimmed = chunks-trimmed (low h) h.held.pieces h.held.limits kept.trimmed;
  }

  the-value : stores.stored ≡ e.value
  the-value = let both : Some stores.stored ≡ Some e.value = sym stores.there ∙ there in cc

  its-labels : labels ≡ e.value.labels
  its-labels = labelled ∙ ap stored_labels_at there

  its-samples : at_times (nat_le (low h)) (joined (map (λ c. c.list) its.chunks)) ≡ e.value.list
  its-samples =
      ap (λ (pss : List (List Point)). at_times (nat_le (low h)) (joined pss)) lists-same ∙ sym shown ∙ sym stores.list ∙ ap (λ (d : StoredSeries). d.list) the-value

  part-same : shown_series its ≡ series_part e
  part-same = λ i. record {
    key = e.key;
    options = (sym stores.options ∙ ap (λ (d : StoredSeries). d.options) the-value) i;
    labels = its-labels i;
    list = its-samples i;
    high = (sym stores.high ∙ ap (λ (d : StoredSeries). d.high) the-value) i;
    born = (sym stores.born ∙ ap (λ (d : StoredSeries). d.born) the-value) i;
  }

  count-same : length its.chunks ≡ length (chunk_samples_at db_view e.key)
  count-same =
      chunks-length (format_of h.options.encoding) h.held.pieces h.held.limits kept.chunks.chunks ∙ ap length (sym stores.pieces)

  -- the records of the series and of its chunks were written
  pub one-series : {limits : WireLimits} {a b c : Option (List ℕ)} → Written limits a b (Series (head_of its) ∷ []) → Written limits b c (map chunk_part its.chunks)
      → WrittenSeries limits db_view (e ∷ []) a c
  one-series {limits} {a} {b} {c} first rest = record {
    series = its ∷ [];
    shown = ap (λ p. p ∷ []) part-same;
    counts = ap (λ (n : ℕ). n ∷ []) count-same;
    stored = (has-chunks, tt);
    written = subst (Written limits a c) (sym (append-nil (series_parts its))) (written-then first rest);
  }
