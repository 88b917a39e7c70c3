-- Each chunk of a stored series can follow those before it.
use Rattle.std.proofs.Common.{◌≡◌, ◌≢◌, ℕ, ◌≤◌, nat_le, true, List, [], ◌∷◌, ◌++◌, map, refl, sym, ap, ◌∙◌, subst, append_assoc}
use Rattle.std.proofs.lemmas.Bool.{le-leb}
use Rattle.std.specs.Prelude.{Some}
use Rattle.ts_spec.specs.declared.series.Encoding.{Encoding}
use Rattle.ts_spec.specs.declared.series.Encoding.TheVariants.{Compressed, Uncompressed}
use Rattle.ts_spec.specs.Sample.{Point, IsAscending, at, at_times, last_of}
use Rattle.ts_spec.specs.State.{edge_of}
use Rattle.ts_spec.specs.Valid.{Every, IsUpTo}
use Rattle.ts_sample.specs.Chunk.{joined}
use Rattle.ts_sample.proofs.Lists.{ascending-left}
use Rattle.ts_restore.specs.Restorable.{IsSampleOf}
use Rattle.ts_checkpoint.specs.Checks.{FitsEncoding, shown_of, CanFollow}
use Rattle.ts_checkpoint.specs.Restoring.{Chunk, ChunkedSeries, shown_samples, shown_series, head_of, IsStoredChunk, AreStoredChunks, IsTrimmed, HasStoredChunks}
use Rattle.ts_checkpoint.proofs.StoredSamples.{at-right, at-left, at-passing, passing-at, last-at, last-from, last-right, times-left}

-- the samples of chunks
abbrev pub samples_in : List Chunk → List Point
samples_in cs = joined (map (λ c. c.list) cs)

samples-append : (cs ds : List Chunk) → samples_in (cs ++ ds) ≡ samples_in cs ++ samples_in ds
samples-append [] ds = refl
samples-append (c ∷ cs) ds = ap (λ (l : List Point). c.list ++ l) (samples-append cs ds) ∙ sym (append_assoc c.list (samples_in cs) (samples_in ds))

stored-at : (encoding : Encoding) (done : List Chunk) (c : Chunk) (rest : List Chunk) → AreStoredChunks encoding (done ++ c ∷ rest) → IsStoredChunk encoding c
stored-at encoding [] c rest h = h.0
stored-at encoding (d ∷ done) c rest h = stored-at encoding done c rest h.1

-- the chunks up to one have a sample from the edge on
trimmed-to : (edge : ℕ) (done : List Chunk) (c : Chunk) (rest : List Chunk) → IsTrimmed edge (done ++ c ∷ rest)
    → at_times (λ t. nat_le edge t) (samples_in done ++ c.list) ≢ []
trimmed-to edge [] c rest h = h
trimmed-to edge (d ∷ done) c rest h =
    times-left (λ t. nat_le edge t) (d.list ++ samples_in done) c.list (times-left (λ t. nat_le edge t) d.list (samples_in done) h)

fits-in : (encoding : Encoding) (c : Chunk) → IsStoredChunk encoding c → FitsEncoding encoding c.limit c.list
fits-in Compressed c h = tt
fits-in Uncompressed c h = h.fits refl

module _ (s : ChunkedSeries) (stored : HasStoredChunks s) (each : Every (IsSampleOf (shown_series s)) (shown_samples s)) (done : List Chunk) (c : Chunk) (rest : List Chunk)
    (split : done ++ c ∷ rest ≡ s.chunks) where
  abbrev edge : ℕ
  edge = edge_of s.spec.options.retention s.high

  whole : samples_in s.chunks ≡ (samples_in done ++ c.list) ++ samples_in rest
  whole = ap samples_in (sym split) ∙ samples-append done (c ∷ rest) ∙ sym (append_assoc (samples_in done) c.list (samples_in rest))

  its : IsStoredChunk s.spec.options.encoding c
  its = stored-at s.spec.options.encoding done c rest (subst (AreStoredChunks s.spec.options.encoding) (sym split) stored.chunks)

  ascending : IsAscending (samples_in done ++ c.list)
  ascending = ascending-left (samples_in done ++ c.list) (samples_in rest) (subst IsAscending whole stored.ascending)

  -- a sample of the chunk from the edge on is one that the series shows
  is-shown : (t : ℕ) (p : Point) → nat_le edge t ≡ true → at t c.list ≡ Some p → IsSampleOf (shown_series s) p
  is-shown t p from there =
      each t p (at-passing (λ t. nat_le edge t) (samples_in s.chunks) t p from
      (ap (at t) whole ∙ at-left (samples_in done ++ c.list) (samples_in rest) t p (at-right (samples_in done) c.list t p ascending there)))

  high-up : (p : Point) → last_of c.list ≡ Some p → IsUpTo s.high p.time
  high-up p last =
      let from : edge ≤ p.time = last-from edge (samples_in done ++ c.list) p ascending
      (trimmed-to edge done c rest (subst (IsTrimmed edge) (sym split) stored.trimmed)) (last-right (samples_in done) c.list p last) in
      (is-shown p.time p (le-leb edge p.time from) (last-at c.list p its.chunk.ascending last)).to_high

  made-up : Every (λ p. p.made ≤ s.born) (shown_of (head_of s) c.list)
  made-up t p there =
      let passing = passing-at (λ t. nat_le edge t) c.list t p there in
      (is-shown t p passing.passes passing.there).made

  first-shown : done ≡ [] → shown_of (head_of s) c.list ≢ []
  first-shown none =
      let first : c ∷ rest ≡ s.chunks = ap (λ (l : List Chunk). l ++ c ∷ rest) (sym none) ∙ split in
      subst (IsTrimmed edge) (sym first) stored.trimmed

  pub follows : CanFollow (head_of s) done c.limit c.list
  follows = record {
    chunk = its.chunk;
    fits = fits-in s.spec.options.encoding c its;
    some = its.some;
    ascending = ascending;
    high = high-up;
    made = made-up;
    first = first-shown;
  }
