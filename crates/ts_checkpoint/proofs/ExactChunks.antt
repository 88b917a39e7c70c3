-- The test of the next chunk of a series is exact.
use Rattle.std.proofs.Common.{◌≡◌, ◌≢◌, ℕ, ◌*◌, ◌≤◌, ◌^◌, ◌||◌, nat_le, not, List, [], ◌∷◌, ◌++◌, map, length, refl, inl, inr}
use Rattle.std.proofs.lemmas.Bool.Decides.{Decides-and, Decides-or, Decides-like, Decides-ltb}
use Rattle.std.specs.Bool.{Decides}
use Rattle.std.specs.List.{list_all}
use Rattle.std.specs.Prelude.{unsigned_abs, ◌⊎◌}
use Rattle.ts_spec.specs.declared.series.Encoding.{Encoding}
use Rattle.ts_spec.specs.declared.series.Encoding.TheVariants.{Compressed, Uncompressed}
use Rattle.ts_spec.specs.Sample.{Point, MAX_TIME, last_of}
use Rattle.ts_spec.specs.Valid.{IsUpTo}
use Rattle.ts_spec.specs.Value.{bound}
use Rattle.ts_sample.specs.Chunk.{IsChunk, AreInBounds, least_limit, greatest_limit, joined}
use Rattle.ts_sample.specs.Sample.{IsInBounds}
use Rattle.ts_chunk_packed.specs.Packed.{packed}
use Rattle.ts_checkpoint.specs.Checks.{is_empty, is_up_to, FitsEncoding, shown_of, CanFollow, is_in_bounds, is_packed_chunk, fits_encoding, can_follow}
use Rattle.ts_checkpoint.specs.Parts.{SeriesHead}
use Rattle.ts_checkpoint.specs.Restoring.{Chunk}
use Rattle.ts_checkpoint.proofs.Deciding.{Decides-le, Decides-some, Decides-if_some, Decides-up_to, Decides-ascending, Decides-every}

bounds-exact : (p : Point) → Decides (is_in_bounds p) (IsInBounds p)
bounds-exact p =
    Decides-like (is_in_bounds p) (λ h. record { time = h.0.0; value = h.0.1; made = h.1 }) (λ x. ((x.time, x.value), x.made))
    (Decides-and _ _ (Decides-and _ _ (Decides-le p.time MAX_TIME) (Decides-le (unsigned_abs p.value) bound)) (Decides-ltb p.made (2 ^ 32)))

all-bounds-exact : (ps : List Point) → Decides (list_all is_in_bounds ps) (AreInBounds ps)
all-bounds-exact [] = (λ e. tt, λ h. refl)
all-bounds-exact (p ∷ ps) = Decides-and (is_in_bounds p) (list_all is_in_bounds ps) (bounds-exact p) (all-bounds-exact ps)

chunk-exact : (limit : ℕ) (ps : List Point) → Decides (is_packed_chunk limit ps) (IsChunk packed limit ps)
chunk-exact limit ps =
    Decides-like (is_packed_chunk limit ps)
    (λ h. record { bounds = record { least = h.0.0.0.0; greatest = h.0.0.0.1 }; ascending = h.0.0.1; fine = h.0.1; fits = h.1 })
    (λ x. ((((x.bounds.least, x.bounds.greatest), x.ascending), x.fine), x.fits))
    (Decides-and _ _
    (Decides-and _ _ (Decides-and _ _ (Decides-and _ _ (Decides-le least_limit limit) (Decides-le limit greatest_limit)) (Decides-ascending ps)) (all-bounds-exact ps))
    (Decides-le (length (packed ps)) limit))

fits-exact : (e : Encoding) (limit : ℕ) (ps : List Point) → Decides (fits_encoding e limit ps) (FitsEncoding e limit ps)
fits-exact Compressed limit ps = (λ e. tt, λ h. refl)
fits-exact Uncompressed limit ps = Decides-le (28 * length ps) limit

-- the second holds where the first does not
if-empty : (chunks : List Chunk) (shown : List Point) → Decides (not (is_empty chunks) || not (is_empty shown)) (chunks ≡ [] → shown ≢ [])
if-empty chunks shown =
    Decides-like _ there (back chunks)
    (Decides-or (not (is_empty chunks)) (not (is_empty shown)) (Decides-some chunks) (Decides-some shown))
  where
    there : (chunks ≢ []) ⊎ (shown ≢ []) → chunks ≡ [] → shown ≢ []
    there (inl some) e = absurd (some e)
    there (inr some) e = some

    back : (cs : List Chunk) → (cs ≡ [] → shown ≢ []) → (cs ≢ []) ⊎ (shown ≢ [])
    back [] h = inr (h refl)
    back (c ∷ cs) h = inl (λ e. cc)

pub chunk-follows : (s : SeriesHead) (chunks : List Chunk) (limit : ℕ) (ps : List Point) → Decides (can_follow s chunks limit ps) (CanFollow s chunks limit ps)
unfolding can_follow
chunk-follows s chunks limit ps =
    Decides-like (can_follow s chunks limit ps)
    (λ h. record { chunk = h.0.0.0.0.0.0; fits = h.0.0.0.0.0.1; some = h.0.0.0.0.1; ascending = h.0.0.0.1; high = h.0.0.1; made = h.0.1; first = h.1 })
    (λ x. ((((((x.chunk, x.fits), x.some), x.ascending), x.high), x.made), x.first))
    (Decides-and _ _
    (Decides-and _ _
    (Decides-and _ _
    (Decides-and _ _
    (Decides-and _ _ (Decides-and _ _ (chunk-exact limit ps) (fits-exact s.spec.options.encoding limit ps)) (Decides-some ps))
    (Decides-ascending (joined (map (λ c. c.list) chunks) ++ ps)))
    (Decides-if_some (λ p. is_up_to s.high p.time) (λ p. IsUpTo s.high p.time) (λ p. Decides-up_to s.high p.time) (last_of ps)))
    (Decides-every (λ p. nat_le p.made s.born) (λ p. p.made ≤ s.born) (λ p. Decides-le p.made s.born) (shown_of s ps)))
    (if-empty chunks (shown_of s ps)))
