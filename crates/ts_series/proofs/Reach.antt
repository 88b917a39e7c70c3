-- No chunk of a series has more samples than its reach.
use Rattle.std.proofs.Common.{◌≡◌, ℕ, ◌*◌, ◌/◌, ◌≤◌, List, [], ◌∷◌, length, subst, arith}
use Rattle.ts_spec.specs.Sample.{Point}
use Rattle.ts_series.specs.Stored.{AreChunks, longest, greatest}
use Rattle.ts_series.specs.History.{History, reach, limit_for, IsKeptIn}
use Rattle.ts_series.proofs.Limits.{least}

thrice : (format : List Point → List ℕ) → ((ps : List Point) → 3 * length ps ≤ length (format ps)) → (n : ℕ) (pss : List (List Point)) (ns : List ℕ) → AreChunks format pss ns → 3 * longest pss ≤ greatest n ns
thrice format at_least n [] [] h = omega arith
thrice format at_least n [] (m ∷ ns) h = absurd h
thrice format at_least n (ps ∷ pss) [] h = absurd h
thrice format at_least n (ps ∷ pss) (m ∷ ns) h = omega (arith, h.0.fits, at_least ps, thrice format at_least n pss ns h.1.1)

-- for a series and its view
pub within_reach : {format : List Point → List ℕ} → ((ps : List Point) → 3 * length ps ≤ length (format ps)) → {h k : History} → IsKeptIn format h → h ≡ k → longest h.held.pieces ≤ reach k
within_reach {format} at_least {h} kept view =
    subst (λ (k : History). longest h.held.pieces ≤ reach k) view (omega (arith, thrice format at_least (limit_for h.options.chunk_size) h.held.pieces h.held.limits kept.chunks.chunks))

-- nor has a new chunk
pub new-within-reach : {h k : History} (limit size : ℕ) → h ≡ k → limit ≡ limit_for h.options.chunk_size → size ≡ limit / 3 → size ≤ reach k
new-within-reach {h} limit size view is third =
    subst (λ (k : History). size ≤ reach k) view (omega (arith, least (limit_for h.options.chunk_size) h.held.limits))
