-- Lines of links, and what a hub was given.
use Rattle.std.proofs.Common.{◌≡◌, ℕ, ◌+◌, List, [], ◌∷◌, ◌++◌, length, take, map, refl, sym, ap, ◌∙◌, subst, arith, append_assoc, append-nil, length-append}
use Rattle.std.proofs.Math.Seq.{take-append-add}
use Rattle.std.proofs.lemmas.List.{take_all}
use Rattle.ts_io.specs.Hubs.{Gains, Outgoing, Same}
use Rattle.ts_io.specs.Pieces.{Piece}
use Rattle.ts_io.specs.Sinks.{Grows, GrowsByPrefix}
use Rattle.ts_io.proofs.Growth.{grows_twice}
use Rattle.ts_mux.specs.declared.frame.Frame.{Frame}
use Rattle.ts_words.specs.Lines.{link_line_of}
use Rattle.ts_host.specs.Answers.{Ending, lines_of}
use Rattle.ts_host.specs.Serving.{Gave}
use Rattle.ts_host.specs.Steps.{piece_of}

-- ---- lines

pub lines_append : (some others : List Ending) → lines_of (some ++ others) ≡ lines_of some ++ lines_of others
lines_append [] others = refl
lines_append (ending ∷ some) others =
    ap (λ (l : List ℕ). link_line_of ending.link ending.executed ending.how ++ l) (lines_append some others)
    ∙ sym (append_assoc (link_line_of ending.link ending.executed ending.how) (lines_of some) (lines_of others))

pub lines_on : (had between has : List ℕ → Type 0) (some others : List Ending) → Grows had between (lines_of some) → Grows between has (lines_of others)
    → Grows had has (lines_of (some ++ others))
lines_on had between has some others first second =
    subst (λ (l : List ℕ). Grows had has l) (sym (lines_append some others)) (grows_twice had between has (lines_of some) (lines_of others) first second)

-- all of it is a prefix
pub grows_as_prefix : (had has : List ℕ → Type 0) (bytes : List ℕ) → Grows had has bytes → GrowsByPrefix had has bytes
grows_as_prefix had has bytes grown = record {
  len = length bytes;
  within = omega arith;
  grows = subst (λ (l : List ℕ). Grows had has l) (sym (take_all (length bytes) bytes (omega arith))) grown;
}

-- the first lines were written, and a prefix of the others
pub lines_cut : (had between has : List ℕ → Type 0) (some others : List Ending) → Grows had between (lines_of some) → GrowsByPrefix between has (lines_of others)
    → GrowsByPrefix had has (lines_of (some ++ others))
lines_cut had between has some others grown front =
    let within = front.within in
    subst (λ (l : List ℕ). GrowsByPrefix had has l) (sym (lines_append some others)) (record {
      len = length (lines_of some) + front.len;
      within = omega (arith, within, length-append (lines_of some) (lines_of others));
      grows = subst (λ (l : List ℕ). Grows had has l) (sym (take-append-add (lines_of some) (lines_of others) front.len))
          (grows_twice had between has (lines_of some) (take front.len (lines_of others)) grown front.grows);
    })

-- ---- pieces

pub pieces_append : (some others : List Frame) → map piece_of (some ++ others) ≡ map piece_of some ++ map piece_of others
pieces_append [] others = refl
pieces_append (frame ∷ some) others = ap (λ (l : List Piece). piece_of frame ∷ l) (pieces_append some others)

pub gave_none : (old new : Outgoing) → Same old new → Gave old new []
gave_none old new same = record { each = λ sent given had. subst (λ (l : List Piece). new sent l) (sym (append-nil given)) (same.each sent given had) }

pub gave_one : (old new : Outgoing) (piece : Piece) → Gains old new piece → Gave old new (piece ∷ [])
gave_one old new piece gains = record { each = λ sent given had. gains.each sent given had }

pub gave_twice : (old mid new : Outgoing) (first second : List Piece) → Gave old mid first → Gave mid new second → Gave old new (first ++ second)
gave_twice old mid new first second one two = record {
  each = λ sent given had. subst (λ (l : List Piece). new sent l) (append_assoc given first second) (two.each sent (given ++ first) (one.each sent given had));
}

pub gave_on : (old mid new : Outgoing) (some others : List Frame) → Gave old mid (map piece_of some) → Gave mid new (map piece_of others) → Gave old new (map piece_of (some ++ others))
gave_on old mid new some others one two =
    subst (λ (l : List Piece). Gave old new l) (sym (pieces_append some others)) (gave_twice old mid new (map piece_of some) (map piece_of others) one two)
