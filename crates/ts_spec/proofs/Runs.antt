-- Laws of runs, and of the first requests of a stream.
use Rattle.std.proofs.Common.{◌≡◌, ℕ, List, [], ◌∷◌, ◌++◌, refl, sym, ◌∙◌, ap, subst, append_assoc}
use Rattle.std.proofs.lemmas.List.{append-nil}
use Rattle.ts_spec.specs.Wire.{Request, Stream, requests_of, ending_of}
use Rattle.ts_spec.specs.Wire.Stream.{Then}
use Rattle.ts_spec.specs.Run.{Runs, LocatedRequest, then_all, requests_in}

module _ {World : Type 0} (handles : World → Request → List ℕ → World → Type 0) where
  -- one run after another is a run
  pub Runs-append : (from mid to : World) (before after : List Request) (x y : List ℕ)
      → Runs handles from before x mid → Runs handles mid after y to → Runs handles from (before ++ after) (x ++ y) to
  Runs-append from mid to [] after x y one two =
      subst (λ (w : World). Runs handles w after (x ++ y) to) one.1 (subst (λ (l : List ℕ). Runs handles mid after (l ++ y) to) (sym one.0) two)
  Runs-append from mid to (request ∷ before) after x y one two = record {
    first = one.first;
    rest = one.rest ++ y;
    mid = one.mid;
    split = ap (λ (l : List ℕ). l ++ y) one.split ∙ append_assoc one.first one.rest y;
    here = one.here;
    after = Runs-append one.mid mid to before after one.rest y one.after two;
  }

  -- one turn is a run of one request
  pub Runs-one : (from to : World) (request : Request) (text : List ℕ) → handles from request text to → Runs handles from (request ∷ []) text to
  Runs-one from to request text here = record {
    first = text;
    rest = [];
    mid = to;
    split = sym (append-nil text);
    here = here;
    after = (refl, refl);
  }

pub then_all-append : (a b : List LocatedRequest) (rest : Stream) → then_all (a ++ b) rest ≡ then_all a (then_all b rest)
then_all-append [] b rest = refl
then_all-append (p ∷ a) b rest = ap (λ s. Then p.request p.after s) (then_all-append a b rest)

pub requests_in-append : (a b : List LocatedRequest) → requests_in (a ++ b) ≡ requests_in a ++ requests_in b
requests_in-append [] b = refl
requests_in-append (p ∷ a) b = ap (λ (l : List Request). p.request ∷ l) (requests_in-append a b)

pub requests_of-then_all : (done : List LocatedRequest) (rest : Stream) → requests_of (then_all done rest) ≡ requests_in done ++ requests_of rest
requests_of-then_all [] rest = refl
requests_of-then_all (p ∷ done) rest = ap (λ (l : List Request). p.request ∷ l) (requests_of-then_all done rest)

pub ending_of-then_all : (done : List LocatedRequest) (rest : Stream) → ending_of (then_all done rest) ≡ ending_of rest
ending_of-then_all [] rest = refl
ending_of-then_all (p ∷ done) rest = ending_of-then_all done rest
