-- Requests up to and including the first QUIT.
use Rattle.std.proofs.Common.{◌≡◌, Bool, true, false, if◌then◌else◌, List, [], ◌∷◌, ◌++◌, refl, sym, ◌∙◌, ap}
use Rattle.std.specs.Prelude.{◌||◌}
use Rattle.std.proofs.lemmas.Bool.{false≢true}
use Rattle.ts_spec.specs.Wire.{Request}
use Rattle.ts_spec.specs.Run.{LocatedRequest, requests_in, is_quit, has_quit, until_quit}
use Rattle.ts_spec.proofs.Runs.{requests_in-append}

pub neither : (a b : Bool) → (a || b) ≡ false → (a ≡ false) × (b ≡ false)
neither true b h = absurd (false≢true (sym h))
neither false b h = (refl, h)

-- no QUIT among the first requests: there is one if the others have one
pub has_quit-append : (a b : List Request) → has_quit a ≡ false → has_quit (a ++ b) ≡ has_quit b
has_quit-append [] b h = refl
has_quit-append (r ∷ a) b h =
    let none = neither (is_quit r) (has_quit a) h in
    ap (λ (x : Bool). x || has_quit (a ++ b)) none.0 ∙ has_quit-append a b none.1

-- and all of them are handled
pub until_quit-append : (a b : List Request) → has_quit a ≡ false → until_quit (a ++ b) ≡ a ++ until_quit b
until_quit-append [] b h = refl
until_quit-append (r ∷ a) b h =
    let none = neither (is_quit r) (has_quit a) h in
    ap (λ (x : Bool). r ∷ (if x then [] else until_quit (a ++ b))) none.0 ∙ ap (λ (l : List Request). r ∷ l) (until_quit-append a b none.1)

-- two lists without QUIT make one
pub goes_on-append : (a b : List LocatedRequest) → has_quit (requests_in a) ≡ false → has_quit (requests_in b) ≡ false → has_quit (requests_in (a ++ b)) ≡ false
goes_on-append a b one two = ap has_quit (requests_in-append a b) ∙ has_quit-append (requests_in a) (requests_in b) one ∙ two

-- a single request that is not QUIT
pub goes_on-one : (request : Request) → is_quit request ≡ false → has_quit (request ∷ []) ≡ false
goes_on-one request h = ap (λ (x : Bool). x || false) h

-- the next request is QUIT, so it is the last one
pub until_quit-last : (a : List Request) (last : Request) (rest : List Request) → has_quit a ≡ false → is_quit last ≡ true → until_quit (a ++ last ∷ rest) ≡ a ++ last ∷ []
until_quit-last a last rest none asked =
    until_quit-append a (last ∷ rest) none ∙ ap (λ (x : Bool). a ++ last ∷ (if x then [] else until_quit rest)) asked

pub has_quit-last : (a : List Request) (last : Request) (rest : List Request) → has_quit a ≡ false → is_quit last ≡ true → has_quit (a ++ last ∷ rest) ≡ true
has_quit-last a last rest none asked = has_quit-append a (last ∷ rest) none ∙ ap (λ (x : Bool). x || has_quit rest) asked
