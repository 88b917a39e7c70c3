-- Worked examples of the order of interleaved connections.
use Rattle.std.specs.Prelude.{◌≡◌, refl, List, [], ◌∷◌, codes}
use Rattle.ts_spec.specs.declared.wire.Kind.TheVariants.{Dollar}
use Rattle.ts_spec.specs.Grammar.{commands}
use Rattle.ts_spec.specs.Limits.{usual}
use Rattle.ts_spec.specs.Wire.{read_on}
use Rattle.ts_mux.specs.Capture as capture
use Rattle.ts_mux.specs.Capture.{frames_of, read_on as read_frames}
use Rattle.ts_mux.specs.Order.{Item, Asked, Failed, order}

abbrev order_of : List Prim.Native.Nat.ℕ → List Item
order_of bytes = order usual.wire (frames_of (capture.capture bytes))

-- a frame yields the request that it completes
pub interleaved : order_of (codes "1 8\n*1\r\n$4\r\n2 14\n*1\r\n$4\r\nPING\r\n1 6\nPING\r\n")
    ≡ record { link = 2; event = Asked (codes "PING" ∷ []) } ∷ record { link = 1; event = Asked (codes "PING" ∷ []) } ∷ []
unfolding read_on read_frames commands
interleaved = refl

-- an error closes its own connection alone
pub one_fault : order_of (codes "1 5\n*1\r\n:2 14\n*1\r\n$4\r\nPING\r\n1 14\n*1\r\n$4\r\nPING\r\n")
    ≡ record { link = 1; event = Failed (record { kind = Dollar; place = 4 }) } ∷ record { link = 2; event = Asked (codes "PING" ∷ []) } ∷ []
unfolding read_on read_frames commands
one_fault = refl

-- nothing of a connection follows its QUIT
pub quit : order_of (codes "3 15\nQUIT\nPING\nPING\n4 5\nPING\n3 5\nPING\n")
    ≡ record { link = 3; event = Asked (codes "QUIT" ∷ []) } ∷ record { link = 4; event = Asked (codes "PING" ∷ []) } ∷ []
unfolding read_on read_frames commands
quit = refl

-- nor an empty frame; half a request before it yields nothing
pub closed : order_of (codes "3 6\nPING\nP3 0\n3 4\nING\n") ≡ record { link = 3; event = Asked (codes "PING" ∷ []) } ∷ []
unfolding read_on read_frames commands
closed = refl
