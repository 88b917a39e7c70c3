-- Bytes of one link of a hub.
use Rattle.std.specs.Prelude.{ℕ, List}

-- the number of a link, and bytes that it received or is to send; no received bytes mean that the link has closed
pub record Piece : Type 0 where
  pub link : ℕ
  pub bytes : List ℕ
