-- Conditions on the result of `Reader::next`.
use Rattle.ts_spec.specs.Wire.{Request as Words}
use Rattle.ts_resp.specs.declared.protocol.Protocol.{Protocol}
use Rattle.ts_resp.specs.declared.reader.Next.{Next}
use Rattle.ts_resp.specs.declared.reader.Next.TheVariants.{Request, NotYet, Broken, Memory}

-- P holds of the request, if there is one
abbrev pub IfRequest : Next → (Words → Type 0) → Type 0
IfRequest (Request words) P = P words.items
IfRequest NotYet P = Unit {0}
IfRequest (Broken protocol) P = Unit {0}
IfRequest Memory P = Unit {0}

-- P holds if there is no request
abbrev pub UnlessRequest : Next → Type 0 → Type 0
UnlessRequest (Request words) P = Unit {0}
UnlessRequest NotYet P = P
UnlessRequest (Broken protocol) P = P
UnlessRequest Memory P = P

-- P holds if more bytes are needed
abbrev pub OnNotYet : Next → Type 0 → Type 0
OnNotYet (Request words) P = Unit {0}
OnNotYet NotYet P = P
OnNotYet (Broken protocol) P = Unit {0}
OnNotYet Memory P = Unit {0}

-- P holds of the protocol error, if there is one
abbrev pub IfBroken : Next → (Protocol → Type 0) → Type 0
IfBroken (Request words) P = Unit {0}
IfBroken NotYet P = Unit {0}
IfBroken (Broken protocol) P = P protocol
IfBroken Memory P = Unit {0}
