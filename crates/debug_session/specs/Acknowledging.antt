-- What is sent at a message beside the answer to it. `+` and `-` are sent where packets are acknowledged.
use Rattle.std.specs.Prelude.{ℕ, List, [], ◌∷◌, Bool, true, false, codes, if◌then◌else◌}
use Rattle.debug_session.specs.Framing.{framed}

-- whether packets are acknowledged, and the packet that was sent last, or nothing
pub record Sending : Type 0 where
  pub acks : Bool
  pub last : List ℕ

-- nothing was sent
abbrev pub first_sending : Sending
first_sending = record { acks = true; last = [] }

-- data was sent as a packet
abbrev pub sent : Sending → List ℕ → Sending
sent sending content = record { acks = sending.acks; last = framed content }

-- packets are no longer acknowledged
abbrev pub without_acks : Sending → Sending
without_acks sending = record { acks = false; last = sending.last }

-- what tells that a packet came whole
abbrev pub acknowledged : Sending → List ℕ
acknowledged sending = if sending.acks then 43 ∷ [] else []

-- what tells that the sum of a packet is wrong
abbrev pub refused : Sending → List ℕ
refused sending = if sending.acks then 45 ∷ [] else framed (codes "E01")

-- what is sent where the last packet is wanted again
abbrev pub repeated : Sending → List ℕ
repeated sending = if sending.acks then sending.last else []
