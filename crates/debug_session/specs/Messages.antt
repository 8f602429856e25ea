-- The messages among bytes.
use Rattle.std.specs.Prelude.{◌≡◌, ℕ, List, [], ◌∷◌, ◌++◌, ◌≤◌, ◌<◌, ◌==◌, ◌&&◌, length, Bool, true, not}
use Rattle.debug_session.specs.Escapes.{escaped}
use Rattle.debug_session.specs.Framing.{checksum}
use Rattle.debug_session.specs.Reading.{Reading, reading_after, event_after, is_told}
use Rattle.debug_session.specs.declared.session.Event.{Event}
use Rattle.debug_session.specs.declared.session.Event.TheVariants as events

-- a packet with what stands in it, one whose sum is wrong, a demand for the last reply, an interrupt
pub data Message : Type 0 where
  Packet : List ℕ → Message
  Wrong : Message
  Again : Message
  Interrupt : Message

-- the message that a byte completes, with the data so far
abbrev pub message_of : Event → List ℕ → List Message
message_of events.Nothing content = []
message_of events.Interrupt content = Interrupt ∷ []
message_of events.Again content = Again ∷ []
message_of events.Wrong content = Wrong ∷ []
message_of events.Packet content = Packet content ∷ []

-- the messages of bytes, from a reading on
abbrev pub messages : Reading → List ℕ → List Message
messages reading [] = []
messages reading (byte ∷ bytes) = message_of (event_after reading byte) reading.content ++ messages (reading_after reading byte) bytes

-- the packets of contents, with their escapes
abbrev pub packets_of : List (List ℕ) → List Message
packets_of [] = []
packets_of (content ∷ contents) = Packet (escaped content) ∷ packets_of contents

-- each fits into a packet with its escapes
abbrev pub AllFit : List (List ℕ) → Type 0
AllFit [] = Unit {0}
AllFit (content ∷ contents) = (length (escaped content) ≤ 16384) × AllFit contents

-- each is a byte
abbrev pub AreBytes : List ℕ → Type 0
AreBytes [] = Unit {0}
AreBytes (byte ∷ bytes) = (byte < 256) × AreBytes bytes

-- ---- where a packet stands

-- no byte begins or ends a packet
abbrev pub is_inside : List ℕ → Bool
is_inside [] = true
is_inside (byte ∷ bytes) = not (byte == 35) && not (byte == 36) && is_inside bytes

-- bytes end in a packet in which this stands, with these digits of the sum
pub record EndInPacket (bytes content : List ℕ) (first second : ℕ) : Type 0 where
  pub before : List ℕ
  pub ends : bytes ≡ before ++ 36 ∷ (content ++ 35 ∷ first ∷ second ∷ [])
  pub inside : is_inside content ≡ true

-- bytes end in a packet in which this stands, and its sum is told or is not
pub record EndSo (bytes content : List ℕ) (told : Bool) : Type 0 where
  pub first : ℕ
  pub second : ℕ
  pub stands : EndInPacket bytes content first second
  pub sum : is_told first second (checksum content) ≡ told
