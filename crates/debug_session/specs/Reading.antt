-- What each byte completes: `$`, data, `#`, two digits of the sum of the data. A `$` in the data begins a packet anew.
use Rattle.std.specs.Prelude.{ℕ, ◌+◌, ◌*◌, ◌%◌, ◌==◌, List, [], ◌∷◌, ◌++◌, length, nat_le, Bool, if◌then◌else◌}
use Rattle.debug_session.specs.Hex.{digit_value}
use Rattle.debug_session.specs.declared.session.Place.{Place}
use Rattle.debug_session.specs.declared.session.Place.TheVariants as places
use Rattle.debug_session.specs.declared.session.Event.{Event}
use Rattle.debug_session.specs.declared.session.Event.TheVariants as events

-- where reading stands, the data so far, of which 16,385 bytes are kept at most, and the sum of all of it
pub record Reading : Type 0 where
  pub place : Place
  pub content : List ℕ
  pub sum : ℕ

-- nothing was read
abbrev pub fresh : Reading
fresh = record { place = places.Outside; content = []; sum = 0 }

-- a packet has begun
abbrev pub opened : Reading
opened = record { place = places.Inside; content = []; sum = 0 }

-- data with a byte more, but for what is too long
abbrev pub data_with : List ℕ → ℕ → List ℕ
data_with content byte = if nat_le (length content) 16384 then content ++ byte ∷ [] else content

-- the reading after a byte outside packets
abbrev pub after_outside : Reading → ℕ → Reading
after_outside reading byte = if byte == 36 then opened else reading

-- the reading after a byte in the data
abbrev pub after_inside : Reading → ℕ → Reading
after_inside reading byte =
    if byte == 36 then opened
    else if byte == 35 then record { place = places.Behind; content = reading.content; sum = reading.sum }
    else record { place = places.Inside; content = data_with reading.content byte; sum = (reading.sum + byte) % 256 }

-- the reading after a byte, by its place
abbrev pub reading_at : Place → Reading → ℕ → Reading
reading_at places.Outside reading byte = after_outside reading byte
reading_at places.Inside reading byte = after_inside reading byte
reading_at places.Behind reading byte = record { place = places.Half byte; content = reading.content; sum = reading.sum }
reading_at (places.Half first) reading byte = record { place = places.Outside; content = reading.content; sum = reading.sum }

-- the reading after a byte
abbrev pub reading_after : Reading → ℕ → Reading
reading_after reading byte = reading_at reading.place reading byte

-- the reading after bytes
abbrev pub reading_of : Reading → List ℕ → Reading
reading_of reading [] = reading
reading_of reading (byte ∷ bytes) = reading_of (reading_after reading byte) bytes

-- two digits tell this sum
abbrev pub is_told : ℕ → ℕ → ℕ → Bool
is_told first second sum = digit_value first * 16 + digit_value second == sum

-- what a byte completes, by the place
abbrev pub event_at : Place → Reading → ℕ → Event
event_at places.Outside reading byte = if byte == 3 then events.Interrupt else if byte == 45 then events.Again else events.Nothing
event_at places.Inside reading byte = events.Nothing
event_at places.Behind reading byte = events.Nothing
event_at (places.Half first) reading byte = if is_told first byte reading.sum then events.Packet else events.Wrong

-- what a byte completes
abbrev pub event_after : Reading → ℕ → Event
event_after reading byte = event_at reading.place reading byte
