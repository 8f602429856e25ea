-- The bytes of a reader.
use Rattle.std.specs.Prelude.{ℕ, List, Option, slice_range}
use Rattle.std.specs.Io.KnownBytes.{prepend_known}
use Rattle.debug_session.specs.declared.byte_reader.ByteReader.{ByteReader}

-- the bytes that were read and not given yet, and then those that the reader has left, where it tells them
abbrev pub left_bytes : {R : Type 0} → (R → Option (List ℕ)) → ByteReader R → Option (List ℕ)
left_bytes remaining reader = prepend_known (slice_range reader.buffer reader.start reader.end) (remaining reader.from)
