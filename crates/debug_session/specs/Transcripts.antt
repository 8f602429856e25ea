-- What was read of an input and written to a sink, in its order.
use Rattle.std.specs.Prelude.{ℕ, List, [], ◌∷◌, ◌++◌}

-- A read: the input was asked for a byte, and gave this one, or none where it ended or failed. A write: these bytes were put and then handed on.
pub data Act : Type 0 where
  Read : List ℕ → Act
  Write : List ℕ → Act

-- the bytes that were read
abbrev pub bytes_read : List Act → List ℕ
bytes_read [] = []
bytes_read (Read bytes ∷ acts) = bytes ++ bytes_read acts
bytes_read (Write bytes ∷ acts) = bytes_read acts

-- the bytes that were written
abbrev pub bytes_written : List Act → List ℕ
bytes_written [] = []
bytes_written (Read bytes ∷ acts) = bytes_written acts
bytes_written (Write bytes ∷ acts) = bytes ++ bytes_written acts
