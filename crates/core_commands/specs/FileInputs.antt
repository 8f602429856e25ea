-- A file that a command reads.
use Rattle.std.specs.Prelude.{ℕ, ◌≤◌, List, length}
use Rattle.sloth_base.specs.Limits.{file_limit}
use Rattle.sloth_io.specs.Store.{Files, Holds}

-- this is the file of a name, where the store tells its files, of at most 4 MiB
pub record IsInput (files : Files) (name bytes : List ℕ) : Type 0 where
  pub read : Holds files name bytes
  pub short : length bytes ≤ file_limit
