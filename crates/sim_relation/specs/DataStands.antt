-- The bytes of the symbols.
use Rattle.std.specs.Prelude.{ℕ, ◌+◌, ◌-◌, ◌<◌, ◌≤◌, ◌≡◌, List, [], length, slice_index, get_or, true}
use Rattle.rv32_expand.specs.Expansion.{symbol_address}
use Rattle.sim_relation.specs.Build.{Build}
use Rattle.sloth_base.specs.MemoryMap.{memory_base}

-- a symbol's byte, given by its number
pub record ByteStands (b : Build) (ram : List ℕ) (address value : ℕ) : Type 0 where
  pub from : memory_base ≤ address
  pub is_data : b.is_data (address - memory_base) ≡ true
  pub holds : slice_index ram (address - memory_base) ≡ value

-- the bytes of the symbols stand where the build says
abbrev pub DataStands : Build → List ℕ → List (List ℕ) → Type 0
DataStands b ram symbols =
    (y k : ℕ) → k < length (get_or symbols y []) → ByteStands b ram (symbol_address b.places y + k) (slice_index (get_or symbols y []) k)
