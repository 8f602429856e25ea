-- Files in memory, each in a slot with its space.
use Rattle.std.specs.Prelude.{◌≡◌, ℕ, zero, suc, List, [], ◌∷◌, Option, Some, None, Bool, true, false, if◌then◌else◌, nat_le}
use Rattle.std.specs.Option.{option_map}
use Rattle.std.specs.Str.{bytes_eq}
use Rattle.sloth_io.specs.declared.mem_store.MemFile.{MemFile}
use Rattle.sloth_io.specs.declared.mem_store.Slot.{Slot}

-- the file that is kept in a slot
abbrev pub file_of : Slot → MemFile
file_of slot = record { name = slot.name; bytes = slot.buffer.bytes.items; space = slot.buffer.space }

-- there is space for so many bytes
abbrev pub is_space_for : Option ℕ → ℕ → Bool
is_space_for None size = false
is_space_for (Some space) size = nat_le size space

-- the first file of a name
abbrev pub file_named : List ℕ → List MemFile → Option MemFile
file_named name [] = None
file_named name (file ∷ rest) = if bytes_eq file.name name then Some file else file_named name rest

-- what it holds
abbrev pub bytes_named : List ℕ → List MemFile → Option (List ℕ)
bytes_named name files = option_map (λ file. file.bytes) (file_named name files)

-- the files, with these bytes in the first one of a name
abbrev pub files_with : List ℕ → List ℕ → List MemFile → List MemFile
files_with name bytes [] = []
files_with name bytes (file ∷ rest) =
    if bytes_eq file.name name then record file { bytes = bytes } ∷ rest else file ∷ files_with name bytes rest

-- how many bytes it can hold
abbrev pub space_named : List ℕ → List MemFile → Option ℕ
space_named name files = option_map (λ file. file.space) (file_named name files)

-- there is a file of the name, with space for so many bytes
abbrev pub has_space : List ℕ → ℕ → List MemFile → Bool
has_space name size files = is_space_for (space_named name files) size

-- the first file of a name stands at this place
abbrev pub IsFilePlace : List ℕ → List MemFile → ℕ → Type 0
IsFilePlace name [] place = ⊥
IsFilePlace name (file ∷ rest) zero = bytes_eq file.name name ≡ true
IsFilePlace name (file ∷ rest) (suc place) = (bytes_eq file.name name ≡ false) × IsFilePlace name rest place
