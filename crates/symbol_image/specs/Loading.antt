-- What a loader takes from a file for debuggers.
use Rattle.std.specs.Prelude.{ℕ, ◌≡◌, ◌+◌, ◌-◌, ◌*◌, ◌≤◌, ◌<◌, ◌^◌, List, drop, take, length, slice_index}
use Rattle.image_file.specs.Fields.{four_bytes}
use Rattle.sloth_base.specs.MemoryMap.{memory_base}
use Rattle.symbol_image.specs.FileParts.{FileParts, MayShow}
use Rattle.symbol_image.specs.SymbolFile.{symbol_file}

-- the three numbers of a program header that say what is loaded: the place of its bytes in the file, its address, and how many they are
pub record Load : Type 0 where
  pub place : ℕ
  pub address : ℕ
  pub bytes : ℕ

-- the program header of this number says so: it is one that is loaded (PT_LOAD)
pub record IsLoad (file : List ℕ) (number : ℕ) (load : Load) : Type 0 where
  pub kind : take 4 (drop (52 + 32 * number) file) ≡ four_bytes 1
  pub place : take 4 (drop (52 + 32 * number + 4) file) ≡ four_bytes load.place
  pub address : take 4 (drop (52 + 32 * number + 8) file) ≡ four_bytes load.address
  pub bytes : take 4 (drop (52 + 32 * number + 16) file) ≡ four_bytes load.bytes

-- one of three segments loads a byte to an address
pub record Loads (file : List ℕ) (number address byte : ℕ) : Type 0 where
  pub load : Load
  pub few : number < 3
  pub is : IsLoad file number load
  pub small : (load.place < 2 ^ 32) × (load.address < 2 ^ 32) × (load.bytes < 2 ^ 32)
  pub above : load.address ≤ address
  pub below : address < load.address + load.bytes
  pub there : slice_index file (load.place + (address - load.address)) ≡ byte

-- each address of the memory gets its byte
abbrev pub MemoryIsLoaded : Type 0
MemoryIsLoaded = (parts : FileParts) → MayShow parts → (i : ℕ) → i < length parts.memory
    → (number : ℕ) × Loads (symbol_file parts) number (memory_base + i) (slice_index parts.memory i)

-- from one segment alone
abbrev pub LoadedOnce : Type 0
LoadedOnce = (parts : FileParts) → MayShow parts → (one other address a b : ℕ) → Loads (symbol_file parts) one address a
    → Loads (symbol_file parts) other address b → one ≡ other

-- and no other byte of the file is loaded
abbrev pub NothingElseIsLoaded : Type 0
NothingElseIsLoaded = (parts : FileParts) → MayShow parts → (number address byte : ℕ) → Loads (symbol_file parts) number address byte
    → (memory_base ≤ address) × (address < memory_base + length parts.memory)
