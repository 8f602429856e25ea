-- What the section headers of a file for debuggers say of what is loaded (System V ABI, "Sections").
use Rattle.std.specs.Prelude.{ℕ, zero, suc, ◌≡◌, ◌+◌, ◌*◌, ◌<◌, ◌^◌, List, drop, take, length}
use Rattle.image_file.specs.Fields.{four_bytes}
use Rattle.symbol_image.specs.FileParts.{FileParts, MayShow}
use Rattle.symbol_image.specs.Loading.{IsLoad, Load}
use Rattle.symbol_image.specs.SymbolFile.{symbol_file}

-- the header of the section of this number, where the ELF header has those of all sections: its flags, its address, the place of its bytes in the
-- file, and how many they are
pub record IsSection (file : List ℕ) (number flags address place bytes : ℕ) : Type 0 where
  pub headers : ℕ
  pub few : headers < 2 ^ 32
  pub headers_at : take 4 (drop 32 file) ≡ four_bytes headers
  pub flags_are : take 4 (drop (headers + 40 * number + 8) file) ≡ four_bytes flags
  pub address_is : take 4 (drop (headers + 40 * number + 12) file) ≡ four_bytes address
  pub place_is : take 4 (drop (headers + 40 * number + 16) file) ≡ four_bytes place
  pub bytes_are : take 4 (drop (headers + 40 * number + 20) file) ≡ four_bytes bytes

-- the flags of the section that has the bytes of a segment: words and data are in memory and written (SHF_ALLOC, SHF_WRITE), code is in memory and
-- executed (SHF_EXECINSTR)
abbrev pub section_flags : (segment : ℕ) → ℕ
section_flags zero = 3
section_flags (suc zero) = 6
section_flags (suc (suc segment)) = 3

-- each segment has a section with the same bytes at the same address, the one behind it in number
abbrev pub SectionsAgree : Type 0
SectionsAgree = (parts : FileParts) → MayShow parts → length (symbol_file parts) < 2 ^ 32 → (segment : ℕ) → segment < 3
    → (load : Load) × IsLoad (symbol_file parts) segment load
    × IsSection (symbol_file parts) (segment + 1) (section_flags segment) load.address load.place load.bytes
