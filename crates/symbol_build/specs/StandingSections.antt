-- Where the sections of a file for debuggers stand in it (System V ABI, "Sections").
use Rattle.std.specs.Prelude.{ℕ, ◌≡◌, ◌+◌, ◌*◌, ◌<◌, ◌^◌, List, [], ◌∷◌, ◌++◌, drop, take, length}
use Rattle.image_file.specs.Fields.{four_bytes, two_bytes}
use Rattle.symbol_image.specs.FileParts.{FileParts}
use Rattle.symbol_image.specs.Layout.{Section}
use Rattle.symbol_image.specs.SymbolFile.{part_sections, parts_borders, rows_of, symbol_file}

-- the section of this number: its header, where the ELF header has those of all sections, says what the section is, and its bytes stand where the
-- header has their place
pub record HasSection (file : List ℕ) (number : ℕ) (section : Section) : Type 0 where
  pub headers : ℕ
  pub place : ℕ
  pub few : (headers < 2 ^ 32) × (place < 2 ^ 32)
  pub headers_at : take 4 (drop 32 file) ≡ four_bytes headers
  pub kind_is : take 4 (drop (headers + 40 * number + 4) file) ≡ four_bytes section.kind
  pub flags_are : take 4 (drop (headers + 40 * number + 8) file) ≡ four_bytes section.flags
  pub address_is : take 4 (drop (headers + 40 * number + 12) file) ≡ four_bytes section.address
  pub place_is : take 4 (drop (headers + 40 * number + 16) file) ≡ four_bytes place
  pub size_is : take 4 (drop (headers + 40 * number + 20) file) ≡ four_bytes section.size
  pub link_is : take 4 (drop (headers + 40 * number + 24) file) ≡ four_bytes section.link
  pub info_is : take 4 (drop (headers + 40 * number + 28) file) ≡ four_bytes section.info
  pub bytes_are : take (length section.contents) (drop place file) ≡ section.contents

-- all sections of the parts stand so in their file, behind the one of zeros
abbrev pub SectionsStand : Type 0
SectionsStand = (parts : FileParts) (k : ℕ) (section : Section) → length (symbol_file parts) < 2 ^ 32
    → drop k (part_sections parts (parts_borders parts) (rows_of parts)) ≡ section ∷ drop (k + 1) (part_sections parts (parts_borders parts) (rows_of parts))
    → HasSection (symbol_file parts) (k + 1) section

-- the header of the section of this number says where its name stands, in the section whose number ends the ELF header
pub record HasName (file : List ℕ) (number : ℕ) (section : Section) : Type 0 where
  pub headers : ℕ
  pub name : ℕ
  pub names_number : ℕ
  pub names : Section
  pub few : (headers < 2 ^ 32) × (name < 2 ^ 32)
  pub headers_at : take 4 (drop 32 file) ≡ four_bytes headers
  pub number_is : take 2 (drop 50 file) ≡ two_bytes names_number
  pub names_stand : HasSection file names_number names
  pub name_at : take 4 (drop (headers + 40 * number) file) ≡ four_bytes name
  pub name_is : take (length section.name + 1) (drop name names.contents) ≡ section.name ++ 0 ∷ []

-- so each of them has its name
abbrev pub NamesStand : Type 0
NamesStand = (parts : FileParts) (k : ℕ) (section : Section) → length (symbol_file parts) < 2 ^ 32
    → drop k (part_sections parts (parts_borders parts) (rows_of parts)) ≡ section ∷ drop (k + 1) (part_sections parts (parts_borders parts) (rows_of parts))
    → HasName (symbol_file parts) (k + 1) section
