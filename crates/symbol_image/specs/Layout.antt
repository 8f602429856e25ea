-- Sections one behind the other, with their headers and names (System V ABI, "Sections").
use Rattle.std.specs.Prelude.{ℕ, ◌+◌, List, [], ◌∷◌, ◌++◌, length, codes}
use Rattle.std.specs.List.{flat_map}
use Rattle.elf_image.specs.ElfText.{padding}
use Rattle.image_file.specs.Fields.{four_bytes}
use Rattle.symbol_image.specs.Fields.{text_bytes}

-- a section: its name, what its header says but for the places of the name and of the bytes, and its bytes in the file
pub record Section : Type 0 where
  pub name : List ℕ
  pub kind : ℕ
  pub flags : ℕ
  pub address : ℕ
  pub contents : List ℕ
  pub size : ℕ
  pub link : ℕ
  pub info : ℕ
  pub align : ℕ
  pub entry : ℕ

-- sections that are laid out: their bytes in the file, their headers, their names
pub record Laid : Type 0 where
  pub contents : List ℕ
  pub headers : List ℕ
  pub names : List ℕ

-- the bytes of the headers in front of all sections: the ELF header, and three program headers
abbrev pub front : ℕ
front = 148

-- bytes and zeros up to a multiple of 4
abbrev pub whole : List ℕ → List ℕ
whole bytes = bytes ++ padding (length bytes)

-- the header of a section whose name and whose bytes stand at these places, in 40 bytes
abbrev pub section_header : (name at : ℕ) → Section → List ℕ
section_header name at s =
    flat_map four_bytes (name ∷ s.kind ∷ s.flags ∷ s.address ∷ at ∷ s.size ∷ s.link ∷ s.info ∷ s.align ∷ s.entry ∷ [])

-- none: a header of zeros, and an empty name
abbrev pub none_laid : Laid
none_laid = record { contents = []; headers = flat_map four_bytes (0 ∷ 0 ∷ 0 ∷ 0 ∷ 0 ∷ 0 ∷ 0 ∷ 0 ∷ 0 ∷ 0 ∷ []); names = 0 ∷ [] }

-- one more section, at the next multiple of 4
unfoldable pub laid_with : Laid → Section → Laid
laid_with laid s = record {
  contents = whole laid.contents ++ s.contents;
  headers = laid.headers ++ section_header (length laid.names) (front + length (whole laid.contents)) s;
  names = laid.names ++ text_bytes s.name;
}

-- zeros up to a multiple of 4, behind all sections
abbrev pub padded : Laid → Laid
padded laid = record { contents = whole laid.contents; headers = laid.headers; names = laid.names }

-- sections, each behind those before it
abbrev pub all_laid : Laid → List Section → Laid
all_laid laid [] = laid
all_laid laid (s ∷ sections) = all_laid (laid_with laid s) sections

-- a section of a kind that no one loads
abbrev pub unloaded : (kind : ℕ) → (name contents : List ℕ) → Section
unloaded kind name contents = record {
  name = name;
  kind = kind;
  flags = 0;
  address = 0;
  contents = contents;
  size = length contents;
  link = 0;
  info = 0;
  align = 1;
  entry = 0;
}

-- one that debuggers read (SHT_PROGBITS)
abbrev pub plain : (name contents : List ℕ) → Section
plain name contents = unloaded 1 name contents

-- a table of names (SHT_STRTAB)
abbrev pub strings : (name contents : List ℕ) → Section
strings name contents = unloaded 3 name contents

-- the names of the sections, with the name of this section itself
abbrev pub with_names : Laid → Laid
with_names laid = laid_with laid (strings (codes ".shstrtab") (laid.names ++ text_bytes (codes ".shstrtab")))
