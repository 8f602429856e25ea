-- The file of an image that debuggers read.
use Rattle.std.specs.Prelude.{ℕ, ◌+◌, ◌-◌, List, [], ◌∷◌, ◌++◌, codes, drop, length, take}
use Rattle.sloth_base.specs.MemoryMap.{memory_base, vectors_base}
use Rattle.symbol_image.specs.Abbreviations.{abbreviation_section}
use Rattle.symbol_image.specs.Entries.{info_section}
use Rattle.symbol_image.specs.FileRows.{file_rows}
use Rattle.map_text.specs.LineRows.{line_rows}
use Rattle.symbol_image.specs.LineSection.{line_section}
use Rattle.map_text.specs.Rows.{map_rows}
use Rattle.map_text.specs.declared.piece_starts.Row.{Row}
use Rattle.map_text.specs.Borders.{image_borders}
use Rattle.symbol_image.specs.FileParts.{FileParts}
use Rattle.symbol_image.specs.Frames.{frame_section}
use Rattle.symbol_image.specs.Headers.{elf_header, segment_headers}
use Rattle.symbol_image.specs.Layout.{Laid, Section, all_laid, front, none_laid, padded, plain, strings, with_names}
use Rattle.symbol_image.specs.SymbolTable.{name_table, symbol_table}
use Rattle.symbol_image.specs.Symbols.{locals_of, all_symbols}
use Rattle.map_text.specs.declared.piece_starts.Borders.{Borders}
use Rattle.symbol_image.specs.declared.symbol.Symbol.{Symbol}

-- the rows of the map, and where its zones begin and end
abbrev pub rows_of : FileParts → List Row
rows_of parts = map_rows parts.config parts.map

abbrev pub parts_borders : FileParts → Borders
parts_borders parts = image_borders parts.map (length parts.memory)

-- ---- sections

-- the memory from an address to another
abbrev pub memory_between : (memory : List ℕ) → (from to : ℕ) → List ℕ
memory_between memory from to = take (to - from) (drop (from - memory_base) memory)

-- a part of the memory, with its flags: it is loaded (2), and written (1) or executed (4)
abbrev pub loaded : (name : List ℕ) → (flags : ℕ) → (memory : List ℕ) → (from to : ℕ) → Section
loaded name flags memory from to = record {
  name = name;
  kind = 1;
  flags = flags;
  address = from;
  contents = memory_between memory from to;
  size = length (memory_between memory from to);
  link = 0;
  info = 0;
  align = 4;
  entry = 0;
}

-- the stacks, which have no bytes in the file (SHT_NOBITS)
abbrev pub stack_section : Borders → Section
stack_section b = record {
  name = codes ".stack";
  kind = 8;
  flags = 3;
  address = b.stacks;
  contents = [];
  size = b.top - b.stacks;
  link = 0;
  info = 0;
  align = 16;
  entry = 0;
}

-- what is loaded: words and code, then data and stacks
abbrev pub code_sections : (memory : List ℕ) → Borders → List Section
code_sections memory b =
    loaded (codes ".words") 3 memory memory_base vectors_base ∷ loaded (codes ".text") 6 memory vectors_base b.code_end ∷ []

abbrev pub data_sections : (memory : List ℕ) → Borders → List Section
data_sections memory b = loaded (codes ".data") 3 memory b.code_end b.end ∷ stack_section b ∷ []

-- the kinds of entries
abbrev pub kinds_section : Section
kinds_section = plain (codes ".debug_abbrev") abbreviation_section

-- the entries
abbrev pub entries_section : FileParts → (code_end : ℕ) → Section
entries_section p code_end = plain (codes ".debug_info") (info_section p.source p.app p.map.places code_end p.origins.lines)

-- the lines
abbrev pub lines_section : FileParts → (code_end : ℕ) → Section
lines_section p code_end = plain (codes ".debug_line")
    (line_section p.source p.origins.files (file_rows p.origins.places (line_rows p.map.places code_end 0 p.app.funcs)) code_end)

-- the frames
abbrev pub frames_section : FileParts → (code_end : ℕ) → List Row → Section
frames_section p code_end rows = plain (codes ".debug_frame") (frame_section p.app p.map.places code_end p.memory rows)

-- what debuggers read
abbrev pub debugging_sections : FileParts → (code_end : ℕ) → List Row → List Section
debugging_sections p code_end rows = kinds_section ∷ entries_section p code_end ∷ lines_section p code_end ∷ frames_section p code_end rows ∷ []

-- a table of symbols (SHT_SYMTAB): their names are in section 10, and so many are local, with the first one of zeros
abbrev pub symbol_section : (table : List ℕ) → (locals : ℕ) → Section
symbol_section table locals = record {
  name = codes ".symtab";
  kind = 2;
  flags = 0;
  address = 0;
  contents = table;
  size = length table;
  link = 10;
  info = 1 + locals;
  align = 4;
  entry = 16;
}

-- symbols and their names
abbrev pub table_sections : Borders → List Symbol → (locals : ℕ) → List Section
table_sections b symbols locals = symbol_section (symbol_table b symbols) locals ∷ strings (codes ".strtab") (name_table symbols) ∷ []

-- all of them
abbrev pub part_sections : FileParts → Borders → List Row → List Section
part_sections p b rows =
    code_sections p.memory b ++ (data_sections p.memory b ++ (debugging_sections p b.code_end rows
    ++ table_sections b (all_symbols p.config p.app rows) (length (locals_of p.config rows))))

-- all sections, the names of the sections behind them, and zeros up to a multiple of 4
abbrev pub laid_parts : FileParts → Borders → List Row → Laid
laid_parts p b rows = padded (with_names (all_laid none_laid (part_sections p b rows)))

-- ---- the file

-- headers, the bytes of the sections, section headers
abbrev pub laid_file : Borders → Laid → List ℕ
laid_file b laid = elf_header (front + length laid.contents) ++ (segment_headers b ++ (laid.contents ++ laid.headers))

-- the file
unfoldable pub symbol_file : FileParts → List ℕ
symbol_file parts = laid_file (parts_borders parts) (laid_parts parts (parts_borders parts) (rows_of parts))
