-- The section of source lines, `.debug_line` (DWARF 4, 6.2).
use Rattle.std.specs.Prelude.{ℕ, ◌-◌, ◌==◌, ltb, cond, List, [], ◌∷◌, ◌++◌}
use Rattle.image_file.specs.Fields.{four_bytes, two_bytes}
use Rattle.symbol_image.specs.FileRows.{row_from}
use Rattle.symbol_image.specs.declared.line_section.FileRow.{FileRow}
use Rattle.symbol_image.specs.Fields.{negative_leb, signed_leb, sized, text_bytes, unsigned_leb}

-- the operands of the standard opcodes 1 to 12
abbrev pub opcode_lengths : List ℕ
opcode_lengths = 0 ∷ 1 ∷ 1 ∷ 1 ∷ 1 ∷ 0 ∷ 0 ∷ 0 ∷ 1 ∷ 0 ∷ 0 ∷ 1 ∷ []

-- The header behind its length (6.2.4): instructions and operations of one byte at least, rows begin statements, line base -3 and range 12, of which nothing is used, and opcodes
-- from 13 on are special; no directories, and the file of this name, which is file 1, with these entries of further ones.
abbrev pub line_header : (source files : List ℕ) → List ℕ
line_header source files = 1 ∷ 1 ∷ 1 ∷ 253 ∷ 12 ∷ 13 ∷ (opcode_lengths ++ (0 ∷ (text_bytes source ++ 0 ∷ 0 ∷ 0 ∷ (files ++ 0 ∷ []))))

-- another file is set (DW_LNS_set_file)
abbrev pub file_from : (file to : ℕ) → List ℕ
file_from file to = cond (file == to) [] (4 ∷ unsigned_leb to)

-- the line advances, up or down (DW_LNS_advance_line)
abbrev pub line_from : (line to : ℕ) → List ℕ
line_from line to = 3 ∷ cond (ltb to line) (negative_leb (line - to)) (signed_leb (to - line))

-- a row from the file and the line before it: they are set, and the row is made (DW_LNS_copy)
abbrev pub place_from : (from row : FileRow) → List ℕ
place_from from row = file_from from.file row.file ++ (line_from from.line row.line ++ 1 ∷ [])

-- the address advances (DW_LNS_advance_pc)
abbrev pub address_from : (address to : ℕ) → List ℕ
address_from address to = 2 ∷ unsigned_leb (to - address)

-- a row behind another
abbrev pub row_behind : (from row : FileRow) → List ℕ
row_behind from row = address_from from.address row.address ++ place_from from row

-- the end of all rows (DW_LNE_end_sequence) at an address, behind one of this address
abbrev pub end_behind : (address end : ℕ) → List ℕ
end_behind address end = address_from address end ++ 0 ∷ 1 ∷ 1 ∷ []

-- the rows behind another, and the end of them all
abbrev pub further_rows : (from : FileRow) → List FileRow → (end : ℕ) → List ℕ
further_rows from [] end = end_behind from.address end
further_rows from (row ∷ rows) end = row_behind from row ++ further_rows row rows end

-- where rows begin: in line 1 of the source
abbrev pub beginning : FileRow
beginning = row_from 0 1 1

-- the first row's address is set (DW_LNE_set_address)
abbrev pub first_row : FileRow → List ℕ
first_row row = 0 ∷ 5 ∷ 2 ∷ (four_bytes row.address ++ place_from beginning row)

-- the program of rows, up to the address behind the code; without rows it is empty
unfoldable pub line_program : List FileRow → (end : ℕ) → List ℕ
line_program [] end = []
line_program (row ∷ rows) end = first_row row ++ further_rows row rows end

-- what stands behind the length of the section: its version, the length of its header, the header, the program
abbrev pub line_unit : (source files : List ℕ) → List FileRow → (end : ℕ) → List ℕ
line_unit source files rows end = two_bytes 4 ++ (sized (line_header source files) ++ line_program rows end)

-- the section
unfoldable pub line_section : (source files : List ℕ) → List FileRow → (end : ℕ) → List ℕ
line_section source files rows end = sized (line_unit source files rows end)
