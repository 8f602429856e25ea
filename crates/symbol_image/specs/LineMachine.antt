-- The machine of source lines (DWARF 4, 6.2), and what the program of rows does on it.
use Rattle.std.specs.Prelude.{ℕ, ◌≡◌, ◌≤◌, ◌<◌, ◌+◌, ◌-◌, ◌^◌, Bool, true, false, List, [], ◌∷◌, All}
use Rattle.std.specs.List.{flat_map}
use Rattle.image_file.specs.Fields.{four_bytes}
use Rattle.symbol_image.specs.declared.line_section.FileRow.{FileRow}
use Rattle.symbol_image.specs.Fields.{negative_leb, signed_leb, unsigned_leb}
use Rattle.symbol_image.specs.LineSection.{beginning, line_program}

-- ---- the machine

-- the registers that these operations change (6.2.2); all others keep what they have at first: column 0, the beginning of a statement
pub record Registers : Type 0 where
  pub address : ℕ
  pub file : ℕ
  pub line : ℕ

-- what they have at first
abbrev pub at_first : Registers
at_first = record { address = 0; file = 1; line = 1 }

-- an operation of the program (6.2.5): four standard opcodes, one of them with a number up or down, and two extended ones
pub data Operation : Type 0 where
  Copy : Operation
  AdvancePc : ℕ → Operation
  AdvanceLine : ℕ → Operation
  RetreatLine : ℕ → Operation
  SetFile : ℕ → Operation
  EndSequence : Operation
  SetAddress : ℕ → Operation

-- its bytes: the opcode and its operand; an extended one behind 0 and its length
abbrev pub operation_bytes : Operation → List ℕ
operation_bytes Copy = 1 ∷ []
operation_bytes (AdvancePc more) = 2 ∷ unsigned_leb more
operation_bytes (AdvanceLine more) = 3 ∷ signed_leb more
operation_bytes (RetreatLine less) = 3 ∷ negative_leb less
operation_bytes (SetFile file) = 4 ∷ unsigned_leb file
operation_bytes EndSequence = 0 ∷ 1 ∷ 1 ∷ []
operation_bytes (SetAddress address) = 0 ∷ 5 ∷ 2 ∷ four_bytes address

-- its operand is one of 32 bits
abbrev pub IsOperation : Operation → Type 0
IsOperation Copy = Unit {0}
IsOperation (AdvancePc more) = more < 2 ^ 32
IsOperation (AdvanceLine more) = more < 2 ^ 32
IsOperation (RetreatLine less) = (0 < less) × (less < 2 ^ 32)
IsOperation (SetFile file) = file < 2 ^ 32
IsOperation EndSequence = Unit {0}
IsOperation (SetAddress address) = address < 2 ^ 32

-- a row of the matrix (6.2.2), and whether it is behind the last instruction
pub record MatrixRow : Type 0 where
  pub address : ℕ
  pub file : ℕ
  pub line : ℕ
  pub ends : Bool

-- the row that the registers make
abbrev pub row_of : Registers → Bool → MatrixRow
row_of r ends = record { address = r.address; file = r.file; line = r.line; ends = ends }

-- the rows that operations make from these registers on
abbrev pub matrix_of : Registers → List Operation → List MatrixRow
matrix_of r [] = []
matrix_of r (Copy ∷ rest) = row_of r false ∷ matrix_of r rest
matrix_of r (AdvancePc more ∷ rest) = matrix_of (record r { address = r.address + more }) rest
matrix_of r (AdvanceLine more ∷ rest) = matrix_of (record r { line = r.line + more }) rest
matrix_of r (RetreatLine less ∷ rest) = matrix_of (record r { line = r.line - less }) rest
matrix_of r (SetFile file ∷ rest) = matrix_of (record r { file = file }) rest
matrix_of r (EndSequence ∷ rest) = row_of r true ∷ matrix_of at_first rest
matrix_of r (SetAddress address ∷ rest) = matrix_of (record r { address = address }) rest

-- these bytes are operations that make this matrix
pub record HasMatrix (program : List ℕ) (matrix : List MatrixRow) : Type 0 where
  pub operations : List Operation
  pub in_range : All IsOperation operations
  pub are : program ≡ flat_map operation_bytes operations
  pub makes : matrix ≡ matrix_of at_first operations

-- ---- what the program of rows does

-- addresses do not fall from row to row, from this one on, and all are numbers of 32 bits
abbrev pub AreRisingRows : (address : ℕ) → List FileRow → (end : ℕ) → Type 0
AreRisingRows address [] end = (address ≤ end) × (end < 2 ^ 32)
AreRisingRows address (row ∷ rows) end =
    (address ≤ row.address) × (row.file < 2 ^ 32) × (row.line < 2 ^ 32) × AreRisingRows row.address rows end

-- the matrix that is wanted of rows behind another: they, and the end at an address with the last one's file and line
abbrev pub further_matrix : (from : FileRow) → List FileRow → (end : ℕ) → List MatrixRow
further_matrix from [] end = record { address = end; file = from.file; line = from.line; ends = true } ∷ []
further_matrix from (row ∷ rows) end =
    record { address = row.address; file = row.file; line = row.line; ends = false } ∷ further_matrix row rows end

-- none without rows
abbrev pub wanted_matrix : List FileRow → (end : ℕ) → List MatrixRow
wanted_matrix [] end = []
wanted_matrix (row ∷ rows) end = further_matrix beginning (row ∷ rows) end

-- the program of rows makes exactly them, and one end
abbrev pub ProgramHasRows : Type 0
ProgramHasRows = (rows : List FileRow) (end : ℕ) → AreRisingRows 0 rows end → HasMatrix (line_program rows end) (wanted_matrix rows end)

-- bytes make one matrix at most
abbrev pub OneMatrix : Type 0
OneMatrix = (program : List ℕ) (one other : List MatrixRow) → HasMatrix program one → HasMatrix program other → one ≡ other
