-- The program of rows makes them on the standard's machine.
use Rattle.std.proofs.Common.{◌≡◌, ◌≢◌, ◌≤◌, ◌<◌, ◌+◌, ◌-◌, ◌^◌, ◌⊎◌, inl, inr, ℕ, Bool, true, false, cond, eqb, ltb, List, [], ◌∷◌, ◌++◌, All, refl, sym, ap, ◌∙◌, arith, append_assoc}
use Rattle.std.specs.Prelude.{◌==◌}
use Rattle.std.specs.List.{flat_map}
use Rattle.std.proofs.lemmas.Bool.{cases_lt, lt-ltb, le-ltb, ltb-true}
use Rattle.std.proofs.lemmas.Bool.Decides.{eqb_tells}
use Rattle.std.proofs.lemmas.List.Elements.{All-cons, All-nil}
use Rattle.image_file.specs.Fields.{four_bytes}
use Rattle.symbol_image.specs.declared.line_section.FileRow.{FileRow}
use Rattle.symbol_image.specs.Fields.{negative_leb, signed_leb, unsigned_leb}
use Rattle.symbol_image.specs.LineMachine.{AdvanceLine, AdvancePc, AreRisingRows, Copy, EndSequence, HasMatrix, IsOperation, MatrixRow, Operation, Registers, RetreatLine, SetAddress, SetFile, at_first, further_matrix, matrix_of, operation_bytes, wanted_matrix}
use Rattle.symbol_image.specs.LineSection.{address_from, beginning, file_from, further_rows, line_from, line_program, place_from}

-- ---- its operations

abbrev file-operations : (file to : ℕ) → List Operation
file-operations file to = cond (file == to) [] (SetFile to ∷ [])

abbrev line-operation : (line to : ℕ) → Operation
line-operation line to = cond (ltb to line) (RetreatLine (line - to)) (AdvanceLine (to - line))

-- of a row behind another, in front of others
abbrev place-operations : (from row : FileRow) → List Operation → List Operation
place-operations from row rest = file-operations from.file row.file ++ line-operation from.line row.line ∷ Copy ∷ rest

abbrev further-operations : (from : FileRow) → List FileRow → (end : ℕ) → List Operation
further-operations from [] end = AdvancePc (end - from.address) ∷ EndSequence ∷ []
further-operations from (row ∷ rows) end = AdvancePc (row.address - from.address) ∷ place-operations from row (further-operations row rows end)

abbrev operations-of : List FileRow → (end : ℕ) → List Operation
operations-of [] end = []
operations-of (row ∷ rows) end = SetAddress row.address ∷ place-operations beginning row (further-operations row rows end)

-- ---- are its bytes

file-bytes : (b : Bool) (to : ℕ) (operations : List Operation)
    → cond b [] (4 ∷ unsigned_leb to) ++ flat_map operation_bytes operations ≡ flat_map operation_bytes (cond b [] (SetFile to ∷ []) ++ operations)
file-bytes true to operations = refl
file-bytes false to operations = refl

line-bytes : (b : Bool) (less more : ℕ) (operations : List Operation)
    → (3 ∷ cond b (negative_leb less) (signed_leb more)) ++ flat_map operation_bytes operations
    ≡ flat_map operation_bytes (cond b (RetreatLine less) (AdvanceLine more) ∷ operations)
line-bytes true less more operations = refl
line-bytes false less more operations = refl

place-bytes : (from row : FileRow) (operations : List Operation) (bytes : List ℕ) → bytes ≡ flat_map operation_bytes operations
    → place_from from row ++ bytes ≡ flat_map operation_bytes (place-operations from row operations)
place-bytes from row operations bytes e =
    append_assoc (file_from from.file row.file) (line_from from.line row.line ++ 1 ∷ []) bytes
    ∙ ap (λ b. file_from from.file row.file ++ b) (append_assoc (line_from from.line row.line) (1 ∷ []) bytes ∙ ap (λ b. line_from from.line row.line ++ 1 ∷ b) e
    ∙ line-bytes (ltb row.line from.line) (from.line - row.line) (row.line - from.line) (Copy ∷ operations))
    ∙ file-bytes (from.file == row.file) row.file (line-operation from.line row.line ∷ Copy ∷ operations)

further-bytes : (from : FileRow) (rows : List FileRow) (end : ℕ) → further_rows from rows end ≡ flat_map operation_bytes (further-operations from rows end)
further-bytes from [] end = refl
further-bytes from (row ∷ rows) end =
    append_assoc (address_from from.address row.address) (place_from from row) (further_rows row rows end)
    ∙ ap (λ b. address_from from.address row.address ++ b) (place-bytes from row (further-operations row rows end) _ (further-bytes row rows end))

program-bytes : (rows : List FileRow) (end : ℕ) → line_program rows end ≡ flat_map operation_bytes (operations-of rows end)
unfolding line_program
program-bytes [] end = refl
program-bytes (row ∷ rows) end =
    ap (λ b. 0 ∷ 5 ∷ 2 ∷ b) (append_assoc (four_bytes row.address) (place_from beginning row) (further_rows row rows end)
    ∙ ap (λ b. four_bytes row.address ++ b) (place-bytes beginning row (further-operations row rows end) _ (further-bytes row rows end)))

-- ---- have operands of 32 bits

ascend : (address : ℕ) (rows : List FileRow) (end : ℕ) → AreRisingRows address rows end → (address ≤ end) × (end < 2 ^ 32)
ascend address [] end h = h
ascend address (row ∷ rows) end h =
    let a : address ≤ row.address = h.0 in
    let r : (row.address ≤ end) × (end < 2 ^ 32) = ascend row.address rows end h.3 in
    let b : row.address ≤ end = r.0 in
    (omega arith, r.1)

file-range : (file to : ℕ) (operations : List Operation) → to < 2 ^ 32 → All IsOperation operations → All IsOperation (file-operations file to ++ operations)
file-range file to operations h all = by (file == to)
  where
    by : (b : Bool) → All IsOperation (cond b [] (SetFile to ∷ []) ++ operations)
    by true = all
    by false = All-cons IsOperation (SetFile to) operations h all

line-range : (line to : ℕ) → line < 2 ^ 32 → to < 2 ^ 32 → IsOperation (line-operation line to)
line-range line to hl ht = by (ltb to line) (ltb-true to line)
  where
    by : (b : Bool) → (b ≡ true → to < line) → IsOperation (cond b (RetreatLine (line - to)) (AdvanceLine (to - line)))
    by true less =
        let l = less refl in
        let some : 0 < line - to = omega (arith, l) in
        let small : line - to < 2 ^ 32 = omega (arith, hl) in
        (some, small)
    by false less = let small : to - line < 2 ^ 32 = omega (arith, ht) in small

place-range : (from row : FileRow) (operations : List Operation) → from.line < 2 ^ 32 → row.file < 2 ^ 32 → row.line < 2 ^ 32
    → All IsOperation operations → All IsOperation (place-operations from row operations)
place-range from row operations hf hr hl all =
    file-range from.file row.file (line-operation from.line row.line ∷ Copy ∷ operations) hr
    (All-cons IsOperation (line-operation from.line row.line) (Copy ∷ operations) (line-range from.line row.line hf hl) (All-cons IsOperation Copy operations tt all))

further-range : (from : FileRow) (rows : List FileRow) (end : ℕ) → from.line < 2 ^ 32 → AreRisingRows from.address rows end
    → All IsOperation (further-operations from rows end)
further-range from [] end hf h =
    let e : end < 2 ^ 32 = h.1 in
    let p : end - from.address < 2 ^ 32 = omega arith in
    All-cons IsOperation (AdvancePc (end - from.address)) (EndSequence ∷ []) p (All-cons IsOperation EndSequence [] tt (All-nil IsOperation))
further-range from (row ∷ rows) end hf h =
    let r : (row.address ≤ end) × (end < 2 ^ 32) = ascend row.address rows end h.3 in
    let a : row.address ≤ end = r.0 in
    let e : end < 2 ^ 32 = r.1 in
    let p : row.address - from.address < 2 ^ 32 = omega arith in
    All-cons IsOperation (AdvancePc (row.address - from.address)) _ p
    (place-range from row (further-operations row rows end) hf h.1 h.2 (further-range row rows end h.2 h.3))

in-range : (rows : List FileRow) (end : ℕ) → AreRisingRows 0 rows end → All IsOperation (operations-of rows end)
in-range [] end h = All-nil IsOperation
in-range (row ∷ rows) end h =
    let r : (row.address ≤ end) × (end < 2 ^ 32) = ascend row.address rows end h.3 in
    let a : row.address ≤ end = r.0 in
    let e : end < 2 ^ 32 = r.1 in
    let p : row.address < 2 ^ 32 = omega arith in
    All-cons IsOperation (SetAddress row.address) _ p
    (place-range beginning row (further-operations row rows end) (omega arith) h.1 h.2 (further-range row rows end h.2 h.3))

-- ---- make the rows

abbrev registers : (address file line : ℕ) → Registers
registers address file line = record { address = address; file = file; line = line }

abbrev made-row : FileRow → MatrixRow
made-row row = record { address = row.address; file = row.file; line = row.line; ends = false }

file-made : (address file line to : ℕ) (operations : List Operation)
    → matrix_of (registers address file line) (file-operations file to ++ operations) ≡ matrix_of (registers address to line) operations
file-made address file line to operations = by (eqb_tells file to)
  where
    by : ((eqb file to ≡ true) × (file ≡ to)) ⊎ ((eqb file to ≡ false) × (file ≢ to))
        → matrix_of (registers address file line) (file-operations file to ++ operations) ≡ matrix_of (registers address to line) operations
    by (inl same) =
        ap (λ (b : Bool). matrix_of (registers address file line) (cond b [] (SetFile to ∷ []) ++ operations)) same.0
        ∙ ap (λ n. matrix_of (registers address n line) operations) same.1
    by (inr other) = ap (λ (b : Bool). matrix_of (registers address file line) (cond b [] (SetFile to ∷ []) ++ operations)) other.0

line-made : (address file line to : ℕ) (operations : List Operation)
    → matrix_of (registers address file line) (line-operation line to ∷ operations) ≡ matrix_of (registers address file to) operations
line-made address file line to operations = by (cases_lt to line)
  where
    made : (b : Bool) → List MatrixRow
    made b = matrix_of (registers address file line) (cond b (RetreatLine (line - to)) (AdvanceLine (to - line)) ∷ operations)

    by : (to < line) ⊎ (line ≤ to) → matrix_of (registers address file line) (line-operation line to ∷ operations) ≡ matrix_of (registers address file to) operations
    by (inl less) = ap made (lt-ltb to line less) ∙ ap (λ n. matrix_of (registers address file n) operations) (omega (arith, less))
    by (inr more) = ap made (le-ltb to line more) ∙ ap (λ n. matrix_of (registers address file n) operations) (omega (arith, more))

place-made : (from row : FileRow) (operations : List Operation)
    → matrix_of (registers row.address from.file from.line) (place-operations from row operations)
    ≡ made-row row ∷ matrix_of (registers row.address row.file row.line) operations
place-made from row operations =
    file-made row.address from.file from.line row.file (line-operation from.line row.line ∷ Copy ∷ operations)
    ∙ line-made row.address row.file from.line row.line (Copy ∷ operations)

further-matrix : (from : FileRow) (rows : List FileRow) (end : ℕ) → AreRisingRows from.address rows end
    → matrix_of (registers from.address from.file from.line) (further-operations from rows end) ≡ further_matrix from rows end
further-matrix from [] end h =
    let e : from.address + (end - from.address) ≡ end = (let a : from.address ≤ end = h.0 in omega arith) in
    ap (λ (n : ℕ). let r : MatrixRow = record { address = n; file = from.file; line = from.line; ends = true } in r ∷ []) e
further-matrix from (row ∷ rows) end h =
    let a : from.address + (row.address - from.address) ≡ row.address = (let b : from.address ≤ row.address = h.0 in omega arith) in
    ap (λ n. matrix_of (registers n from.file from.line) (place-operations from row (further-operations row rows end))) a
    ∙ place-made from row (further-operations row rows end)
    ∙ ap (λ (m : List MatrixRow). made-row row ∷ m) (further-matrix row rows end h.3)

matrix : (rows : List FileRow) (end : ℕ) → AreRisingRows 0 rows end → matrix_of at_first (operations-of rows end) ≡ wanted_matrix rows end
matrix [] end h = refl
matrix (row ∷ rows) end h =
    place-made beginning row (further-operations row rows end) ∙ ap (λ (m : List MatrixRow). made-row row ∷ m) (further-matrix row rows end h.3)

pub program_makes : (rows : List FileRow) (end : ℕ) → AreRisingRows 0 rows end → HasMatrix (line_program rows end) (wanted_matrix rows end)
program_makes rows end h = record {
  operations = operations-of rows end;
  in_range = in-range rows end h;
  are = program-bytes rows end;
  makes = sym (matrix rows end h);
}
