-- The bytes between the rows of an image, and what the rows of each part take together.
use Rattle.std.specs.Prelude.{ℕ, ◌+◌, ◌-◌, ltb, cond, Bool, true, false, List, [], ◌∷◌, ◌++◌}
use Rattle.map_text.specs.declared.piece_starts.Kind.{Kind}
use Rattle.map_text.specs.declared.piece_starts.Kind.TheVariants as kind
use Rattle.map_text.specs.declared.piece_starts.Row.{Row}
use Rattle.map_text.specs.declared.lines.Part.{Part}
use Rattle.map_text.specs.declared.lines.Part.TheVariants as part

-- the address behind a row
abbrev pub behind_row : Row → ℕ
behind_row row = row.base + row.len

-- a row of the bytes from behind one row up to an address, if there are any
abbrev pub gap_rows : Row → ℕ → List Row
gap_rows row to = cond (ltb (behind_row row) to) (record { kind = kind.Between; number = 0; base = behind_row row; len = to - behind_row row } ∷ []) []

-- the same up to the first of these, if there is one
abbrev pub between_rows : Row → List Row → List Row
between_rows row [] = []
between_rows row (next ∷ rest) = gap_rows row next.base

-- rows in the order of their addresses, with those of the bytes between them
abbrev pub filled_rows : List Row → List Row
filled_rows [] = []
filled_rows (row ∷ rest) = row ∷ (between_rows row rest ++ filled_rows rest)

-- the part of the image that a row of this kind belongs to
abbrev pub kind_part : Kind → Part
kind_part kind.Words = part.Data
kind_part kind.Vectors = part.Code
kind_part kind.Boot = part.Code
kind_part kind.Idle = part.Code
kind_part kind.Prologue = part.Code
kind_part kind.Tick = part.Code
kind_part kind.Service = part.Code
kind_part kind.Code = part.Code
kind_part kind.Data = part.Data
kind_part kind.End = part.Data
kind_part kind.Shared = part.Stacks
kind_part kind.Stack = part.Stacks
kind_part kind.Between = part.Between

-- these are one part
abbrev pub is_part : Part → Part → Bool
is_part part.Code part.Code = true
is_part part.Data part.Data = true
is_part part.Stacks part.Stacks = true
is_part part.Between part.Between = true
is_part _ _ = false

-- the bytes of a row, if it is of the part
abbrev pub part_bytes : Part → Row → ℕ
part_bytes p row = cond (is_part p (kind_part row.kind)) row.len 0

-- the bytes of the rows of a part together
abbrev pub part_sum : Part → List Row → ℕ
part_sum p [] = 0
part_sum p (row ∷ rows) = part_bytes p row + part_sum p rows

-- the parts, in the order of their lines
abbrev pub all_parts : List Part
all_parts = part.Code ∷ part.Data ∷ part.Stacks ∷ part.Between ∷ []
