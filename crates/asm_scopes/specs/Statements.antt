-- What a line of task source says: what it declares, and the names that it writes.
use Rattle.std.specs.Prelude.{ℕ, ℤ, pos, negsuc, Bool, true, false, nat_le, if◌then◌else◌, List, [], ◌∷◌, map, filter, Option, Some, None}
use Rattle.sloth_base.specs.Limits.{operand_limit}
use Rattle.asm_lines.specs.declared.operands.Operand.{Operand}
use Rattle.asm_lines.specs.declared.operands.Operand.TheVariants as o
use Rattle.asm_lines.specs.declared.source_line.SourceLine.{SourceLine}
use Rattle.asm_lines.specs.declared.source_line.SourceLine.TheVariants.{Statement}
use Rattle.asm_lines.specs.declared.forms.Mnemonic.{Mnemonic}
use Rattle.asm_lines.specs.declared.forms.Mnemonic.TheVariants as m
use Rattle.asm_lines.specs.Forms.{is_body_start, is_body_end}
use Rattle.asm_scopes.specs.declared.statements.Declared.{Declared}
use Rattle.asm_scopes.specs.declared.statements.Declared.TheVariants as declared

-- a line that declares a symbol
abbrev pub is_data : SourceLine → Bool
is_data (Statement m.Data os) = true
is_data _ = false

-- the header of a body
abbrev pub opens_body : SourceLine → Bool
opens_body (Statement m os) = is_body_start m
opens_body _ = false

-- the end of a body
abbrev pub closes_body : SourceLine → Bool
closes_body (Statement m os) = is_body_end m
closes_body _ = false

-- the header of a task's body
abbrev pub is_task : SourceLine → Bool
is_task (Statement m.Task os) = true
is_task _ = false

-- a label
abbrev pub is_label : SourceLine → Bool
is_label (Statement m.Label os) = true
is_label _ = false

-- a statement of a body that does something
abbrev pub is_action : Mnemonic → Bool
is_action m.Data = false
is_action m.Task = false
is_action m.Func = false
is_action m.End = false
is_action m.Label = false
is_action _ = true

-- a line of a body that does something
abbrev pub is_item : SourceLine → Bool
is_item (Statement m os) = is_action m
is_item _ = false

-- the name in front of these operands
abbrev pub first_name : List Operand → List ℕ
first_name (o.Name name ∷ os) = name
first_name _ = []

-- the name that a line declares
abbrev pub name_of : SourceLine → List ℕ
name_of (Statement m os) = first_name os
name_of _ = []

-- a number from 0 to the limit of operands
abbrev pub small_value : ℤ → ℕ
small_value (pos n) = if nat_le n operand_limit then n else 0
small_value (negsuc n) = 0

-- the number behind the name, 0 where there is none
abbrev pub second_number : List Operand → ℕ
second_number (name ∷ o.Number n ∷ os) = small_value n
second_number _ = 0

-- the size of a symbol, or the words of a frame
abbrev pub number_of : SourceLine → ℕ
number_of (Statement m os) = second_number os
number_of _ = 0

-- the name that an operand writes
abbrev pub written_name : Operand → Option (List ℕ)
written_name (o.Name name) = Some name
written_name (o.Direct name offset) = Some name
written_name (o.Indexed name index mask) = Some name
written_name _ = None

-- a line that declares this
abbrev pub declares : Declared → SourceLine → Bool
declares declared.Symbol l = is_data l
declares declared.Label l = is_label l

-- the names of the symbols that these lines declare, in order
abbrev pub symbol_names : List SourceLine → List (List ℕ)
symbol_names ls = map name_of (filter is_data ls)

-- the names of the labels among these lines, in order
abbrev pub label_names : List SourceLine → List (List ℕ)
label_names ls = map name_of (filter is_label ls)
