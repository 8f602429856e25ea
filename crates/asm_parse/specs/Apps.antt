-- The task code that lines mean: bodies, items, symbols and labels are numbered in the order of the text, each from 0, labels and items
-- within their body.
use Rattle.std.specs.Prelude.{ℕ, ◌+◌, ◌-◌, if◌then◌else◌, position, List, [], ◌∷◌, ◌++◌, length, map, filter, replicate, Option, Some, None}
use Rattle.std.specs.Str.{bytes_eq}
use Rattle.sloth_base.specs.declared.app.Op.{Op}
use Rattle.sloth_base.specs.declared.app.Item.{Item}
use Rattle.sloth_base.specs.declared.app.Label.{Label}
use Rattle.sloth_base.specs.declared.app.Func.{Func}
use Rattle.sloth_base.specs.declared.app.Symbol.{Symbol}
use Rattle.sloth_base.specs.declared.app.App.{App}
use Rattle.sloth_base.specs.declared.config.Config.{Config}
use Rattle.asm_lines.specs.declared.operands.Operand.{Operand}
use Rattle.asm_lines.specs.declared.operands.Operand.TheVariants.{Bytes}
use Rattle.asm_lines.specs.declared.source_line.SourceLine.{SourceLine}
use Rattle.asm_lines.specs.declared.source_line.SourceLine.TheVariants.{Statement}
use Rattle.asm_scopes.specs.declared.scope.Scope.{Scope}
use Rattle.asm_scopes.specs.Statements.{is_data, is_label, name_of, number_of, written_name, label_names}
use Rattle.asm_scopes.specs.Bodies.{BodyText, bodies_of, body_name, is_task_body}
use Rattle.asm_scopes.specs.Scopes.{scope_of}
use Rattle.asm_parse.specs.Operations.{op_of, resource_number, behind_first}

-- ---- items and labels of a body

-- the item of line n, where it is an operation
abbrev pub item_by : ℕ → Option Op → List Item
item_by n None = []
item_by n (Some o) = record { line = n; op = o } ∷ []

-- how many items that is
abbrev pub count_op : Option Op → ℕ
count_op None = 0
count_op (Some o) = 1

-- the item that line n is, if it is one
abbrev pub item_of : Config → Scope → List (List ℕ) → ℕ → SourceLine → List Item
item_of config scope labels n l = item_by n (op_of config scope labels l)

-- the items of these lines, of which the first has number n
abbrev pub items_from : Config → Scope → List (List ℕ) → ℕ → List SourceLine → List Item
items_from config scope labels n [] = []
items_from config scope labels n (l ∷ ls) = item_of config scope labels n l ++ items_from config scope labels (n + 1) ls

-- the number of the resource of this name, where one is written
abbrev pub held_resource_by : Scope → Option (List ℕ) → List ℕ
held_resource_by scope None = []
held_resource_by scope (Some name) = resource_number scope name ∷ []

-- the resources that these operands name, in order
abbrev pub holds_of : Scope → List Operand → List ℕ
holds_of scope [] = []
holds_of scope (x ∷ os) = held_resource_by scope (written_name x) ++ holds_of scope os

-- the resources that a label says are held, in the order taken
abbrev pub label_holds : Scope → SourceLine → List ℕ
label_holds scope (Statement m os) = holds_of scope (behind_first os)
label_holds scope _ = []

-- the label that line n is, if it is one, behind so many items
abbrev pub label_of : Scope → ℕ → ℕ → SourceLine → List Label
label_of scope n items l = if is_label l then record { name = name_of l; line = n; item = items; holds = label_holds scope l } ∷ [] else []

-- the labels of these lines, of which the first has number n and stands behind so many items
abbrev pub labels_from : Config → Scope → List (List ℕ) → ℕ → ℕ → List SourceLine → List Label
labels_from config scope labels n items [] = []
labels_from config scope labels n items (l ∷ ls) =
    label_of scope n items l ++ labels_from config scope labels (n + 1) (items + count_op (op_of config scope labels l)) ls

-- the task of a body
abbrev pub body_task : Scope → BodyText → Option ℕ
body_task scope body = if is_task_body body then position (bytes_eq (body_name body)) scope.tasks else None

-- the function of a body
abbrev pub func_of : Config → Scope → BodyText → Func
func_of config scope body = record {
  name = body_name body;
  line = body.line;
  task = body_task scope body;
  frame_words = number_of body.header;
  items = items_from config scope (label_names body.lines) (body.line + 1) body.lines;
  labels = labels_from config scope (label_names body.lines) (body.line + 1) 0 body.lines;
}

-- ---- symbols

-- the bytes that stand behind the name and the size of a `data`
abbrev pub third_bytes : List Operand → List ℕ
third_bytes (name ∷ size ∷ Bytes bytes ∷ os) = bytes
third_bytes _ = []

-- the bytes that a `data` gives
abbrev pub first_bytes : SourceLine → List ℕ
first_bytes (Statement m os) = third_bytes os
first_bytes _ = []

-- the first bytes of a symbol, and then zeros up to its size
abbrev pub bytes_with : List ℕ → ℕ → List ℕ
bytes_with bytes size = bytes ++ replicate (size - length bytes) 0

-- the symbol of a `data`
abbrev pub symbol_of : SourceLine → Symbol
symbol_of l = record { name = name_of l; bytes = bytes_with (first_bytes l) (number_of l) }

-- ---- all

-- the task code of these lines, for a configuration
abbrev pub app_of : Config → List SourceLine → App
app_of config ls = record {
  funcs = map (func_of config (scope_of config ls (bodies_of ls))) (bodies_of ls);
  symbols = map symbol_of (filter is_data ls);
}
