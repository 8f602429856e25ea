-- What an item does: the operation of a statement, with names as numbers.
use Rattle.std.specs.Prelude.{ℕ, ℤ, pos, negsuc, ◌-◌, nat_le, nat_lt, if◌then◌else◌, bit_or, slice_get, position, unwrap_or, List, [], ◌∷◌, Option, Some, None}
use Rattle.std.specs.Str.{bytes_eq}
use Rattle.std.specs.List.{fold}
use Rattle.sloth_base.specs.declared.app.Op.{Op}
use Rattle.sloth_base.specs.declared.app.Op.TheVariants as op
use Rattle.sloth_base.specs.declared.app.Call.{Call}
use Rattle.sloth_base.specs.declared.app.ImmKind.TheVariants.{Addi}
use Rattle.sloth_base.specs.declared.app.Width.{Width}
use Rattle.sloth_base.specs.declared.app.Width.TheVariants.{Word}
use Rattle.sloth_base.specs.ServiceCodes.{object_kind, has_mask}
use Rattle.sloth_base.specs.declared.service.ObjectKind.{ObjectKind}
use Rattle.sloth_base.specs.declared.service.ObjectKind.TheVariants as object
use Rattle.sloth_base.specs.declared.service.Service.{Service}
use Rattle.sloth_base.specs.declared.config.Config.{Config}
use Rattle.sloth_base.specs.declared.config.EventDecl.{EventDecl}
use Rattle.sloth_base.specs.ConfigRange.{scheduler_number}
use Rattle.asm_lines.specs.declared.operands.Operand.{Operand}
use Rattle.asm_lines.specs.declared.operands.Operand.TheVariants.{Register, Number, Name, Frame, Direct, Indexed}
use Rattle.asm_lines.specs.declared.forms.Mnemonic.{Mnemonic}
use Rattle.asm_lines.specs.declared.forms.Mnemonic.TheVariants as m
use Rattle.asm_lines.specs.declared.source_line.SourceLine.{SourceLine}
use Rattle.asm_lines.specs.declared.source_line.SourceLine.TheVariants.{Statement}
use Rattle.asm_lines.specs.Numbers.{is_within}
use Rattle.asm_scopes.specs.declared.scope.Scope.{Scope}
use Rattle.asm_scopes.specs.Statements.{first_name, written_name}
use Rattle.asm_scopes.specs.Scopes.{is_scheduler}
use Rattle.asm_parse.specs.declared.operations.Access.{Access}
use Rattle.asm_parse.specs.declared.operations.Access.TheVariants.{Load, Store}

-- the word of a number from -2,147,483,648 to 4,294,967,295
abbrev pub as_word : ℤ → ℕ
as_word (pos n) = if nat_le n 4294967295 then n else 0
as_word (negsuc n) = if nat_lt n 2147483648 then 4294967295 - n else 0

-- a number from -2048 to 2047
abbrev pub as_short : ℤ → ℤ
as_short n = if is_within (negsuc 2047) (pos 2047) n then n else pos 0

-- the number of a name: its place among those of its kind
abbrev pub number_of : List (List ℕ) → List ℕ → ℕ
number_of names name = unwrap_or (position (bytes_eq name) names) 0

-- the number of a resource; RES_SCHEDULER, where it exists, is behind all others
abbrev pub resource_number : Scope → List ℕ → ℕ
resource_number scope name = if is_scheduler scope name then scheduler_number else number_of scope.resources name

-- the mask of an event, 0 without one
abbrev pub mask_given : Option EventDecl → ℕ
mask_given None = 0
mask_given (Some event) = event.mask

-- the mask of the event of this number
abbrev pub mask_at : Config → Option ℕ → ℕ
mask_at config None = 0
mask_at config (Some i) = mask_given (slice_get config.events i)

-- the mask of the event of this name
abbrev pub mask_by : Config → Scope → Option (List ℕ) → ℕ
mask_by config scope None = 0
mask_by config scope (Some name) = mask_at config (position (bytes_eq name) scope.events)

-- the mask of the event that an operand names
abbrev pub mask_named : Config → Scope → Operand → ℕ
mask_named config scope x = mask_by config scope (written_name x)

-- the union of the masks of the events that these operands name
abbrev pub mask_of : Config → Scope → List Operand → ℕ
mask_of config scope os = fold (λ mask x. bit_or mask (mask_named config scope x)) 0 os

-- the operands behind the first
abbrev pub behind_first : List Operand → List Operand
behind_first [] = []
behind_first (x ∷ os) = os

-- the number of an object of a kind, or 0
abbrev pub object_number : Scope → ObjectKind → List Operand → ℕ
object_number scope object.Nothing os = 0
object_number scope object.Task os = number_of scope.tasks (first_name os)
object_number scope object.Resource os = resource_number scope (first_name os)
object_number scope object.Alarm os = number_of scope.alarms (first_name os)

-- the task, resource or alarm that a service names, or 0
abbrev pub object_of : Scope → Service → List Operand → ℕ
object_of scope s os = object_number scope (object_kind s) os

-- the operands behind the one that names an object of a kind
abbrev pub behind_object : ObjectKind → List Operand → List Operand
behind_object object.Nothing os = os
behind_object object.Task os = behind_first os
behind_object object.Resource os = behind_first os
behind_object object.Alarm os = behind_first os

-- the mask of the events that a service names, or 0
abbrev pub events_of : Config → Scope → Service → List Operand → ℕ
events_of config scope s os = if has_mask s then mask_of config scope (behind_object (object_kind s) os) else 0

-- the service of these operands
abbrev pub call_of : Config → Scope → Service → List Operand → Call
call_of config scope s os = record { service = s; object = object_of scope s os; mask = events_of config scope s os }

-- the operation of a statement on registers
abbrev pub register_op : Mnemonic → List Operand → Option Op
register_op (m.Alu k) (Register d ∷ Register a ∷ Register b ∷ []) = Some (op.Alu k d a b)
register_op m.Move (Register d ∷ Register a ∷ []) = Some (op.AluImm Addi d a (pos 0))
register_op m.Nop [] = Some (op.AluImm Addi 0 0 (pos 0))
register_op m.Return [] = Some op.Return
register_op _ _ = None

-- the operation of a statement on registers and a number
abbrev pub number_op : Mnemonic → List Operand → Option Op
number_op (m.Imm k) (Register d ∷ Register a ∷ Number n ∷ []) = Some (op.AluImm k d a (as_short n))
number_op (m.Shift k) (Register d ∷ Register a ∷ Number n ∷ []) = Some (op.AluImm k d a (as_short n))
number_op m.Lui (Register d ∷ Number n ∷ []) = Some (op.Lui d (as_word n))
number_op m.Li (Register d ∷ Number n ∷ []) = Some (op.Li d (as_word n))
number_op _ _ = None

-- a load or store of a word of the frame
abbrev pub frame_op : Access → ℕ → ℕ → Op
frame_op Load r k = op.FrameLoad r k
frame_op Store r k = op.FrameStore r k

-- a load or store of a symbol at a fixed offset
abbrev pub symbol_op : Access → Width → ℕ → ℕ → ℕ → Op
symbol_op Load w r y k = op.Load w r y k
symbol_op Store w r y k = op.Store w r y k

-- a load or store of a symbol at the offset that a register has under a mask
abbrev pub element_op : Access → Width → ℕ → ℕ → ℕ → ℕ → Op
element_op Load w r y i k = op.LoadAt w r y i k
element_op Store w r y i k = op.StoreAt w r y i k

-- the operation of a load or store
abbrev pub access_op : List (List ℕ) → Access → Width → List Operand → Option Op
access_op symbols a w (Register r ∷ Direct name k ∷ []) = Some (symbol_op a w r (number_of symbols name) k)
access_op symbols a w (Register r ∷ Indexed name i k ∷ []) = Some (element_op a w r (number_of symbols name) i k)
access_op symbols a Word (Register r ∷ Frame k ∷ []) = Some (frame_op a r k)
access_op _ _ _ _ = None

-- the operation of a branch, a jump or a call, in a body with these labels
abbrev pub jump_op : Scope → List (List ℕ) → Mnemonic → List Operand → Option Op
jump_op scope labels (m.Branch k) (Register a ∷ Register b ∷ Name name ∷ []) = Some (op.Branch k a b (number_of labels name))
jump_op scope labels m.Jump (Name name ∷ []) = Some (op.Jump (number_of labels name))
jump_op scope labels m.Invoke (Name name ∷ []) = Some (op.Invoke (number_of scope.functions name))
jump_op _ _ _ _ = None

-- the operation of a statement, if it is an item
abbrev pub op_by : Config → Scope → List (List ℕ) → Mnemonic → List Operand → Option Op
op_by config scope labels (m.Load w) os = access_op scope.symbols Load w os
op_by config scope labels (m.Store w) os = access_op scope.symbols Store w os
op_by config scope labels (m.Branch k) os = jump_op scope labels (m.Branch k) os
op_by config scope labels m.Jump os = jump_op scope labels m.Jump os
op_by config scope labels m.Invoke os = jump_op scope labels m.Invoke os
op_by config scope labels (m.Serve s) os = Some (op.Serve (call_of config scope s os))
op_by config scope labels (m.Imm k) os = number_op (m.Imm k) os
op_by config scope labels (m.Shift k) os = number_op (m.Shift k) os
op_by config scope labels m.Lui os = number_op m.Lui os
op_by config scope labels m.Li os = number_op m.Li os
op_by config scope labels m os = register_op m os

-- the operation of a line, if it is an item
abbrev pub op_of : Config → Scope → List (List ℕ) → SourceLine → Option Op
op_of config scope labels (Statement m os) = op_by config scope labels m os
op_of config scope labels _ = None
