-- The statements of task source: how many operands they have, and of which forms.
use Rattle.std.specs.Prelude.{ℕ, ◌+◌, pos, negsuc, ◌==◌, Bool, true, false, ◌||◌, nat_le, nat_lt, if◌then◌else◌}
use Rattle.sloth_base.specs.declared.app.Width.{Width}
use Rattle.sloth_base.specs.declared.app.Width.TheVariants as width
use Rattle.sloth_base.specs.ServiceCodes.{object_kind, has_mask}
use Rattle.sloth_base.specs.Limits.{operand_limit}
use Rattle.sloth_base.specs.declared.service.ObjectKind.{ObjectKind}
use Rattle.sloth_base.specs.declared.service.ObjectKind.TheVariants as object
use Rattle.sloth_base.specs.declared.service.Service.{Service}
use Rattle.asm_lines.specs.declared.forms.Mnemonic.{Mnemonic}
use Rattle.asm_lines.specs.declared.forms.Mnemonic.TheVariants as m
use Rattle.asm_lines.specs.declared.forms.Form.{Form}
use Rattle.asm_lines.specs.declared.forms.Form.TheVariants as form

-- so many operands name the object of a service
abbrev pub object_operands : ObjectKind → ℕ
object_operands object.Nothing = 0
object_operands object.Task = 1
object_operands object.Resource = 1
object_operands object.Alarm = 1

-- a service takes so many operands: those of its object, and where it has a mask one or more events behind them
abbrev pub service_takes : Service → ℕ → Bool
service_takes s n = if has_mask s then nat_le (object_operands (object_kind s) + 1) n else n == object_operands (object_kind s)

-- a statement may have n operands
abbrev pub is_operand_count : Mnemonic → ℕ → Bool
is_operand_count m.Data n = (n == 2) || (n == 3)
is_operand_count m.Task n = (n == 1) || (n == 2)
is_operand_count m.Func n = (n == 1) || (n == 2)
is_operand_count m.End n = n == 0
is_operand_count m.Label n = nat_le 1 n
is_operand_count (m.Alu k) n = n == 3
is_operand_count (m.Imm k) n = n == 3
is_operand_count (m.Shift k) n = n == 3
is_operand_count m.Lui n = n == 2
is_operand_count m.Li n = n == 2
is_operand_count m.Move n = n == 2
is_operand_count m.Nop n = n == 0
is_operand_count (m.Load w) n = n == 2
is_operand_count (m.Store w) n = n == 2
is_operand_count (m.Branch k) n = n == 3
is_operand_count m.Jump n = n == 1
is_operand_count m.Invoke n = n == 1
is_operand_count m.Return n = n == 0
is_operand_count (m.Serve s) n = service_takes s n

-- only words stand in the frame
abbrev pub place_form : Width → Form
place_form width.Word = form.WordPlace
place_form _ = form.Place

-- the form of the operand at place i, from 0
abbrev pub form_of : Mnemonic → ℕ → Form
form_of m.Data i = if i == 1 then form.Number (pos 1) (pos operand_limit) else if i == 2 then form.Bytes else form.Name
form_of m.Task i = if nat_lt 0 i then form.Number (pos 0) (pos operand_limit) else form.Name
form_of m.Func i = if nat_lt 0 i then form.Number (pos 0) (pos operand_limit) else form.Name
form_of (m.Alu k) i = form.Register
form_of m.Move i = form.Register
form_of (m.Imm k) i = if nat_lt i 2 then form.Register else form.Number (negsuc 2047) (pos 2047)
form_of (m.Shift k) i = if nat_lt i 2 then form.Register else form.Number (pos 0) (pos 31)
form_of m.Lui i = if i == 0 then form.Register else form.Number (pos 0) (pos 1048575)
form_of m.Li i = if i == 0 then form.Register else form.Number (negsuc 2147483647) (pos 4294967295)
form_of (m.Load w) i = if i == 0 then form.Register else place_form w
form_of (m.Store w) i = if i == 0 then form.Register else place_form w
form_of (m.Branch k) i = if nat_lt i 2 then form.Register else form.Name
form_of _ i = form.Name

-- the statement stands outside bodies
abbrev pub is_outer : Mnemonic → Bool
is_outer m.Data = true
is_outer m.Task = true
is_outer m.Func = true
is_outer _ = false

-- a mnemonic that opens a body
abbrev pub is_body_start : Mnemonic → Bool
is_body_start m.Task = true
is_body_start m.Func = true
is_body_start _ = false

-- a mnemonic that closes a body
abbrev pub is_body_end : Mnemonic → Bool
is_body_end m.End = true
is_body_end _ = false
