-- Operands by their forms.
use Rattle.std.specs.Prelude.{ℕ, ℤ, pos, negsuc, ◌-◌, ◌==◌, Bool, true, false, ◌&&◌, nat_le, if◌then◌else◌, List, slice_index, take, length, codes, Option, Some, None, Result, Ok, Err}
use Rattle.std.specs.Str.{bytes_eq}
use Rattle.hex.specs.declared.error.FromHexError.{FromHexError}
use Rattle.hex.specs.Hex.{decode_of}
use Rattle.sloth_base.specs.Limits.{operand_limit}
use Rattle.asm_lines.specs.declared.operands.Operand.{Operand}
use Rattle.asm_lines.specs.declared.operands.Operand.TheVariants.{Wrong, Outside, Register, Number, Name, Frame, Direct, Indexed, Bytes}
use Rattle.asm_lines.specs.declared.operands.Small.{Small}
use Rattle.asm_lines.specs.declared.operands.Small.TheVariants.{NoNumber, TooFar, Is}
use Rattle.asm_lines.specs.declared.forms.Form.{Form}
use Rattle.asm_lines.specs.declared.forms.Form.TheVariants as form
use Rattle.text_pieces.specs.Bytes.{is_name, is_byte_of, before, behind}
use Rattle.asm_lines.specs.Bytes.{trim}
use Rattle.asm_lines.specs.Numbers.{number, is_within}
use Rattle.asm_lines.specs.Registers.{register}

-- a number from 0 to the limit of operands
abbrev pub small_of : Option ℤ → Small
small_of None = NoNumber
small_of (Some (pos n)) = if nat_le n operand_limit then Is n else TooFar
small_of (Some (negsuc n)) = TooFar

-- the operand of a register's number
abbrev pub register_operand : Option ℕ → Operand
register_operand None = Wrong
register_operand (Some r) = Register r

-- the operand of a number from low to high
abbrev pub number_operand : ℤ → ℤ → Option ℤ → Operand
number_operand low high None = Wrong
number_operand low high (Some n) = if is_within low high n then Number n else Outside

-- the operand of a name
abbrev pub name_operand : List ℕ → Operand
name_operand t = if is_name t then Name t else Wrong

-- the operand of a word of the frame
abbrev pub frame_operand : Small → Operand
frame_operand NoNumber = Wrong
frame_operand TooFar = Outside
frame_operand (Is k) = Frame k

-- the operand of a symbol with an offset
abbrev pub direct_operand_at : List ℕ → Small → Operand
direct_operand_at name NoNumber = Wrong
direct_operand_at name TooFar = Outside
direct_operand_at name (Is k) = Direct name k

-- `NAME`, `NAME+k`
abbrev pub direct_operand : List ℕ → Small → Operand
direct_operand name k = if is_name name then direct_operand_at name k else Wrong

-- the operand of a symbol with an index and its mask
abbrev pub indexed_operand_at : List ℕ → Option ℕ → Small → Operand
indexed_operand_at name None k = Wrong
indexed_operand_at name (Some r) NoNumber = Wrong
indexed_operand_at name (Some r) TooFar = Outside
indexed_operand_at name (Some r) (Is m) = Indexed name r m

-- `NAME[reg & m]`
abbrev pub indexed_operand : List ℕ → Option ℕ → Small → Operand
indexed_operand name index mask = if is_name name then indexed_operand_at name index mask else Wrong

-- a name, and what stands in its brackets: `reg & m`, or for the frame a number
unfoldable pub in_brackets : Bool → List ℕ → List ℕ → Operand
in_brackets in_frame name t =
    if is_byte_of 38 t then indexed_operand name (register (trim (before 38 t))) (small_of (number (trim (behind 38 t))))
    else if in_frame && bytes_eq name (codes "frame") then frame_operand (small_of (number t))
    else Wrong

-- a name, and what stands behind its `[`; a `]` ends it
unfoldable pub bracketed_operand : Bool → List ℕ → List ℕ → Operand
bracketed_operand in_frame name t = if slice_index t (length t - 1) == 93 then in_brackets in_frame name (trim (take (length t - 1) t)) else Wrong

-- a place in a symbol, or in the frame
unfoldable pub place : Bool → List ℕ → Operand
place in_frame t =
    if is_byte_of 91 t then bracketed_operand in_frame (before 91 t) (behind 91 t)
    else if is_byte_of 43 t then direct_operand (trim (before 43 t)) (small_of (number (trim (behind 43 t))))
    else direct_operand t (Is 0)

-- pairs of hexadecimal digits
abbrev pub bytes_operand : Result (List ℕ) FromHexError → Operand
bytes_operand (Ok bytes) = Bytes bytes
bytes_operand (Err e) = Wrong

-- the operand that a text is, where one of this form is wanted
abbrev pub read_operand : Form → List ℕ → Operand
read_operand form.Register t = register_operand (register t)
read_operand (form.Number low high) t = number_operand low high (number t)
read_operand form.Name t = name_operand t
read_operand form.Place t = place false t
read_operand form.WordPlace t = place true t
read_operand form.Bytes t = bytes_operand (decode_of t)
