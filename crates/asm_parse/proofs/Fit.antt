-- What an operand says that was read in a form.
use Rattle.std.specs.Prelude.{◌≡◌, ◌≤◌, ℕ, ◌+◌, true, List, [], ◌∷◌}
use Rattle.sloth_base.specs.ImageRange.{IsWord}
use Rattle.sloth_base.specs.Limits.{operand_limit}
use Rattle.asm_lines.specs.declared.operands.Operand.{Operand}
use Rattle.asm_lines.specs.declared.operands.Operand.TheVariants.{Register, Number, Name, Frame, Direct, Indexed, Bytes}
use Rattle.asm_lines.specs.declared.forms.Form.{Form}
use Rattle.asm_lines.specs.declared.forms.Form.TheVariants as form
use Rattle.asm_lines.specs.declared.forms.Mnemonic.{Mnemonic}
use Rattle.asm_lines.specs.Numbers.{is_within}
use Rattle.asm_lines.specs.Forms.{form_of}
use Rattle.code_rules.specs.AppRange.{IsRegister}

-- a place in a symbol
abbrev pub FitsPlace : Operand → Type 0
FitsPlace (Direct name k) = IsWord name × (k ≤ operand_limit)
FitsPlace (Indexed name r k) = IsWord name × IsRegister r × (k ≤ operand_limit)
FitsPlace _ = ⊥

-- a place in a symbol or in the frame
abbrev pub FitsWord : Operand → Type 0
FitsWord (Frame k) = k ≤ operand_limit
FitsWord o = FitsPlace o

-- a register
abbrev pub FitsRegister : Operand → Type 0
FitsRegister (Register r) = IsRegister r
FitsRegister _ = ⊥

-- a name
abbrev pub FitsName : Operand → Type 0
FitsName (Name name) = IsWord name
FitsName _ = ⊥

-- bytes
abbrev pub FitsBytes : Operand → Type 0
FitsBytes (Bytes bytes) = Unit {0}
FitsBytes _ = ⊥

-- an operand of this form
abbrev pub FitsForm : Form → Operand → Type 0
FitsForm form.Register o = FitsRegister o
FitsForm (form.Number low high) (Number n) = is_within low high n ≡ true
FitsForm (form.Number low high) _ = ⊥
FitsForm form.Name o = FitsName o
FitsForm form.Place o = FitsPlace o
FitsForm form.WordPlace o = FitsWord o
FitsForm form.Bytes o = FitsBytes o

-- the operands of a statement, from place i on, fit their forms
abbrev pub AllFit : Mnemonic → ℕ → List Operand → Type 0
AllFit m i [] = Unit {0}
AllFit m i (o ∷ os) = FitsForm (form_of m i) o × AllFit m (i + 1) os
