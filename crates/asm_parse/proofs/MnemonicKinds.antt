-- The widths and kinds that the mnemonics of a text have.
use Rattle.std.specs.Prelude.{ℤ}
use Rattle.asm_lines.specs.declared.forms.Mnemonic.{Mnemonic}
use Rattle.asm_lines.specs.declared.forms.Mnemonic.TheVariants as m
use Rattle.code_rules.specs.AppRange.{IsShort, IsAmount, IsNumberOf, IsStored}

-- a mnemonic with a width or kind of its group
abbrev pub HasKind : Mnemonic → Type 0
HasKind (m.Store w) = IsStored w
HasKind (m.Imm k) = (n : ℤ) → IsShort n → IsNumberOf k n
HasKind (m.Shift k) = (n : ℤ) → IsAmount n → IsNumberOf k n
HasKind _ = Unit {0}
