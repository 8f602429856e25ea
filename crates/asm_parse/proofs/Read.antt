-- What a line says that was read without a fault.
use Rattle.std.specs.Prelude.{◌≡◌, true, false, length}
use Rattle.asm_lines.specs.declared.source_line.SourceLine.{SourceLine}
use Rattle.asm_lines.specs.declared.source_line.SourceLine.TheVariants.{Statement}
use Rattle.asm_lines.specs.Forms.{is_operand_count}
use Rattle.asm_lines.specs.Faults.{is_long}
use Rattle.asm_parse.proofs.Fit.{AllFit}
use Rattle.asm_parse.proofs.MnemonicKinds.{HasKind}

-- A statement has as many operands as it takes, each in its form, and no more bytes than its number says.
abbrev pub IsRead : SourceLine → Type 0
IsRead (Statement m os) = (is_operand_count m (length os) ≡ true) × AllFit m 0 os × HasKind m × (is_long os ≡ false)
IsRead _ = Unit {0}
