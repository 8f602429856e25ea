-- Formulas: expressions of C without calls and assignments, which a debugger evaluates over what the machine holds.
use Rattle.std.specs.Prelude.{ℕ, ◌-◌, ◌==◌, cond, List, ◌++◌, codes, decimal}
use Rattle.sloth_base.specs.Lines.{controller_byte}
use Rattle.sloth_base.specs.MemoryMap.{controller_base, memory_base}
use Rattle.rv32_instr.specs.Memory.{Memory}
use Rattle.rv32_instr.specs.Ram.{word_at}
use Rattle.trace_text.specs.MarkWords.{word_text}

-- a number in decimal or in hexadecimal digits, the word or the byte at an address, whether two formulas are equal, and one of two formulas by a third
pub data Formula : Type 0 where
  Number : ℕ → Formula
  Hex : ℕ → Formula
  Word : (address : ℕ) → Formula
  Byte : (address : ℕ) → Formula
  Equal : Formula → Formula → Formula
  Choice : (test then otherwise : Formula) → Formula

-- The value that C gives. All values are from 0 to 4294967295, and C compares `unsigned int`, `unsigned char` and such constants by their numbers.
abbrev pub value : Memory → Formula → ℕ
value m (Number n) = n
value m (Hex n) = n
value m (Word address) = word_at m.ram (address - memory_base)
value m (Byte address) = controller_byte m.lines (address - controller_base)
value m (Equal f g) = cond (value m f == value m g) 1 0
value m (Choice f g h) = cond (value m f == 0) (value m h) (value m g)

-- brackets around a text
abbrev pub in_brackets : List ℕ → List ℕ
in_brackets text = codes "(" ++ text ++ codes ")"

-- what stands for a formula as an operand, whose text is this: brackets stand around `==` and `?:`
abbrev pub operand : Formula → List ℕ → List ℕ
operand (Equal f g) text = in_brackets text
operand (Choice f g h) text = in_brackets text
operand _ text = text

-- a number of 32 bits in hexadecimal digits
abbrev pub hex_text : ℕ → List ℕ
hex_text n = codes "0x" ++ word_text n

-- the text of a formula
abbrev pub text : Formula → List ℕ
text (Number n) = decimal n
text (Hex n) = hex_text n
text (Word address) = codes "*(unsigned int *)" ++ hex_text address
text (Byte address) = codes "*(unsigned char *)" ++ hex_text address
text (Equal f g) = operand f (text f) ++ codes " == " ++ operand g (text g)
text (Choice f g h) = operand f (text f) ++ codes " ? " ++ operand g (text g) ++ codes " : " ++ operand h (text h)
