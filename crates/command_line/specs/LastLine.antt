-- The lines that are printed of a command as a whole.
use Rattle.std.specs.Prelude.{ℕ, List, ◌++◌, codes, decimal}
use Rattle.sloth_base.specs.declared.refusal.Part.{Part}
use Rattle.sloth_base.specs.declared.refusal.Part.TheVariants as part
use Rattle.sloth_base.specs.declared.refusal.Code.{Code}
use Rattle.sloth_base.specs.declared.refusal.Code.TheVariants as code
use Rattle.sloth_base.specs.declared.refusal.Refusal.{Refusal}
use Rattle.image_file.specs.declared.read.ImageFault.{ImageFault}
use Rattle.image_file.specs.declared.read.ImageFault.TheVariants as fault

-- the name of a text in a refusal
abbrev pub part_text : Part → List ℕ
part_text part.Oil = codes "oil"
part_text part.Src = codes "src"
part_text part.Arr = codes "arr"
part_text part.Load = codes "load"

-- the letters of a refusal's code
unfoldable pub code_text : Code → List ℕ
code_text code.O1 = codes "O1"
code_text code.O2 = codes "O2"
code_text code.O3 = codes "O3"
code_text code.O4 = codes "O4"
code_text code.O5 = codes "O5"
code_text code.O6 = codes "O6"
code_text code.O7 = codes "O7"
code_text code.O8 = codes "O8"
code_text code.O9 = codes "O9"
code_text code.O10 = codes "O10"
code_text code.O11 = codes "O11"
code_text code.O12 = codes "O12"
code_text code.O13 = codes "O13"
code_text code.O14 = codes "O14"
code_text code.O15 = codes "O15"
code_text code.A1 = codes "A1"
code_text code.A2 = codes "A2"
code_text code.A3 = codes "A3"
code_text code.A4 = codes "A4"
code_text code.A5 = codes "A5"
code_text code.A6 = codes "A6"
code_text code.A7 = codes "A7"
code_text code.V1 = codes "V1"
code_text code.V2 = codes "V2"
code_text code.V3 = codes "V3"
code_text code.V4 = codes "V4"
code_text code.V5 = codes "V5"
code_text code.V6 = codes "V6"
code_text code.V7 = codes "V7"
code_text code.V8 = codes "V8"
code_text code.V9 = codes "V9"
code_text code.V10 = codes "V10"
code_text code.V11 = codes "V11"
code_text code.V12 = codes "V12"
code_text code.T1 = codes "T1"
code_text code.T2 = codes "T2"
code_text code.T3 = codes "T3"
code_text code.T4 = codes "T4"
code_text code.L1 = codes "L1"
code_text code.L2 = codes "L2"
code_text code.L3 = codes "L3"
code_text code.L4 = codes "L4"

-- `refused`, the text that is at fault, the line and the rule
abbrev pub refusal_line : Refusal → List ℕ
refusal_line refusal = codes "refused " ++ part_text refusal.part ++ codes " " ++ decimal refusal.line ++ codes " " ++ code_text refusal.code ++ codes "\n"

-- `built` and the length of the image's file, in bytes
abbrev pub built_line : ℕ → List ℕ
built_line length = codes "built " ++ decimal length ++ codes "\n"

-- the letters of a fault of an image file
abbrev pub fault_text : ImageFault → List ℕ
fault_text fault.I1 = codes "I1"
fault_text fault.I2 = codes "I2"
fault_text fault.I3 = codes "I3"
fault_text fault.I4 = codes "I4"
fault_text fault.I5 = codes "I5"

-- `not an image`, and the file's first fault
abbrev pub no_image_line : ImageFault → List ℕ
no_image_line fault = codes "not an image " ++ fault_text fault ++ codes "\n"
