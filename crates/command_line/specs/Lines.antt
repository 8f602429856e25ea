-- The texts of answers.
use Rattle.std.specs.Prelude.{ℕ, List, ◌++◌, codes, decimal}
use Rattle.image_file.specs.declared.read.ElfFault.{ElfFault}
use Rattle.image_file.specs.declared.read.ElfFault.TheVariants as fault
use Rattle.command_line.specs.LastLine.{refusal_line, no_image_line}
use Rattle.trace_text.specs.StopLine.{stopped_line}
use Rattle.command_line.specs.declared.answer.ToolAnswer.{ToolAnswer}
use Rattle.command_line.specs.declared.answer.ToolAnswer.TheVariants as answer
use Rattle.command_line.specs.declared.answer.TraceFault.{TraceFault}
use Rattle.command_line.specs.declared.answer.TraceFault.TheVariants as trace

-- the letters of a fault of an ELF file
abbrev pub elf_fault_text : ElfFault → List ℕ
elf_fault_text fault.E1 = codes "E1"
elf_fault_text fault.E2 = codes "E2"
elf_fault_text fault.E3 = codes "E3"
elf_fault_text fault.E4 = codes "E4"
elf_fault_text fault.E5 = codes "E5"
elf_fault_text fault.E6 = codes "E6"
elf_fault_text fault.E7 = codes "E7"
elf_fault_text fault.E8 = codes "E8"

-- `not an elf`, and the file's first fault
abbrev pub no_elf_line : ElfFault → List ℕ
no_elf_line fault = codes "not an elf " ++ elf_fault_text fault ++ codes "\n"

-- `no`, and the line that is no event line, or with which the events are those of no run, or that the arrivals do not stand in time
abbrev pub bad_trace_line : TraceFault → List ℕ
bad_trace_line (trace.Line k) = codes "no " ++ decimal k ++ codes " line\n"
bad_trace_line (trace.Step k) = codes "no " ++ decimal k ++ codes " step\n"
bad_trace_line trace.Time = codes "no " ++ codes "time\n"

-- the text of an answer
abbrev pub tool_text : ToolAnswer → List ℕ
tool_text (answer.Done outcome) = outcome.text
tool_text (answer.Refused refusal) = refusal_line refusal
tool_text (answer.Stopped pc stop) = stopped_line pc stop
tool_text (answer.NotAnImage fault) = no_image_line fault
tool_text (answer.NotAnElf fault) = no_elf_line fault
tool_text (answer.BadTrace fault) = bad_trace_line fault
tool_text answer.NoHolds = codes "no holds\n"
tool_text (answer.Unmet lines) = lines
tool_text (answer.Explained kind text) = text
tool_text answer.NoTask = codes "usage\n"
