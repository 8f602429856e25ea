-- The line of a run that stopped.
use Rattle.std.specs.Prelude.{ℕ, List, ◌++◌, codes}
use Rattle.rv32_instr.specs.declared.encoding.Stop.{Stop}
use Rattle.rv32_instr.specs.declared.encoding.Stop.TheVariants as stop
use Rattle.trace_text.specs.MarkWords.{word_text}

-- why the machine stopped
abbrev pub cause_text : Stop → List ℕ
cause_text (stop.Fetch pc) = codes "fetch"
cause_text (stop.Illegal word) = codes "illegal " ++ word_text word
cause_text (stop.Access address) = codes "access " ++ word_text address
cause_text (stop.Misaligned address) = codes "misaligned " ++ word_text address
cause_text stop.Environment = codes "environment"

-- `stopped`, the address of the instruction and the cause
abbrev pub stopped_line : ℕ → Stop → List ℕ
stopped_line pc stop = codes "stopped " ++ word_text pc ++ codes " " ++ cause_text stop ++ codes "\n"
