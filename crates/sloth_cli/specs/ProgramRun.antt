-- What the program did with any words.
use Rattle.std.specs.Prelude.{◌⊎◌, ℕ, List}
use Rattle.debug_command.specs.DebugRun.{HasDebugRun}
use Rattle.debug_command.specs.Words.{Debugging, IsDebugging}
use Rattle.core_commands.specs.ProgramRun.{HasTopRun}
use Rattle.sloth_commands.specs.ToolFiles.{IsToolAnswer}
use Rattle.command_line.specs.declared.answer.Status.{Status}

-- the words `debug IMG ARR` had a session; all others the top call's answer
abbrev pub HasProgramRun : List (List ℕ) → Status → Type 0
HasProgramRun words answer =
    ((d : Debugging) × IsDebugging words d × HasDebugRun d answer) ⊎ (((d : Debugging) → IsDebugging words d → ⊥) × HasTopRun IsToolAnswer words answer)
