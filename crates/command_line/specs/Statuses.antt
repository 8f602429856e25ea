-- The statuses of answers, and the exit status of the process.
use Rattle.std.specs.Prelude.{ℕ}
use Rattle.command_line.specs.declared.answer.ToolAnswer.{ToolAnswer}
use Rattle.command_line.specs.declared.answer.ToolAnswer.TheVariants as tool_answer
use Rattle.command_line.specs.declared.answer.Explanation.{Explanation}
use Rattle.command_line.specs.declared.answer.Explanation.TheVariants as explanation
use Rattle.command_line.specs.declared.answer.Status.{Status}
use Rattle.command_line.specs.declared.answer.Status.TheVariants as status

-- the exit status of a command that ended with an explanation
abbrev pub explained_status : Explanation → ℕ
explained_status explanation.Refusal = 2
explained_status explanation.NoHolds = 11
explained_status explanation.BadTrace = 10

-- the exit status of a command that ended so
abbrev pub exit_status : Status → ℕ
exit_status status.Done = 0
exit_status status.Usage = 1
exit_status status.Refused = 2
exit_status status.ReadFault = 3
exit_status status.WriteFault = 4
exit_status status.NoMemory = 5
exit_status status.TooLong = 6
exit_status status.Stopped = 7
exit_status status.NotAnImage = 8
exit_status status.NotAnElf = 9
exit_status status.BadTrace = 10
exit_status status.NoHolds = 11
exit_status status.Unmet = 12
exit_status (status.Explained kind) = explained_status kind

-- the status of an answer
abbrev pub tool_status : ToolAnswer → Status
tool_status (tool_answer.Done outcome) = status.Done
tool_status (tool_answer.Refused refusal) = status.Refused
tool_status (tool_answer.Stopped pc stop) = status.Stopped
tool_status (tool_answer.NotAnImage fault) = status.NotAnImage
tool_status (tool_answer.NotAnElf fault) = status.NotAnElf
tool_status (tool_answer.BadTrace fault) = status.BadTrace
tool_status tool_answer.NoHolds = status.NoHolds
tool_status (tool_answer.Unmet lines) = status.Unmet
tool_status (tool_answer.Explained kind text) = status.Explained kind
tool_status tool_answer.NoTask = status.Usage
