-- Which answer a tool has to the files that it reads: a row for each tool.
use Rattle.std.specs.Prelude.{ℕ, ◌≡◌, List, [], Option, Bool, true, false, IsTrue, get_or}
use Rattle.command_line.specs.Tools.{number_of, window_of}
use Rattle.command_line.specs.declared.counts.Counts.{Counts}
use Rattle.command_line.specs.declared.tool.Tool.{Tool}
use Rattle.command_line.specs.declared.tool.Tool.TheVariants as tool
use Rattle.tool_commands.specs.BoundsAnswers.{IsBoundsAnswer, IsLatencyAnswer, IsLowerCountsAnswer}
use Rattle.trace_check.specs.CheckAnswers.{IsCheckAnswer}
use Rattle.tool_commands.specs.ElfAnswers.{IsElfAnswer, IsUnelfAnswer}
use Rattle.tool_commands.specs.InferAnswers.{IsInferAnswer}
use Rattle.tool_commands.specs.AtAllAnswers.{IsAtAllAnswer}
use Rattle.tool_commands.specs.AtAnswers.{IsAtAnswer}
use Rattle.tool_commands.specs.LossesAnswers.{IsLossesAnswer}
use Rattle.tool_commands.specs.MapAnswers.{IsMapAnswer}
use Rattle.tool_commands.specs.SharesAnswers.{IsSharesAnswer}
use Rattle.tool_commands.specs.WhyAnswers.{IsWhyAnswer, IsTaskBoundAnswer}
use Rattle.tool_commands.specs.LabelsAnswers.{IsLabelsAnswer}
use Rattle.tool_commands.specs.TraceReasons.{IsTraceReasonAnswer}
use Rattle.tool_commands.specs.UnusedAnswers.{IsUnusedAnswer}
use Rattle.tool_commands.specs.ResponseAnswers.{IsResponseAnswer, IsTaskResponseAnswer, IsRunResponseAnswer}
use Rattle.tool_commands.specs.OrtiAnswers.{IsOrtiAnswer}
use Rattle.tool_commands.specs.PictureAnswers.{IsPictureAnswer}
use Rattle.tool_commands.specs.SymbolsAnswers.{IsSymbolsAnswer}
use Rattle.tool_commands.specs.WaveAnswers.{IsWaveAnswer}
use Rattle.command_line.specs.declared.answer.ToolAnswer.{ToolAnswer}

-- the bytes of a file, or a name, by its place in the order of the words
abbrev pub input : List (List ℕ) → ℕ → List ℕ
input inputs k = get_or inputs k []

-- the answer of a tool with these counts, if it takes any, and these names to files of these bytes
abbrev pub IsAnswer : Tool → Option Counts → (names inputs : List (List ℕ)) → ToolAnswer → Type 0
IsAnswer tool.Elf counts names inputs answer = IsElfAnswer (input inputs 0) answer
IsAnswer tool.Unelf counts names inputs answer = IsUnelfAnswer (input inputs 0) answer
IsAnswer tool.Infer counts names inputs answer = IsInferAnswer (input inputs 0) (input inputs 1) answer
IsAnswer tool.At counts names inputs answer = IsAtAnswer (input inputs 0) (input inputs 1) (number_of counts) answer
IsAnswer tool.AtAll counts names inputs answer = IsAtAllAnswer (input inputs 0) (input inputs 1) (number_of counts) answer
IsAnswer tool.Losses counts names inputs answer =
    IsLossesAnswer (input inputs 0) (input inputs 1) (input inputs 2) (number_of counts) answer
IsAnswer tool.Wave counts names inputs answer = IsWaveAnswer (input inputs 0) (input inputs 1) (number_of counts) answer
IsAnswer tool.Picture counts names inputs answer = IsPictureAnswer (input inputs 0) (input inputs 1) (window_of counts) answer
IsAnswer tool.Check counts names inputs answer =
    IsCheckAnswer (input inputs 0) (input inputs 1) (input inputs 2) (input inputs 3) (number_of counts) answer
IsAnswer tool.Bounds counts names inputs answer = IsBoundsAnswer (input inputs 0) (input inputs 1) answer
IsAnswer tool.Latency counts names inputs answer = IsLatencyAnswer (input inputs 0) (input inputs 1) answer
IsAnswer tool.LowerCounts counts names inputs answer = IsLowerCountsAnswer (input inputs 0) (input inputs 1) answer
IsAnswer tool.Map counts names inputs answer = IsMapAnswer (input inputs 0) (input inputs 1) answer
IsAnswer tool.Shares counts names inputs answer = IsSharesAnswer (input inputs 0) (input inputs 1) answer
IsAnswer tool.Response counts names inputs answer = IsResponseAnswer (input inputs 0) (input inputs 1) (input inputs 2) answer
IsAnswer tool.Why counts names inputs answer = IsWhyAnswer (input inputs 0) (input inputs 1) answer
IsAnswer tool.TaskBound counts names inputs answer = IsTaskBoundAnswer (input inputs 0) (input inputs 1) (input names 2) answer
IsAnswer tool.TaskResponse counts names inputs answer =
    IsTaskResponseAnswer (input inputs 0) (input inputs 1) (input inputs 2) (input names 3) answer
IsAnswer tool.Symbols counts names inputs answer = IsSymbolsAnswer (input inputs 0) (input inputs 1) (input names 1) answer
IsAnswer tool.Orti counts names inputs answer = IsOrtiAnswer (input inputs 0) (input inputs 1) answer
IsAnswer tool.Labels counts names inputs answer = IsLabelsAnswer (input inputs 0) (input inputs 1) answer
IsAnswer tool.TraceReason counts names inputs answer =
    IsTraceReasonAnswer (input inputs 0) (input inputs 1) (input inputs 2) (input inputs 3) (number_of counts) answer
IsAnswer tool.Unused counts names inputs answer = IsUnusedAnswer (input inputs 0) (input inputs 1) answer
IsAnswer tool.RunResponse counts names inputs answer =
    IsRunResponseAnswer (input inputs 0) (input inputs 1) (input inputs 2) (input inputs 3) (number_of counts) answer

-- Its answer is determined by what it reads. Of those that are not, the text is: a reason, of several that are true, of a refusal (`why`), of lists at labels
-- and of a text of events; a walk, of several of the greatest time, of a blocking time; the file of `symbols`, the text of `losses` and the run of `response`, by the
-- image too.
abbrev pub is_determined : Tool → Bool
is_determined tool.Elf = true
is_determined tool.Unelf = true
is_determined tool.Infer = true
is_determined tool.At = true
is_determined tool.AtAll = true
is_determined tool.Losses = false
is_determined tool.Wave = true
is_determined tool.Picture = true
is_determined tool.Check = true
is_determined tool.Bounds = true
is_determined tool.Latency = true
is_determined tool.LowerCounts = true
is_determined tool.Map = true
is_determined tool.Shares = true
is_determined tool.Response = true
is_determined tool.Why = false
is_determined tool.TaskBound = false
is_determined tool.TaskResponse = true
is_determined tool.Symbols = false
is_determined tool.Orti = true
is_determined tool.Labels = false
is_determined tool.TraceReason = false
is_determined tool.Unused = true
is_determined tool.RunResponse = false

-- files have one answer of such a tool
abbrev pub OneAnswer : Type 0
OneAnswer =
    (t : Tool) (counts : Option Counts) (names inputs : List (List ℕ)) (one other : ToolAnswer) → IsTrue (is_determined t)
    → IsAnswer t counts names inputs one → IsAnswer t counts names inputs other → one ≡ other
