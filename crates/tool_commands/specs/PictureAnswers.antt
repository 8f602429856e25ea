-- The answers of `picture`.
use Rattle.std.specs.Prelude.{ℕ, List}
use Rattle.command_line.specs.declared.counts.Window.{Window}
use Rattle.schedule_picture.specs.Picture.{IsPictureOf}
use Rattle.tool_commands.specs.RunAnswers.{IsRunAnswer}
use Rattle.command_line.specs.declared.answer.ToolAnswer.{ToolAnswer}

-- the picture of the run's part, or where and why the run stops in front of its last count; or what is wrong with the files
abbrev pub IsPictureAnswer : (img arr : List ℕ) → Window → ToolAnswer → Type 0
IsPictureAnswer img arr w answer = IsRunAnswer (λ image arrivals file. IsPictureOf image arrivals w.from w.to file) img arr w.to answer
