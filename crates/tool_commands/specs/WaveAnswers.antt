-- The answers of `wave`.
use Rattle.std.specs.Prelude.{ℕ, List}
use Rattle.wave_text.specs.Waves.{AreWavesOf}
use Rattle.tool_commands.specs.RunAnswers.{IsRunAnswer}
use Rattle.command_line.specs.declared.answer.ToolAnswer.{ToolAnswer}

-- the waves of the run of n instructions, or where and why it stops; or what is wrong with the files
abbrev pub IsWaveAnswer : (img arr : List ℕ) (n : ℕ) → ToolAnswer → Type 0
IsWaveAnswer img arr n answer = IsRunAnswer (λ image arrivals file. AreWavesOf image arrivals n file) img arr n answer
