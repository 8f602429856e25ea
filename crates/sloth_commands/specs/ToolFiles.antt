-- What tools answer to the files that they read.
use Rattle.std.specs.Prelude.{ℕ, ◌≡◌, List}
use Rattle.sloth_io.specs.Store.{Files}
use Rattle.command_line.specs.Tools.{ToolUse, file_names}
use Rattle.tool_commands.specs.Answers.{IsAnswer}
use Rattle.command_line.specs.declared.answer.ToolAnswer.{ToolAnswer}
use Rattle.core_commands.specs.ToolInputs.{AreToolInputs, input_deliveries}

-- the tool reads these files, and this is its answer to them
pub record IsToolAnswer (files : Files) (u : ToolUse) (answer : ToolAnswer) : Type 0 where
  pub inputs : List (List ℕ)
  pub read : AreToolInputs files (file_names u) inputs
  -- and exactly they were read, in this order
  pub delivered : files.reads ≡ input_deliveries (file_names u) inputs
  pub is : IsAnswer u.tool u.counts u.inputs inputs answer
