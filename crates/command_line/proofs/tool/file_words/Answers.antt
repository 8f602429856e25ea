use Rattle.command_line.specs.Tools.{file_count}
use Rattle.command_line.proofs.ToolWords.{first-names}
use Rattle.command_line.proofs.tool.file_words.Goals as goal

pub returns : goal.returns
returns c =
    first-names c.args.words.now.inputs.now c.first_words.result.now c.file_count.result (file_count c.args.words.now.tool) c.file_count.ensures c.first_words.ensures
