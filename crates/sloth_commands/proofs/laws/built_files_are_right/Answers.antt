use Rattle.sloth_commands.proofs.BuiltFormulas.{built-files-are-right}
use Rattle.sloth_commands.proofs.laws.built_files_are_right.Goals as goal

pub returns : goal.returns
returns c = built-files-are-right
