use Rattle.symbol_build.proofs.SourceFiles.{files_say_source}
use Rattle.symbol_build.proofs.laws.files_say_source.Goals as goal

pub returns : goal.returns
returns c = files_say_source
