use Rattle.symbol_build.proofs.Built.{built_may_show, built_memory_is_loaded}
use Rattle.symbol_build.proofs.laws.built_memory_is_loaded.Goals as goal

pub returns-clause-may : goal.returns-clause-may
returns-clause-may c = built_may_show

pub returns-clause-loaded : goal.returns-clause-loaded
returns-clause-loaded c = built_memory_is_loaded
