use Rattle.symbol_image.proofs.Loads.{loaded_once, memory_is_loaded, nothing_else}
use Rattle.symbol_image.proofs.laws.memory_is_loaded_once.Goals as goal

pub returns-clause-loaded : goal.returns-clause-loaded
returns-clause-loaded c = memory_is_loaded

pub returns-clause-once : goal.returns-clause-once
returns-clause-once c = loaded_once

pub returns-clause-no_more : goal.returns-clause-no_more
returns-clause-no_more c = nothing_else
