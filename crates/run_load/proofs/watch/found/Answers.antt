use Rattle.run_load.proofs.Watching.{counted}
use Rattle.run_load.proofs.watch.found.Goals as goal

pub found_state-requires-clause-count : goal.found_state-requires-clause-count
found_state-requires-clause-count c = counted _ _ _ _ _ c.config.ensures.is c.store.ensures c.config.ensures.sound
