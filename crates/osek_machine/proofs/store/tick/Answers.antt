use Rattle.std.proofs.Common.{◌∙◌}
use Rattle.osek_machine.proofs.Ticked.{ticked-same}
use Rattle.osek_machine.proofs.store.tick.Goals as goal

pub returns : goal.returns
returns c = c.count_tick.ensures ∙ ticked-same c.args.config.now c.args.c c.args.store.now c.requires.tasks c.requires.clocked.actions
