use Rattle.std.proofs.Common.{◌≡◌}
use Rattle.osek_machine.proofs.Started.{started}
use Rattle.osek_machine.proofs.store.autostart.Given as goal

abbrev pub invariant-loop-t : goal.invariant-loop-t
invariant-loop-t l = l.tasks ≡ started l.t l.config.tasks l.initial.tasks
