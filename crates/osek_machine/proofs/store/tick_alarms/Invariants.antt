use Rattle.std.proofs.Common.{◌≡◌, length, drop}
use Rattle.osek_machine.specs.Ticks.{alarms_ticked_system}
use Rattle.osek_machine.proofs.store.tick_alarms.Given as goal

abbrev pub invariant-loop-a : goal.invariant-loop-a
invariant-loop-a l = record {
  rest : alarms_ticked_system l.c l.a (drop l.a l.config.alarms) l.store ≡ alarms_ticked_system l.c 0 l.config.alarms l.initial.store;
  tasks : length l.store.tasks ≡ length l.config.tasks;
  alarms : length l.store.clock.alarms ≡ length l.config.alarms;
}
