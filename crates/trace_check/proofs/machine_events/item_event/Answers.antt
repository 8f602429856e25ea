use Rattle.osek_machine.proofs.Rooms.{reads}
use Rattle.trace_check.proofs.Items.{sound_at}
use Rattle.trace_check.proofs.machine_events.item_event.Goals as goal

pub own_run-requires-clause-read : goal.own_run-requires-clause-read
own_run-requires-clause-read c = reads (sound_at _ _ _ _ _ _ c.config.ensures.is c.app.ensures c.store.ensures c.config.ensures.sound)
