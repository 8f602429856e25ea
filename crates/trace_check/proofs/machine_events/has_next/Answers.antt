use Rattle.osek_machine.proofs.Rooms.{reads}
use Rattle.trace_check.proofs.Items.{sound_at}
use Rattle.trace_check.proofs.machine_events.has_next.Goals as goal

pub is_next-requires-clause-sound : goal.is_next-requires-clause-sound
is_next-requires-clause-sound c = sound_at _ _ _ _ _ _ c.config.ensures.is c.app.ensures c.store.ensures c.config.ensures.sound

pub is_next-requires-clause-read : goal.is_next-requires-clause-read
is_next-requires-clause-read c = reads (sound_at _ _ _ _ _ _ c.config.ensures.is c.app.ensures c.store.ensures c.config.ensures.sound)
