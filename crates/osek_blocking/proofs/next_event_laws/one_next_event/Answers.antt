use Rattle.osek_blocking.proofs.Only.{one_next_event}
use Rattle.osek_blocking.proofs.next_event_laws.one_next_event.Goals as goal

pub returns : goal.returns
returns c = one_next_event
