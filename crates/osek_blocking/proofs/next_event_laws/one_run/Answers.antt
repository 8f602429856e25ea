use Rattle.osek_blocking.proofs.Only.{one_run}
use Rattle.osek_blocking.proofs.next_event_laws.one_run.Goals as goal

pub returns : goal.returns
returns c = one_run
