use Rattle.osek_blocking.proofs.WithoutArrivals.{only_run}
use Rattle.osek_blocking.proofs.next_event_laws.runs_without_arrivals.Goals as goal

pub returns : goal.returns
returns c = only_run
