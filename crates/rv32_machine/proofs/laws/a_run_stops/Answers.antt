use Rattle.rv32_machine.proofs.Runs.{run_halts, stop_halts}
use Rattle.rv32_machine.proofs.laws.a_run_stops.Goals as goal

pub returns-clause-shows : goal.returns-clause-shows
returns-clause-shows c n k arrivals start before stop less h g = run_halts n k arrivals start before stop less h g

pub returns-clause-stops : goal.returns-clause-stops
returns-clause-stops c n k arrivals start before stop less h g = stop_halts n k arrivals start before stop less h g
