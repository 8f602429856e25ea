use Rattle.rv32_machine.proofs.Runs.{after_more, run_more, stop_none}
use Rattle.rv32_machine.proofs.laws.a_run_goes_on.Goals as goal

pub returns-clause-after : goal.returns-clause-after
returns-clause-after c k arrivals start before after step h g = after_more k arrivals start before after step h g

pub returns-clause-shows : goal.returns-clause-shows
returns-clause-shows c k arrivals start before after step h g = run_more k arrivals start before after step h g

pub returns-clause-whole : goal.returns-clause-whole
returns-clause-whole c k arrivals start after h = stop_none k arrivals 0 start after h
