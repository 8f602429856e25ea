use Rattle.sim_routines.proofs.ticks.alarm_services_stretch.Goals as goal
use Rattle.sim_routines.proofs.AlarmStretches.{relative_stretches, absolute_stretches, cancel_stretches, told_stretches}

pub returns-clause-relative : goal.returns-clause-relative
returns-clause-relative c = λ b view arrivals count state s t fits setting after_boot stands o. relative_stretches b view arrivals count state s t fits setting after_boot stands o

pub returns-clause-absolute : goal.returns-clause-absolute
returns-clause-absolute c = λ b view arrivals count state s t fits setting after_boot stands o. absolute_stretches b view arrivals count state s t fits setting after_boot stands o

pub returns-clause-cancel : goal.returns-clause-cancel
returns-clause-cancel c = λ b view arrivals count state s t fits setting after_boot stands o. cancel_stretches b view arrivals count state s t fits setting after_boot stands o

pub returns-clause-get : goal.returns-clause-get
returns-clause-get c = λ b view arrivals count state s t fits setting after_boot stands o. told_stretches b view arrivals count state s t fits setting after_boot stands o
