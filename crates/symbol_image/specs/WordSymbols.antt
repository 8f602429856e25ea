-- A configuration for which the service words have room.
use Rattle.std.specs.Prelude.{◌≤◌, length}
use Rattle.sloth_base.specs.Limits.{alarm_limit, counter_limit, resource_limit, task_limit}
use Rattle.sloth_base.specs.declared.config.Config.{Config}

-- it keeps the limits of its objects
pub record HasWords (config : Config) : Type 0 where
  pub tasks : length config.tasks ≤ task_limit
  pub counters : length config.counters ≤ counter_limit
  pub alarms : length config.alarms ≤ alarm_limit
  pub resources : length config.resources ≤ resource_limit
