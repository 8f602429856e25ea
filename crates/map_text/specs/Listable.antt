-- A map whose rows can be told.
use Rattle.std.specs.Prelude.{◌<◌, ◌≤◌, length}
use Rattle.sloth_base.specs.declared.config.Config.{Config}
use Rattle.sloth_base.specs.Limits.{task_limit, counter_limit}
use Rattle.sloth_region.specs.declared.region.Map.{Map}
use Rattle.mem_map.specs.Stacks.{address_behind_data}
use Rattle.map_text.specs.Rows.{address_behind_code}

-- its zones end at addresses of 32 bits, and there are no more tasks and counters than a configuration may have
pub record IsListable (config : Config) (map : Map) : Type 0 where
  pub code : address_behind_code map < 4294967296
  pub data_zone : address_behind_data map < 4294967296
  pub few_tasks : length config.tasks ≤ task_limit
  pub few_counters : length config.counters ≤ counter_limit
