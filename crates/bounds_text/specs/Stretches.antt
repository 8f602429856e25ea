-- The most counts of an entry and of a tick of a configuration.
use Rattle.std.specs.Prelude.{ℕ, max, false, length}
use Rattle.sloth_base.specs.declared.config.Config.{Config}
use Rattle.sloth_base.specs.declared.app.App.{App}
use Rattle.call_graph.specs.Tables.{max_below}
use Rattle.code_lengths.specs.LongestPaths.{tick_path}
use Rattle.sim_induction.specs.Events.{enter_counts}

-- of any task, that starts anew or goes on behind a wait
abbrev pub heaviest_entry : Config → App → ℕ
heaviest_entry config app = max_below (length config.tasks) (λ t. enter_counts config app false t)

-- of any counter, whose alarms all expire at once
abbrev pub heaviest_tick : Config → ℕ
heaviest_tick config = max_below (length config.counters) (λ c. tick_path config c)

-- the most counts of a stretch behind boot: an entry, a tick, or an item with which a task may leave, which weighs so much
abbrev pub running_counts : Config → App → (leaving : ℕ) → ℕ
running_counts config app leaving = max (max (heaviest_entry config app) (heaviest_tick config)) leaving
