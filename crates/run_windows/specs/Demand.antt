-- The demand of a load.
use Rattle.std.specs.Prelude.{ℕ, ◌+◌, ◌/◌, ◌≡◌, Option, Some, None}
use Rattle.run_windows.specs.declared.costs.Costs.{Costs}
use Rattle.run_windows.specs.declared.costs.Start.TheVariants as start
use Rattle.run_windows.specs.declared.costs.Window.{Window}
use Rattle.run_windows.specs.Windows.{IsBound}

-- the counts above which a demand is not told
abbrev pub demand_limit : ℕ
demand_limit = 8000000000

-- the counts of which a demand is told
abbrev pub demand_span : ℕ
demand_span = 2000000000

-- all tasks, with the arrivals within these counts, from no start
abbrev pub demand_window : Window
demand_window = record { target = None; start = start.Free; front = 0; span = Some demand_span }

abbrev pub hundredths : (counts : ℕ) → ℕ
hundredths counts = (counts + 19999999) / 20000000

-- How many hundredths of the processor's counts are asked for, rounded up: those of the arrivals within 2,000,000,000 counts.
abbrev pub IsDemand : Costs → Option ℕ → Type 0
IsDemand costs (Some p) = (counts : ℕ) × IsBound demand_limit costs demand_window (Some counts) × (p ≡ hundredths counts)
IsDemand costs None = IsBound demand_limit costs demand_window None
