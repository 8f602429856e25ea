-- Windows of ticks alone: within how many counts of an arrival of its counter a tick has ended.
use Rattle.std.specs.Prelude.{ℕ, ◌+◌, ◌-◌, ◌≡◌, max, cond, Bool, true, false, List, [], ◌∷◌, Option, Some, None}
use Rattle.run_windows.specs.declared.costs.TaskCosts.{TaskCosts}
use Rattle.run_windows.specs.declared.costs.Costs.{Costs}
use Rattle.run_windows.specs.declared.costs.Start.TheVariants as start
use Rattle.run_windows.specs.declared.costs.Window.{Window}
use Rattle.run_windows.specs.Costs.{window_limit, comes}
use Rattle.run_windows.specs.Windows.{IsBound}
use Rattle.run_windows.specs.RunWindows.{margin, lead_of}

-- the costs of counters alone
abbrev pub tick_costs : Costs → Costs
tick_costs costs = record { tasks = []; comes = []; counters = costs.counters; alarms = []; makings = []; services = []; levels = [] }

-- the longest service that a task which comes reaches; they are those from task k on
abbrev pub longest_service : Costs → (k : ℕ) → List TaskCosts → ℕ
longest_service costs k [] = 0
longest_service costs k (t ∷ ts) = max (cond (comes costs k) t.service 0) (longest_service costs (k + 1) ts)

-- A window opens with a stretch, or with an arrival in front of a service: in front of all stand the margin, an item that a task has begun, and that service.
abbrev pub tick_window : (longest late : ℕ) → Costs → (opens : Bool) → Window
tick_window longest late costs opens =
    record { target = None; start = start.Free; front = margin longest late + (longest + cond opens 0 (longest_service costs 0 costs.tasks)); span = None }

-- the bound of one of both
abbrev pub IsTickBound : (longest late : ℕ) → Costs → (opens : Bool) → Option ℕ → Type 0
IsTickBound longest late costs opens bound = IsBound window_limit (tick_costs costs) (tick_window longest late costs opens) bound

-- the greater of the numbers of both windows, without the margin; none where one has no bound
abbrev pub greater_number : (longest late : ℕ) → (opening serving : Option ℕ) → Option ℕ
greater_number longest late (Some l) (Some m) = Some (max (l + lead_of true late - margin longest late) (m + lead_of false late - margin longest late))
greater_number longest late (Some l) None = None
greater_number longest late None m = None

-- within how many counts of the arrival a tick has ended
abbrev pub IsTickNumber : (longest late : ℕ) → Costs → Option ℕ → Type 0
IsTickNumber longest late costs told =
    (opening serving : Option ℕ) × IsTickBound longest late costs true opening × IsTickBound longest late costs false serving
    × (told ≡ greater_number longest late opening serving)
