-- The least source lines at which tasks come to what counts, and those of services in front of windows.
use Rattle.std.specs.Prelude.{ℕ, ◌<◌, ◌≡◌, ◌⊎◌, cond, true, false, List, length, get_or, Option, Some, None}
use Rattle.sloth_base.specs.declared.config.Config.{Config}
use Rattle.sloth_base.specs.declared.app.App.{App}
use Rattle.sloth_base.specs.declared.app.Func.{Func}
use Rattle.sloth_base.specs.declared.app.Op.{Op}
use Rattle.sloth_base.specs.declared.app.Op.TheVariants as op
use Rattle.sloth_base.specs.declared.service.Service.{Service}
use Rattle.sloth_base.specs.declared.service.Service.TheVariants as service
use Rattle.sloth_base.specs.Named.{operation, item_of, body_of}
use Rattle.sloth_base.specs.ServiceCodes.{service_of}
use Rattle.bound_rules.specs.declared.bound.Body.{Body}
use Rattle.run_windows.specs.declared.costs.Costs.{Costs}
use Rattle.run_windows.specs.declared.costs.Start.{Start}
use Rattle.run_windows.specs.declared.costs.Start.TheVariants as start
use Rattle.run_windows.specs.RunWindows.{IsLeastOf, may_serve, call_path, services_front}
use Rattle.walk_sums.specs.declared.counted.Counted.{Counted}
use Rattle.walk_sums.specs.declared.counted.Counted.TheVariants as counts
use Rattle.walk_sums.specs.Activations.{ReachesItem, ReachesCall}
use Rattle.walk_sums.specs.Counted.{is_ending_counted}
use Rattle.response_reasons.specs.Loops.{line_of}
use Rattle.response_reasons.specs.LoopCode.{line_at, AreEachLine}

-- a walk that enters function f comes to an operation of this line that counts
pub data ComesTo (app : App) (c : Counted) : (f line : ℕ) → Type 0 where
  comes_here : (f i : ℕ) → ReachesItem app f i → is_ending_counted c (operation app f i) ≡ true → ComesTo app c f (line_of app f i)
  comes_called : (f i g line : ℕ) → ReachesCall app f i g → ComesTo app c g line → ComesTo app c f line

-- the least such line of function f, if there is one
abbrev pub IsCallLine : App → Counted → (f : ℕ) → Option ℕ → Type 0
IsCallLine app c f line = IsLeastOf (ComesTo app c f) line

-- of each function
abbrev pub AreCallLines : App → Counted → List (Option ℕ) → Type 0
AreCallLines app c lines = AreEachLine app (IsCallLine app c) lines

-- ---- in front of windows

-- a task that may serve in front of a window of h comes to such an operation
abbrev pub HasServer : Config → App → Costs → (h : ℕ) → Counted → (line : ℕ) → Type 0
HasServer config app costs h c line = (k : ℕ) × (k < length config.tasks) × (may_serve costs h k ≡ true) × ComesTo app c (body_of app.funcs k) line

-- to a call of this service, if its path is the longest of those that such tasks reach
abbrev pub HasLongestServer : Config → App → Costs → (h : ℕ) → Service → (line : ℕ) → Type 0
HasLongestServer config app costs h s line = (call_path s ≡ services_front costs h 0 costs.tasks) × HasServer config app costs h (counts.Calls s) line

-- of some service; of that of this code
abbrev pub HasFreeServer : Config → App → Costs → (h line : ℕ) → Type 0
HasFreeServer config app costs h line = (s : Service) × HasLongestServer config app costs h s line

abbrev pub HasCodedServer : Config → App → Costs → (h code line : ℕ) → Type 0
HasCodedServer config app costs h code line = (s : Service) × (service_of code ≡ Some s) × HasLongestServer config app costs h s line

-- it comes to a ChainTask of j; or to an ActivateTask where none does
abbrev pub HasActivator : Config → App → Costs → (h j line : ℕ) → Type 0
HasActivator config app costs h j line =
    HasServer config app costs h (counts.Chains j) line
    ⊎ (((m : ℕ) → HasServer config app costs h (counts.Chains j) m → ⊥) × HasServer config app costs h (counts.CallsFor service.ActivateTask j) line)

-- the least line of a call of the service in front of the windows of a start
abbrev pub IsServiceLine : Config → App → Costs → (h : ℕ) → Start → Option ℕ → Type 0
IsServiceLine config app costs h start.Free line = IsLeastOf (HasFreeServer config app costs h) line
IsServiceLine config app costs h start.Boot line = line ≡ None
IsServiceLine config app costs h (start.Activation j) line = IsLeastOf (HasActivator config app costs h j) line
IsServiceLine config app costs h (start.Setting j) line = IsLeastOf (HasServer config app costs h (counts.Settings j)) line
IsServiceLine config app costs h (start.Section k) line = IsCallLine app (counts.Calls service.GetResource) (body_of app.funcs k) line
IsServiceLine config app costs h (start.Round k) line = line ≡ None

-- the task of which a start is, if it is of one, is one of so many
abbrev pub StartsInside : (n : ℕ) → Start → Type 0
StartsInside n start.Free = Unit {0}
StartsInside n start.Boot = Unit {0}
StartsInside n (start.Activation j) = j < n
StartsInside n (start.Setting j) = j < n
StartsInside n (start.Section k) = k < n
StartsInside n (start.Round k) = k < n

-- ---- how they are found

-- of an operation of this line, by those of the functions
abbrev pub op_line : Counted → (line : ℕ) → List (Option ℕ) → Op → Option ℕ
op_line c line lines (op.Invoke g) = line_at lines g
op_line c line lines o = cond (is_ending_counted c o) (Some line) None

-- of item i, where walks reach it
abbrev pub item_line : Counted → Func → Body → List (Option ℕ) → (i : ℕ) → Option ℕ
item_line c f body lines i = cond (get_or body.reached i false) (op_line c (item_of f i).line lines (item_of f i).op) None

-- of task k, where it may serve in front of a window of h
abbrev pub server_line : App → Costs → (h : ℕ) → List (Option ℕ) → (k : ℕ) → Option ℕ
server_line app costs h lines k = cond (may_serve costs h k) (line_at lines (body_of app.funcs k)) None
