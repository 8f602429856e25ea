-- Windows that hold what comes into a run of a start, with an item that a lower task has begun, and the longest item and two stretches, in front of all; and
-- the numbers that they tell. A stretch stands in front of where the window begins, or a service behind it, but not both.
use Rattle.std.specs.Prelude.{ℕ, ◌+◌, ◌-◌, ◌<◌, ◌≤◌, ◌≡◌, ◌==◌, ◌&&◌, ◌||◌, not, max, cond, Bool, true, false, List, [], ◌∷◌, ◌++◌, length, get_or, Option, Some, None}
use Rattle.sloth_base.specs.declared.service.Service.{Service}
use Rattle.sloth_base.specs.declared.service.Service.TheVariants as service
use Rattle.sloth_base.specs.ServiceCodes.{has_mask}
use Rattle.code_lengths.specs.LongestPaths.{leaving_path, served_path}
use Rattle.run_windows.specs.declared.costs.TaskCosts.{TaskCosts}
use Rattle.run_windows.specs.declared.costs.Services.{Services}
use Rattle.run_windows.specs.declared.costs.Makings.{Makings}
use Rattle.run_windows.specs.declared.costs.SectionMakings.{SectionMakings}
use Rattle.run_windows.specs.declared.costs.Costs.{Costs}
use Rattle.run_windows.specs.declared.level.Way.{Way}
use Rattle.run_windows.specs.declared.level.Way.TheVariants as way
use Rattle.run_windows.specs.declared.costs.Start.{Start}
use Rattle.run_windows.specs.declared.costs.Start.TheVariants as start
use Rattle.run_windows.specs.declared.costs.Window.{Window}
use Rattle.run_windows.specs.Costs.{window_limit, reckoned, task, comes, making, section, joins, section_counts, section_making}
use Rattle.run_windows.specs.Windows.{is_lower, is_left_out, is_below, is_boot, greater, IsBound}

-- ---- lower tasks

-- a lower task that comes, whose rounds join windows of h
abbrev pub is_joined : Costs → (h k : ℕ) → Bool
is_joined costs h k = is_below costs h k && joins costs h k

-- one whose sections count
abbrev pub is_apart : Costs → (h k : ℕ) → Bool
is_apart costs h k = is_below costs h k && not (joins costs h k)

-- ---- services

-- the instructions of the item of a call
abbrev pub call_words : Service → ℕ
call_words s = cond (has_mask s) 3 1

-- the longest way of a service, with the item of its call
abbrev pub call_path : Service → ℕ
call_path s = call_words s + max (served_path s) (leaving_path s false)

-- ---- fronts

-- a service of task k may stand in front of a window of h: of one that comes and is lower, or is h and leaves with it where it is entered once
abbrev pub may_serve : Costs → (h k : ℕ) → Bool
may_serve costs h k = comes costs k && (is_lower costs h k || ((k == h) && (task costs h).is_entered_once))

-- the longest service that such a task reaches; they are those from task k on
abbrev pub services_front : Costs → (h k : ℕ) → List TaskCosts → ℕ
services_front costs h k [] = 0
services_front costs h k (t ∷ ts) = max (cond (may_serve costs h k) t.service 0) (services_front costs h (k + 1) ts)

-- one of these services makes the task that they name Ready in this way
abbrev pub makes : Way → Services → Bool
makes way.Activation s = s.activates
makes way.Chain s = s.chains
makes way.Setting s = s.sets_events

-- the services that name task j
abbrev pub services_of : Costs → (j : ℕ) → List Services
services_of costs j = get_or costs.services j []

-- Such a task reaches a service that makes one Ready, of the services that name it: those of these tasks, from task k on.
abbrev pub is_made_in_front : Way → Costs → (h k : ℕ) → List Services → Bool
is_made_in_front w costs h k [] = false
is_made_in_front w costs h k (s ∷ ss) = (may_serve costs h k && makes w s) || is_made_in_front w costs h (k + 1) ss

-- the longest service by which they activate j; 0 where none does
abbrev pub activation_front : Costs → (h j : ℕ) → ℕ
activation_front costs h j =
    cond (is_made_in_front way.Chain costs h 0 (services_of costs j)) (call_path service.ChainTask)
    (cond (is_made_in_front way.Activation costs h 0 (services_of costs j)) (call_path service.ActivateTask) 0)

-- that by which they set its events
abbrev pub setting_front : Costs → (h j : ℕ) → ℕ
setting_front costs h j = cond (is_made_in_front way.Setting costs h 0 (services_of costs j)) (call_path service.SetEvent) 0

-- the counts of the longest round of task k
abbrev pub longest_round : Costs → (k : ℕ) → ℕ
longest_round costs k = greater (task costs k).first (task costs k).next

-- the counts of other tasks with which a start begins: those of a section, or of the round that is under way
abbrev pub start_counts : Costs → (h : ℕ) → Start → ℕ
start_counts costs h start.Free = 0
start_counts costs h start.Boot = 0
start_counts costs h (start.Activation j) = 0
start_counts costs h (start.Setting j) = 0
start_counts costs h (start.Section k) = reckoned (section_counts costs h k)
start_counts costs h (start.Round k) = longest_round costs k

-- The service behind admissions that came while it was running: one that may stand in front, one that makes the task, or one that raises it.
abbrev pub start_service : Costs → (h : ℕ) → Start → ℕ
start_service costs h start.Free = services_front costs h 0 costs.tasks
start_service costs h start.Boot = 0
start_service costs h (start.Activation j) = activation_front costs h j
start_service costs h (start.Setting j) = setting_front costs h j
start_service costs h (start.Section k) = (task costs k).raising
start_service costs h (start.Round k) = 0

-- A window opens with the event of its start, or with admissions in front of a service: so many counts of other tasks stand in front.
abbrev pub front_of : (opens : Bool) → Costs → (h : ℕ) → Start → ℕ
front_of true costs h s = start_counts costs h s
front_of false costs h s = start_counts costs h s + start_service costs h s

-- and so many between what makes the task and the end of the first event
abbrev pub lead_of : (opens : Bool) → (late : ℕ) → ℕ
lead_of true late = late
lead_of false late = 0

-- ---- starts

-- this start where the test holds
abbrev pub start_if : Bool → Start → List Start
start_if test s = cond test (s ∷ []) []

-- a task of the level of h is made in front, if that takes anything
abbrev pub made_start : Costs → (h j front : ℕ) → Start → List Start
made_start costs h j front s = start_if (not (is_lower costs h j) && not (front == 0)) s

-- task j is raised, or a round of it is under way
abbrev pub lower_starts : Costs → (h j : ℕ) → List Start
lower_starts costs h j = start_if (is_apart costs h j && (section costs h j).exists) (start.Section j) ++ start_if (is_joined costs h j) (start.Round j)

-- task j is made, or lower
abbrev pub task_starts : Costs → (h j : ℕ) → List Start
task_starts costs h j =
    made_start costs h j (activation_front costs h j) (start.Activation j)
    ++ (made_start costs h j (setting_front costs h j) (start.Setting j) ++ lower_starts costs h j)

-- those of these tasks, from task j on
abbrev pub run_task_starts : Costs → (h j : ℕ) → List TaskCosts → List Start
run_task_starts costs h j [] = []
run_task_starts costs h j (t ∷ ts) = task_starts costs h j ++ run_task_starts costs h (j + 1) ts

-- All starts of h; or, where what makes it is behind boot, all but boot.
abbrev pub run_starts : Costs → (h : ℕ) → (boot : Bool) → List Start
run_starts costs h boot = start.Free ∷ (start_if boot start.Boot ++ run_task_starts costs h 0 costs.tasks)

-- start i of these
abbrev pub start_at : List Start → (i : ℕ) → Start
start_at ss i = get_or ss i start.Free

-- ---- windows

-- An item and a stretch end behind the window, and a stretch stands in front of it: what arrives meanwhile comes into it too.
abbrev pub margin : (longest late : ℕ) → ℕ
margin longest late = longest + (late + late)

-- the item that a lower task has begun where the window begins; behind boot there is none
abbrev pub begun_item : (longest : ℕ) → Start → ℕ
begun_item longest s = cond (is_boot s) 0 longest

-- in front of all stand that item, and these counts
abbrev pub run_window : (longest late : ℕ) → Costs → (h : ℕ) → (opens : Bool) → Start → Window
run_window longest late costs h opens s =
    record { target = Some h; start = s; front = margin longest late + (begun_item longest s + front_of opens costs h s); span = None }

-- The number of a window: its bound with what stands in front of its beginning, without the margin; none where it has no bound.
abbrev pub IsNumber : (longest late : ℕ) → Costs → (h : ℕ) → (opens : Bool) → Start → Option ℕ → Type 0
IsNumber longest late costs h opens s (Some x) =
    (l : ℕ) × IsBound window_limit costs (run_window longest late costs h opens s) (Some l) × (x ≡ l + lead_of opens late - margin longest late)
IsNumber longest late costs h opens s None = IsBound window_limit costs (run_window longest late costs h opens s) None

-- it has one, of at most r
abbrev pub IsWindowWithin : (longest late : ℕ) → Costs → (h r : ℕ) → (opens : Bool) → Start → Type 0
IsWindowWithin longest late costs h r opens s =
    (l : ℕ) × IsBound window_limit costs (run_window longest late costs h opens s) (Some l) × (l + lead_of opens late ≤ r + margin longest late)

-- both windows of a start have
abbrev pub IsStartWithin : (longest late : ℕ) → Costs → (h r : ℕ) → Start → Type 0
IsStartWithin longest late costs h r s = (opens : Bool) → IsWindowWithin longest late costs h r opens s

-- so have those of the first of these starts, so many of them
abbrev pub AreWithin : (longest late : ℕ) → Costs → (h : ℕ) → List Start → (count r : ℕ) → Type 0
AreWithin longest late costs h ss count r = (i : ℕ) → i < count → IsStartWithin longest late costs h r (start_at ss i)

-- and those of all starts
abbrev pub AreRunBounds : (longest late : ℕ) → Costs → (h : ℕ) → (boot : Bool) → (r : ℕ) → Type 0
AreRunBounds longest late costs h boot r = AreWithin longest late costs h (run_starts costs h boot) (length (run_starts costs h boot)) r

-- ---- numbers that are told

-- less than what stands for endless
abbrev pub IsTold : Option ℕ → Type 0
IsTold number = reckoned number < reckoned None

pub record AreRoundsTold (c : TaskCosts) : Type 0 where
  pub first : IsTold c.first
  pub next : IsTold c.next

pub record AreMakingsTold (m : Makings) : Type 0 where
  pub first_activations : IsTold m.first_activations
  pub first_settings : IsTold m.first_settings
  pub next_activations : IsTold m.next_activations
  pub next_settings : IsTold m.next_settings

pub record AreSectionMakingsTold (m : SectionMakings) : Type 0 where
  pub activations : IsTold m.activations
  pub settings : IsTold m.settings

-- rounds of t count in windows of h: it is of the level and comes, or is joined
abbrev pub is_counted : Costs → (h t : ℕ) → Bool
is_counted costs h t = not (is_left_out costs h t) || is_joined costs h t

-- how often they make j Ready counts, of rounds of k: j is of the level; or joined, and k of the level, or j itself
abbrev pub is_making_counted : Costs → (h j k : ℕ) → Bool
is_making_counted costs h j k = (not (is_lower costs h j) && is_counted costs h k) || (is_joined costs h j && (not (is_left_out costs h k) || (k == j)))

-- All that the level of h is computed from has a number: rounds of its tasks that come and of joined ones, sections of other lower ones, and how often they make its tasks Ready.
pub record AreTold (costs : Costs) (h : ℕ) : Type 0 where
  pub rounds : (t : ℕ) → t < length costs.tasks → is_counted costs h t ≡ true → AreRoundsTold (task costs t)
  pub makings : (j : ℕ) → j < length costs.tasks → (k : ℕ) → k < length costs.tasks → is_making_counted costs h j k ≡ true → AreMakingsTold (making costs k j)
  pub sections : (k : ℕ) → k < length costs.tasks → is_apart costs h k ≡ true → IsTold (section_counts costs h k)
  pub section_makings : (j : ℕ) → j < length costs.tasks → (k : ℕ) → k < length costs.tasks → is_lower costs h j ≡ false → is_apart costs h k ≡ true
      → AreSectionMakingsTold (section_making costs h k j)

-- ---- response times

-- the least number of a kind; none where there is no number of that kind
abbrev pub IsLeastOf : (ℕ → Type 0) → Option ℕ → Type 0
IsLeastOf Kind (Some n) = Kind n × ((m : ℕ) → Kind m → n ≤ m)
IsLeastOf Kind None = (m : ℕ) → Kind m → ⊥

-- The windows of all starts of h are within r, and all that they are computed from has a number.
pub record IsRunBound (longest late : ℕ) (costs : Costs) (h : ℕ) (boot : Bool) (r : ℕ) : Type 0 where
  pub told : AreTold costs h
  pub within : AreRunBounds longest late costs h boot r

-- what is told of h: the least such r; none where there is none
abbrev pub IsRunResponse : (longest late : ℕ) → Costs → (h : ℕ) → (boot : Bool) → Option ℕ → Type 0
IsRunResponse longest late costs h boot told = IsLeastOf (IsRunBound longest late costs h boot) told
