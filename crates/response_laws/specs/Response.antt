-- Response times: how soon behind the event that makes a task Ready the task leaves.
use Rattle.std.specs.Prelude.{ℕ, ◌+◌, ◌<◌, ◌≤◌, ◌≡◌, ◌⊎◌, List, [], ◌∷◌, ◌++◌, Bool, true, false, length}
use Rattle.std.specs.List.{AllByRecursion}
use Rattle.sloth_base.specs.declared.config.Config.{Config}
use Rattle.sloth_base.specs.declared.app.App.{App}
use Rattle.sloth_base.specs.declared.service.Arrival.{Arrival}
use Rattle.sloth_base.specs.declared.service.Event.TheVariants as event
use Rattle.sloth_base.specs.declared.service.Stamped.{Stamped}
use Rattle.sloth_base.specs.Options.{is_number}
use Rattle.sloth_base.specs.Named.{declaration}
use Rattle.code_rules.specs.WellFormed.{WellFormed}
use Rattle.osek_scheduler.specs.Apart.{static_priority}
use Rattle.osek_scheduler.specs.State.{System, opening}
use Rattle.osek_scheduler.specs.InTime.{InTime, is_admit}
use Rattle.osek_scheduler.specs.Runs.{AreStepsTo, OsekRun}
use Rattle.osek_blocking.specs.Blocking.{MakesReady}
use Rattle.osek_blocking.specs.Pace.{last_count}
use Rattle.run_counts.specs.Stages.{run_stages}
use Rattle.run_counts.specs.Rounds.{is_left}
use Rattle.run_counts.specs.OwnCounts.{IsShared}
use Rattle.response_laws.specs.Busy.{is_quiet}
use Rattle.response_laws.specs.Turns.{ticking_counter}
use Rattle.response_laws.specs.Demand.{Costs, Start, IsEnough}
use Rattle.response_laws.specs.Bounded.{BoundsRounds, BoundsJoining, StartsInOne}

-- task h leaves among these events, for the first time, and before this count
pub record LeavesBefore (h limit : ℕ) (events : List Stamped) : Type 0 where
  pub front : List Stamped
  pub left : Stamped
  pub rest : List Stamped
  pub parts : events ≡ front ++ left ∷ rest
  pub first : AllByRecursion (λ e. is_left h e.event ≡ false) front
  pub leaves : is_left h left.event ≡ true
  pub in_time : left.stamp.at < limit

-- One of these events, which is not the first one, finds a state that is quiet for h; the first one is boot.
pub record IsBehindBoot (config : Config) (app : App) (h : ℕ) (events : List Stamped) : Type 0 where
  pub boot : Stamped
  pub front : List Stamped
  pub here : Stamped
  pub rest : List Stamped
  pub parts : events ≡ (boot ∷ front) ++ here ∷ rest
  pub found : System
  pub leads : AreStepsTo config app (boot ∷ front) (opening config app) found
  pub quiet : is_quiet config h found ≡ true

-- where makings behind boot alone are asked for, the events up to one are behind it
abbrev pub IsAsked : (boot : Bool) → Config → App → (h : ℕ) → List Stamped → Type 0
IsAsked boot config app h events = boot ≡ false → IsBehindBoot config app h events

-- The event is a tick: its edge is the moment of an arrival of its counter that no tick of it is between.
pub record IsTickEdge (before : List Stamped) (made : Stamped) (edge : ℕ) : Type 0 where
  pub counter : ℕ
  pub ticks : made.event ≡ event.Tick counter
  pub front : List Stamped
  pub arrival : Stamped
  pub rest : List Stamped
  pub parts : before ≡ front ++ arrival ∷ rest
  pub arrives : arrival.event ≡ event.Due counter
  pub none : AllByRecursion (λ e. is_number counter (ticking_counter e.event) ≡ false) rest
  pub is : edge ≡ arrival.stamp.at

-- from where on the response to an event counts: from its moment, or from the edge of a tick
abbrev pub IsEdge : (before : List Stamped) → (made : Stamped) → (edge : ℕ) → Type 0
IsEdge before made edge = (edge ≡ made.stamp.at) ⊎ IsTickEdge before made edge

-- From the edge of an event that makes task h Ready on, behind boot or anywhere, the task leaves within r counts, if the run has so many instructions and
-- `more`.
abbrev pub LeavesWithin : Config → App → (n more h r : ℕ) → (boot : Bool) → List Stamped → Type 0
LeavesWithin config app n more h r boot events =
    (before behind : List Stamped) (made : Stamped) (found s : System) (edge : ℕ) → events ≡ before ++ made ∷ behind
    → AreStepsTo config app before (opening config app) found → MakesReady config app h made.event found s → IsAsked boot config app h (before ++ made ∷ [])
    → IsEdge before made edge → edge + r + more ≤ n → LeavesBefore h (edge + r) behind

-- the event ends before r counts from a moment have passed, and spans no more
pub record EndsWithin (r moment : ℕ) (e : Stamped) : Type 0 where
  pub ends : e.stamp.at < moment + r
  pub spans : e.stamp.at < e.stamp.from + r

-- However long the run is: each event behind one that makes task h Ready, up to the one with which the task leaves, ends within r counts of its edge, and
-- spans no more. Admissions, which stand in other events, are left out.
abbrev pub PendsWithin : Config → App → (h r : ℕ) → (boot : Bool) → List Stamped → Type 0
PendsWithin config app h r boot events =
    (before front rest : List Stamped) (made e : Stamped) (found s : System) (edge : ℕ) → events ≡ before ++ made ∷ (front ++ e ∷ rest)
    → AreStepsTo config app before (opening config app) found → MakesReady config app h made.event found s → IsAsked boot config app h (before ++ made ∷ [])
    → IsEdge before made edge → AllByRecursion (λ x. is_left h x.event ≡ false) front → is_admit e ≡ false → EndsWithin r edge e

-- where an event makes task h Ready, behind boot or anywhere, r is not 0
abbrev pub IsSomeIfMade : Config → App → (h r : ℕ) → (boot : Bool) → List Stamped → Type 0
IsSomeIfMade config app h r boot events =
    (before behind : List Stamped) (made : Stamped) (found s : System) → events ≡ before ++ made ∷ behind
    → AreStepsTo config app before (opening config app) found → MakesReady config app h made.event found s → IsAsked boot config app h (before ++ made ∷ []) → 0 < r

-- task h responds within r counts, where it is made behind boot, or anywhere; and where r is 0, nothing makes it
pub record RespondsWithin (config : Config) (app : App) (n more h r : ℕ) (boot : Bool) (events : List Stamped) : Type 0 where
  pub some : IsSomeIfMade config app h r boot events
  pub leaves : LeavesWithin config app n more h r boot events
  pub pends : PendsWithin config app h r boot events

-- the pace of a run of n instructions
pub record HasPace (n late more : ℕ) (events : List Stamped) : Type 0 where
  -- no event spans more counts than this
  pub brief : AllByRecursion (λ e. e.stamp.at < e.stamp.from + late) events
  -- the last one, if there is any, ends soon before the end of the run
  pub reaches : 0 < length events → n ≤ last_count 0 events + more

-- a start counts, unless it is boot and this is left out
abbrev pub IsCounted : (boot : Bool) → Start → Type 0
IsCounted boot s = s.is_boot ≡ true → boot ≡ true

-- a start lasts no longer than r, which is not 0, with what stands in front of the end of its first event, where task h has a round in it
abbrev pub LastsWithin : (h r : ℕ) → Start → Type 0
LastsWithin h r s = 1 ≤ s.firsts h + s.nexts h → (0 < r) × (s.counts + s.lead ≤ r)

-- Task h may be looked at from where it left last on: it is preemptable, no other task has its priority, and its turns are not cut into rounds.
pub record EntersOnce (config : Config) (h : ℕ) (cuts : ℕ → Bool) : Type 0 where
  pub preemptable : (declaration config h).non ≡ false
  pub alone : (t : ℕ) → t < length config.tasks → static_priority config t ≡ static_priority config h → t ≡ h
  pub whole : cuts h ≡ false

-- In a run each count of which is an event's or one task's own, whose rounds are within the costs, and each busy period of which starts in one of these ways, each with enough, task h responds within
-- the longest of the starts in which it has a round.
abbrev pub RespondsInTime : Type 0
RespondsInTime = (config : Config) (app : App) (n late more : ℕ) (arrivals : List Arrival) (events : List Stamped) (h r : ℕ) (cuts : ℕ → Bool) (costs : Costs)
    (once boot : Bool) (starts : ℕ) (start : ℕ → Start)
    → (once ≡ true → EntersOnce config h cuts) → WellFormed config app → OsekRun config app events → InTime config n arrivals events → HasPace n late more events
    → AllByRecursion (IsShared config) (run_stages config app events) → BoundsRounds config h cuts costs (run_stages config app events) → StartsInOne config h once starts start (run_stages config app events)
    → ((i : ℕ) → i < starts → BoundsJoining config h cuts costs (run_stages config app events) (start i))
    → ((i : ℕ) → i < starts → IsCounted boot (start i) → IsEnough config h once costs (start i)) → ((i : ℕ) → i < starts → IsCounted boot (start i) → LastsWithin h r (start i))
    → RespondsWithin config app n more h r boot events
