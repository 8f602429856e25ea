-- In which ways a busy period starts: how lower tasks come into it.
use Rattle.std.specs.Prelude.{ℕ, ◌+◌, ◌<◌, ◌≤◌, ◌≡◌, ◌⊎◌, ◌==◌, ◌&&◌, List, [], ◌∷◌, ◌++◌, Bool, true, false, cond, is_some, Some}
use Rattle.std.specs.List.{AllByRecursion}
use Rattle.sloth_base.specs.declared.config.Config.{Config}
use Rattle.sloth_base.specs.declared.app.App.{App}
use Rattle.sloth_base.specs.declared.service.Event.{Event}
use Rattle.sloth_base.specs.declared.service.Event.TheVariants as event
use Rattle.sloth_base.specs.declared.service.Stamped.{Stamped}
use Rattle.sloth_base.specs.Events.{is_boot, served_task}
use Rattle.sloth_base.specs.declared.service.Service.TheVariants as service
use Rattle.sloth_base.specs.Named.{declaration}
use Rattle.sloth_base.specs.ServiceCodes.{is_service}
use Rattle.code_rules.specs.WellFormed.{WellFormed}
use Rattle.osek_scheduler.specs.InTime.{is_admit}
use Rattle.osek_scheduler.specs.Runs.{OsekRun}
use Rattle.osek_scheduler.specs.State.{task}
use Rattle.osek_scheduler.specs.Apart.{priority_of, static_priority}
use Rattle.osek_blocking.specs.Sections.{IsLower}
use Rattle.run_counts.specs.Stages.{Stage, charged, run_stages}
use Rattle.run_counts.specs.Rounds.{is_left, total}
use Rattle.response_laws.specs.Sums.{total_where, count, is_over}
use Rattle.response_laws.specs.Turns.{in_turn, is_other, activated, was_set}
use Rattle.response_laws.specs.Shares.{lower_counts}
use Rattle.response_laws.specs.Busy.{is_quiet, IsBusyPeriod}
use Rattle.response_laws.specs.Demand.{Start}
use Rattle.response_laws.specs.Bounded.{HasRoundsSet}

-- ---- ways

-- the event comes in a turn of task b, whose current priority is at least the static priority of h
pub record IsRaisedTurn (config : Config) (h b : ℕ) (x : Stage) : Type 0 where
  pub turn : in_turn b x ≡ true
  pub raised : static_priority config h ≤ priority_of config b (task x.found b)

-- each other event comes in a turn of b that is raised to h
abbrev pub InSection : Config → (h b : ℕ) → List Stage → Type 0
InSection config h b xs = AllByRecursion (λ x. is_other config h x ≡ true → IsRaisedTurn config h b x) xs

-- With the event task b may be raised: it takes a resource; or, where it is not preemptable, it is entered or comes back from Schedule. No task becomes
-- Ready with it.
abbrev pub may_raise : Config → (b : ℕ) → Event → Bool
may_raise config b (event.Enter t) = (t == b) && (declaration config b).non
may_raise config b (event.Back t) = (t == b) && (declaration config b).non
may_raise config b (event.Call t served status) = (t == b) && is_service served service.GetResource
may_raise config b _ = false

-- The event of stage x, where it is no admission and another one, comes in a turn of b that is raised to h, or may raise it; and a section of b follows.
abbrev pub OpensSection : Config → (h b : ℕ) → (admits : Bool) → (rest : Type 0) → Stage → List Stage → Type 0
OpensSection config h b true rest x xs = rest
OpensSection config h b false rest x xs =
    (is_other config h x ≡ true → IsRaisedTurn config h b x ⊎ (may_raise config b x.stamped.event ≡ true)) × InSection config h b xs

-- Behind admissions stand an event with which b may be raised, if it is not yet, and a section of b in which it is. Other lower tasks do nothing.
abbrev pub AreOfSection : Config → (h b : ℕ) → List Stage → Type 0
AreOfSection config h b [] = Unit {0}
AreOfSection config h b (x ∷ xs) = OpensSection config h b (is_admit x.stamped) (AreOfSection config h b xs) x xs

-- no event is another one, or where the stage before them is an admission, this holds of the rest
abbrev pub IsAlone : Config → (h : ℕ) → (admits : Bool) → (rest : Type 0) → List Stage → Type 0
IsAlone config h true rest xs = rest
IsAlone config h false rest xs = count (is_other config h) xs ≤ 0

-- Behind admissions stands an event, and no other one behind it.
abbrev pub AreOfOne : Config → (h : ℕ) → List Stage → Type 0
AreOfOne config h [] = Unit {0}
AreOfOne config h (x ∷ xs) = IsAlone config h (is_admit x.stamped) (AreOfOne config h xs) xs

-- how lower tasks come into the stages of a busy period, its first stage included: with one event at most, boot among them, or with a section of one task
pub data Comes (config : Config) (h : ℕ) (xs : List Stage) : Type 0 where
  with_one : AreOfOne config h xs → Comes config h xs
  with_section : (b : ℕ) → IsLower config h b → AreOfSection config h b xs → Comes config h xs

-- in every run of well-formed task code they come so into each busy period
abbrev pub PeriodsStartSo : Type 0
PeriodsStartSo = (config : Config) (app : App) (events : List Stamped) (h : ℕ) (once : Bool) → WellFormed config app → OsekRun config app events
    → (first : Stage) (period : List Stage) → IsBusyPeriod config h once (run_stages config app events) first period → Comes config h (first ∷ period)

-- ---- their numbers

-- the item that a lower task may have begun where a period starts so; behind boot there is none
abbrev pub begun_item : (longest : ℕ) → Start → ℕ
begun_item longest s = cond s.is_boot 0 longest

-- A start has so many counts behind the first event of its period, so many in front of its end, and what one other event makes.
pub record IsWithinStart (config : Config) (h counts ahead : ℕ) (s : Start) (x : Stage) : Type 0 where
  pub front : counts ≤ s.inflow.front
  pub lead : ahead ≤ s.lead
  pub acts : (j : ℕ) → is_over config h j ≡ true → activated j x ≤ s.inflow.acts j
  pub sets : (j : ℕ) → is_over config h j ≡ true → was_set j x ≤ s.inflow.sets j

-- Behind the first of these stages a section of b stands; or an event with which b is raised may come in front of it.
abbrev pub HasSectionBehind : Config → (h b : ℕ) → (raised : Bool) → (first : Stage) → List Stage → Type 0
HasSectionBehind config h b true first xs = InSection config h b xs
HasSectionBehind config h b false first xs = AreOfSection config h b (first ∷ xs)

-- where it is task b that joins, it has no more rounds in these stages than settings
abbrev pub JoinsSo : Config → (h : ℕ) → Start → (b : ℕ) → List Stage → Type 0
JoinsSo config h s b xs = s.joins ≡ Some b → HasRoundsSet config h s 0 b xs

-- What comes in with a section of task b is, in each part of the run that such a section is in: the counts of lower tasks, their items' pieces among them, behind the first event, where no state is quiet.
pub record IsSectionWithin (config : Config) (h : ℕ) (run : List Stage) (b : ℕ) (raised : Bool) (s : Start) : Type 0 where
  pub front : (before behind : List Stage) (first : Stage) (xs : List Stage) → run ≡ before ++ ((first ∷ xs) ++ behind)
      → AreOfSection config h b (first ∷ xs) → HasSectionBehind config h b raised first xs
      → AllByRecursion (λ x. is_quiet config h x.found ≡ false) xs → JoinsSo config h s b (first ∷ xs) → total (lower_counts config h) xs ≤ s.inflow.front
  pub acts : (before behind : List Stage) (j : ℕ) (xs : List Stage) → is_over config h j ≡ true → run ≡ before ++ (xs ++ behind) → AreOfSection config h b xs
      → JoinsSo config h s b xs → total_where (is_other config h) (activated j) xs ≤ s.inflow.acts j
  pub sets : (before behind : List Stage) (j : ℕ) (xs : List Stage) → is_over config h j ≡ true → run ≡ before ++ (xs ++ behind) → AreOfSection config h b xs
      → JoinsSo config h s b xs → total_where (is_other config h) (was_set j) xs ≤ s.inflow.sets j

-- one of the starts, which is not boot, has this of an event
abbrev pub SomeIsWithin : Config → (h starts : ℕ) → (ℕ → Start) → (counts lead : ℕ) → Stage → Type 0
SomeIsWithin config h starts start counts lead x =
    (i : ℕ) × (i < starts) × ((start i).is_boot ≡ false) × IsWithinStart config h counts lead (start i) x

-- For each way in which lower tasks may come into a busy period there is a start, which is boot only for boot. No item has more instructions than `longest`,
-- and no event spans more counts than `late`.
pub record HaveStarts (config : Config) (h longest late : ℕ) (once : Bool) (starts : ℕ) (start : ℕ → Start) (run : List Stage) : Type 0 where
  pub some : (i : ℕ) × (i < starts) × ((start i).is_boot ≡ false) × (longest ≤ (start i).inflow.front) × (late ≤ (start i).lead)
  -- the period begins with the event
  pub opens : AllByRecursion (λ x. is_other config h x ≡ true → (i : ℕ) × (i < starts) × ((start i).is_boot ≡ true → is_boot x.stamped.event ≡ true) × IsWithinStart config h (begun_item longest (start i)) late (start i) x) run
  -- The event is a service, and the period begins with admissions in front of it. They came while it was running, or the line would have been taken first.
  pub serves : AllByRecursion (λ x. is_other config h x ≡ true → is_some (served_task x.stamped.event) ≡ true → SomeIsWithin config h starts start (charged x + longest) 0 x) run
  -- b is raised with the first event, at the latest; or with a service behind admissions
  pub section : (b : ℕ) → IsLower config h b → (raised : Bool)
      → (i : ℕ) × (i < starts) × ((start i).is_boot ≡ false) × (cond raised late 0 ≤ (start i).lead) × IsSectionWithin config h run b raised (start i)
  -- h leaves as a period begins: with its first event, or behind admissions
  pub leaves : once ≡ true
      → AllByRecursion (λ x. is_left h x.stamped.event ≡ true → SomeIsWithin config h starts start longest late x × SomeIsWithin config h starts start (charged x + longest) 0 x) run
