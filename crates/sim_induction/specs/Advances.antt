-- A piece of a run, from a count that finds MIE 1 to the next such count.
use Rattle.std.specs.Prelude.{ℕ, zero, suc, ◌+◌, ◌<◌, ◌≤◌, ◌≡◌, ◌⊎◌, List, [], ◌∷◌, ◌++◌, map, take, length, Some, true, false}
use Rattle.std.specs.List.{AllByRecursion}
use Rattle.sloth_base.specs.declared.service.Arrival.{Arrival}
use Rattle.sloth_base.specs.declared.service.Stamped.{Stamped}
use Rattle.sloth_base.specs.declared.numbers.Step.{Step}
use Rattle.sloth_base.specs.Machine.{State}
use Rattle.sloth_base.specs.Arrivals.{moments}
use Rattle.sloth_base.specs.Stretches.{longest_stretch}
use Rattle.rv32_instr.specs.Ram.{word_at}
use Rattle.rv32_machine.specs.Advance.{Goes}
use Rattle.rv32_machine.specs.Run.{moment, state_after_from}
use Rattle.observe.specs.Pieces.{RunPiece, pieces, cut_off_steps}
use Rattle.observe.specs.Observe.{piece_events}
use Rattle.osek_scheduler.specs.State.{System, task, opening}
use Rattle.osek_scheduler.specs.Runs.{AreStepsTo, AreStepsBehind}
use Rattle.osek_scheduler.specs.InTime.{is_admit, admits_at, arrivals_at, HasSpanFor, IsOrdered, KeepsOrder}
use Rattle.sim_induction.specs.Short.{AreShort, IsShortPiece, passed_length}
use Rattle.sim_induction.specs.Admits.{Setting, lines_at, with_admits, admit_event}
use Rattle.osek_blocking.specs.Pace.{last_count}
use Rattle.sim_induction.specs.Pace.{AreAtMost, next_size_of}
use Rattle.sim_induction.specs.Mirror.{IsRunningTask, NoneIsActive}
use Rattle.sim_induction.specs.Weighed.{AreWeighedTo}
use Rattle.sim_induction.specs.Paced.{ArePacedTo, AreStretchesWithin}
use Rattle.sim_induction.specs.PieceLaws.{Passed}
use Rattle.sim_induction.specs.Spent.{AreSpentTo}

-- the instructions of the counts from this one on lead by these steps from the first state to the last
abbrev pub RunTo : List Arrival → ℕ → ℕ → State → List Step → State → Type 0
RunTo arrivals zero count state steps end = (steps ≡ []) × (end ≡ state)
RunTo arrivals (suc n) count state steps end =
    (step : Step) × (next : State) × (moment arrivals count state ≡ Goes step next)
    × ((rest : List Step) × (steps ≡ step ∷ rest) × RunTo arrivals n (count + 1) next rest end)

-- each event, and each one behind it
abbrev pub EachPair : (Stamped → Stamped → Type 0) → List Stamped → Type 0
EachPair P [] = Unit {0}
EachPair P (e ∷ events) = AllByRecursion (P e) events × EachPair P events

-- an event of the counts from one to below another
pub record IsInCounts (from to : ℕ) (e : Stamped) : Type 0 where
  pub begins : from ≤ e.stamp.from
  pub ordered : e.stamp.from ≤ e.stamp.at
  pub ends : e.stamp.at < to
  pub spans : HasSpanFor e.event e

-- the arrivals of the first count
abbrev pub found_events : Setting → ℕ → List Stamped
found_events given count = map admit_event (moments count (count + 1) given.arrivals)

-- no more instructions have shown nothing than the next item of the task that runs has, and none where no task does
pub record IsWithinItem (given : Setting) (progress : State → System → ℕ) (state : State) (s : System) : Type 0 where
  pub of_task : (t : ℕ) → IsRunningTask given.config s t → progress state s ≤ next_size_of given.size (task s t)
  pub idle : NoneIsActive given.config s → progress state s ≡ 0

-- the word at 0x80000000 names the task that runs
abbrev pub IsNamedByWord : Setting → State → System → Type 0
IsNamedByWord given state s = (t : ℕ) → IsRunningTask given.config s t → word_at state.core.ram 0 ≡ t + 1

-- Before a count, and behind events of which the last ended at count `at`: what task t has spent on its next item is passed. Where the word names it,
-- it has passed `done` instructions; else at least what the bound says.
pub record HasSpent (current done : ℕ) (passed : Passed) (count at t spent : ℕ) : Type 0 where
  pub later : at < count
  pub running : current ≡ t + 1 → count + spent ≤ at + 1 + done
  pub preempted : (current ≡ t + 1 → ⊥) → spent ≤ passed t

-- These events lead from s to `after` as steps before each of which task t has spent no more than its item, and the same can be said before a later
-- count, where the word is `now`, and what runs has passed so many instructions.
pub record Spends (given : Setting) (t at spent : ℕ) (events : List Stamped) (s after : System) (now done : ℕ) (behind : Passed) (count : ℕ) : Type 0 where
  pub to : ℕ
  pub left : ℕ
  pub leads : (longest : ℕ) → AreSpentTo given.config given.app given.size longest t at spent events s after to left
  pub holds : HasSpent now done behind count to t left

-- The relation R is one between the states at counts that find MIE 1, before the arrivals of the count. The piece that begins at
-- the count ends at the next such count; its events are steps of the abstract scheduler, and the states are related again.
pub record Advances (given : Setting) (R : Passed → State → System → Type 0) (progress : State → System → ℕ) (passed : Passed) (count : ℕ)
    (state : State) (s : System) : Type 0 where
  pub first : Step
  pub rest : List Step
  pub next : State
  pub runs : RunTo given.arrivals (suc (length rest)) count state (first ∷ rest) next
  pub piece : RunPiece
  pub pieces_are : pieces [] (first ∷ rest) ≡ piece ∷ []
  pub cut_is : cut_off_steps [] (first ∷ rest) ≡ []
  pub unfinished : (n : ℕ) → n < length rest → (pieces [] (first ∷ take n rest) ≡ []) × (cut_off_steps [] (first ∷ take n rest) ≡ first ∷ take n rest)
  pub finds : (first.count ≡ count) × (length rest ≡ 0 ⊎ (first.enabled_before ≡ true))
  pub closed : (i : ℕ) → 0 < i → i < suc (length rest) → (inside : State) → state_after_from i given.arrivals count state ≡ Some inside → inside.core.mie ≡ false
  pub others : List Stamped
  pub events : piece_events given.view given.arrivals piece ≡ found_events given count ++ others
  pub stamps : AllByRecursion (IsInCounts count (count + suc (length rest))) others
  pub later : AllByRecursion (λ e. is_admit e ≡ true → count < e.stamp.at) others
  pub placed : EachPair IsOrdered others
  pub counted : (i t : ℕ) → admits_at i t (found_events given count ++ others) ≡ arrivals_at i t (moments count (count + suc (length rest)) given.arrivals)
  pub keeps : KeepsOrder (moments count (count + suc (length rest)) given.arrivals) (found_events given count ++ others)
  pub few : length rest < longest_stretch given.config
  pub brief : (heaviest : ℕ) → AreStretchesWithin given.config given.app heaviest → length rest < heaviest
  pub short : IsShortPiece given.config piece
  pub short_front : (n : ℕ) → n < length rest → AreShort given.config (first ∷ take n rest)
  pub after : System
  pub leads : AreStepsTo given.config given.app others (with_admits (lines_at given.arrivals count) s) after
  pub weighed : AreWeighedTo given.config given.app others (with_admits (lines_at given.arrivals count) s) after
  -- behind events that ended at count `at`, where no more instructions have shown nothing since than the measure says, and the measure no more than the
  -- next item of the task that runs
  pub paced : (longest at : ℕ) → AreAtMost given.size longest → count ≤ at + 1 + progress state s → IsWithinItem given progress state s
      → ArePacedTo given.config given.app given.size longest at others (with_admits (lines_at given.arrivals count) s) after
      × (count + suc (length rest) ≤ last_count at others + 1 + progress next after)
  -- the bound behind it; where what task t has spent was passed before, each of its events finds no more spent than its item
  pub behind : Passed
  pub spends : (t at spent : ℕ) → t < length given.config.tasks → IsNamedByWord given state s → HasSpent (word_at state.core.ram 0) (progress state s) passed count at t spent
      → Spends given t at spent others (with_admits (lines_at given.arrivals count) s) after (word_at next.core.ram 0) (progress next after) behind
      (count + suc (length rest))
  pub follows : (past : List Stamped) → AreStepsTo given.config given.app past (opening given.config given.app) (with_admits (lines_at given.arrivals count) s)
      → AreStepsBehind given.config given.app past (with_admits (lines_at given.arrivals count) s) others after
  pub progresses : (before : ℕ) → before ≤ progress state s → passed_length given.view piece before ≤ progress next after
  pub related : R behind next after
