-- What holds of a run from a count on that finds MIE 1.
use Rattle.std.proofs.Common.{◌≡◌, ℕ, ◌+◌, ◌<◌, ◌≤◌, List, [], length, refl, Some, true, false, filter}
use Rattle.sloth_base.specs.declared.service.Stamped.{Stamped}
use Rattle.sloth_base.specs.Machine.{State}
use Rattle.sloth_base.specs.Arrivals.{moments}
use Rattle.sloth_base.specs.Stretches.{longest_stretch}
use Rattle.rv32_instr.specs.Ram.{word_at}
use Rattle.rv32_machine.specs.Run.{state_after_from, state_with_arrivals}
use Rattle.observe.specs.Pieces.{pieces, cut_off_steps}
use Rattle.std.specs.List.{AllByRecursion}
use Rattle.observe.specs.Observe.{observe}
use Rattle.osek_scheduler.specs.State.{System}
use Rattle.osek_scheduler.specs.Runs.{AreStepsTo, AreStepsBehind}
use Rattle.osek_scheduler.specs.InTime.{is_admit, admits_at, arrivals_at, IsOrdered, KeepsOrder}
use Rattle.sim_induction.specs.Short.{AreShort, IsShortPiece, HasShortGaps}
use Rattle.sim_induction.specs.Sound.{stands_before}
use Rattle.osek_blocking.specs.Pace.{last_count}
use Rattle.sim_induction.specs.Pace.{AreAtMost}
use Rattle.sim_induction.specs.Weighed.{AreWeighedTo}
use Rattle.sim_induction.specs.Paced.{ArePacedTo, AreStretchesWithin}
use Rattle.sim_induction.specs.Admits.{Setting}
use Rattle.sim_induction.specs.Advances.{EachPair, IsInCounts, HasSpent}
use Rattle.sim_induction.specs.PieceLaws.{Passed}
use Rattle.sim_induction.specs.Spent.{AreSpentTo}
use Rattle.sim_induction.proofs.Runs.{steps_from}

-- its events
abbrev pub events_from : Setting → ℕ → ℕ → State → List Stamped
events_from given n k m = observe given.view given.arrivals (steps_from n given.arrivals k m)

-- these events lead to a system that is related with this state of the count, with the arrivals of the count, for some bound
abbrev pub ReachedAt : Setting → (Passed → State → System → Type 0) → List Stamped → System → ℕ → State → Type 0
ReachedAt given R events s count x = (z : System) × AreStepsTo given.config given.app (filter (stands_before count) events) s z
    × ((passed : Passed) × R passed (state_with_arrivals given.arrivals count x) z)

-- these events lead from s to `end` as steps before each of which task t has spent no more than its item
pub record HasSpentTo (given : Setting) (t at spent : ℕ) (events : List Stamped) (s end : System) : Type 0 where
  pub to : ℕ
  pub left : ℕ
  pub leads : (longest : ℕ) → AreSpentTo given.config given.app given.size longest t at spent events s end to left

-- none of them
pub nothing_spent : (given : Setting) (t at spent : ℕ) (s : System) → HasSpentTo given t at spent [] s s
nothing_spent given t at spent s = record { to = at; left = spent; leads = λ longest. (refl, refl, refl) }

pub record SoundFrom (given : Setting) (R : Passed → State → System → Type 0) (progress : State → System → ℕ) (passed : Passed) (n k : ℕ)
    (m : State) (s : System) (past : List Stamped) : Type 0 where
  pub end : State
  pub whole : state_after_from n given.arrivals k m ≡ Some end
  pub last : System
  pub follows : AreStepsBehind given.config given.app past s (events_from given n k m) last
  pub weighed : AreWeighedTo given.config given.app (events_from given n k m) s last
  pub paced : (longest at : ℕ) → AreAtMost given.size longest → k ≤ at + 1 + progress m s
      → ArePacedTo given.config given.app given.size longest at (events_from given n k m) s last
      × (k + n ≤ last_count at (events_from given n k m) + longest + longest_stretch given.config)
      × ((heaviest : ℕ) → AreStretchesWithin given.config given.app heaviest → k + n ≤ last_count at (events_from given n k m) + longest + heaviest)
  pub spends : (t at spent : ℕ) → t < length given.config.tasks → HasSpent (word_at m.core.ram 0) (progress m s) passed k at t spent
      → HasSpentTo given t at spent (events_from given n k m) s last
  pub within : AllByRecursion (IsInCounts k (k + n)) (events_from given n k m)
  pub placed : EachPair IsOrdered (events_from given n k m)
  pub to : ℕ
  pub to_in : (k ≤ to) × (to ≤ k + n) × (k + n < to + longest_stretch given.config)
  pub ends : AllByRecursion (λ e. is_admit e ≡ false → e.stamp.at < to) (events_from given n k m)
  pub counted : (i t : ℕ) → admits_at i t (events_from given n k m) ≡ arrivals_at i t (moments k to given.arrivals)
  pub keeps : KeepsOrder (moments k to given.arrivals) (events_from given n k m)
  pub short : AllByRecursion (IsShortPiece given.config) (pieces [] (steps_from n given.arrivals k m))
  pub short_cut : AreShort given.config (cut_off_steps [] (steps_from n given.arrivals k m))
  pub gaps : (before : ℕ) → before ≤ progress m s → HasShortGaps given.view before (pieces [] (steps_from n given.arrivals k m))
  pub mirrors : (i : ℕ) → i < n → (x : State) → state_after_from i given.arrivals k m ≡ Some x → x.core.mie ≡ true → ReachedAt given R (events_from given n k m) s (k + i) x
