-- Busy periods: from where no task of at least a static priority is due on (Lehoczky 1990).
use Rattle.std.specs.Prelude.{ℕ, ◌≤◌, ◌≡◌, ◌⊎◌, ◌==◌, ◌&&◌, not, cond, List, [], ◌∷◌, ◌++◌, Bool, true, false, length}
use Rattle.std.specs.List.{AllByRecursion}
use Rattle.sloth_base.specs.declared.config.Config.{Config}
use Rattle.osek_scheduler.specs.State.{System, task}
use Rattle.osek_scheduler.specs.Apart.{IsActive}
use Rattle.osek_scheduler.specs.InTime.{is_admit}
use Rattle.osek_scheduler.specs.Priority.{is_active}
use Rattle.osek_scheduler.specs.Next.{is_due, all_below, no_ticks}
use Rattle.run_counts.specs.Stages.{Stage}
use Rattle.run_counts.specs.Rounds.{is_left}
use Rattle.response_laws.specs.Sums.{count, is_over}

-- no task of at least the static priority of h is Ready or Active, and no counter is due
abbrev pub is_quiet : Config → (h : ℕ) → System → Bool
is_quiet config h s = all_below (length config.tasks) (λ t. not (is_over config h t && is_due s t)) && no_ticks config s

-- none but h is, and no counter is due
abbrev pub is_quiet_but : Config → (h : ℕ) → System → Bool
is_quiet_but config h s =
    all_below (length config.tasks) (λ t. not (is_over config h t && (not (t == h) && is_due s t))) && no_ticks config s

-- behind admissions task h leaves
abbrev pub LeavesFirst : (h : ℕ) → List Stage → Type 0
LeavesFirst h [] = ⊥
LeavesFirst h (x ∷ xs) = (is_left h x.stamped.event ≡ true) ⊎ ((is_admit x.stamped ≡ true) × LeavesFirst h xs)

-- Task h leaves the processor to what is admitted, or made, as it leaves.
pub record IsLeaving (config : Config) (h : ℕ) (first : Stage) (period : List Stage) : Type 0 where
  pub active : IsActive first.found h
  pub alone : is_quiet_but config h first.found ≡ true
  pub leaves : LeavesFirst h (first ∷ period)

-- h leaves no more before the last of these stages, but for the leaving with which they begin
abbrev pub LeavesOnce : (h : ℕ) → (first : Stage) → (period : List Stage) → Type 0
LeavesOnce h first period =
    (front rest : List Stage) (last : Stage) → first ∷ period ≡ front ++ last ∷ rest
    → count (λ x. is_left h x.stamped.event) front ≤ cond (is_active (task first.found h).state) 1 0

-- The first of these stages of a run finds a quiet state, or, where h is to be entered once, h leaves with them; none of those behind it finds a quiet
-- state. The period need not be the longest.
pub record IsBusyPeriod (config : Config) (h : ℕ) (once : Bool) (run : List Stage) (first : Stage) (period : List Stage) : Type 0 where
  pub before : List Stage
  pub behind : List Stage
  pub part : run ≡ before ++ ((first ∷ period) ++ behind)
  pub begins : (is_quiet config h first.found ≡ true) ⊎ ((once ≡ true) × IsLeaving config h first period)
  pub busy : AllByRecursion (λ x. is_quiet config h x.found ≡ false) period
  pub leaves_once : once ≡ true → LeavesOnce h first period
