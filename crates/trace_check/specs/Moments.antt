-- When each Ready task was admitted: what decides, by one number for each line, which Ready tasks a service may pass over.
use Rattle.std.specs.Prelude.{ℕ, ◌<◌, ◌≡◌, ◌↔◌, ◌||◌, List, Bool, not, length, get_or, set, ltb}
use Rattle.sloth_base.specs.declared.config.Config.{Config}
use Rattle.sloth_base.specs.declared.app.App.{App}
use Rattle.sloth_base.specs.declared.service.Event.{Event}
use Rattle.sloth_base.specs.declared.service.Event.TheVariants as event
use Rattle.sloth_base.specs.declared.service.Stamped.{Stamped}
use Rattle.sloth_base.specs.MemoryMap.{line_count}
use Rattle.osek_scheduler.specs.State.{System, task, opening}
use Rattle.osek_scheduler.specs.Services.{if_suspended}
use Rattle.osek_scheduler.specs.Next.{all_below}
use Rattle.osek_scheduler.specs.Runs.{AreStepsTo, ReadySince}

-- the moments after an event of moment `at` in state s: that of an admit that makes its task Ready is noted, an entry clears
abbrev pub noted_moments : Event → ℕ → System → List ℕ → List ℕ
noted_moments (event.Admit t) at s moments = if_suspended (task s t).state (set moments t at) moments
noted_moments (event.Enter t) at s moments = set moments t 0
noted_moments _ at s moments = moments

-- The events lead to s, and the moment kept for each task is the number of the moments k such that the task has been Ready since an
-- admit behind k: the moment of that admit, or 0 where there is none.
pub record KeepsMoments (config : Config) (app : App) (past : List Stamped) (s : System) (moments : List ℕ) : Type 0 where
  pub leads : AreStepsTo config app past (opening config app) s
  pub count : length moments ≡ line_count
  pub tells : (u k : ℕ) → (k < get_or moments u 0) ↔ ReadySince config app past u k

-- the moment of each line of this row is behind k
unfoldable pub all_later : (ℕ → Bool) → List ℕ → ℕ → Bool
all_later row moments k = all_below line_count (λ u. not (row u) || ltb k (get_or moments u 0))
