-- The marks of the first tasks and alarms.
use Rattle.std.proofs.Common.{◌≡◌, ◌+◌, ℕ, List, [], ◌∷◌, ◌++◌, refl, ap}
use Rattle.std.specs.Prelude.{cond}
use Rattle.std.proofs.Math.Numerals.{add-one}
use Rattle.sloth_base.specs.declared.service.Arrival.{Arrival}
use Rattle.sloth_runner.specs.declared.task_states.Seen.{Seen}
use Rattle.schedule_picture.specs.declared.marks.Actor.{Actor}
use Rattle.schedule_picture.specs.declared.marks.Actor.TheVariants as actor
use Rattle.schedule_picture.specs.declared.marks.Sign.TheVariants as sign
use Rattle.schedule_picture.specs.Marks.{task_marks, tasks_marks, is_alarm_over, expiries}

pub no-tasks_marks : (A : List Arrival) (by : Actor) (before now : Seen) → tasks_marks A by before now 0 ≡ []
unfolding tasks_marks
no-tasks_marks A by before now = refl

pub one-task_more : (A : List Arrival) (by : Actor) (before now : Seen) (k : ℕ)
    → tasks_marks A by before now (k + 1) ≡ tasks_marks A by before now k ++ task_marks A by before now k
unfolding tasks_marks
one-task_more A by before now k = ap (tasks_marks A by before now) (add-one k)

pub no-expiries : (at counter : ℕ) (before now : List ℕ) → expiries at counter before now 0 ≡ []
unfolding expiries
no-expiries at counter before now = refl

pub one-expiry-more : (at counter : ℕ) (before now : List ℕ) (k : ℕ)
    → expiries at counter before now (k + 1)
    ≡ expiries at counter before now k ++ cond (is_alarm_over before now k) (record { at = at; actor = actor.Counter counter; sign = sign.Expires k } ∷ []) []
unfolding expiries
one-expiry-more at counter before now k = ap (expiries at counter before now) (add-one k)
