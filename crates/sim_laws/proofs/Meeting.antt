-- The task that is entered may have something on its stack beside each task that has something there.
use Rattle.std.proofs.Common.{◌≡◌, ℕ, ◌<◌, ◌≤◌, ◌⊎◌, Bool, [], length, refl, inl, inr, sym, ◌∙◌, arith, true, false, Some}
use Rattle.sloth_base.specs.Choose.{choose}
use Rattle.sloth_base.specs.Machine.{State}
use Rattle.stack_bounds.specs.Bounds.{MayMeet}
use Rattle.stack_bounds.specs.Bounds.MayMeet.{meets_waiting, is_over}
use Rattle.osek_scheduler.specs.declared.state.TaskState.{TaskState}
use Rattle.osek_scheduler.specs.declared.state.TaskState.TheVariants as mode
use Rattle.osek_scheduler.specs.State.{System, task}
use Rattle.sloth_base.specs.Named.{declaration}
use Rattle.sloth_base.specs.MemoryMap.{line_count}
use Rattle.osek_scheduler.specs.Valid.{IsValid, InState}
use Rattle.shared_stacks.specs.Together.{OwesBySchedule}
use Rattle.osek_scheduler.proofs.Apart.{at_least_static}
use Rattle.shared_stacks.proofs.Together.{lower_may}
use Rattle.sim_relation.specs.Build.{Build}
use Rattle.sim_relation.specs.Stands.{Stands, IsAlive}
use Rattle.sim_relation.proofs.Choice.{taken_above}

clash : {X : Type 0} → true ≡ false → X
clash e = cc

module _ (b : Build) (state : State) (s : System) (k : Stands b state s) (few : length b.config.tasks ≤ line_count) (valid : IsValid b.config b.app s) (owing : OwesBySchedule b.app s) where
  -- a basic task never waits, so that it has something on its stack while it is Active
  alive_active : (u : ℕ) → u < length b.config.tasks → (declaration b.config u).extended ≡ false → IsAlive (task s u) → (task s u).state ≡ mode.Active
  alive_active u declared basic (inl active) = active
  alive_active u declared basic (inr some) = by (task s u).state refl (valid.each u declared).in_state
    where
      by : (m : TaskState) → (task s u).state ≡ m → InState b.config u (task s u) m → (task s u).state ≡ mode.Active
      by mode.Suspended e i = absurd (some i.1)
      by mode.Ready e i = none i.1
        where
          none : ((task s u).frames ≡ []) ⊎ ((declaration b.config u).extended ≡ true) → (task s u).state ≡ mode.Active
          none (inl f) = absurd (some f)
          none (inr f) = clash (sym f ∙ basic)
      by mode.Active e i = e
      by (mode.Waiting mask) e i = clash (sym i.2 ∙ basic)

  pub meets : (t : ℕ) → t < length b.config.tasks → choose state.core ≡ Some t → (u : ℕ) → u < length b.config.tasks → IsAlive (task s u) → MayMeet b.config b.app t u
  meets t is_task chosen u declared alive = by (declaration b.config u).extended refl
    where
      by : (x : Bool) → (declaration b.config u).extended ≡ x → MayMeet b.config b.app t u
      by true e = meets_waiting e
      by false e =
          let active = alive_active u declared e alive in
          let over = taken_above b state s k few t is_task chosen u (k.active.all u declared active) in
          let least = at_least_static b.config u (task s u) in
          is_over (lower_may b.config b.app s valid owing u t declared is_task active over) (omega (arith, over, least))
