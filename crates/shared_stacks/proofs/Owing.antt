-- A task owes a `back` only where it reaches a Schedule: each step keeps that.
use Rattle.std.proofs.Common.{◌≡◌, true, refl, sym, ap, ◌∙◌, subst}
use Rattle.std.proofs.lemmas.Bool.{false≢true}
use Rattle.sloth_base.specs.declared.config.Config.{Config}
use Rattle.sloth_base.specs.declared.app.App.{App}
use Rattle.sloth_base.specs.declared.service.Event.{Event}
use Rattle.sloth_base.specs.declared.service.Event.TheVariants as event
use Rattle.stack_bounds.specs.Bounds.{ReachesSchedule}
use Rattle.osek_scheduler.specs.State.{System, opening}
use Rattle.osek_scheduler.proofs.Ticking.{parts_kept, ticked_keeps}
use Rattle.osek_scheduler.specs.Steps.{OsekStep}
use Rattle.osek_scheduler.specs.Valid.{IsValid}
use Rattle.shared_stacks.specs.Together.{OwesBySchedule}
use Rattle.shared_stacks.proofs.TaskOwing.{owes_besides, task_owes}
use Rattle.osek_scheduler.proofs.Facts.{Facts}
use Rattle.osek_scheduler.proofs.Steps.{autostarted_at, asleep_at}

module _ (app : App) (config : Config) (w : Facts config app) where
  pub step_owes : (e : Event) (s next : System) → OsekStep config app e s next → IsValid config app s → OwesBySchedule app s → OwesBySchedule app next
  step_owes event.Boot s next h v each =
      subst (OwesBySchedule app) (sym h.1) (λ t. autostarted_at (λ k. k.owed ≡ true → ReachesSchedule app t) config.tasks s.tasks t (each t) (each t))
  step_owes event.Idle s next h v each = subst (OwesBySchedule app) (sym h.3) each
  step_owes event.Stray s next h v each = absurd h
  step_owes (event.Due c) s next h v each = subst (OwesBySchedule app) (sym h.2) each
  step_owes (event.Tick c) s next h v each =
      subst (OwesBySchedule app) (sym h.2) (ticked_keeps (OwesBySchedule app) config (parts_kept (OwesBySchedule app) config (owes_besides app) (λ x d new o. o)) s c h.1.declared each)
  step_owes e s next h v each = task_owes app config w e s next h refl v each

  pub opening_owes : OwesBySchedule app (opening config app)
  opening_owes t e = absurd (false≢true (sym (ap (λ k. k.owed) (asleep_at config.tasks t)) ∙ e))
