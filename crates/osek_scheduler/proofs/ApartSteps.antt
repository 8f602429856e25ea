-- Each step keeps the order of the tasks that were entered.
use Rattle.std.proofs.Common.{◌≡◌, true, length, refl, sym, subst}
use Rattle.std.proofs.lemmas.Bool.{false≢true}
use Rattle.sloth_base.specs.declared.config.Config.{Config}
use Rattle.sloth_base.specs.declared.app.App.{App}
use Rattle.sloth_base.specs.declared.service.Event.{Event}
use Rattle.sloth_base.specs.declared.service.Event.TheVariants as event
use Rattle.osek_scheduler.specs.State.{System, task}
use Rattle.osek_scheduler.specs.Services.{ticked_state}
use Rattle.osek_scheduler.specs.Steps.{settled_state, autostarted_tasks, due_state, OsekStep}
use Rattle.osek_scheduler.specs.Apart.{TasksAreApart}
use Rattle.osek_scheduler.proofs.Apart.{itself, apart_kept, boot_calm, tick_calm, task_apart}

pub step_apart : (config : Config) (app : App) (e : Event) (s next : System) → OsekStep config app e s next → length s.tasks ≡ length config.tasks
    → TasksAreApart config s → TasksAreApart config next
step_apart config app event.Boot s next h count a =
    subst (TasksAreApart config) (sym h.1)
    (apart_kept config s (settled_state (record s { tasks = autostarted_tasks config.tasks s.tasks; booted = true })) a (boot_calm config s) (λ u x. absurd (false≢true x)))
step_apart config app event.Idle s next h count a =
    subst (TasksAreApart config) (sym h.3) (apart_kept config s (settled_state s) a (λ u. itself config u (task s u)) (λ u x. absurd (false≢true x)))
step_apart config app event.Stray s next h count a = absurd h
step_apart config app (event.Due c) s next h count a =
    subst (TasksAreApart config) (sym h.2) (apart_kept config s (due_state c s) a (λ u. itself config u (task s u)) a.fresh_ready)
step_apart config app (event.Tick c) s next h count a =
    subst (TasksAreApart config) (sym h.2)
    (apart_kept config s (settled_state (ticked_state config c s)) a (tick_calm config s c h.1.declared) (λ u x. absurd (false≢true x)))
step_apart config app e s next h count a = task_apart config app e s next h refl count a
