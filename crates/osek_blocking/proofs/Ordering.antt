-- What each event does to the tasks that it is not of, and that the order of the tasks that were entered holds throughout.
use Rattle.std.proofs.Common.{◌≡◌, suc, List, [], ◌∷◌, refl, sym, ◌∙◌, subst, arith}
use Rattle.std.proofs.lemmas.List.{length-map}
use Rattle.sloth_base.specs.declared.config.Config.{Config}
use Rattle.sloth_base.specs.declared.app.App.{App}
use Rattle.sloth_base.specs.declared.service.Event.{Event}
use Rattle.sloth_base.specs.declared.service.Event.TheVariants as event
use Rattle.sloth_base.specs.declared.service.Stamped.{Stamped}
use Rattle.osek_scheduler.specs.declared.state.TaskState.TheVariants as mode
use Rattle.osek_scheduler.specs.State.{System, sleeping_task, opening}
use Rattle.osek_scheduler.specs.Steps.{OsekStep}
use Rattle.osek_scheduler.specs.Runs.{AreStepsTo}
use Rattle.osek_scheduler.proofs.Apart.{boot_calm, tick_calm, opening_apart}
use Rattle.osek_scheduler.proofs.ApartSteps.{step_apart}
use Rattle.osek_scheduler.proofs.Steps.{length-autostarted, autostarted_at}
use Rattle.osek_blocking.proofs.Staying.{tick_stays}
use Rattle.osek_blocking.proofs.Effects.{Ordered, Passes, Admits, Effect, task_effect, kept_count}

-- ---- each event

module _ (config : Config) (app : App) (s next : System) (o : Ordered config s) where
  pub effect : (e : Event) → OsekStep config app e s next → Effect config s next e
  effect event.Boot h =
      subst (Passes config s) (sym h.1)
      (record {
        count = length-autostarted config.tasks s.tasks;
        same = boot_calm config s;
        ready = λ u r. autostarted_at (λ k. k.state ≡ mode.Ready) config.tasks s.tasks u r refl;
        settles = refl;
      })
  effect event.Idle h = subst (Passes config s) (sym h.3) (record { count = refl; same = λ u e. (e, refl); ready = λ u r. r; settles = refl })
  effect event.Stray h = absurd h
  effect (event.Due c) h = subst (Admits config s) (sym h.2) (record { count = refl; same = λ u e. (e, refl); ready = λ u r. r; fresh = λ u r. refl })
  effect (event.Tick c) h =
      subst (Passes config s) (sym h.2)
      (record {
        count = (tick_stays 0 config s c h.1.declared).count;
        same = tick_calm config s c h.1.declared;
        ready = λ u r. (tick_stays (suc u) config s c h.1.declared).ready u (λ e. absurd (omega (arith, e))) r;
        settles = refl;
      })
  effect e h = task_effect config app s next o e h refl

  pub step_ordered : (e : Event) → OsekStep config app e s next → Ordered config next
  step_ordered e h = record {
    count = kept_count config s next e (effect e h) ∙ o.count;
    apart = step_apart config app e s next h o.count o.apart;
  }

-- ---- runs

module _ (config : Config) (app : App) where
  pub opening_ordered : Ordered config (opening config app)
  opening_ordered = record { count = length-map config.tasks (λ _. sleeping_task); apart = opening_apart config app }

  pub leads_ordered : (events : List Stamped) (s end : System) → Ordered config s → AreStepsTo config app events s end → Ordered config end
  leads_ordered [] s end o h = subst (Ordered config) (sym h) o
  leads_ordered (e ∷ events) s end o h = leads_ordered events h.0 end (step_ordered config app s h.0 o e.event h.1) h.2
