-- The computed step is the relation.
use Rattle.std.proofs.Common.{◌≡◌, ℕ, ◌<◌, not, length, Some, false, refl}
use Rattle.std.specs.Bool.{Decides}
use Rattle.std.proofs.lemmas.Bool.{not-true, not_from_false}
use Rattle.std.proofs.lemmas.Bool.Decides.{Decides-ltb, Decides-not, Decides-below_and}
use Rattle.sloth_base.specs.declared.config.Config.{Config}
use Rattle.sloth_base.specs.declared.app.App.{App}
use Rattle.sloth_base.specs.declared.service.Event.{Event}
use Rattle.sloth_base.specs.declared.service.Event.TheVariants as event
use Rattle.osek_scheduler.specs.State.{System}
use Rattle.osek_scheduler.specs.Priority.{IsDue}
use Rattle.osek_scheduler.specs.Steps.{OsekStep}
use Rattle.osek_scheduler.specs.Next.{is_due, all_below, next_state}
use Rattle.osek_scheduler.proofs.Tests.{Decides-is_due, Decides-no_ticks, Decides-is_next_tick}
use Rattle.osek_scheduler.proofs.Guards.{Decides-itself, Finds, by_one, by_two, by_three}
use Rattle.osek_scheduler.proofs.TaskEvents.{task_finds}

module _ (config : Config) (app : App) (s next : System) where
  nothing_due : Decides (all_below (length config.tasks) (λ t. not (is_due s t))) ((t : ℕ) → t < length config.tasks → ¬ (IsDue s t))
  nothing_due =
      Decides-below_and (λ t. not (is_due s t)) (λ t. ¬ (IsDue s t)) (λ n. all_below n (λ t. not (is_due s t)))
      (λ t. Decides-not _ (Decides-is_due s t)) refl (λ _. refl) (length config.tasks)

  not_booted : Decides (not s.booted) (s.booted ≡ false)
  not_booted = (not-true s.booted, not_from_false s.booted)

  finds : (e : Event) → Finds next (next_state config app e s) (OsekStep config app e s next)
  finds event.Boot = by_one not_booted
  finds event.Idle = by_three (Decides-itself s.booted) nothing_due (Decides-no_ticks config s)
  finds (event.Due c) = by_two (Decides-itself s.booted) (Decides-ltb c (length config.counters))
  finds (event.Tick c) = by_two (Decides-itself s.booted) (Decides-is_next_tick config s c)
  finds event.Stray = (λ h. absurd cc, λ h. absurd h)
  finds e = task_finds config app s next e refl

  pub step_of : (e : Event) → next_state config app e s ≡ Some next → OsekStep config app e s next
  step_of e = (finds e).0

  pub step_is : (e : Event) → OsekStep config app e s next → next_state config app e s ≡ Some next
  step_is e = (finds e).1
