-- Behind each event the system has started.
use Rattle.std.proofs.Common.{◌≡◌, ℕ, true, false, refl, sym, ◌∙◌, subst}
use Rattle.sloth_base.specs.declared.config.Config.{Config}
use Rattle.sloth_base.specs.declared.app.App.{App}
use Rattle.sloth_base.specs.declared.service.Event.{Event}
use Rattle.sloth_base.specs.declared.service.Event.TheVariants as event
use Rattle.sloth_base.specs.declared.service.Service.{Service}
use Rattle.sloth_base.specs.Events.{is_boot}
use Rattle.sloth_base.specs.Named.{counter_declaration}
use Rattle.osek_scheduler.specs.State.{System}
use Rattle.osek_scheduler.specs.Services.{counted_on_state, ServiceOutcome}
use Rattle.osek_scheduler.proofs.ServiceStates.{IsAfter}
use Rattle.osek_scheduler.specs.Outcomes.{decision}
use Rattle.osek_scheduler.specs.Steps.{OsekStep, IsServiceStep}
use Rattle.osek_scheduler.proofs.Outcomes.{KeptByOthers, outcome_keeps_all}
use Rattle.std.proofs.lemmas.Bool.{true≢false}
use Rattle.run_counts.proofs.StepCases.{clock_behind}
use Rattle.response_laws.proofs.Steps.{alarms_keep}

abbrev pub HasStarted : System → Type 0
HasStarted x = x.booted ≡ true

besides : KeptByOthers HasStarted
besides = record { activates = λ x t h. h; sets = λ x t events h. h; stores = λ x symbols h. h; sets_alarms = λ x a new h. h }

module _ (config : Config) (app : App) where
  answered : (t : ℕ) (served : Service) (s : System) (answer : ServiceOutcome) → HasStarted s → IsServiceStep config app t served s answer → IsAfter HasStarted answer
  answered t served s answer on h =
      subst (IsAfter HasStarted) h.is
      (outcome_keeps_all HasStarted besides t s (λ new. on) (decision config served h.call.object h.call.mask t s))

  pub has_started : (e : Event) (s next : System) → OsekStep config app e s next → HasStarted next
  has_started e s next step =
      clock_behind config app (λ _. Unit {0}) HasStarted s
      (record {
        apart = λ x tasks symbols fresh on. on;
        same = λ started is. is;
        serves = λ t served answer h on. answered t served s answer on h;
        dues = λ c _ on. on;
        ticks = λ c _. alarms_keep HasStarted besides c 0 config.alarms (counted_on_state c (counter_declaration config c).max s);
      })
      e next step tt

  -- so no event of a started system is boot
  pub no_boot : (e : Event) (s next : System) → OsekStep config app e s next → HasStarted s → is_boot e ≡ false
  no_boot event.Boot s next h on = absurd (true≢false (sym on ∙ h.0))
  no_boot e s next h on = refl
