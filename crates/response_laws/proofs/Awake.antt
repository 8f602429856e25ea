-- A task that is not Suspended comes.
use Rattle.std.proofs.Common.{◌≡◌, ◌⊎◌, ◌==◌, ◌&&◌, ◌||◌, ℕ, Bool, true, false, refl, subst, inl, inr}
use Rattle.std.proofs.lemmas.Bool.{false≢true, and_parts, eqb-true}
use Rattle.sloth_base.specs.declared.app.App.{App}
use Rattle.sloth_base.specs.declared.config.Config.{Config}
use Rattle.sloth_base.specs.declared.service.Event.{Event}
use Rattle.sloth_base.specs.declared.service.Event.TheVariants as event
use Rattle.sloth_base.specs.declared.service.Service.TheVariants as service
use Rattle.sloth_base.specs.ServiceCodes.{is_service}
use Rattle.osek_scheduler.specs.Steps.{OsekStep}
use Rattle.run_counts.specs.Rounds.{opens_round, goes_on_waiting}
use Rattle.run_counts.specs.Stages.{is_entry}
use Rattle.osek_scheduler.specs.Apart.{IsActive}
use Rattle.osek_scheduler.specs.declared.state.TaskState.TheVariants as mode
use Rattle.osek_scheduler.specs.State.{System, task}
use Rattle.run_counts.proofs.States.{not_suspended}
use Rattle.response_laws.specs.Never.{OthersSleep}
use Rattle.response_laws.proofs.Suspended.{awake}

or_true : (a b : Bool) → (a || b) ≡ true → (a ≡ true) ⊎ (b ≡ true)
or_true true b e = inl refl
or_true false b e = inr e

module _ (comes : ℕ → Bool) (s : System) (sleeps : OthersSleep comes s) (t : ℕ) where
  unless : ((task s t).state ≡ mode.Suspended → ⊥) → comes t ≡ true
  unless wakes = by (comes t) refl
    where
      by : (b : Bool) → comes t ≡ b → comes t ≡ true
      by true is = is
      by false is = absurd (wakes (sleeps t is))

  pub active_comes : IsActive s t → comes t ≡ true
  active_comes active = unless (not_suspended (task s t).state active)

  -- a task that opens a round
  pub opener_comes : (config : Config) (app : App) (cuts : Bool) (e : Event) (next : System) → OsekStep config app e s next → opens_round cuts t e ≡ true → comes t ≡ true
  opener_comes config app cuts e next step opens = which (or_true (is_entry t e) (cuts && goes_on_waiting t e) opens)
    where
      entered : (e : Event) → OsekStep config app e s next → is_entry t e ≡ true → (task s t).state ≡ mode.Ready
      entered (event.Enter u) step entry = subst (λ v. (task s v).state ≡ mode.Ready) (eqb-true u t entry) step.2
      entered e step entry = absurd (false≢true entry)

      went_on : (e : Event) → OsekStep config app e s next → goes_on_waiting t e ≡ true → IsActive s t
      went_on (event.Call u served status) step goes =
          subst (λ v. IsActive s v) (eqb-true u t (and_parts (u == t) (is_service served service.WaitEvent) goes).0) step.1.1.at.active
      went_on e step goes = absurd (false≢true goes)

      which : (is_entry t e ≡ true) ⊎ ((cuts && goes_on_waiting t e) ≡ true) → comes t ≡ true
      which (inl entry) = unless (awake (task s t).state (entered e step entry))
      which (inr goes) = active_comes (went_on e step (and_parts cuts (goes_on_waiting t e) goes).1)
