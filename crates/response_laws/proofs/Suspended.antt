-- What leaves a Suspended task Suspended: services of others that do not name it, and alarms that do not activate it.
use Rattle.std.proofs.Common.{◌≡◌, ℕ, zero, suc, ◌==◌, ◌&&◌, ◌||◌, not, List, [], ◌∷◌, Bool, true, false, cond, get_or, refl, sym, ap, ◌∙◌, subst, bit_and, bit_or}
use Rattle.std.proofs.lemmas.Bool.{cond_both, eqb-false, ne_eqb, not-true}
use Rattle.sloth_base.specs.declared.config.Action.{Action}
use Rattle.sloth_base.specs.declared.config.Action.TheVariants as action
use Rattle.sloth_base.specs.declared.config.Config.{Config}
use Rattle.sloth_base.specs.declared.config.TaskDecl.{TaskDecl}
use Rattle.sloth_base.specs.declared.service.Service.{Service}
use Rattle.sloth_base.specs.declared.service.Service.TheVariants as service
use Rattle.sloth_base.specs.Named.{undeclared_task}
use Rattle.sloth_base.specs.ServiceCodes.{is_service}
use Rattle.osek_scheduler.specs.declared.change.Other.{Other}
use Rattle.osek_scheduler.specs.declared.change.Other.TheVariants as other
use Rattle.osek_scheduler.specs.declared.change.Plan.{Plan}
use Rattle.osek_scheduler.specs.declared.state.TaskState.{TaskState}
use Rattle.osek_scheduler.specs.declared.state.TaskState.TheVariants as mode
use Rattle.osek_scheduler.specs.State.{Task, System, sleeping_task, task}
use Rattle.osek_scheduler.specs.Apart.{IsActive}
use Rattle.osek_scheduler.specs.Changes.{changed_task, with_change}
use Rattle.osek_scheduler.specs.Services.{activated_state, woken_state, with_events, set_events, acted_state}
use Rattle.osek_scheduler.specs.Outcomes.{decision, outcome, with_other, planned_system, shown_outcome}
use Rattle.osek_scheduler.specs.Steps.{autostarted_tasks}
use Rattle.osek_scheduler.proofs.AllPlans.{all_plans}
use Rattle.osek_scheduler.proofs.Apart.{at_task}
use Rattle.osek_scheduler.proofs.Outcomes.{by_suspended, on_outcome, on_tested, shown_after}
use Rattle.osek_scheduler.proofs.ServiceStates.{IsAfter}
use Rattle.run_counts.proofs.States.{not_suspended}
use Rattle.response_laws.specs.Ticks.{activates}
use Rattle.response_laws.proofs.Ticks.{other_activated}

-- the task is Suspended
abbrev pub IsSuspended : Task → Type 0
IsSuspended k = k.state ≡ mode.Suspended

pub awake : (m : TaskState) → m ≡ mode.Ready → m ≡ mode.Suspended → ⊥
awake m is asleep = never (sym is ∙ asleep)
  where
    never : mode.Ready ≡ mode.Suspended → ⊥
    never e = cc

pub waiting : (m : TaskState) (mask : ℕ) → m ≡ mode.Waiting mask → m ≡ mode.Suspended → ⊥
waiting m mask is asleep = never (sym is ∙ asleep)
  where
    never : mode.Waiting mask ≡ mode.Suspended → ⊥
    never e = cc

-- as the system starts, what does not start with it stays as it is
pub not_started : (ds : List TaskDecl) (ts : List Task) (t : ℕ) → (get_or ds t undeclared_task).autostart ≡ false → IsSuspended (get_or ts t sleeping_task)
    → IsSuspended (get_or (autostarted_tasks ds ts) t sleeping_task)
not_started [] ts t off asleep = asleep
not_started (d ∷ ds) [] t off asleep = asleep
not_started (d ∷ ds) (k ∷ ts) zero off asleep = subst (λ b. IsSuspended (cond b (record k { state = mode.Ready }) k)) (sym off) asleep
not_started (d ∷ ds) (k ∷ ts) (suc t) off asleep = not_started ds ts t off asleep

module _ (config : Config) (t : ℕ) where
  abbrev Asleep : System → Type 0
  Asleep s = IsSuspended (task s t)

  -- a setting of events wakes no Suspended task
  set_keeps : (u mask : ℕ) (x : System) → Asleep x → Asleep (set_events u mask x)
  set_keeps u mask x asleep = woken (task x u).state refl
    where
      set : Asleep (with_events x u (bit_or (task x u).events mask))
      set = at_task x u t (record (task x u) { events = bit_or (task x u).events mask }) IsSuspended asleep (λ e. subst (λ v. IsSuspended (task x v)) e asleep)

      woken : (m : TaskState) → (task x u).state ≡ m → Asleep (woken_state m (bit_or (task x u).events mask) u (with_events x u (bit_or (task x u).events mask)))
      woken mode.Suspended at = set
      woken mode.Ready at = set
      woken mode.Active at = set
      woken (mode.Waiting awaited) at =
          cond_both (bit_and (bit_or (task x u).events mask) awaited == 0) (with_events x u (bit_or (task x u).events mask))
          (activated_state (with_events x u (bit_or (task x u).events mask)) u) Asleep (λ _. set)
          (λ _. at_task (with_events x u (bit_or (task x u).events mask)) u t (record (task (with_events x u (bit_or (task x u).events mask)) u) { state = mode.Ready })
          IsSuspended set (λ e. absurd (waiting (task x u).state awaited at (subst (λ v. IsSuspended (task x v)) e asleep))))

  -- what is done besides activates another
  abbrev leaves_out : Other → Bool
  leaves_out (other.Activate u) = not (u == t)
  leaves_out o = true

  besides : (o : Other) (x : System) → leaves_out o ≡ true → Asleep x → Asleep (with_other o x)
  besides other.Nothing x out asleep = asleep
  besides (other.Activate u) x out asleep =
      at_task x u t (record (task x u) { state = mode.Ready }) IsSuspended asleep (λ e. absurd (eqb-false u t (not-true (u == t) out) (sym e)))
  besides (other.AddEvents u mask) x out asleep = set_keeps u mask x asleep
  besides (other.Store y w offset value) x out asleep = asleep
  besides (other.SetAlarm a left cycle) x out asleep = asleep

  abbrev is_calm : Plan → Bool
  is_calm p = leaves_out p.other

  module _ (c : ℕ) (away : c ≡ t → ⊥) (s : System) (asleep : Asleep s) where
    planned : (p : Plan) → is_calm p ≡ true → IsAfter Asleep (shown_outcome p.answer (planned_system c p s))
    planned p out =
        shown_after Asleep p.answer (planned_system c p s)
        (besides p.other (with_change c p.change s) out (at_task s c t (changed_task p.change (task s c)) IsSuspended asleep (λ e. absurd (away (sym e)))))

    tested : (served : Service) (object mask : ℕ) → all_plans is_calm (decision config served object mask c s) ≡ true
        → IsAfter Asleep (outcome config served object mask c s)
    tested served object mask out =
        on_outcome (IsAfter Asleep) c s (decision config served object mask c s)
        (on_tested s (λ p. IsAfter Asleep (shown_outcome p.answer (planned_system c p s))) is_calm planned (decision config served object mask c s) out)

    pub served_asleep : (served : Service) (object mask : ℕ) → ((is_service served service.ActivateTask || is_service served service.ChainTask) && (object == t)) ≡ false
        → IsAfter Asleep (outcome config served object mask c s)
    served_asleep service.ActivateTask object mask off = tested service.ActivateTask object mask (ap (λ b. not b && true) off)
    served_asleep service.ChainTask object mask off =
        tested service.ChainTask object mask
        (ap (λ b. not b && (not (object == t) && true)) (ne_eqb c t away) ∙ ap (λ b. not b && true) off)
    served_asleep served object mask off = tested served object mask refl

  -- an action of an alarm that does not activate it
  pub acted_asleep : (does : Action) (x : System) → activates t does ≡ false → IsSuspended (task x t) → IsSuspended (task (acted_state does x) t)
  acted_asleep (action.Activate u) x off asleep = other_activated t IsSuspended u x (eqb-false u t off) asleep
  acted_asleep (action.Set u mask) x off asleep =
      by_suspended (task x u).state x (set_events u mask x) Asleep (λ _. asleep) (λ _. set_keeps u mask x asleep)

  -- a task that is Active is another
  pub active_other : (u : ℕ) (s : System) → IsActive s u → Asleep s → u ≡ t → ⊥
  active_other u s active asleep e = not_suspended (task s u).state active (subst (λ v. IsSuspended (task s v)) (sym e) asleep)
