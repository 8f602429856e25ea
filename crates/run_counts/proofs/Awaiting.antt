-- While the task of highest priority is Ready: what each event leaves, and which events are no task's turn.
use Rattle.std.proofs.Common.{◌≡◌, ℕ, ◌<◌, ◌⊎◌, Bool, true, false, length, is_some, refl, inl, inr}
use Rattle.std.specs.Prelude.{◌||◌}
use Rattle.std.proofs.lemmas.Bool.{true≢false}
use Rattle.sloth_base.specs.declared.config.Config.{Config}
use Rattle.sloth_base.specs.declared.app.App.{App}
use Rattle.sloth_base.specs.declared.service.Event.{Event}
use Rattle.sloth_base.specs.declared.service.Event.TheVariants as event
use Rattle.sloth_base.specs.Events.{admitted_line, is_boot, named_task}
use Rattle.osek_scheduler.specs.declared.state.TaskState.{TaskState}
use Rattle.osek_scheduler.specs.declared.state.TaskState.TheVariants as mode
use Rattle.osek_scheduler.specs.State.{System, task}
use Rattle.osek_scheduler.specs.Steps.{OsekStep}
use Rattle.osek_scheduler.specs.Valid.{IsValid}
use Rattle.osek_scheduler.proofs.Facts.{Facts}
use Rattle.osek_scheduler.proofs.Steps.{step_valid}
use Rattle.osek_blocking.specs.Blocking.{is_entry_of}
use Rattle.osek_blocking.proofs.Effects.{IsReady, Ordered}
use Rattle.osek_blocking.proofs.Ordering.{effect, step_ordered}
use Rattle.osek_blocking.proofs.Once.{stays}
use Rattle.osek_blocking.proofs.Placed.{Placed, step_placed}
use Rattle.osek_blocking.proofs.FrameEffects.{frame_effect}
use Rattle.osek_blocking.specs.Pace.{takes_line}
use Rattle.run_counts.specs.EntryLatency.{IsHighest, is_tick}

-- the event is no task's turn: an admission, or a tick
abbrev pub is_outside : Event → Bool
is_outside e = is_some (admitted_line e) || is_tick e

-- what is Ready is neither Active nor Suspended
pub clash : (m : TaskState) → m ≡ mode.Ready → (m ≡ mode.Active) ⊎ (m ≡ mode.Suspended) → ⊥
clash mode.Suspended a (inl b) = absurd cc
clash mode.Suspended a (inr b) = absurd cc
clash mode.Ready a (inl b) = absurd cc
clash mode.Ready a (inr b) = absurd cc
clash mode.Active a (inl b) = absurd cc
clash mode.Active a (inr b) = absurd cc
clash (mode.Waiting mask) a (inl b) = absurd cc
clash (mode.Waiting mask) a (inr b) = absurd cc

module _ (config : Config) (app : App) (w : Facts config app) (h : ℕ) (declared : h < length config.tasks) (highest : IsHighest config h) where
  pub record Awaits (s : System) : Type 0 where
    pub valid : IsValid config app s
    pub ordered : Ordered config s
    pub placed : Placed app s
    pub ready : IsReady s h

  module _ (s next : System) (x : Awaits s) where
    pub next_awaits : (e : Event) → OsekStep config app e s next → is_entry_of h e ≡ false → Awaits next
    next_awaits e step away = record {
      valid = step_valid config app e s next w step x.valid;
      ordered = step_ordered config app s next x.ordered e step;
      placed = step_placed config app s next e (frame_effect config app w s next x.valid e step) x.placed;
      ready = stays config app h declared s next x.ready e (effect config app s next x.ordered e step) away;
    }

    -- what comes and names no task is outside, and neither a boot nor an entry
    pub outside : (e : Event) → OsekStep config app e s next → is_some (named_task e) ≡ false → (is_boot e ≡ false) × (takes_line e ≡ is_tick e) × (is_outside e ≡ true)
    outside event.Boot step none = absurd (clash (task s h).state x.ready (inr (x.valid.asleep step.0 h)))
    outside event.Idle step none = absurd (step.1 h declared (inl x.ready))
    outside event.Stray step none = absurd step
    outside (event.Due c) step none = (refl, refl, refl)
    outside (event.Tick c) step none = (refl, refl, refl)
    outside e step none = absurd (true≢false none)
