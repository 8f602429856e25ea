-- What each event does to where the tasks stand, and that each stands where a walk of it leads throughout.
use Rattle.std.proofs.Common.{List, [], ◌∷◌, refl, sym, subst}
use Rattle.sloth_base.specs.declared.config.Config.{Config}
use Rattle.sloth_base.specs.declared.app.App.{App}
use Rattle.sloth_base.specs.declared.service.Event.{Event}
use Rattle.sloth_base.specs.declared.service.Event.TheVariants as event
use Rattle.sloth_base.specs.declared.service.Stamped.{Stamped}
use Rattle.osek_scheduler.specs.State.{System, task}
use Rattle.osek_scheduler.specs.Steps.{OsekStep}
use Rattle.osek_scheduler.specs.Runs.{AreStepsTo}
use Rattle.osek_scheduler.specs.Valid.{IsValid}
use Rattle.osek_scheduler.proofs.Facts.{Facts}
use Rattle.osek_scheduler.proofs.Steps.{autostarted_at, step_valid}
use Rattle.osek_blocking.proofs.Frames.{SameFrames, same_frames, KeepsFrames, ticked_frames}
use Rattle.osek_blocking.proofs.Placed.{Placed, FrameEffect, task_frames, step_placed}

module _ (config : Config) (app : App) (w : Facts config app) (s next : System) (v : IsValid config app s) where
  pub frame_effect : (e : Event) → OsekStep config app e s next → FrameEffect app s next e
  frame_effect event.Boot h =
      subst (KeepsFrames s) (sym h.1)
      (λ u. autostarted_at (SameFrames (task s u)) config.tasks s.tasks u (same_frames (task s u)) (record { frames = refl; owed = refl; held = refl }))
  frame_effect event.Idle h = subst (KeepsFrames s) (sym h.3) (λ u. same_frames (task s u))
  frame_effect event.Stray h = absurd h
  frame_effect (event.Due c) h = subst (KeepsFrames s) (sym h.2) (λ u. same_frames (task s u))
  frame_effect (event.Tick c) h = subst (KeepsFrames s) (sym h.2) (ticked_frames config s c h.1.declared)
  frame_effect e h = task_frames config app w s next v e h refl

module _ (config : Config) (app : App) where
  pub leads_placed : Facts config app → (events : List Stamped) (s end : System) → AreStepsTo config app events s end → IsValid config app s → Placed app s
      → Placed app end
  leads_placed w [] s end is v p = subst (Placed app) (sym is) p
  leads_placed w (e ∷ events) s end h v p =
      leads_placed w events h.0 end h.2 (step_valid config app e.event s h.0 w h.1 v)
      (step_placed config app s h.0 e.event (frame_effect config app w s h.0 v e.event h.1) p)
