-- A task that is Ready and not entered stays so, where it stood.
use Rattle.std.proofs.Common.{◌≡◌, ℕ, ◌&&◌, not, true, false, refl, sym, ap, ◌∙◌}
use Rattle.std.proofs.lemmas.Bool.{false≢true, true≢false, and_parts}
use Rattle.sloth_base.specs.declared.config.Config.{Config}
use Rattle.sloth_base.specs.declared.app.App.{App}
use Rattle.osek_scheduler.specs.declared.state.TaskState.{TaskState}
use Rattle.osek_scheduler.specs.declared.state.TaskState.TheVariants as mode
use Rattle.osek_scheduler.specs.State.{task}
use Rattle.osek_scheduler.specs.Next.{is_ready}
use Rattle.osek_scheduler.proofs.Facts.{Facts}
use Rattle.osek_blocking.proofs.Ordering.{effect}
use Rattle.osek_blocking.proofs.FrameEffects.{frame_effect}
use Rattle.sim_induction.specs.Events.{has_frames}
use Rattle.run_counts.specs.Stages.{Stage}
use Rattle.response_laws.specs.Turns.{at_entry, is_ready_for}
use Rattle.run_counts.proofs.States.{not_ready}
use Rattle.run_counts.proofs.TaskCases.{TaskCase, entry_case, work_case, service_case, rest_case, task_case, frames_kept}
use Rattle.response_laws.proofs.Linked.{Known}

module _ (config : Config) (app : App) (w : Facts config app) (j : ℕ) where
  -- what is Ready and not entered stays so
  is_ready_state : (m : TaskState) → is_ready m ≡ true → m ≡ mode.Ready
  is_ready_state mode.Ready e = refl
  is_ready_state mode.Suspended e = absurd (false≢true e)
  is_ready_state mode.Active e = absurd (false≢true e)
  is_ready_state (mode.Waiting mask) e = absurd (false≢true e)

  pub ready_on : (x : Stage) → Known config app x → at_entry j x ≡ false → is_ready_for false (task x.found j) ≡ true → is_ready_for false (task x.next j) ≡ true
  ready_on x known away is =
      let both = and_parts (is_ready (task x.found j).state) (not (has_frames (task x.found j).frames)) is in
      let ready = is_ready_state (task x.found j).state both.0 in
      let both_on = by ready (task_case config x.found x.next j x.stamped.event (effect config app x.found x.next known.ordered x.stamped.event known.step)) in
      ap (λ m. is_ready m && not (has_frames (task x.next j).frames)) both_on.0 ∙ ap (λ fs. not (has_frames fs)) both_on.1 ∙ both.1
    where
      by : (task x.found j).state ≡ mode.Ready → TaskCase config x.found x.next j x.stamped.event
          → ((task x.next j).state ≡ mode.Ready) × ((task x.next j).frames ≡ (task x.found j).frames)
      by ready (entry_case entry idle f) = absurd (true≢false (sym entry ∙ away))
      by ready (work_case turn out calls f) = absurd (not_ready (task x.found j).state f.was ready)
      by ready (service_case turn out calls f) = absurd (not_ready (task x.found j).state f.was ready)
      by ready (rest_case idle out same on) = (
        on ready,
        (frames_kept app x.found x.next j x.stamped.event (frame_effect config app w x.found x.next known.valid x.stamped.event known.step) idle out).frames,
      )
