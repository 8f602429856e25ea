-- The cases of a law on one task: an event enters it, comes in a turn of it, or leaves it as it is.
use Rattle.std.proofs.Common.{◌≡◌, ℕ, ◌⊎◌, true, false, Some, None, refl, sym, ap, subst, inl, inr}
use Rattle.std.proofs.lemmas.Bool.{cases_eq, eq-eqb, ne_eqb, eqb-false}
use Rattle.sloth_base.specs.declared.config.Config.{Config}
use Rattle.sloth_base.specs.declared.app.App.{App}
use Rattle.sloth_base.specs.declared.service.Event.{Event}
use Rattle.sloth_base.specs.declared.service.Event.TheVariants as event
use Rattle.sloth_base.specs.Events.{served_task}
use Rattle.osek_scheduler.specs.State.{System, task}
use Rattle.osek_scheduler.proofs.Apart.{Same}
use Rattle.osek_blocking.proofs.Effects.{IsReady, Enters, Works, Calls, Effect}
use Rattle.osek_blocking.proofs.Frames.{SameFrames}
use Rattle.osek_blocking.proofs.Placed.{FrameEffect}
use Rattle.run_counts.specs.Stages.{is_turn, is_entry}

module _ (config : Config) (s next : System) (t : ℕ) where
  -- what the event is to task t
  pub data TaskCase (e : Event) : Type 0 where
    entry_case : is_entry t e ≡ true → is_turn t e ≡ false → Enters config t s next → TaskCase e
    work_case : is_turn t e ≡ true → is_entry t e ≡ false → served_task e ≡ None → Works config t s next → TaskCase e
    service_case : is_turn t e ≡ true → is_entry t e ≡ false → served_task e ≡ Some t → Calls config t s next → TaskCase e
    rest_case : is_turn t e ≡ false → is_entry t e ≡ false → Same config t (task s t) (task next t) → (IsReady s t → IsReady next t) → TaskCase e

  pub task_case : (e : Event) → Effect config s next e → TaskCase e
  task_case (event.Enter u) f = by (cases_eq u t)
    where
      by : (u ≡ t) ⊎ (u ≡ t → ⊥) → TaskCase (event.Enter u)
      by (inl e) = entry_case (eq-eqb u t e) refl (subst (λ v. Enters config v s next) e f)
      by (inr n) = rest_case refl (ne_eqb u t n) (f.moves.acts.calm t (λ e. n (sym e))) (f.moves.stays.ready t (λ e. n (sym e)))
  task_case (event.Run u func item result) f = by (cases_eq u t)
    where
      by : (u ≡ t) ⊎ (u ≡ t → ⊥) → TaskCase (event.Run u func item result)
      by (inl e) = work_case (eq-eqb u t e) refl refl (subst (λ v. Works config v s next) e f)
      by (inr n) = rest_case (ne_eqb u t n) refl (f.moves.acts.calm t (λ e. n (sym e))) (f.moves.stays.ready t (λ e. n (sym e)))
  task_case (event.Back u) f = by (cases_eq u t)
    where
      by : (u ≡ t) ⊎ (u ≡ t → ⊥) → TaskCase (event.Back u)
      by (inl e) = work_case (eq-eqb u t e) refl refl (subst (λ v. Works config v s next) e f)
      by (inr n) = rest_case (ne_eqb u t n) refl (f.moves.acts.calm t (λ e. n (sym e))) (f.moves.stays.ready t (λ e. n (sym e)))
  task_case (event.Call u served status) f = by (cases_eq u t)
    where
      by : (u ≡ t) ⊎ (u ≡ t → ⊥) → TaskCase (event.Call u served status)
      by (inl e) = service_case (eq-eqb u t e) refl (ap Some e) (subst (λ v. Calls config v s next) e f)
      by (inr n) = rest_case (ne_eqb u t n) refl (f.moves.acts.calm t (λ e. n (sym e))) (f.moves.stays.ready t (λ e. n (sym e)))
  task_case (event.Left u served) f = by (cases_eq u t)
    where
      by : (u ≡ t) ⊎ (u ≡ t → ⊥) → TaskCase (event.Left u served)
      by (inl e) = service_case (eq-eqb u t e) refl (ap Some e) (subst (λ v. Calls config v s next) e f)
      by (inr n) = rest_case (ne_eqb u t n) refl (f.moves.acts.calm t (λ e. n (sym e))) (f.moves.stays.ready t (λ e. n (sym e)))
  task_case e f = rest_case refl refl (f.same t) (f.ready t)

-- an event leaves a task where it stands, unless it enters it or comes in a turn of it
pub frames_kept : (app : App) (s next : System) (t : ℕ) (e : Event) → FrameEffect app s next e → is_turn t e ≡ false → is_entry t e ≡ false
    → SameFrames (task s t) (task next t)
frames_kept app s next t (event.Enter u) f away out = f.others t (λ e. eqb-false u t out (sym e))
frames_kept app s next t (event.Run u func item result) f away out = f.others t (λ e. eqb-false u t away (sym e))
frames_kept app s next t (event.Call u served status) f away out = f.others t (λ e. eqb-false u t away (sym e))
frames_kept app s next t (event.Left u served) f away out = f.others t (λ e. eqb-false u t away (sym e))
frames_kept app s next t (event.Back u) f away out = f.others t (λ e. eqb-false u t away (sym e))
frames_kept app s next t e f away out = f t
