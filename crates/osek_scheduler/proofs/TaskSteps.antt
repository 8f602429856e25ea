-- Each event of a task keeps a state valid.
use Rattle.std.proofs.Common.{◌≡◌, ℕ, ◌<◌, List, [], ◌∷◌, Bool, true, false, not, ◌&&◌, length, refl, sym, ap, ◌∙◌, subst, is_some}
use Rattle.std.proofs.lemmas.Bool.{false≢true}
use Rattle.std.proofs.lemmas.List.{length-set, length-replicate}
use Rattle.sloth_base.specs.declared.config.Config.{Config}
use Rattle.sloth_base.specs.declared.app.App.{App}
use Rattle.sloth_base.specs.declared.service.Event.{Event}
use Rattle.sloth_base.specs.declared.service.Event.TheVariants as event
use Rattle.osek_scheduler.specs.declared.state.TaskState.TheVariants as mode
use Rattle.osek_scheduler.specs.State.{Frame, Task, System, task, with_task, entry_frame}
use Rattle.sloth_base.specs.Named.{declaration, function, body_of}
use Rattle.sloth_base.specs.Events.{named_task}
use Rattle.osek_scheduler.specs.Services.{activated_state, started_task, entered_state, GoesOn, Leaves}
use Rattle.osek_scheduler.specs.Steps.{admitted_state, OsekStep}
use Rattle.osek_scheduler.proofs.Facts.{Facts}
use Rattle.osek_scheduler.specs.Valid.{AreCalls, held_by, IsAtRest, InState, IsValidTask, IsValid}
use Rattle.osek_scheduler.proofs.Held.{held_at_begin}
use Rattle.osek_scheduler.proofs.Stacks.{has_body}
use Rattle.osek_scheduler.proofs.Going.{keeps, settles, runs_on}
use Rattle.osek_scheduler.proofs.Items.{executes_valid}
use Rattle.osek_scheduler.proofs.Outcomes.{by_suspended}
use Rattle.osek_scheduler.proofs.Serving.{activated_valid, serves_valid}

-- ---- entries

and_not : (b owed : Bool) → owed ≡ false → b ≡ (b && not owed)
and_not true owed e = sym (ap not e)
and_not false owed e = refl

enter_valid : (config : Config) (app : App) → Facts config app → (s : System) (t : ℕ) → IsValid config app s → s.booted ≡ true → t < length config.tasks
    → (task s t).state ≡ mode.Ready → IsValid config app (entered_state config app t s)
enter_valid config app w s t v booted declared ready =
    keeps config app s t (record (started_task app t (task s t).frames (task s t)) { state = mode.Active; raised = (declaration config t).non }) v booted declared
    (by (task s t).frames refl)
  where
    k : IsValidTask config app t (task s t)
    k = v.each t declared

    rests : IsAtRest (task s t)
    rests = (subst (InState config t (task s t)) ready k.in_state).0

    by : (fs : List Frame) → (task s t).frames ≡ fs
        → IsValidTask config app t (record (started_task app t fs (task s t)) { state = mode.Active; raised = (declaration config t).non })
    by [] e =
        let body = has_body config app w t declared in
        runs_on config app t (record (started_task app t [] (task s t)) { state = mode.Active; raised = (declaration config t).non })
        (entry_frame app (body_of app.funcs t)) [] refl refl
        (record { known = body.0; inside = w.has_items _ body.0; words = length-replicate (function app (body_of app.funcs t)).frame_words 0 })
        refl (rests.holds ∙ sym (held_at_begin config app w (body_of app.funcs t) body.0)) (and_not _ _ rests.not_owed) (λ _. rests.holds) refl k.listed k.distinct k.events
    by (frame ∷ outer) e =
        let stack = subst (AreCalls app t) e k.calls in
        runs_on config app t (record (started_task app t (frame ∷ outer) (task s t)) { state = mode.Active; raised = (declaration config t).non })
        frame outer refl e stack.0 stack.1 (k.held ∙ ap (held_by app) e) (and_not _ _ rests.not_owed) (λ _. rests.holds)
        (length-set (task s t).registers 5 0 ∙ k.registers) k.listed k.distinct k.events

back_valid : (config : Config) (app : App) (s : System) (t : ℕ) → IsValid config app s → s.booted ≡ true → t < length config.tasks
    → (task s t).state ≡ mode.Active → IsValid config app (with_task s t (record (task s t) { owed = false; raised = (declaration config t).non }))
back_valid config app s t v booted declared active =
    let k = v.each t declared in
    let state = subst (InState config t (task s t)) active k.in_state in
    let new : Task = record (task s t) { owed = false; raised = (declaration config t).non } in
    keeps config app s t new v booted declared
    (record {
      registers = k.registers;
      calls = k.calls;
      held = k.held;
      listed = k.listed;
      distinct = k.distinct;
      events = k.events;
      in_state = subst (InState config t new) (sym active) (state.0, and_not _ _ refl, λ e. absurd (false≢true e));
    })

-- ---- arrivals

admit_valid : (config : Config) (app : App) (s : System) (t : ℕ) → IsValid config app s → s.booted ≡ true → t < length config.tasks → IsValid config app (admitted_state t s)
admit_valid config app s t v booted declared =
    by_suspended (task s t).state (record (activated_state s t) { fresh = t ∷ s.fresh }) s (IsValid config app)
    (λ asleep.
    let a = activated_valid config app s t v booted declared asleep in
    record { count = a.count; each = a.each; sizes = a.sizes; asleep = a.asleep; clock = a.clock })
    (λ _. v)

-- ---- each event of a task

pub task_step_valid : (config : Config) (app : App) (e : Event) (s next : System) → Facts config app → OsekStep config app e s next → is_some (named_task e) ≡ true
    → IsValid config app s → IsValid config app next
task_step_valid config app (event.Admit t) s next w h named v = subst (IsValid config app) (sym h.2) (admit_valid config app s t v h.0 h.1)
task_step_valid config app (event.Enter t) s next w h named v =
    subst (IsValid config app) (sym h.4) (settles config app _ (enter_valid config app w s t v h.0 h.1.declared h.2))
task_step_valid config app (event.Run t func item result) s next w h named v = executes_valid config app w t func item result s next v h.0 h.1
task_step_valid config app (event.Call t served status) s next w h named v =
    subst (IsValid config app) (sym h.1.2) (settles config app h.1.0 (serves_valid config app w t served s (GoesOn status h.1.0) v h.0 h.1.1))
task_step_valid config app (event.Left t served) s next w h named v =
    subst (IsValid config app) (sym h.1.2) (settles config app h.1.0 (serves_valid config app w t served s (Leaves h.1.0) v h.0 h.1.1))
task_step_valid config app (event.Back t) s next w h named v =
    subst (IsValid config app) (sym h.4) (settles config app _ (back_valid config app s t v h.0 h.1.declared h.2))
task_step_valid config app e s next w h named v = absurd (false≢true named)
