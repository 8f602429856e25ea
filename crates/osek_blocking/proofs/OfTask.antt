-- The event that a task has next, and that each event of a task is that.
use Rattle.std.proofs.Common.{◌≡◌, ℕ, List, [], ◌∷◌, Bool, true, false, Option, Some, None, refl, sym, ap, ◌∙◌, subst, is_some}
use Rattle.sloth_base.specs.declared.config.Config.{Config}
use Rattle.sloth_base.specs.declared.app.App.{App}
use Rattle.sloth_base.specs.declared.app.Op.{Op}
use Rattle.sloth_base.specs.declared.app.Op.TheVariants as op
use Rattle.sloth_base.specs.declared.service.Event.{Event}
use Rattle.sloth_base.specs.declared.service.Event.TheVariants as event
use Rattle.sloth_base.specs.declared.service.Service.{Service}
use Rattle.sloth_base.specs.Named.{operation}
use Rattle.sloth_base.specs.Events.{named_task}
use Rattle.osek_scheduler.specs.declared.state.TaskState.{TaskState}
use Rattle.osek_scheduler.specs.declared.state.TaskState.TheVariants as mode
use Rattle.osek_scheduler.specs.State.{Frame, System, task}
use Rattle.osek_scheduler.specs.Priority.{IsTop}
use Rattle.osek_scheduler.specs.Meaning.{ItemMeaning, meaning}
use Rattle.osek_scheduler.specs.Services.{ServiceOutcome, GoesOn, Leaves}
use Rattle.osek_scheduler.specs.Outcomes.{outcome}
use Rattle.osek_scheduler.specs.Steps.{IsAt, IsItemStep, IsServiceStep, OsekStep}
use Rattle.osek_blocking.specs.NextEvents.{IsNoAdmission}

-- ---- the event of the task that is due

abbrev shown : Option ItemMeaning → ℕ
shown None = 0
shown (Some meant) = meant.result

abbrev answered : ℕ → Service → ServiceOutcome → Event
answered t s (GoesOn status after) = event.Call t s status
answered t s (Leaves after) = event.Left t s

module _ (config : Config) (app : App) (s : System) (t : ℕ) where
  abbrev of_operation : Frame → List Frame → Op → Event
  of_operation frame outer (op.Serve call) = answered t call.service (outcome config call.service call.object call.mask t s)
  of_operation frame outer o = event.Run t frame.func frame.item (shown (meaning app o (task s t).registers frame outer s.symbols))

  abbrev of_frames : List Frame → Event
  of_frames [] = event.Stray
  of_frames (frame ∷ outer) = of_operation frame outer (operation app frame.func frame.item)

  abbrev of_owed : Bool → Event
  of_owed true = event.Back t
  of_owed false = of_frames (task s t).frames

  abbrev of_state : TaskState → Event
  of_state mode.Suspended = event.Stray
  of_state mode.Ready = event.Enter t
  of_state mode.Active = of_owed (task s t).owed
  of_state (mode.Waiting mask) = event.Stray

  -- the event that task t has next
  abbrev pub only : Event
  only = of_state (task s t).state

  entering : (task s t).state ≡ mode.Ready → event.Enter t ≡ only
  entering e = sym (ap of_state e)

  coming_back : (task s t).state ≡ mode.Active → (task s t).owed ≡ true → event.Back t ≡ only
  coming_back a o = sym (ap of_state a ∙ ap of_owed o)

  at_operation : (o : Op) → (at : IsAt app s t o) → only ≡ of_operation at.frame at.outer o
  at_operation o at = ap of_state at.active ∙ (ap of_owed at.free ∙ (ap of_frames at.frames ∙ ap (of_operation at.frame at.outer) at.next))

  -- what has a meaning is no service
  of_meaning : (o : Op) (frame : Frame) (outer : List Frame) (m : ItemMeaning) → meaning app o (task s t).registers frame outer s.symbols ≡ Some m
      → of_operation frame outer o ≡ event.Run t frame.func frame.item (shown (meaning app o (task s t).registers frame outer s.symbols))
  of_meaning (op.Serve call) frame outer m e = absurd cc
  of_meaning o frame outer m e = refl

  running : (func item result : ℕ) (next : System) → IsItemStep config app t func item result s next → event.Run t func item result ≡ only
  running func item result next h =
      let o = h.operation in
      let frame = h.at.frame in
      let outer = h.at.outer in
      let plain = of_meaning o frame outer h.meant h.means in
      let place = ap (λ f. event.Run t f frame.item (shown (meaning app o (task s t).registers frame outer s.symbols))) h.in_function
      ∙ (ap (λ i. event.Run t func i (shown (meaning app o (task s t).registers frame outer s.symbols))) h.at_item
      ∙ ap (event.Run t func item) (ap shown h.means ∙ h.shows)) in
      sym (at_operation o h.at ∙ (plain ∙ place))

  serving : (served : Service) (answer : ServiceOutcome) → IsServiceStep config app t served s answer → answered t served answer ≡ only
  serving served answer h =
      sym (at_operation (op.Serve h.call) h.at
      ∙ (ap (λ x. answered t x (outcome config x h.call.object h.call.mask t s)) h.same ∙ ap (answered t served) h.is))

-- ---- the events of tasks

module _ (config : Config) (app : App) (s after : System) where
  with_none : (t : ℕ) → s.fresh ≡ [] → IsTop config s s.fresh t → IsTop config s [] t
  with_none t none top = subst (λ (xs : List ℕ). IsTop config s xs t) none top

  -- one that comes next, no admission, is that which its task has next
  pub acting : (e : Event) → s.fresh ≡ [] → IsNoAdmission e → is_some (named_task e) ≡ true → OsekStep config app e s after
      → (s.booted ≡ true) × ((t : ℕ) × IsTop config s [] t × (e ≡ only config app s t))
  acting (event.Enter t) none own named h = (h.0, (t, h.1, entering config app s t h.2))
  acting (event.Run t func item result) none own named h = (h.0, (t, h.1.top, running config app s t func item result after h.1))
  acting (event.Call t served status) none own named h =
      (h.0, (t, with_none t none h.1.1.top, serving config app s t served (GoesOn status h.1.0) h.1.1))
  acting (event.Left t served) none own named h =
      (h.0, (t, with_none t none h.1.1.top, serving config app s t served (Leaves h.1.0) h.1.1))
  acting (event.Back t) none own named h = (h.0, (t, h.1, coming_back config app s t h.2 h.3))
  acting e none own named h = absurd cc

  -- and it leaves nothing fresh
  pub task_settles : (e : Event) → IsNoAdmission e → is_some (named_task e) ≡ true → OsekStep config app e s after → after.fresh ≡ []
  task_settles (event.Enter t) own named h = ap (λ (x : System). x.fresh) h.4
  task_settles (event.Run t func item result) own named h = ap (λ (x : System). x.fresh) h.1.is
  task_settles (event.Call t served status) own named h = ap (λ (x : System). x.fresh) h.1.2
  task_settles (event.Left t served) own named h = ap (λ (x : System). x.fresh) h.1.2
  task_settles (event.Back t) own named h = ap (λ (x : System). x.fresh) h.4
  task_settles e own named h = absurd cc
