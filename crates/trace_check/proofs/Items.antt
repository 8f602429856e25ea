-- The event of an item or of a service of a task that has a next state is the one that the task's next item is.
use Rattle.std.proofs.Common.{ℕ, ◌<◌, ◌≡◌, ◌∙◌, ◌⊎◌, List, [], ◌∷◌, Bool, true, false, length, Option, Some, None, inl, inr, refl, sym, ap, subst, is_some}
use Rattle.std.specs.Prelude.{◌&&◌, ◌==◌, not, slice_get}
use Rattle.std.proofs.lemmas.Bool.{and_parts, eqb-true, false≢true}
use Rattle.sloth_base.specs.Options.{is_number}
use Rattle.sloth_base.specs.ServiceCodes.{code_of}
use Rattle.sloth_base.proofs.Services.{same_code}
use Rattle.sloth_base.specs.declared.config.Config.{Config}
use Rattle.sloth_base.specs.declared.app.App.{App}
use Rattle.sloth_base.specs.declared.app.Call.{Call}
use Rattle.sloth_base.specs.declared.app.Op.{Op}
use Rattle.sloth_base.specs.declared.service.Event.{Event}
use Rattle.sloth_base.specs.declared.service.Event.TheVariants as event
use Rattle.sloth_base.specs.declared.service.Service.{Service}
use Rattle.osek_scheduler.specs.declared.change.Plan.{Plan}
use Rattle.osek_scheduler.specs.State.{Frame, System, task}
use Rattle.osek_scheduler.specs.Meaning.{on_some, if_true}
use Rattle.osek_scheduler.specs.Next.{is_position, is_top, next_state}
use Rattle.osek_scheduler.specs.Services.{is_there}
use Rattle.osek_scheduler.proofs.Next.{step_of}
use Rattle.osek_scheduler.proofs.Tests.{if_true_some, on_some_from, on_some_is}
use Rattle.osek_machine.specs.Running.{own_operation, run_plan, call_in, call_plan, serving_plan, running_plan}
use Rattle.osek_machine.specs.PlanSteps.{answer_plan, leave_plan, followed_state}
use Rattle.osek_machine.specs.Steps.{IsSound}
use Rattle.osek_machine.proofs.Rooms.{runs, serves, leaves}
use Rattle.trace_check.specs.MachineEvents.{item_event, own_plan, served_event, service_event, shown_result}

-- a plan that passes a test
passes : (o : Option Plan) (test : Plan → Bool) (p : Plan) → on_some o (λ x. if_true (test x) (Some x)) ≡ Some p → (o ≡ Some p) × (test p ≡ true)
passes None test p e = absurd cc
passes (Some x) test p e =
    let h = if_true_some (test x) (Some x) p e in
    let same : x ≡ p = some_is x p h.1 in
    (h.1, subst (λ (y : Plan). test y ≡ true) same h.0)
  where
    some_is : (x p : Plan) → Some x ≡ Some p → x ≡ p
    some_is x p e = cc

number_is : (n : ℕ) (o : Option ℕ) → is_number n o ≡ true → o ≡ Some n
number_is n None e = absurd (false≢true e)
number_is n (Some given) e = ap Some (eqb-true given n e)

none_is : (o : Option ℕ) → not (is_some o) ≡ true → o ≡ None
none_is None e = refl
none_is (Some n) e = absurd (false≢true e)

-- a plan that is followed to a next state is there
followed : (t : ℕ) (s next : System) (o : Option Plan) → followed_state t s o ≡ Some next → (p : Plan) × (o ≡ Some p)
followed t s next None e = absurd cc
followed t s next (Some p) e = (p, refl)

-- the innermost of the frames at a position
record IsInnermost (func item : ℕ) (frames : List Frame) : Type 0 where
  frame : Frame
  first : slice_get frames 0 ≡ Some frame
  function : frame.func ≡ func
  number : frame.item ≡ item

innermost : (func item : ℕ) (frames : List Frame) → is_position func item frames ≡ true → IsInnermost func item frames
innermost func item [] e = absurd (false≢true e)
innermost func item (frame ∷ outer) e =
    let both = and_parts (frame.func == func) (frame.item == item) e in
    record { frame = frame; first = refl; function = eqb-true frame.func func both.0; number = eqb-true frame.item item both.1 }

module _ (config : Config) (app : App) (s : System) (sound : IsSound config app s) (t : ℕ) where
  -- what is made of a result and of the innermost frame
  abbrev of_frame : ℕ → Frame → Option Event
  of_frame result frame = Some (event.Run t frame.func frame.item result)

  abbrev of_result : ℕ → Option Event
  of_result result = on_some (slice_get (task s t).frames 0) (of_frame result)

  abbrev plan_of : Op → Option Plan
  plan_of o = run_plan app o (task s t) s.symbols

  pub item_is : (func item result : ℕ) (next : System) → next_state config app (event.Run t func item result) s ≡ Some next
      → item_event app t s ≡ Some (event.Run t func item result)
  item_is func item result next e =
      let goal : Option Event = Some (event.Run t func item result) in
      let is : event.Run t func item result ≡ event.Run t func item result = refl in
      let made : running_plan config app t func item result s ≡ running_plan config app t func item result s = refl in
      let leads = (runs sound is made).leads in
      let p = followed t s next (running_plan config app t func item result s) (sym leads ∙ e) in
      let top = if_true_some (s.booted && (is_top config s [] t && is_position func item (task s t).frames)) _ p.0 p.1 in
      let here = and_parts _ _ (and_parts _ _ top.0).1 in
      let o = on_some_from (own_operation app (task s t)) _ p.0 top.1 in
      let planned = passes (run_plan app o.0 (task s t) s.symbols) (λ x. is_number result x.answer) p.0 o.2 in
      let place = innermost func item (task s t).frames here.1 in
      let own : own_plan app t s ≡ Some p.0 = on_some_is (own_operation app (task s t)) plan_of o.0 (Some p.0) o.1 planned.0 in
      let shown : shown_result (own_plan app t s) ≡ Some result = ap shown_result own ∙ number_is result p.0.answer planned.1 in
      on_some_is (shown_result (own_plan app t s)) of_result result goal shown
      (on_some_is (slice_get (task s t).frames 0) (of_frame result) place.frame goal place.first
      (ap (λ x. Some (event.Run t x place.frame.item result)) place.function ∙ ap (λ x. Some (event.Run t func x result)) place.number))

  -- what is made of a plan of a service, of a call, of an operation
  abbrev of_served : Service → Plan → Option Event
  of_served served p = Some (served_event t served p.answer)

  abbrev of_call : Call → Option Event
  of_call call = on_some (call_plan config call.service t s call) (of_served call.service)

  abbrev of_called : Op → Option Event
  of_called o = on_some (call_in o) of_call

  -- the service that a plan serves is the one that the next item is
  service_of : (served : Service) (p : Plan) → serving_plan config app t served s ≡ Some p → service_event config app t s ≡ Some (served_event t served p.answer)
  service_of served p e =
      let goal : Option Event = Some (served_event t served p.answer) in
      let top = if_true_some (s.booted && is_top config s s.fresh t) _ p e in
      let o = on_some_from (own_operation app (task s t)) _ p top.1 in
      let call = on_some_from (call_in o.0) (call_plan config served t s) p o.2 in
      let tested = if_true_some ((code_of call.0.service == code_of served) && is_there config (task s t).held served call.0.object) _ p call.2 in
      let both = and_parts _ _ tested.0 in
      let same : call.0.service ≡ served = same_code call.0.service served (eqb-true _ _ both.0) in
      let Q : Service → Type 0 = λ v. on_some (call_plan config v t s call.0) (of_served v) ≡ goal in
      on_some_is (own_operation app (task s t)) of_called o.0 goal o.1
      (on_some_is (call_in o.0) of_call call.0 goal call.1
      (subst Q (sym same) (ap (λ (x : Option Plan). on_some x (of_served served)) call.2)))

  pub call_is : (served : Service) (status : ℕ) (next : System) → next_state config app (event.Call t served status) s ≡ Some next
      → service_event config app t s ≡ Some (event.Call t served status)
  call_is served status next e =
      let is : event.Call t served status ≡ event.Call t served status = refl in
      let made : answer_plan config app t served status s ≡ answer_plan config app t served status s = refl in
      let leads = (serves sound is made).leads in
      let p = followed t s next (answer_plan config app t served status s) (sym leads ∙ e) in
      let planned = passes (serving_plan config app t served s) (λ x. is_number status x.answer) p.0 p.1 in
      service_of served p.0 planned.0 ∙ ap (λ (o : Option ℕ). Some (served_event t served o)) (number_is status p.0.answer planned.1)

  pub leave_is : (served : Service) (next : System) → next_state config app (event.Left t served) s ≡ Some next
      → service_event config app t s ≡ Some (event.Left t served)
  leave_is served next e =
      let is : event.Left t served ≡ event.Left t served = refl in
      let made : leave_plan config app t served s ≡ leave_plan config app t served s = refl in
      let leads = (leaves sound is made).leads in
      let p = followed t s next (leave_plan config app t served s) (sym leads ∙ e) in
      let planned = passes (serving_plan config app t served s) (λ x. not (is_some x.answer)) p.0 p.1 in
      service_of served p.0 planned.0 ∙ ap (λ (o : Option ℕ). Some (served_event t served o)) (none_is p.0.answer planned.1)

-- an event of a task's next item, or of nothing
abbrev pub is_of_item : Event → Bool
is_of_item (event.Run t func item result) = true
is_of_item (event.Call t served status) = true
is_of_item (event.Left t served) = true
is_of_item event.Stray = true
is_of_item _ = false

-- a task of the configuration whose next item it is
pub record HasTask (config : Config) (app : App) (s : System) (e : Event) : Type 0 where
  pub owner : ℕ
  pub declared : owner < length config.tasks
  pub is : (item_event app owner s ≡ Some e) ⊎ (service_event config app owner s ≡ Some e)

pub has_task : (config : Config) (app : App) (s : System) → IsSound config app s → (e : Event) (next : System) → is_of_item e ≡ true
    → next_state config app e s ≡ Some next → HasTask config app s e
has_task config app s sound (event.Run t func item result) next of_item is =
    let step = step_of config app s next (event.Run t func item result) is in
    record { owner = t; declared = step.1.top.declared; is = inl (item_is config app s sound t func item result next is) }
has_task config app s sound (event.Call t served status) next of_item is =
    let step = step_of config app s next (event.Call t served status) is in
    record { owner = t; declared = step.1.1.top.declared; is = inr (call_is config app s sound t served status next is) }
has_task config app s sound (event.Left t served) next of_item is =
    let step = step_of config app s next (event.Left t served) is in
    record { owner = t; declared = step.1.1.top.declared; is = inr (leave_is config app s sound t served next is) }
has_task config app s sound event.Stray next of_item is = absurd (step_of config app s next event.Stray is)
has_task config app s sound e next of_item is = absurd (false≢true of_item)

-- what is sound by other names
pub sound_at : (c d : Config) (a b : App) (s z : System) → d ≡ c → b ≡ a → z ≡ s → IsSound c a s → IsSound d b z
sound_at c d a b s z ec ea es h =
    subst (λ (x : Config). IsSound x b z) (sym ec) (subst (λ (y : App). IsSound c y z) (sym ea) (subst (λ (x : System). IsSound c a x) (sym es) h))

-- ---- plans that are there

-- an event that leads along a plan has a next state where the plan is there
pub there : (t : ℕ) (s : System) (o : Option Plan) (next : Option System) → next ≡ followed_state t s o → is_some o ≡ is_some next
there t s None next e = ap is_some (sym e)
there t s (Some p) next e = ap is_some (sym e)

-- what a test allows is there where the test holds
pub tested : (b : Bool) (s : System) → b ≡ is_some (if_true b (Some s))
tested true s = refl
tested false s = refl
