-- The stretches of services that go back to their callers, whatever lines arrive.
use Rattle.std.proofs.Common.{◌≡◌, ℕ, suc, ◌<◌, ◌≤◌, List, ◌∷◌, length, refl, sym, ap, ◌∙◌, subst, arith}
use Rattle.std.proofs.lemmas.Bool.{ltb-true}
use Rattle.sloth_base.specs.declared.app.Call.{Call}
use Rattle.sloth_base.specs.declared.app.Op.TheVariants as op
use Rattle.sloth_base.specs.declared.service.Arrival.{Arrival}
use Rattle.sloth_base.specs.declared.service.Service.{Service}
use Rattle.sloth_base.specs.declared.service.Service.TheVariants as service
use Rattle.sloth_base.specs.Arrive.{state_arrive}
use Rattle.sloth_base.specs.Machine.{State}
use Rattle.sloth_base.specs.Named.{operation}
use Rattle.sloth_base.specs.Stretches.{Masks, stretch_limit}
use Rattle.rv32_instr.specs.declared.InstrKind.{InstrKind}
use Rattle.rv32_machine.specs.Run.{state_with_arrivals}
use Rattle.masked_code.specs.Kernel.{masking}
use Rattle.masked_code.specs.Masked.{FromOpening}
use Rattle.masked_code.specs.Place.{offset_state}
use Rattle.sim_induction.specs.Events.{stretch_counts}
use Rattle.observe.specs.Observe.{View}
use Rattle.service_gen.specs.ActivateTask.{IsActivateTaskCode, ActivateTaskEffect}
use Rattle.service_gen.specs.ChainTask.{IsChainTaskCode, ChainTaskEffect}
use Rattle.service_gen.specs.GetResource.{IsGetResourceCode, GetResourceEffect}
use Rattle.service_gen.specs.GetTaskID.{IsGetTaskIDCode, GetTaskIDEffect}
use Rattle.service_gen.specs.GetTaskState.{GetTaskStateEffect, IsGetTaskStateCode}
use Rattle.service_gen.specs.ReleaseResource.{IsReleaseResourceCode, ReleaseResourceEffect}
use Rattle.osek_scheduler.specs.State.{Frame, Task, System, task}
use Rattle.sim_induction.specs.Admits.{IsSetting, lines_at, with_admits}
use Rattle.sim_induction.specs.PieceLaws.{served_event}
use Rattle.sim_relation.specs.Build.{Build, HasFittingPlaces}
use Rattle.sim_relation.specs.Placed.{setting_of}
use Rattle.sim_relation.specs.Stands.{Stands}
use Rattle.sim_routines.specs.ServiceSteps.{MayGoOn}
use Rattle.sim_routines.specs.Opening.{AtOpening, IsFollowed}
use Rattle.sim_routines.proofs.Servable.{CanServe}
use Rattle.sim_routines.specs.Served.{IsServed, IsServiceAnswer}
use Rattle.sim_routines.proofs.ServiceLaws.{TouchesTasks}
use Rattle.sim_routines.specs.Stretch.{OpensChainTask, OpensGetResource, OpensGoingOn, HasStretch}
use Rattle.sim_routines.proofs.Activated.{activates}
use Rattle.sim_routines.proofs.Chained.{chain_answers}
use Rattle.sim_routines.proofs.Holding.{takes, popped, saved_few, releases}
use Rattle.sim_relation.proofs.Placed.{active_by_word}
use Rattle.sim_routines.proofs.Raising.{active_bit, enabled_bit}
use Rattle.sim_routines.proofs.ServiceStretch.{k, can_serve, service_stretches}
use Rattle.sim_routines.proofs.StateTold.{tells_state}
use Rattle.sim_routines.proofs.Told.{tells}
use Rattle.sim_routines.proofs.Weighing.{call_within, either_within}
use Rattle.sim_routines.proofs.Touching.{touches_none, touches_one, chain_touches, state_touches}

-- the same frame and call, where a task is said to stand at a service's opening twice
module _ (b : Build) (one two : State) (t : ℕ) (own : Task) (served : Service) (a : AtOpening b one t own served) (c : AtOpening b two t own served) where
  pub same_frame : a.frame ≡ c.frame
  same_frame = let e : a.frame ∷ a.outer ≡ c.frame ∷ c.outer = sym a.frames ∙ c.frames in cc

  pub same_call : a.block.call ≡ c.block.call
  same_call =
      let e : op.Serve a.block.call ≡ op.Serve c.block.call =
      sym a.block.is ∙ ap (λ (f : Frame). operation b.app f.func f.item) same_frame ∙ c.block.is in
      cc

module _ (b : Build) (view : View) (arrivals : List Arrival) (count : ℕ) (state : State) (s : System) (t : ℕ) (served : Service) (Contract : ℕ → List InstrKind → Type 0)
    (fits : HasFittingPlaces b) (setting : IsSetting (setting_of b view arrivals)) (after_boot : 0 < count) (stands : Stands b state s)
    (o : OpensGoingOn b view (state_with_arrivals arrivals count state) (with_admits (lines_at arrivals count) s) t served Contract)
    (masks : (rest : List InstrKind) × (o.opens.block.code ≡ masking ∷ rest)) where
  abbrev n : State
  n = state_with_arrivals arrivals count state

  abbrev own : Task
  own = task (with_admits (lines_at arrivals count) s) t

  abbrev object : ℕ
  object = o.opens.opening.block.call.object

  may_go_on : (lines : List ℕ) (s2 : System) → IsServed b (state_arrive lines n) s2 t own served → MayGoOn b (state_arrive lines n) s2 t own served object
  may_go_on lines s2 is =
      let opening = o.opens.opening in
      record {
        is_served = is;
        followed = subst (λ (f : Frame). IsFollowed b f.func f.item) (sym (same_frame b (state_arrive lines n) n t own served is.opening opening)) o.followed;
        object_is = ap (λ (c : Call). c.object) (same_call b (state_arrive lines n) n t own served is.opening opening);
        names = o.names;
      }

  -- the code runs as its contract says, its effect is an answer, and it takes no more than its weight
  pub going_on_stretches : (most : ℕ) → suc most ≤ stretch_limit b.config Masks → (Effect : ℕ → List ℕ → State → State → Type 0) → ((place : ℕ) → TouchesTasks b (Effect place))
      → ((place : ℕ) → CanServe o.opens.block.offset o.opens.block.code t place n.core → FromOpening most (offset_state o.opens.block.offset n.core) (Effect place))
      → ((place : ℕ) (lines touched : List ℕ) (s2 : System) (end : State) → CanServe o.opens.block.offset o.opens.block.code t place n.core
      → MayGoOn b (state_arrive lines n) s2 t own served object → Effect place touched (state_arrive lines n) end → IsServiceAnswer b s2 t served touched end)
      → ((place : ℕ) (lines touched : List ℕ) (s2 : System) (end : State) → CanServe o.opens.block.offset o.opens.block.code t place n.core
      → MayGoOn b (state_arrive lines n) s2 t own served object → Effect place touched (state_arrive lines n) end → IsServiceAnswer b s2 t served touched end
      → suc most ≤ stretch_counts b.config b.app s2 (served_event t served end))
      → HasStretch b view arrivals count state s
  going_on_stretches most short Effect tasks_alone runs law weighs =
      let found = can_serve b view arrivals count state s t served Contract fits setting after_boot stands o.opens masks in
      service_stretches b view arrivals count state s t served Contract fits setting after_boot stands o.opens masks
      most short (Effect found.0) (tasks_alone found.0) (runs found.0 found.1)
      (λ lines touched s2 end is effect. law found.0 lines touched s2 end found.1 (may_go_on lines s2 is) effect)
      (λ lines touched s2 end is effect answer. weighs found.0 lines touched s2 end found.1 (may_go_on lines s2 is) effect answer)

module _ (b : Build) (view : View) (arrivals : List Arrival) (count : ℕ) (state : State) (s : System) (t : ℕ) (fits : HasFittingPlaces b)
    (setting : IsSetting (setting_of b view arrivals)) (after_boot : 0 < count) (stands : Stands b state s) where
  abbrev start : State
  start = state_with_arrivals arrivals count state

  abbrev found : System
  found = with_admits (lines_at arrivals count) s

  -- GetTaskID
  pub tells_stretches : OpensGoingOn b view start found t service.GetTaskID (λ object. IsGetTaskIDCode) → HasStretch b view arrivals count state s
  tells_stretches o =
      let block = o.opens.block in
      going_on_stretches b view arrivals count state s t service.GetTaskID (λ object. IsGetTaskIDCode) fits setting after_boot stands o block.serves.masks
      5 (omega arith) (λ place. GetTaskIDEffect t) (λ place touched from to e. touches_none b touched e.touches)
      (λ place can. block.serves.runs block.offset t start.core
      (record { goes_back = can.goes_back; runs = can.current; is_task = can.is_task }))
      (λ place lines touched s2 end can may effect.
      tells b (state_arrive lines start) s2 t (task found t) o.opens.opening.block.call.object touched end fits may effect)
      (λ place lines touched s2 end can may effect answer. call_within b t service.GetTaskID 5 s2 touched end (omega arith) (λ object mask. refl) answer)

  -- GetTaskState
  pub states_stretches : OpensGoingOn b view start found t service.GetTaskState IsGetTaskStateCode → HasStretch b view arrivals count state s
  states_stretches o =
      let block = o.opens.block in
      let object = o.opens.opening.block.call.object in
      let declared = ltb-true object (length b.config.tasks) o.names in
      let there = k b view arrivals count state s t service.GetTaskState IsGetTaskStateCode fits setting after_boot stands o.opens block.serves.masks in
      going_on_stretches b view arrivals count state s t service.GetTaskState IsGetTaskStateCode fits setting after_boot stands o block.serves.masks
      10 (omega arith) (λ place. GetTaskStateEffect object t) (λ place. state_touches b object t declared)
      (λ place can. block.serves.runs block.offset t start.core (record {
        goes_back = can.goes_back;
        runs = can.current;
        is_own = can.is_task;
        is_task = let f = fits.few_tasks in omega arith;
        active_bit = active_bit b start found there object declared;
        pending_bit = there.lines.bits object declared;
        enabled_bit = enabled_bit b start found there object declared;
      }))
      (λ place lines touched s2 end can may effect. tells_state b (state_arrive lines start) s2 t (task found t) object touched end fits may effect)
      (λ place lines touched s2 end can may effect answer. call_within b t service.GetTaskState 10 s2 touched end (omega arith) (λ object mask. refl) answer)

  -- ActivateTask
  pub activates_stretches : OpensGoingOn b view start found t service.ActivateTask IsActivateTaskCode → HasStretch b view arrivals count state s
  activates_stretches o =
      let block = o.opens.block in
      let object = o.opens.opening.block.call.object in
      let declared = ltb-true object (length b.config.tasks) o.names in
      let there = k b view arrivals count state s t service.ActivateTask IsActivateTaskCode fits setting after_boot stands o.opens block.serves.masks in
      going_on_stretches b view arrivals count state s t service.ActivateTask IsActivateTaskCode fits setting after_boot stands o block.serves.masks
      11 (omega arith) (λ place. ActivateTaskEffect object) (λ place touched from to e. touches_one b object touched declared e.touches)
      (λ place can. block.serves.runs block.offset start.core (record {
        goes_back = can.goes_back;
        is_task = let f = fits.few_tasks in omega arith;
        active_bit = active_bit b start found there object declared;
        pending_bit = there.lines.bits object declared;
        enabled_bit = enabled_bit b start found there object declared;
      }))
      (λ place lines touched s2 end can may effect. activates b (state_arrive lines start) s2 t (task found t) object touched end fits may effect)
      (λ place lines touched s2 end can may effect answer. call_within b t service.ActivateTask 11 s2 touched end (omega arith) (λ object mask. refl) answer)

  -- ChainTask, which may end its caller too
  pub chain_stretches : OpensChainTask b view start found t → HasStretch b view arrivals count state s
  chain_stretches o =
      let block = o.goes_on.opens.block in
      let object = o.goes_on.opens.opening.block.call.object in
      let declared = ltb-true object (length b.config.tasks) o.goes_on.names in
      let there = k b view arrivals count state s t service.ChainTask IsChainTaskCode fits setting after_boot stands o.goes_on.opens block.serves.masks in
      going_on_stretches b view arrivals count state s t service.ChainTask IsChainTaskCode fits setting after_boot stands o.goes_on block.serves.masks
      59 (omega arith) (λ place. ChainTaskEffect object t place)
      (λ place. chain_touches b object t place declared (active_by_word b start found t there o.goes_on.opens.opening.current).declared)
      (λ place can. block.serves.runs block.offset t place start.core (record {
        goes_back = can.goes_back;
        runs = can.current;
        is_own = can.is_task;
        is_task = let f = fits.few_tasks in omega arith;
        below = can.below;
        active_bit = active_bit b start found there object declared;
        pending_bit = there.lines.bits object declared;
        enabled_bit = enabled_bit b start found there object declared;
      }))
      (λ place lines touched s2 end can may effect.
      chain_answers b (state_arrive lines start) s2 t (task found t) object place touched end fits
      (record { goes_on = may; holds_nothing = o.holds_nothing; below = can.below.is }) effect)
      (λ place lines touched s2 end can may effect answer. either_within b t service.ChainTask 59 s2 touched end (omega arith) (omega arith))

  -- GetResource
  pub takes_stretches : (level : ℕ) → OpensGetResource b view start found t level → HasStretch b view arrivals count state s
  takes_stretches level o =
      let block = o.goes_on.opens.block in
      let object = o.goes_on.opens.opening.block.call.object in
      going_on_stretches b view arrivals count state s t service.GetResource (λ object. IsGetResourceCode object level) fits setting after_boot stands o.goes_on
      block.serves.masks 8 (omega arith) (λ place. GetResourceEffect object level) (λ place touched from to e. touches_none b touched e.touches)
      (λ place can. block.serves.runs block.offset start.core
      (record { goes_back = can.goes_back; is_resource = let l = o.may.is_resource in omega arith; level = can.level }))
      (λ place lines touched s2 end can may effect. takes b (state_arrive lines start) s2 t (task found t) object level touched end fits may o.may effect)
      (λ place lines touched s2 end can may effect answer. call_within b t service.GetResource 8 s2 touched end (omega arith) (λ object mask. refl) answer)

  -- ReleaseResource
  pub releases_stretches : OpensGoingOn b view start found t service.ReleaseResource IsReleaseResourceCode → HasStretch b view arrivals count state s
  releases_stretches o =
      let block = o.opens.block in
      let object = o.opens.opening.block.call.object in
      let there = k b view arrivals count state s t service.ReleaseResource IsReleaseResourceCode fits setting after_boot stands o.opens block.serves.masks in
      let here = active_by_word b start found t there o.opens.opening.current in
      let among = (popped b start found there t here.declared object o.names).among in
      going_on_stretches b view arrivals count state s t service.ReleaseResource IsReleaseResourceCode fits setting after_boot stands o block.serves.masks
      5 (omega arith) (λ place. ReleaseResourceEffect object) (λ place touched from to e. touches_none b touched e.touches)
      (λ place can. block.serves.runs block.offset start.core
      (record {
        goes_back = can.goes_back;
        is_resource = let l = (there.tidy.each t here.declared).few object among in omega arith;
        level = saved_few b start found there t here.declared object o.names fits.few_tasks;
      }))
      (λ place lines touched s2 end can may effect. releases b (state_arrive lines start) s2 t (task found t) object touched end fits may effect)
      (λ place lines touched s2 end can may effect answer. call_within b t service.ReleaseResource 5 s2 touched end (omega arith) (λ object mask. refl) answer)
