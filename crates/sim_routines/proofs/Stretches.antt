-- The stretches of the services on events, whatever lines arrive.
use Rattle.std.proofs.Common.{◌≡◌, ℕ, ◌^◌, ◌<◌, List, length, refl, sym, ap, subst, arith}
use Rattle.std.specs.Prelude.{slice_index}
use Rattle.std.proofs.lemmas.Bool.{ltb-true}
use Rattle.sloth_base.specs.declared.app.Call.{Call}
use Rattle.sloth_base.specs.declared.service.Arrival.{Arrival}
use Rattle.sloth_base.specs.declared.service.Service.TheVariants as service
use Rattle.sloth_base.specs.Arrive.{state_arrive}
use Rattle.sloth_base.specs.Machine.{State}
use Rattle.sim_routines.proofs.Touching.{touches_none, touches_one}
use Rattle.rv32_expand.specs.Expansion.{mask_of}
use Rattle.rv32_machine.specs.Run.{state_with_arrivals}
use Rattle.observe.specs.Observe.{View}
use Rattle.service_gen.specs.ClearEvent.{IsClearEventCode, ClearEventEffect, mask_register}
use Rattle.service_gen.specs.GetEvent.{IsGetEventCode, GetEventEffect}
use Rattle.service_gen.specs.SetEvent.{IsSetEventCode, SetEventEffect}
use Rattle.osek_scheduler.specs.State.{System, task}
use Rattle.sim_induction.specs.Admits.{IsSetting, lines_at, with_admits}
use Rattle.sim_relation.specs.Build.{Build, HasFittingPlaces}
use Rattle.sim_relation.specs.Placed.{setting_of}
use Rattle.sim_relation.specs.Stands.{Stands}
use Rattle.sim_routines.specs.Stretch.{OpensGoingOn, HasStretch}
use Rattle.sim_routines.proofs.GoingOnStretch.{going_on_stretches, same_call}
use Rattle.sim_routines.proofs.Raising.{active_bit, enabled_bit}
use Rattle.sim_routines.proofs.ServiceStretch.{k}
use Rattle.sim_routines.proofs.Weighing.{call_within}
use Rattle.sim_routines.specs.EventStretch.{OpensWithMask}
use Rattle.sim_routines.proofs.Cleared.{clears}
use Rattle.sim_routines.proofs.Setting.{sets_events}
use Rattle.sim_routines.proofs.EventTold.{tells_events}

module _ (b : Build) (view : View) (arrivals : List Arrival) (count : ℕ) (state : State) (s : System) (t : ℕ) (fits : HasFittingPlaces b)
    (setting : IsSetting (setting_of b view arrivals)) (after_boot : 0 < count) (stands : Stands b state s) where
  abbrev start : State
  start = state_with_arrivals arrivals count state

  abbrev found : System
  found = with_admits (lines_at arrivals count) s

  -- GetEvent
  pub tells_stretches : OpensGoingOn b view start found t service.GetEvent IsGetEventCode → HasStretch b view arrivals count state s
  tells_stretches o =
      let block = o.opens.block in
      let object = o.opens.opening.block.call.object in
      let declared = ltb-true object (length b.config.tasks) o.names in
      let there = k b view arrivals count state s t service.GetEvent IsGetEventCode fits setting after_boot stands o.opens block.serves.masks in
      going_on_stretches b view arrivals count state s t service.GetEvent IsGetEventCode fits setting after_boot stands o block.serves.masks
      11 (omega arith) (λ place. GetEventEffect object) (λ place touched from to e. touches_one b object touched declared e.touches)
      (λ place can. block.serves.runs block.offset start.core (record {
        goes_back = can.goes_back;
        is_task = let f = fits.few_tasks in omega arith;
        active_bit = active_bit b start found there object declared;
        pending_bit = there.lines.bits object declared;
        enabled_bit = enabled_bit b start found there object declared;
      }))
      (λ place lines touched s2 end can may effect. tells_events b (state_arrive lines start) s2 t (task found t) object touched end fits may effect)
      (λ place lines touched s2 end can may effect answer. call_within b t service.GetEvent 11 s2 touched end (omega arith) (λ object mask. refl) answer)

  -- ClearEvent
  pub clears_stretches : OpensWithMask b view start found t service.ClearEvent (λ object. IsClearEventCode) → HasStretch b view arrivals count state s
  clears_stretches o =
      let opening = o.goes_on.opens.opening in
      let block = o.goes_on.opens.block in
      let mask_is : slice_index start.core.registers mask_register ≡ opening.block.call.mask =
      opening.block.mask (subst (λ v. length (mask_of v opening.block.call.mask) ≡ 2) (sym opening.calls) refl) in
      going_on_stretches b view arrivals count state s t service.ClearEvent (λ object. IsClearEventCode) fits setting after_boot stands o.goes_on block.serves.masks
      12 (omega arith) (λ place. ClearEventEffect t) (λ place touched from to e. touches_none b touched e.touches)
      (λ place can. block.serves.runs block.offset t start.core (record {
        goes_back = can.goes_back;
        runs = can.current;
        is_task = can.is_task;
        is_word = subst (λ x. x < 2 ^ 32) (sym mask_is) o.is_word;
      }))
      (λ place lines touched s2 end can may effect.
      clears b (state_arrive lines start) s2 t (task found t) opening.block.call.object touched end fits may effect)
      (λ place lines touched s2 end can may effect answer. call_within b t service.ClearEvent 12 s2 touched end (omega arith) (λ object mask. refl) answer)

  -- SetEvent
  pub sets_stretches : OpensWithMask b view start found t service.SetEvent IsSetEventCode → HasStretch b view arrivals count state s
  sets_stretches o =
      let opening = o.goes_on.opens.opening in
      let block = o.goes_on.opens.block in
      let object = opening.block.call.object in
      let declared = ltb-true object (length b.config.tasks) o.goes_on.names in
      let there = k b view arrivals count state s t service.SetEvent IsSetEventCode fits setting after_boot stands o.goes_on.opens block.serves.masks in
      going_on_stretches b view arrivals count state s t service.SetEvent IsSetEventCode fits setting after_boot stands o.goes_on block.serves.masks
      19 (omega arith) (λ place. SetEventEffect object) (λ place touched from to e. touches_one b object touched declared e.touches)
      (λ place can. block.serves.runs block.offset start.core (record {
        goes_back = can.goes_back;
        is_task = let f = fits.few_tasks in omega arith;
        active_bit = active_bit b start found there object declared;
        pending_bit = there.lines.bits object declared;
        enabled_bit = enabled_bit b start found there object declared;
      }))
      (λ place lines touched s2 end can may effect.
      sets_events b (state_arrive lines start) s2 t (task found t) object opening.block.call.mask touched end fits
      (record {
        goes_on = may;
        mask_is = ap (λ (c : Call). c.mask) (same_call b (state_arrive lines start) start t (task found t) service.SetEvent may.is_served.opening opening);
        is_word = o.is_word;
      })
      effect)
      (λ place lines touched s2 end can may effect answer. call_within b t service.SetEvent 19 s2 touched end (omega arith) (λ object mask. refl) answer)
