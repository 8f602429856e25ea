-- The stretches of the services on alarms, whatever lines arrive.
use Rattle.std.proofs.Common.{ℕ, ◌<◌, List, length, refl, arith}
use Rattle.std.proofs.lemmas.Bool.{ltb-true}
use Rattle.sloth_base.specs.Arrive.{state_arrive}
use Rattle.sloth_base.specs.Machine.{State}
use Rattle.sloth_base.specs.Named.{counter_of, alarm_declaration, undeclared_alarm}
use Rattle.sloth_base.specs.declared.service.Arrival.{Arrival}
use Rattle.sloth_base.specs.declared.service.Service.TheVariants as service
use Rattle.sloth_base.specs.Limits.{alarm_limit}
use Rattle.rv32_machine.specs.Run.{state_with_arrivals}
use Rattle.observe.specs.Observe.{View}
use Rattle.service_gen.specs.AlarmBlock.{IsAlarmServiceBlock}
use Rattle.service_gen.specs.CancelAlarm.{CancelAlarmEffect}
use Rattle.service_gen.specs.GetAlarm.{GetAlarmEffect}
use Rattle.service_gen.specs.SetAlarm.{SetAlarmEffect, TicksFit, AlarmValueFits, first_operand, ticks_until}
use Rattle.osek_scheduler.specs.State.{System, task}
use Rattle.sim_induction.specs.Admits.{IsSetting, lines_at, with_admits}
use Rattle.sim_relation.specs.Build.{Build, HasFittingPlaces}
use Rattle.sim_relation.specs.Placed.{setting_of}
use Rattle.sim_relation.specs.Stands.{Stands}
use Rattle.sim_routines.specs.Stretch.{HasStretch}
use Rattle.sim_routines.proofs.GoingOnStretch.{going_on_stretches}
use Rattle.sim_routines.proofs.ServiceStretch.{k}
use Rattle.sim_routines.proofs.Touching.{touches_none}
use Rattle.sim_routines.proofs.Weighing.{call_within}
use Rattle.sim_routines.specs.AlarmSteps.{OpensAlarm}
use Rattle.sim_routines.proofs.AlarmServing.{cancels, tells_left, sets_relative, sets_absolute}

module _ (b : Build) (view : View) (arrivals : List Arrival) (count : ℕ) (state : State) (s : System) (t : ℕ) (fits : HasFittingPlaces b)
    (setting : IsSetting (setting_of b view arrivals)) (after_boot : 0 < count) (stands : Stands b state s) where
  abbrev start : State
  start = state_with_arrivals arrivals count state

  abbrev found : System
  found = with_admits (lines_at arrivals count) s

  few : (a : ℕ) → a < length b.config.alarms → a < alarm_limit
  few a h = let f = fits.few_alarms in omega (arith, h, f)

  -- SetRelAlarm
  pub relative_stretches : OpensAlarm b view start found t service.SetRelAlarm → HasStretch b view arrivals count state s
  relative_stretches o =
      let block = o.goes_on.opens.block in
      let a = o.goes_on.opens.opening.block.call.object in
      let there = ltb-true a (length b.config.alarms) o.goes_on.names in
      going_on_stretches b view arrivals count state s t service.SetRelAlarm (IsAlarmServiceBlock b.config service.SetRelAlarm) fits setting after_boot stands o.goes_on
      block.serves.masks 16 (omega arith) (λ place. SetAlarmEffect a (TicksFit (counter_of b.config a).max (counter_of b.config a).min_cycle) first_operand)
      (λ place touched from to e. touches_none b touched e.touches)
      (λ place can. block.serves.runs block.offset start.core (record { goes_back = can.goes_back; is_alarm = few a there }))
      (λ place lines touched s2 end can may effect.
      sets_relative b (state_arrive lines start) s2 t (task found t) a touched end fits (record { range = o.range; goes_on = may; words = o.words }) effect)
      (λ place lines touched s2 end can may effect answer. call_within b t service.SetRelAlarm 16 s2 touched end (omega arith) (λ object mask. refl) answer)

  -- SetAbsAlarm
  pub absolute_stretches : OpensAlarm b view start found t service.SetAbsAlarm → HasStretch b view arrivals count state s
  absolute_stretches o =
      let block = o.goes_on.opens.block in
      let a = o.goes_on.opens.opening.block.call.object in
      let there = ltb-true a (length b.config.alarms) o.goes_on.names in
      let c : ℕ = (alarm_declaration b.config a).counter in
      let on : c < length b.config.counters = (o.range.alarms a undeclared_alarm there).counter in
      let found_there = k b view arrivals count state s t service.SetAbsAlarm (IsAlarmServiceBlock b.config service.SetAbsAlarm) fits setting after_boot stands o.goes_on.opens block.serves.masks in
      going_on_stretches b view arrivals count state s t service.SetAbsAlarm (IsAlarmServiceBlock b.config service.SetAbsAlarm) fits setting after_boot stands o.goes_on
      block.serves.masks 21 (omega arith)
      (λ place. SetAlarmEffect a (AlarmValueFits (counter_of b.config a).max (counter_of b.config a).min_cycle) (ticks_until c (counter_of b.config a).max))
      (λ place touched from to e. touches_none b touched e.touches)
      (λ place can. block.serves.runs block.offset start.core (record {
        may_use = record { goes_back = can.goes_back; is_alarm = few a there };
        is_counter = let f = fits.few_counters in omega (arith, on, f);
        is_word = o.words 10;
        value = let is = found_there.clock.values c on in let least = o.values c in omega (arith, is, least);
      }))
      (λ place lines touched s2 end can may effect.
      sets_absolute b (state_arrive lines start) s2 t (task found t) a touched end fits (record { range = o.range; goes_on = may; words = o.words }) effect)
      (λ place lines touched s2 end can may effect answer. call_within b t service.SetAbsAlarm 21 s2 touched end (omega arith) (λ object mask. refl) answer)

  -- CancelAlarm
  pub cancel_stretches : OpensAlarm b view start found t service.CancelAlarm → HasStretch b view arrivals count state s
  cancel_stretches o =
      let block = o.goes_on.opens.block in
      let a = o.goes_on.opens.opening.block.call.object in
      let there = ltb-true a (length b.config.alarms) o.goes_on.names in
      going_on_stretches b view arrivals count state s t service.CancelAlarm (IsAlarmServiceBlock b.config service.CancelAlarm) fits setting after_boot stands o.goes_on
      block.serves.masks 7 (omega arith) (λ place. CancelAlarmEffect a)
      (λ place touched from to e. touches_none b touched e.touches)
      (λ place can. block.serves.runs block.offset start.core (record { goes_back = can.goes_back; is_alarm = few a there }))
      (λ place lines touched s2 end can may effect.
      cancels b (state_arrive lines start) s2 t (task found t) a touched end fits (record { range = o.range; goes_on = may; words = o.words }) effect)
      (λ place lines touched s2 end can may effect answer. call_within b t service.CancelAlarm 7 s2 touched end (omega arith) (λ object mask. refl) answer)

  -- GetAlarm
  pub told_stretches : OpensAlarm b view start found t service.GetAlarm → HasStretch b view arrivals count state s
  told_stretches o =
      let block = o.goes_on.opens.block in
      let a = o.goes_on.opens.opening.block.call.object in
      let there = ltb-true a (length b.config.alarms) o.goes_on.names in
      going_on_stretches b view arrivals count state s t service.GetAlarm (IsAlarmServiceBlock b.config service.GetAlarm) fits setting after_boot stands o.goes_on
      block.serves.masks 7 (omega arith) (λ place. GetAlarmEffect a)
      (λ place touched from to e. touches_none b touched e.touches)
      (λ place can. block.serves.runs block.offset start.core (record { goes_back = can.goes_back; is_alarm = few a there }))
      (λ place lines touched s2 end can may effect.
      tells_left b (state_arrive lines start) s2 t (task found t) a touched end fits (record { range = o.range; goes_on = may; words = o.words }) effect)
      (λ place lines touched s2 end can may effect answer. call_within b t service.GetAlarm 7 s2 touched end (omega arith) (λ object mask. refl) answer)
