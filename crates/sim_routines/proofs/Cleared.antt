-- ClearEvent is a step, and the relation stands behind it.
use Rattle.std.proofs.Common.{◌≡◌, ℕ, ◌-◌, ◌^◌, ◌<◌, List, [], ◌∷◌, length, refl, sym, ap, ◌∙◌, subst, arith, true}
use Rattle.std.specs.Prelude.{slice_index, bit_and, Contains}
use Rattle.std.specs.List.{AllByRecursion}
use Rattle.std.proofs.lemmas.Nat.{and_le_l}
use Rattle.std.proofs.lemmas.List.{set-set}
use Rattle.sloth_base.specs.Machine.{State}
use Rattle.sloth_base.specs.Status.{E_OK}
use Rattle.sloth_base.specs.declared.service.Service.TheVariants as service
use Rattle.sloth_region.specs.Layout.{events}
use Rattle.rv32_instr.specs.Ram.{word_at}
use Rattle.rv32_expand.specs.Expansion.{mask_of}
use Rattle.masked_code.proofs.Words.{word_below}
use Rattle.service_gen.specs.ClearEvent.{ClearEventEffect, mask_register}
use Rattle.osek_scheduler.specs.State.{Task, System, task, with_task}
use Rattle.osek_scheduler.specs.Services.{answered_task, is_there}
use Rattle.osek_scheduler.proofs.ServiceStates.{answered_state}
use Rattle.osek_scheduler.specs.Steps.{settled_state}
use Rattle.sim_relation.specs.Build.{Build, HasFittingPlaces}
use Rattle.sim_relation.specs.Changes.{system_with_task_state}
use Rattle.sim_relation.specs.Stands.{Stands, IsActiveTask}
use Rattle.sim_relation.proofs.Parts.{this_task}
use Rattle.sim_routines.specs.ServiceSteps.{MayGoOn}
use Rattle.sim_routines.specs.Served.{IsServed, IsServiceAnswer}
use Rattle.sim_routines.proofs.GoesOn.{active, answers_so}
use Rattle.sim_routines.proofs.Changed.{Changes, among, current, stands_changed}

module _ (b : Build) (state : State) (s : System) (t : ℕ) (own : Task) (object : ℕ) (touched : List ℕ) (end : State) (fits : HasFittingPlaces b)
    (may : MayGoOn b state s t own service.ClearEvent object) (effect : ClearEventEffect t touched state end) where
  abbrev is : IsServed b state s t own service.ClearEvent
  is = may.is_served

  abbrev k : Stands b state s
  k = is.stands

  abbrev mask : ℕ
  mask = is.opening.block.call.mask

  mask_is : slice_index state.core.registers mask_register ≡ mask
  mask_is = is.opening.block.mask (subst (λ v. length (mask_of v mask) ≡ 2) (sym is.opening.calls) refl)

  here : IsActiveTask b s t
  here = active b state s t own service.ClearEvent is fits

  abbrev now : ℕ
  now = bit_and (task s t).events (4294967295 - mask)

  abbrev word : ℕ
  word = bit_and (word_at state.core.ram (events t)) (2 ^ 32 - 1 - slice_index state.core.registers mask_register)

  word_is : word ≡ now
  word_is =
      ap (λ x. bit_and x (4294967295 - slice_index state.core.registers mask_register)) (k.words t here.declared).event_mask
      ∙ ap (λ x. bit_and (task s t).events (4294967295 - x)) mask_is

  small : word < 2 ^ 32
  small =
      let l = and_le_l (word_at state.core.ram (events t)) (2 ^ 32 - 1 - slice_index state.core.registers mask_register) in
      let w = word_below state.core.ram (events t) is.bytes in
      omega arith

  change : Changes b state s t (task s t).state now word state.core.pending state.core.enabled
  change = record {
    declared = here.declared;
    same_active = refl;
    awake = λ e. let a = here.active in cc;
    small = small;
    word_is = word_is;
    wait_word = (k.words t here.declared).wait_mask;
    long_pending = refl;
    long_enabled = refl;
    own_line = k.lines.each t here.declared;
    own_bit = k.lines.bits t here.declared;
    other_pending = λ l n. refl;
    other_enabled = λ l n. refl;
  }

  abbrev after : System
  after = with_task s t (record (answered_task E_OK (task s t)) { events = now })

  stood : Stands b end (system_with_task_state (settled_state (answered_state E_OK t s)) t (task s t).state now)
  stood =
      stands_changed b state s t own service.ClearEvent is fits may.followed end t word state.core.pending state.core.enabled effect.back E_OK effect.status
      (task s t).state now change

  this : task (answered_state E_OK t s) t ≡ answered_task E_OK (task s t)
  this =
      this_task s t (answered_task E_OK (task s t))
      (among b state s t own service.ClearEvent is fits may.followed end t word state.core.pending state.core.enabled effect.back E_OK effect.status)

  next_is : system_with_task_state (settled_state (answered_state E_OK t s)) t (task s t).state now ≡ settled_state after
  next_is =
      ap (λ (x : Task). settled_state (with_task (answered_state E_OK t s) t (record x { state = (task s t).state; events = now }))) this
      ∙ ap (λ l. settled_state (record s { tasks = l })) (set-set s.tasks t (answered_task E_OK (task s t)) (record (answered_task E_OK (task s t)) { events = now }))

  pub clears : IsServiceAnswer b s t service.ClearEvent touched end
  clears =
      answers_so b state s t own service.ClearEvent is fits touched end t t
      (subst (AllByRecursion (Contains (t ∷ t ∷ []))) (sym effect.touches) tt)
      (subst (λ o. is_there b.config own.held service.ClearEvent o ≡ true) (sym may.object_is) may.names)
      E_OK effect.status after refl (subst (Stands b end) next_is stood)
      (current b state s t own service.ClearEvent is fits may.followed end t word state.core.pending state.core.enabled effect.back E_OK effect.status)
