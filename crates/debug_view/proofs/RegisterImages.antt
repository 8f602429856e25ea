-- An image of a planned map has a kernel in place, so wherever interrupts are open `debug` shows the registers of the system's tasks.
use Rattle.std.proofs.Common.{◌≡◌, ℕ, zero, suc, ◌+◌, ◌<◌, [], length, List, None, if◌then◌else◌, true, false, refl, ap, ◌∙◌, subst}
use Rattle.std.specs.Prelude.{Some}
use Rattle.std.specs.Option.{unwrap_or}
use Rattle.std.proofs.Math.ListN.{length-map}
use Rattle.sloth_base.specs.Machine.{State}
use Rattle.sloth_base.specs.declared.config.TaskDecl.{TaskDecl}
use Rattle.sloth_base.specs.declared.service.Arrival.{Arrival}
use Rattle.sloth_base.specs.declared.image.Image.{Image}
use Rattle.rv32_instr.specs.Memory.{memory_of}
use Rattle.rv32_machine.specs.Run.{state_with_arrivals}
use Rattle.osek_scheduler.specs.Priority.{is_active}
use Rattle.osek_scheduler.specs.State.{opening, task}
use Rattle.osek_scheduler.specs.Valid.{InState}
use Rattle.osek_scheduler.proofs.Apart.{opening_apart}
use Rattle.osek_scheduler.proofs.Facts.{facts}
use Rattle.osek_scheduler.proofs.Reached.{run_valid}
use Rattle.osek_scheduler.proofs.Steps.{opening_valid}
use Rattle.sloth_inspect.specs.States.{running_number_in}
use Rattle.mem_map.specs.Stacks.{top_of}
use Rattle.sim_relation.specs.Build.{with_passed}
use Rattle.debug_view.specs.Registers.{thread_register}
use Rattle.debug_view.specs.ShownRun.{run_of}
use Rattle.debug_view.specs.States.{began_at, state_at}
use Rattle.debug_view.proofs.Running.{shown_is_reached}
use Rattle.debug_view.specs.TaskRegisters.{PlannedImagesShowRegisters}
use Rattle.debug_view.proofs.Images.{b, kernel, stands_open}
use Rattle.debug_view.proofs.TaskRegisters.{fresh_pc, of_active, of_begun, of_others, preempted_calls, preempted_pc, rests_so, running_calls, running_pc, waiting_calls, waiting_pc, waiting_x2}

-- a count that finds interrupts open is in no stretch
none_began : (image : Image) (arrivals : List Arrival) (count : ℕ) → (state_at image arrivals count).core.mie ≡ true → began_at image arrivals count ≡ None
unfolding began_at
none_began image arrivals zero enabled = refl
none_began image arrivals (suc k) enabled =
    ap (λ x. if x then None else Some (unwrap_or (began_at image arrivals k) (running_number_in (memory_of (state_at image arrivals k).core)))) enabled

pub images_show_registers : PlannedImagesShowRegisters
images_show_registers config app image well sound items has = record {
  each = λ arrivals n count state s are before after enabled leads.
      let now = state_with_arrivals arrivals count state in
      let build = with_passed (b config app image well sound items has) (λ t. 0) in
      let stands = stands_open config app image well sound items has arrivals n count state s are before after enabled leads in
      let fits = (kernel config app image well sound items has).fits in
      let is : state_at image arrivals count ≡ now = shown_is_reached image arrivals count state after in
      let began = none_began image arrivals count (ap (λ (x : State). x.core.mie) is ∙ stands.fixed.open_to_lines) in
      let many = ap length items.tasks ∙ length-map config.tasks (λ (d : TaskDecl). d.name) in
      let shown : (t number : ℕ) → (run_of image arrivals).register count (t + 2) number ≡ thread_register (length image.tasks) None now (t + 2) number =
      λ t number. ap (λ x. thread_register (length image.tasks) x (state_at image arrivals count) (t + 2) number) began
      ∙ ap (λ x. thread_register (length image.tasks) None x (t + 2) number) is in
      let valid = (run_valid config app (facts config app well) _ (opening config app) s leads (opening_valid config app) (opening_apart config app)).0 in
      let asleep : (t : ℕ) → t < length config.tasks → (task s t).frames ≡ [] → is_active (task s t).state ≡ false =
      λ t declared none. rests_so (task s t).state (λ active. (subst (InState config t (task s t)) active (valid.each t declared).in_state).0 none) in
      record {
        of_begun = λ t i declared within begun.
            shown t (i + 5) ∙ of_begun build now s fits stands (length image.tasks) many t declared i within begun;
        of_others = λ t i declared within none.
            shown t (i + 5)
            ∙ of_others build now s fits stands (length image.tasks) many t declared i within (asleep t declared none) none;
        of_active = λ t i declared within active.
            shown t (i + 5) ∙ of_active build now s fits stands (length image.tasks) many t declared i within active;
        of_waiting = λ t i mask declared within waits.
            shown t (i + 5)
            ∙ of_begun build now s fits stands (length image.tasks) many t declared i within
            (subst (InState config t (task s t)) waits (valid.each t declared).in_state).1;
        preempted_pc = λ r t frame outer highest other declared active begun.
            let at = preempted_pc build now s fits stands (length image.tasks) many t declared r frame outer highest other active begun in
            (at.0, shown t 32 ∙ at.1, at.2);
        preempted_calls = λ r t frame outer highest other declared active begun.
            let at = preempted_calls build now s fits stands (length image.tasks) many t declared r frame outer highest other active begun in
            (at.0, at.1, shown t 32 ∙ at.2, shown t 2 ∙ at.3, at.4);
        running_pc = λ t frame outer highest begun.
            let at = running_pc build now s fits stands (length image.tasks) many t highest.declared frame outer highest begun in
            (at.0, (λ none. shown t 32 ∙ at.1 none), (λ line taken. (let shows = at.2 line taken in (shown t 32 ∙ shows.0, shown t 35 ∙ shows.1))));
        running_calls = λ t frame outer highest begun.
            let at = running_calls build now s fits stands (length image.tasks) many t highest.declared frame outer highest begun in
            (at.0, shown t 2 ∙ at.1, at.2);
        waiting_calls = λ t frame outer declared rests begun.
            let at = waiting_calls build now s fits stands (length image.tasks) many t declared frame outer (rests_so (task s t).state rests) begun in
            (at.0, shown t 2 ∙ at.1, at.2);
        waiting_pc = λ t frame outer declared rests begun.
            shown t 32 ∙ waiting_pc build now s fits stands (length image.tasks) many t declared frame outer (rests_so (task s t).state rests) begun;
        fresh_pc = λ t declared none.
            shown t 32 ∙ fresh_pc build now s fits stands (length image.tasks) many t declared (asleep t declared none) none;
        waiting_x2 = λ t frame outer declared rests begun.
            shown t 2
            ∙ waiting_x2 build now s fits stands (length image.tasks) many t declared frame outer (rests_so (task s t).state rests) begun (top_of has.by_map.map t) refl;
      };
}
