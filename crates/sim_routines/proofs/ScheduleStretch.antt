-- The stretches of Schedule and of the way back from it, whatever lines arrive.
use Rattle.std.proofs.Common.{◌≡◌, ℕ, ◌+◌, ◌*◌, ◌%◌, ◌<◌, ◌≤◌, List, [], ◌∷◌, ◌++◌, length, refl, sym, ap, ◌∙◌, subst, arith, None, cond, suc}
use Rattle.std.specs.Prelude.{IfSome, Contains}
use Rattle.std.specs.List.{AllByRecursion}
use Rattle.sloth_base.specs.declared.service.Arrival.{Arrival}
use Rattle.sloth_base.specs.declared.service.Event.TheVariants as event
use Rattle.sloth_base.specs.declared.service.Service.TheVariants as service
use Rattle.sloth_base.specs.Arrive.{state_arrive}
use Rattle.sloth_base.specs.Choose.{choose}
use Rattle.sloth_base.specs.Machine.{State}
use Rattle.sloth_base.specs.Take.{line_to_take, entry_state, execution_state}
use Rattle.sloth_base.specs.Owners.{owners_in, IsOwned, AreOwned}
use Rattle.sloth_base.specs.Stretches.{later_beginning, stretch_limit}
use Rattle.sloth_base.specs.declared.numbers.Owners.{Owners}
use Rattle.rv32_instr.specs.declared.InstrKind.{InstrKind}
use Rattle.rv32_instr.specs.Execute.{touched, touched_line_by}
use Rattle.rv32_instr.specs.Ram.{word_at}
use Rattle.rv32_machine.specs.Run.{state_with_arrivals}
use Rattle.masked_code.specs.Kernel as kernel
use Rattle.masked_code.specs.Masked.{FromOpening}
use Rattle.masked_code.specs.Place.{offset_state, InPlace}
use Rattle.masked_code.specs.Trace.{touched_lines, early_arrivals, late_arrivals}
use Rattle.masked_code.proofs.Machine.{touched_at}
use Rattle.service_gen.specs.Schedule.{WayBackEffect, MayComeBack, way_back, ScheduleEffect, IsScheduleCode}
use Rattle.service_gen.proofs.Yielding.{in_place-rest}
use Rattle.observe.specs.Observe.{View, mark_at, marked_event, running_task}
use Rattle.osek_scheduler.specs.State.{System, task}
use Rattle.osek_scheduler.specs.Steps.{OsekStep}
use Rattle.sim_induction.specs.Admits.{IsSetting, lines_at, with_admits}
use Rattle.sim_induction.specs.PieceLaws.{StretchLaw, seen_step_at}
use Rattle.sim_induction.proofs.Routes.{Masking, masking, begins_masked, opened_event}
use Rattle.sim_induction.proofs.Schedule.{owned_at}
use Rattle.sim_induction.proofs.Stretched.{early_none, task_is}
use Rattle.sim_induction.proofs.Traces.{lines_trace}
use Rattle.sim_relation.specs.Build.{Build, HasFittingPlaces}
use Rattle.sim_relation.specs.Context.{RunsTask, RunsFirst}
use Rattle.sim_relation.specs.Placed.{setting_of}
use Rattle.sim_relation.specs.Position.{IsOwing, IsPosition, thread_of}
use Rattle.sim_relation.specs.Progress.{progress_in}
use Rattle.sim_relation.specs.Stands.{Stands, IsActiveTask}
use Rattle.sim_relation.proofs.Arrive.{stands_arrived}
use Rattle.sim_relation.proofs.Choice.{running_top}
use Rattle.sim_relation.proofs.Levels.{level_of-few}
use Rattle.sim_relation.proofs.Placed.{active_by_word, code_behind, first_by_word, placed_in}
use Rattle.osek_scheduler.specs.Priority.{highest_priority}
use Rattle.sloth_base.specs.Named.{declaration}
use Rattle.sloth_base.specs.MemoryMap.{line_count}
use Rattle.sim_routines.specs.ServiceSteps.{IsWayBackAnswer}
use Rattle.sim_routines.specs.Stretch.{OpensSchedule, OpensWayBack, HasStretch}
use Rattle.sim_routines.proofs.ComingBack.{comes_back, owing_of}
use Rattle.sim_routines.proofs.GivingWay.{gives_way}
use Rattle.sim_routines.proofs.GoingOnStretch.{going_on_stretches}
use Rattle.sim_routines.proofs.ServiceStretch.{k}
use Rattle.sim_routines.proofs.Touching.{touches_none}
use Rattle.sim_routines.proofs.Weighing.{call_within}

-- Schedule, up to the count before the way back
pub yields_stretches : (b : Build) (view : View) (arrivals : List Arrival) (count : ℕ) (state : State) (s : System) (t : ℕ)
    → HasFittingPlaces b → IsSetting (setting_of b view arrivals) → 0 < count → Stands b state s
    → OpensSchedule b view (state_with_arrivals arrivals count state) (with_admits (lines_at arrivals count) s) t → HasStretch b view arrivals count state s
yields_stretches b view arrivals count state s t fits setting after_boot stands o =
    let n = state_with_arrivals arrivals count state in
    let s1 = with_admits (lines_at arrivals count) s in
    let block = o.goes_on.opens.block in
    let object = o.goes_on.opens.opening.block.call.object in
    let there = k b view arrivals count state s t service.Schedule (λ object. IsScheduleCode) fits setting after_boot stands o.goes_on.opens block.serves.masks in
    let here = active_by_word b n s1 t there o.goes_on.opens.opening.current in
    going_on_stretches b view arrivals count state s t service.Schedule (λ object. IsScheduleCode) fits setting after_boot stands o.goes_on block.serves.masks
    8 (omega arith) (λ place. ScheduleEffect block.offset t) (λ place touched from to e. touches_none b touched e.touches)
    (λ place can. block.serves.runs.lowers block.offset t n.core (record {
      can_run = can.goes_back.can_run;
      previous = can.goes_back.previous;
      same_level = can.goes_back.same_level;
      bases = can.goes_back.bases;
      runs = can.current;
      is_task = can.is_task;
      line = let l = there.lines.levels t here.declared in let f = fits.few_tasks in let m = level_of-few b.config (declaration b.config t).priority in omega arith;
    }))
    (λ place lines touched s2 end can may effect. gives_way b (state_arrive lines n) s2 t (task s1 t) object block.offset touched end fits may o.may effect)
    (λ place lines touched s2 end can may effect answer. call_within b t service.Schedule 8 s2 touched end (omega arith) (λ object mask. refl) answer)

module _ (b : Build) (view : View) (arrivals : List Arrival) (count : ℕ) (state : State) (s : System) (t : ℕ)
    (fits : HasFittingPlaces b) (setting : IsSetting (setting_of b view arrivals)) (after_boot : 0 < count) (stands : Stands b state s)
    (opens : OpensWayBack b view (state_with_arrivals arrivals count state) (with_admits (lines_at arrivals count) s) t) where
  abbrev n : State
  n = state_with_arrivals arrivals count state

  abbrev s1 : System
  s1 = with_admits (lines_at arrivals count) s

  abbrev offset : ℕ
  offset = opens.way.offset

  few : length b.config.tasks ≤ line_count
  few = let f = fits.few_tasks in omega arith

  all_owned : (i : ℕ) → AreOwned (owners_in b.config) (lines_at arrivals i)
  all_owned = owned_at (setting_of b view arrivals) setting

  there : Stands b n s1
  there = stands_arrived b (lines_at arrivals count) state s fits.few_tasks (all_owned count) stands

  here : IsActiveTask b s1 t
  here = active_by_word b n s1 t there opens.current

  none : line_to_take n ≡ None
  none = ap (λ m. cond m (choose n.core) None) stands.fixed.open_to_lines ∙ opens.none

  placed : InPlace n.core.ram offset opens.way.code
  placed = placed_in b n.core.ram offset opens.way.code there.fixed.code opens.way.placed

  untouched_at : n.pc ≡ b.back → touched (execution_state n) ≡ None
  unfolding touched_line_by
  untouched_at pc =
      let again = opens.way.yields.runs.masks_again in
      let whole : InPlace n.core.ram offset (again.0 ++ kernel.masking ∷ again.1) = subst (InPlace n.core.ram offset) again.2 placed in
      let rest = in_place-rest n.core.ram again.0 (kernel.masking ∷ again.1) offset whole in
      let e : offset + 4 * length again.0 ≡ offset + way_back = let l = again.3 in omega arith in
      let c : InPlace n.core.ram (offset + way_back) (kernel.masking ∷ again.1) = subst (λ o. InPlace n.core.ram o (kernel.masking ∷ again.1)) e rest in
      ap (λ o. touched (entry_state o n)) none ∙ ap (λ p. touched (record { pc = p; core = n.core })) (pc ∙ opens.way.is)
      ∙ touched_at (offset + way_back) n.core kernel.masking c.0

  module _ (below : List ℕ) (stack_is : there.stack ≡ t ∷ below) where
    run : RunsTask b n s1 t below
    run = subst (RunsFirst b n s1) stack_is there.running

    abbrev p : IsPosition b n.core.ram t (task s1 t) (thread_of n) run.place
    p = run.context.position

    owing : IsOwing b n.core.ram t (task s1 t) p.frame p.outer (thread_of n) run.place
    owing = owing_of b n.core.ram t (task s1 t) (thread_of n) run.place opens.owes p

    n_is : n ≡ offset_state (offset + way_back) n.core
    n_is = ap (λ q. record { pc = q; core = n.core }) (owing.pc ∙ opens.way.is)

    may_come_back : MayComeBack offset opens.way.code n.core
    may_come_back =
        let f = there.fixed in
        let again = opens.way.yields.runs.masks_again in
        let a = fits.items p.frame.func p.frame.item in
        let m = level_of-few b.config (cond (declaration b.config t).non (highest_priority b.config) (declaration b.config t).priority) in
        let l = owing.level in
        record {
          goes_back = record {
            can_run = record {
              controller = f.controller;
              registers = f.registers;
              zero = f.zero;
              lines = f.pending;
              aligned = opens.way.placed.aligned;
              behind = code_behind b offset opens.way.code fits
                  (let masks = opens.way.yields.masks in subst (λ (c : List InstrKind). 0 < length c) (sym masks.1) (omega arith)) opens.way.placed;
              inside = opens.way.placed.inside;
              placed = placed;
            };
            previous = f.previous;
            same_level = f.same_level;
            bases = f.bases;
            back = ap (λ x. x % 4) owing.returns ∙ a;
          };
          level = omega arith;
        }

    module _ (e : Masking arrivals 3 count state WayBackEffect) where
      in_range : AreOwned (owners_in b.config) (early_arrivals e.trace) × AreOwned (owners_in b.config) (late_arrivals e.trace)
      in_range = lines_trace (IsOwned (owners_in b.config)) e.more (count + 1) (lines_at arrivals) e.next e.trace e.end all_owned e.steps

      no_early : early_arrivals e.trace ≡ []
      no_early = early_none e.trace e.effect.touches

      answer : IsWayBackAnswer b s1 t e.last
      answer =
          comes_back b n s1 t (touched_lines e.trace) e.last fits
          (record {
            stands = there;
            current = opens.current;
            owes = opens.owes;
            holds_nothing = opens.holds_nothing;
            top = running_top b n s1 there few opens.none t below stack_is;
          })
          (subst (λ lines. WayBackEffect (touched_lines e.trace) (state_arrive lines n) e.last) no_early e.effect)

      stretch : StretchLaw (setting_of b view arrivals) (Stands b) (progress_in b) b.passed b.passed count state s e.next e.trace e.end
      stretch = record {
        finds = stands.fixed.open_to_lines;
        goes = e.goes;
        starts = begins_masked count n e.next stands.fixed.open_to_lines e.off;
        more = e.more;
        few = let l = e.few in subst (λ o. suc e.more ≤ stretch_limit b.config (later_beginning o)) (sym none) (omega arith);
        steps = e.steps;
        ends = ap (λ (x : State). x.core.mie) e.late_behind ∙ answer.stands.fixed.open_to_lines;
        lines = [];
        few_lines = omega arith;
        touches_first = subst (λ o. IfSome o (Contains [])) (sym (untouched_at owing.pc)) tt;
        touches = subst (AllByRecursion (Contains [])) (sym e.effect.touches) tt;
        what = event.Back t;
        named = opens.current;
        what_is = λ last regs current.
            opened_event view count n e.next last opens.way.mark after_boot none
            (ap (λ o. mark_at view (entry_state o n).pc) none ∙ ap (mark_at view) owing.pc ∙ opens.way.marked)
            ∙ ap (λ v. marked_event v view opens.way.mark (seen_step_at (setting_of b view arrivals) count state e.next) last) opens.way.is_back
            ∙ ap (λ v. event.Back (running_task view.owners.tasks v)) opens.current
            ∙ ap (λ (v : ℕ). event.Back v) (task_is view.owners.tasks t (let v = ap (λ (o : Owners). o.tasks) setting.owners in let h = here.declared in omega arith));
        after = answer.after;
        within = let l = e.few in omega (arith, l);
        step_is = subst (λ lines. OsekStep b.config b.app (event.Back t) (with_admits lines s1) answer.after) (sym no_early) answer.step_is;
        passes = λ past h. tt;
        goes_on = (ap (λ (x : State). word_at x.core.ram 0) e.late_behind ∙ ap (λ r. word_at r 0) e.effect.left.ram ∙ opens.current, refl);
        related = subst (λ (x : State). Stands b x (with_admits (late_arrivals e.trace) answer.after)) (sym e.late_behind)
            (stands_arrived b (late_arrivals e.trace) e.last answer.after fits.few_tasks in_range.1 answer.stands);
      }

  -- the way back
  pub back_stretches : HasStretch b view arrivals count state s
  back_stretches =
      let f = first_by_word b n s1 t there.stack there.running opens.current in
      let e = masking arrivals 3 count state WayBackEffect none
      (subst (λ m. FromOpening 3 m WayBackEffect) (sym (n_is f.0 f.1)) (opens.way.yields.runs.comes_back offset n.core (may_come_back f.0 f.1))) in
      (e.next, e.trace, e.end, stretch f.0 f.1 e)
