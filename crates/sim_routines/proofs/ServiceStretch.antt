-- From its opening mark on, a service is a stretch of a run, whatever lines arrive: its contract, its own law and its weight are all that is asked.
use Rattle.std.proofs.Common.{◌≡◌, ℕ, suc, ◌+◌, ◌*◌, ◌%◌, ◌<◌, ◌≤◌, List, [], ◌∷◌, length, sym, ap, ◌∙◌, subst, arith, None, cond, ◌⊎◌, ⊎_elim, inl, inr}
use Rattle.std.specs.Prelude.{slice_index}
use Rattle.sloth_base.specs.declared.service.Arrival.{Arrival}
use Rattle.sloth_base.specs.declared.service.Service.{Service}
use Rattle.sloth_base.specs.Choose.{choose}
use Rattle.sloth_base.specs.Machine.{State}
use Rattle.sloth_base.specs.Arrive.{state_arrive}
use Rattle.sloth_base.specs.Take.{line_to_take, entry_state, execution_state}
use Rattle.sloth_base.specs.Owners.{owners_in, IsOwned, AreOwned, AreTasks}
use Rattle.sloth_base.specs.Stretches.{Masks, stretch_limit}
use Rattle.sloth_base.specs.declared.numbers.Owners.{Owners}
use Rattle.sloth_base.specs.MemoryMap.{memory_base, line_count}
use Rattle.rv32_instr.specs.declared.InstrKind.{InstrKind}
use Rattle.sloth_region.specs.Layout.{cur}
use Rattle.rv32_instr.specs.Execute.{touched, touched_line_by}
use Rattle.rv32_instr.specs.Ram.{word_at}
use Rattle.rv32_machine.specs.Run.{state_with_arrivals}
use Rattle.masked_code.specs.Kernel as kernel
use Rattle.masked_code.specs.Masked.{FromOpening}
use Rattle.masked_code.specs.Place.{offset_state, InPlace}
use Rattle.masked_code.specs.Trace.{touched_lines, early_arrivals, late_arrivals}
use Rattle.masked_code.proofs.Machine.{touched_at}
use Rattle.rv32_expand.specs.Expansion.{block_address, item_address, expansion}
use Rattle.sim_induction.specs.Events.{stretch_counts}
use Rattle.observe.specs.Observe.{View, mark_at}
use Rattle.osek_scheduler.specs.State.{System, task}
use Rattle.osek_scheduler.specs.Priority.{IsTop}
use Rattle.osek_scheduler.specs.Steps.{OsekStep}
use Rattle.sim_induction.specs.Admits.{IsSetting, lines_at, with_admits}
use Rattle.sim_induction.specs.PieceLaws.{StretchLaw, served_event}
use Rattle.sim_induction.specs.Mirror.{priority_of}
use Rattle.sim_induction.proofs.Passing.{not_suspended, kept_admits, still_top}
use Rattle.sim_induction.proofs.Routes.{Masking, masking}
use Rattle.sim_induction.proofs.Schedule.{owned_at}
use Rattle.sim_induction.proofs.Stretched.{service_law}
use Rattle.sim_induction.proofs.Traces.{lines_trace, early_touched}
use Rattle.sim_relation.specs.Build.{Build, HasFittingPlaces}
use Rattle.sim_relation.specs.Context.{RunsTask, RunsFirst}
use Rattle.sim_relation.specs.Placed.{setting_of}
use Rattle.sim_relation.specs.Progress.{progress_in, HasPassed}
use Rattle.sim_relation.specs.Stands.{Stands, IsActiveTask, AreActive}
use Rattle.sim_relation.proofs.Arrive.{stands_arrived}
use Rattle.sim_relation.proofs.Below.{is_below}
use Rattle.sim_relation.proofs.Choice.{running_top}
use Rattle.sim_relation.proofs.Levels.{level_of-few}
use Rattle.sim_relation.proofs.Passed.{passed_arrived, passed_measure}
use Rattle.sim_relation.proofs.Placed.{placed_in, code_behind, first_by_word}
use Rattle.sim_relation.proofs.Tops.{falling_head}
use Rattle.sim_routines.specs.Opening.{AtOpening, OpensService}
use Rattle.sim_routines.proofs.Servable.{CanServe}
use Rattle.sim_routines.specs.Served.{IsServed, IsServiceAnswer}
use Rattle.sim_routines.proofs.ServiceLaws.{ServiceLaw, ServiceWeight, TouchesTasks}
use Rattle.sim_routines.specs.Stretch.{HasStretch}

module _ (b : Build) (view : View) (arrivals : List Arrival) (count : ℕ) (state : State) (s : System) (t : ℕ) (served : Service) (Contract : ℕ → List InstrKind → Type 0)
    (fits : HasFittingPlaces b) (setting : IsSetting (setting_of b view arrivals)) (after_boot : 0 < count) (stands : Stands b state s)
    (opens : OpensService b view (state_with_arrivals arrivals count state) (with_admits (lines_at arrivals count) s) t served Contract)
    (masks : (rest : List InstrKind) × (opens.block.code ≡ kernel.masking ∷ rest)) where
  abbrev n : State
  n = state_with_arrivals arrivals count state

  abbrev s1 : System
  s1 = with_admits (lines_at arrivals count) s

  abbrev op : AtOpening b n t (task s1 t) served
  op = opens.opening

  abbrev code : List InstrKind
  code = opens.block.code

  abbrev offset : ℕ
  offset = opens.block.offset

  few : length b.config.tasks ≤ line_count
  few = let f = fits.few_tasks in omega arith

  all_owned : (i : ℕ) → AreOwned (owners_in b.config) (lines_at arrivals i)
  all_owned = owned_at (setting_of b view arrivals) setting

  -- the relation at the opening, behind what arrived
  pub k : Stands b n s1
  k = stands_arrived b (lines_at arrivals count) state s fits.few_tasks (all_owned count) stands

  none : line_to_take n ≡ None
  none = ap (λ m. cond m (choose n.core) None) stands.fixed.open_to_lines ∙ opens.none

  pc_is : n.pc ≡ memory_base + offset
  pc_is = op.block.pc
      ∙ ap (λ v. block_address b.places v op.block.call.object) op.calls
      ∙ opens.block.is

  n_is : n ≡ offset_state offset n.core
  n_is = ap (λ p. record { pc = p; core = n.core }) pc_is

  placed : InPlace n.core.ram offset code
  placed = placed_in b n.core.ram offset code k.fixed.code opens.block.placed

  back : slice_index n.core.registers 31 % 4 ≡ 0
  back =
      let a = fits.items op.frame.func op.frame.item in
      ap (λ x. x % 4) op.block.returns
      ∙ (let e : (item_address b.places op.frame.func op.frame.item + 4 * length (expansion b.app b.places op.frame.func op.frame.item)) % 4 ≡ 0 = omega arith in e)

  untouched : touched (execution_state n) ≡ None
  unfolding touched_line_by
  untouched =
      let c : InPlace n.core.ram offset (kernel.masking ∷ masks.0) = subst (InPlace n.core.ram offset) masks.1 placed in
      ap (λ o. touched (entry_state o n)) none ∙ ap touched n_is ∙ touched_at offset n.core kernel.masking c.0

  module _ (below : List ℕ) (stack_is : k.stack ≡ t ∷ below) where
    active : AreActive b s1 (t ∷ below)
    active = subst (AreActive b s1) stack_is k.active

    run : RunsTask b n s1 t below
    run = subst (RunsFirst b n s1) stack_is k.running

    here : IsActiveTask b s1 t
    here = falling_head b s1 t below active.falling

    top : IsTop b.config s1 [] t
    top = running_top b n s1 k few opens.none t below stack_is

    serves_from : (place : ℕ) × CanServe offset code t place n.core
    serves_from =
        let f = k.fixed in
        let h = here.declared in
        let g = fits.few_tasks in
        let l = run.level in
        let m = level_of-few b.config (priority_of b.config s1 t) in (
          run.next,
          record {
            goes_back = record {
              can_run = record {
                controller = f.controller;
                registers = f.registers;
                zero = f.zero;
                lines = f.pending;
                aligned = opens.block.placed.aligned;
                behind = code_behind b offset code fits (subst (λ (c : List InstrKind). 0 < length c) (sym masks.1) (omega arith)) opens.block.placed;
                inside = opens.block.placed.inside;
                placed = placed;
              };
              previous = f.previous;
              same_level = f.same_level;
              bases = f.bases;
              back = back;
            };
            level = omega arith;
            current = op.current;
            is_task = omega arith;
            below = is_below b n s1 t below fits active run;
          },
        )

    module _ (most : ℕ) (short : suc most ≤ stretch_limit b.config Masks) (Effect : List ℕ → State → State → Type 0) (tasks_alone : TouchesTasks b Effect)
        (law : ServiceLaw b n t (task s1 t) served Effect) (weighs : ServiceWeight b n t (task s1 t) served most Effect) (e : Masking arrivals most count state Effect) where
      in_range : AreOwned (owners_in b.config) (early_arrivals e.trace) × AreOwned (owners_in b.config) (late_arrivals e.trace)
      in_range = lines_trace (IsOwned (owners_in b.config)) e.more (count + 1) (lines_at arrivals) e.next e.trace e.end all_owned e.steps

      early_tasks : AreTasks (owners_in b.config) (early_arrivals e.trace)
      early_tasks = early_touched (λ line. line < length b.config.tasks) e.trace (tasks_alone (touched_lines e.trace) (state_arrive (early_arrivals e.trace) n) e.last e.effect)

      abbrev s2 : System
      s2 = with_admits (early_arrivals e.trace) s1

      is_served : IsServed b (state_arrive (early_arrivals e.trace) n) s2 t (task s1 t) served
      is_served = record {
        stands = stands_arrived b (early_arrivals e.trace) n s1 fits.few_tasks in_range.0 k;
        own_is = kept_admits (early_arrivals e.trace) t s1 (not_suspended (task s1 t).state here.active);
        opening = record {
          current = op.current;
          free = op.free;
          frame = op.frame;
          outer = op.outer;
          frames = op.frames;
          inside = op.inside;
          block = op.block;
          calls = op.calls;
        };
        top = still_top b.config s1 t (early_arrivals e.trace) fits.few_tasks early_tasks top here.active opens.not_fresh;
        bytes = opens.bytes;
      }

      a : IsServiceAnswer b s2 t served (touched_lines e.trace) e.last
      a = law (early_arrivals e.trace) (touched_lines e.trace) s2 e.last is_served e.effect

      within : suc e.more ≤ stretch_counts b.config b.app s2 (served_event t served e.last)
      within =
          let few = e.few in
          let weight = weighs (early_arrivals e.trace) (touched_lines e.trace) s2 e.last is_served e.effect a in
          omega (arith, few, weight)

      abbrev HasResumed : State → Type 0
      HasResumed x = (word_at x.core.ram 0 ≡ t + 1)
          ⊎ ((u : ℕ) → word_at x.core.ram 0 ≡ u + 1 → b.passed u ≤ progress_in b x (with_admits (late_arrivals e.trace) a.after))

      -- the caller goes on, or what was preempted where it stood
      resumed : HasResumed e.end
      resumed =
          subst HasResumed (sym e.late_behind)
          (⊎_elim (λ (same : word_at e.last.core.ram cur ≡ t + 1). inl same)
          (λ (ran : HasPassed b e.last a.after).
          inr (passed_measure b (state_arrive (late_arrivals e.trace) e.last) (with_admits (late_arrivals e.trace) a.after)
          (passed_arrived b e.last a.after (late_arrivals e.trace) a.stands ran)))
          a.resumes)

      stretch : StretchLaw (setting_of b view arrivals) (Stands b) (progress_in b) b.passed b.passed count state s e.next e.trace e.end
      stretch =
          service_law (setting_of b view arrivals) (Stands b) (progress_in b) b.passed count state s t served most Effect e
          (record {
            after_boot = after_boot;
            enabled = stands.fixed.open_to_lines;
            none = none;
            mark = opens.block.mark;
            at_mark = ap (λ o. mark_at view (entry_state o n).pc) none ∙ ap (mark_at view) pc_is ∙ opens.block.marked;
            opens = opens.block.opens;
            is_called = opens.block.calls;
            is_task = let v = ap (λ (o : Owners). o.tasks) setting.owners in let h = here.declared in omega arith;
            runs = op.current;
            booted = stands.tidy.booted;
            top = top;
            active = here.active;
            short = short;
            ends = ap (λ (x : State). x.core.mie) e.late_behind ∙ a.stands.fixed.open_to_lines;
            untouched = untouched;
            lines = a.one ∷ a.other ∷ [];
            few_lines = omega arith;
            touches = a.touches;
            few_tasks = fits.few_tasks;
            tasks_alone = early_tasks;
            after = a.after;
            within = subst (λ (x : State). suc e.more ≤ stretch_counts b.config b.app s2 (served_event t served x)) (sym e.late_behind) within;
            step_is = subst (λ (x : State). OsekStep b.config b.app (served_event t served x) s2 a.after) (sym e.late_behind) a.step_is;
            related = stands_arrived b (late_arrivals e.trace) e.last a.after fits.few_tasks in_range.1 a.stands;
            resumes = resumed;
          })

  -- the machine is as the service's contract asks
  pub can_serve : (place : ℕ) × CanServe offset code t place n.core
  can_serve = let f = first_by_word b n s1 t k.stack k.running op.current in serves_from f.0 f.1

  -- where the block has its effect from there on, and the service its law and its weight, it is a stretch
  pub service_stretches : (most : ℕ) → suc most ≤ stretch_limit b.config Masks → (Effect : List ℕ → State → State → Type 0) → TouchesTasks b Effect → FromOpening most (offset_state offset n.core) Effect
      → ServiceLaw b n t (task s1 t) served Effect → ServiceWeight b n t (task s1 t) served most Effect → HasStretch b view arrivals count state s
  service_stretches most short Effect tasks_alone runs law weighs =
      let f = first_by_word b n s1 t k.stack k.running op.current in
      let e = masking arrivals most count state Effect none (subst (λ m. FromOpening most m Effect) (sym n_is) runs) in
      (e.next, e.trace, e.end, stretch f.0 f.1 most short Effect tasks_alone law weighs e)
