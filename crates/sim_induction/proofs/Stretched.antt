-- The laws of stretches, from what contracts say of the code that runs.
use Rattle.std.proofs.Common.{◌≡◌, ℕ, ◌+◌, ◌-◌, ◌<◌, ◌≤◌, List, [], ◌++◌, length, sym, ap, ◌∙◌, subst, arith, Bool, true, false, cond, Some, None, nat_le, suc, ◌⊎◌, inl, inr, refl}
use Rattle.std.specs.Prelude.{◌&&◌, ◌==◌, map, IfSome, slice_index, Contains}
use Rattle.std.proofs.lemmas.Bool.{false≢true, ne_eqb, eq-eqb, eqb-true, lt-ltb, le-leb}
use Rattle.sloth_base.specs.declared.service.Service.{Service}
use Rattle.sloth_base.specs.declared.image.Mark.{Mark}
use Rattle.sloth_base.specs.declared.image.MarkKind.TheVariants as kind
use Rattle.sloth_base.specs.declared.service.Event.TheVariants as event
use Rattle.sloth_base.specs.declared.service.Stamped.{Stamped}
use Rattle.sloth_base.specs.Machine.{State}
use Rattle.sloth_base.specs.Arrive.{state_arrive}
use Rattle.sloth_base.specs.Take.{line_to_take, execution_state}
use Rattle.rv32_instr.specs.Ram.{word_at}
use Rattle.rv32_instr.specs.Execute.{touched}
use Rattle.rv32_machine.specs.Run.{state_with_arrivals}
use Rattle.masked_code.specs.Trace.{Trace, touched_lines, early_arrivals, late_arrivals}
use Rattle.observe.specs.Observe.{mark_at, marked_event, service_event, running_task}
use Rattle.sloth_base.specs.ServiceCodes.{service_of}
use Rattle.sloth_base.specs.Owners.{first_counter_line, owners_in, AreTasks}
use Rattle.sloth_base.specs.Stretches.{Masks, later_beginning, stretch_limit, touch_limit}
use Rattle.osek_scheduler.specs.declared.state.TaskState.TheVariants as mode
use Rattle.osek_scheduler.specs.State.{System, task}
use Rattle.osek_scheduler.specs.Priority.{IsTop}
use Rattle.osek_scheduler.specs.Steps.{OsekStep}
use Rattle.osek_scheduler.specs.Runs.{PassesOver, PassesOverArrivals}
use Rattle.sim_induction.specs.Events.{stretch_counts}
use Rattle.sim_induction.specs.Admits.{Setting, lines_at, with_admits, admit_event, arrivals_before_event}
use Rattle.sim_induction.specs.PieceLaws.{Passed, StretchLaw, IsNamed, GoesOn, seen_step_at, served_event}
use Rattle.std.specs.List.{AllByRecursion}
use Rattle.sim_induction.proofs.Follow.{booted_admits}
use Rattle.sim_induction.proofs.Traces.{lines_before}
use Rattle.sim_induction.proofs.Untouched.{nothing_before}
use Rattle.sim_induction.proofs.Passing.{passes_inner}
use Rattle.sim_induction.proofs.Routes.{Masking, begins_masked, opened_event}

-- a stretch that touches no line has no early arrivals
pub early_none : (t : Trace) → touched_lines t ≡ [] → early_arrivals t ≡ []
early_none t h = sym (lines_before 0 t) ∙ ap (map (λ a. a.line)) (nothing_before 0 t h)

-- ---- a service

-- the number of the task that has this word in the current-task word
pub task_is : (tasks t : ℕ) → t < tasks → running_task tasks (t + 1) ≡ t
task_is tasks t l =
    let one : t + 1 - 1 ≡ t = omega arith in
    ap (λ b. cond (b && nat_le (t + 1) tasks) (t + 1 - 1) 4294967295) (lt-ltb 0 (t + 1) (omega arith))
    ∙ ap (λ b. cond b (t + 1 - 1) 4294967295) (le-leb (t + 1) tasks (omega arith)) ∙ one

-- what a call and a leave pass over is what the calling task passes over
both_pass : (given : Setting) (past : List Stamped) (s : System) (k t : ℕ) (called : Service) (status : ℕ) (b : Bool) → PassesOver given.config given.app past s t k
    → PassesOverArrivals given.config given.app past s k (cond b (event.Call t called status) (event.Left t called))
both_pass given past s k t called status true h = h
both_pass given past s k t called status false h = h

-- either is of the calling task
both_named : (current t : ℕ) (called : Service) (status : ℕ) (b : Bool) → current ≡ t + 1 → IsNamed current (cond b (event.Call t called status) (event.Left t called))
both_named current t called status true h = h
both_named current t called status false h = h

-- the task itself goes on behind a call, and behind a leave another one where it stood
both_go_on : (passed : Passed) (current now before after t : ℕ) (called : Service) (status : ℕ) (b : Bool) → (t + 1 == now) ≡ b
    → (now ≡ t + 1) ⊎ ((u : ℕ) → now ≡ u + 1 → passed u ≤ after)
    → GoesOn passed passed current now before after (cond b (event.Call t called status) (event.Left t called))
both_go_on passed current now before after t called status true is h = (sym (eqb-true (t + 1) now is), refl)
both_go_on passed current now before after t called status false is (inl same) = absurd (false≢true (sym is ∙ eq-eqb (t + 1) now (sym same)))
both_go_on passed current now before after t called status false is (inr h) = (h, refl)

-- What is known of a service's code that begins at its opening mark with interrupts open, whose effect is such a one: where it begins, which
-- task calls, what it leaves, and that it is a step of the abstract scheduler within its weight, to a state that is related again.
pub record ServesFrom (given : Setting) (R : State → System → Type 0) (progress : State → System → ℕ) (passed : Passed) (k : ℕ) (m : State) (s : System) (t : ℕ) (called : Service) (most : ℕ)
    (Effect : List ℕ → State → State → Type 0) (e : Masking given.arrivals most k m Effect) : Type 0 where
  -- the beginning
  pub after_boot : 0 < k
  pub enabled : m.core.mie ≡ true
  pub none : line_to_take (state_with_arrivals given.arrivals k m) ≡ None
  pub mark : Mark
  pub at_mark : mark_at given.view (execution_state (state_with_arrivals given.arrivals k m)).pc ≡ Some mark
  pub opens : mark.kind ≡ kind.Opening
  pub is_called : service_of mark.a ≡ Some called
  -- the task that calls
  pub is_task : t < given.view.owners.tasks
  pub few_tasks : length given.config.tasks ≤ first_counter_line
  pub runs : word_at m.core.ram 0 ≡ t + 1
  pub booted : s.booted ≡ true
  pub top : IsTop given.config (with_admits (lines_at given.arrivals k) s) [] t
  pub active : (task (with_admits (lines_at given.arrivals k) s) t).state ≡ mode.Active
  -- the code
  pub short : suc most ≤ stretch_limit given.config Masks
  pub ends : e.end.core.mie ≡ true
  pub untouched : touched (execution_state (state_with_arrivals given.arrivals k m)) ≡ None
  pub lines : List ℕ
  pub few_lines : length lines ≤ touch_limit given.config Masks
  pub touches : AllByRecursion (Contains lines) (touched_lines e.trace)
  -- the early arrivals are those of tasks
  pub tasks_alone : AreTasks (owners_in given.config) (early_arrivals e.trace)
  -- the step
  pub after : System
  pub within : suc e.more ≤ stretch_counts given.config given.app (with_admits (early_arrivals e.trace) (with_admits (lines_at given.arrivals k) s)) (served_event t called e.end)
  pub step_is : OsekStep given.config given.app (served_event t called e.end) (with_admits (early_arrivals e.trace) (with_admits (lines_at given.arrivals k) s)) after
  pub related : R (state_arrive (late_arrivals e.trace) e.last) (with_admits (late_arrivals e.trace) after)
  -- the caller goes on, or a task that was preempted does where it stood
  pub resumes : (word_at e.end.core.ram 0 ≡ t + 1)
      ⊎ ((u : ℕ) → word_at e.end.core.ram 0 ≡ u + 1 → passed u ≤ progress e.end (with_admits (late_arrivals e.trace) after))

-- It is a stretch of a run.
pub service_law : (given : Setting) (R : State → System → Type 0) (progress : State → System → ℕ) (passed : Passed) (k : ℕ) (m : State) (s : System) (t : ℕ) (called : Service) (most : ℕ)
    (Effect : List ℕ → State → State → Type 0) (e : Masking given.arrivals most k m Effect) → ServesFrom given R progress passed k m s t called most Effect e
    → StretchLaw given R progress passed passed k m s e.next e.trace e.end
service_law given R progress passed k m s t called most Effect e h =
    let n = state_with_arrivals given.arrivals k m in
    let admits = lines_at given.arrivals k in
    let first = seen_step_at given k m e.next in
    record {
      finds = h.enabled;
      goes = e.goes;
      starts = begins_masked k n e.next h.enabled e.off;
      more = e.more;
      few = let l = e.few in let s = h.short in subst (λ o. suc e.more ≤ stretch_limit given.config (later_beginning o)) (sym h.none) (omega arith);
      steps = e.steps;
      ends = h.ends;
      lines = h.lines;
      few_lines = subst (λ o. length h.lines ≤ touch_limit given.config (later_beginning o)) (sym h.none) h.few_lines;
      touches_first = subst (λ o. IfSome o (Contains h.lines)) (sym h.untouched) tt;
      touches = h.touches;
      what = served_event t called e.end;
      named = both_named (word_at m.core.ram 0) t called (slice_index e.end.core.registers 10) (t + 1 == word_at e.end.core.ram 0) h.runs;
      what_is = λ last regs cur.
          opened_event given.view k n e.next last h.mark h.after_boot h.none h.at_mark
          ∙ ap (λ v. marked_event v given.view h.mark first last) h.opens
          ∙ ap (λ v. service_event v given.view first last) h.is_called
          ∙ ap (λ v. cond (v == last.cur_after) (event.Call (running_task given.view.owners.tasks v) called (slice_index last.regs 10)) (event.Left (running_task given.view.owners.tasks v) called)) h.runs
          ∙ ap (λ v. cond (t + 1 == last.cur_after) (event.Call v called (slice_index last.regs 10)) (event.Left v called)) (task_is given.view.owners.tasks t h.is_task)
          ∙ ap (λ v. cond (t + 1 == v) (event.Call t called (slice_index last.regs 10)) (event.Left t called)) cur
          ∙ ap (λ v. cond (t + 1 == word_at e.end.core.ram 0) (event.Call t called (slice_index v 10)) (event.Left t called)) regs;
      after = h.after;
      within = h.within;
      step_is = h.step_is;
      passes = λ past p. both_pass given (past ++ map admit_event (arrivals_before_event (k + 1) e.trace)) (with_admits (early_arrivals e.trace) (with_admits admits s)) k t called
          (slice_index e.end.core.registers 10) (t + 1 == word_at e.end.core.ram 0)
          (passes_inner given.config given.app past k t (with_admits admits s) e.trace h.few_tasks p (booted_admits admits s ∙ h.booted) h.tasks_alone h.top h.active);
      goes_on = both_go_on passed (word_at m.core.ram 0) (word_at e.end.core.ram 0) (progress m s) (progress e.end (with_admits (late_arrivals e.trace) h.after)) t called
          (slice_index e.end.core.registers 10) (t + 1 == word_at e.end.core.ram 0) refl h.resumes;
      related = subst (λ x. R x (with_admits (late_arrivals e.trace) h.after)) (sym e.late_behind) h.related;
    }

-- ---- which event it is

-- the call is left where the word of the current task has changed
pub shows_left : (t : ℕ) (called : Service) (end : State) → (word_at end.core.ram 0 ≡ t + 1 → ⊥) → served_event t called end ≡ event.Left t called
shows_left t called end h =
    ap (λ b. cond b (event.Call t called (slice_index end.core.registers 10)) (event.Left t called)) (ne_eqb (t + 1) (word_at end.core.ram 0) (λ e. h (sym e)))

-- else it is answered
pub shows_call : (t : ℕ) (called : Service) (end : State) → word_at end.core.ram 0 ≡ t + 1 → served_event t called end ≡ event.Call t called (slice_index end.core.registers 10)
shows_call t called end h =
    ap (λ b. cond b (event.Call t called (slice_index end.core.registers 10)) (event.Left t called)) (eq-eqb (t + 1) (word_at end.core.ram 0) (sym h))
