-- From the contract of the code of a tick to the stretch of the tick.
use Rattle.std.proofs.Common.{◌≡◌, ℕ, zero, suc, ◌+◌, ◌*◌, ◌<◌, ◌≤◌, List, [], ◌∷◌, length, get_or, refl, sym, ap, ◌∙◌, subst, arith, cond, Option, Some, None}
use Rattle.std.specs.Prelude.{IfSome, Contains, set}
use Rattle.std.specs.List.{AllByRecursion}
use Rattle.std.proofs.lemmas.Bool.{ne_eqb}
use Rattle.std.proofs.lemmas.List.{get_or-set_other, length-set, set_comm}
use Rattle.sloth_base.specs.Arrive.{arrive, state_arrive}
use Rattle.sloth_base.specs.Choose.{choose}
use Rattle.sloth_base.specs.Machine.{Core, State}
use Rattle.sloth_base.specs.Named.{counter_declaration, alarms_of}
use Rattle.sloth_base.specs.Owners.{counter_line, line_kind, owners_in, IsOwned, AreTasks}
use Rattle.sloth_base.specs.Stretches.{later_beginning, stretch_limit, touch_limit}
use Rattle.sloth_base.specs.Take.{take, line_to_take, entry_state, execution_state}
use Rattle.sloth_base.specs.declared.config.AlarmDecl.{AlarmDecl}
use Rattle.sloth_base.specs.declared.service.Arrival.{Arrival}
use Rattle.sloth_base.specs.declared.service.Event.TheVariants as event
use Rattle.sloth_base.specs.declared.numbers.LineKind.TheVariants as line_of
use Rattle.sloth_base.specs.declared.numbers.Step.{Step}
use Rattle.sloth_base.specs.Limits.{task_limit, counter_limit}
use Rattle.sloth_base.specs.MemoryMap.{memory_base, vectors_base}
use Rattle.sloth_base.proofs.Owners.{kind_of_counter, tasks_owned}
use Rattle.sloth_base.proofs.Stretches.{counter_entry_limit, counter_touches}
use Rattle.sloth_region.specs.Layout.{cur}
use Rattle.rv32_instr.specs.Execute.{touched}
use Rattle.rv32_instr.specs.Ram.{word_at}
use Rattle.rv32_machine.specs.Advance.{observed_step}
use Rattle.rv32_machine.specs.Run.{state_with_arrivals}
use Rattle.masked_code.specs.Masked.{Masked, WithArrivals}
use Rattle.masked_code.specs.Place.{offset_state}
use Rattle.masked_code.specs.Trace.{Trace, lines_of, touched_lines, early_arrivals, late_arrivals}
use Rattle.observe.specs.Observe.{View, stretch_event, later_event, entry_event}
use Rattle.service_gen.specs.declared.tick_code.NumberedAlarm.{NumberedAlarm}
use Rattle.service_gen.specs.Alarms.{counter_alarms, targets}
use Rattle.service_gen.proofs.Lengths.{tick_long, tick_few}
use Rattle.service_gen.specs.Tick.{vector, ground, AreTaskBits, MayTick, TickEffect}
use Rattle.osek_scheduler.specs.declared.state.TaskState.TheVariants as mode
use Rattle.osek_scheduler.specs.State.{Clock, Task, System, task, no_counter}
use Rattle.osek_scheduler.specs.Priority.{IsNextTick}
use Rattle.osek_scheduler.specs.Services.{ticked_state}
use Rattle.osek_scheduler.specs.Steps.{settled_state}
use Rattle.osek_blocking.proofs.Frames.{SameFrames, ticked_frames}
use Rattle.sim_induction.specs.Admits.{IsSetting, lines_at, with_admits}
use Rattle.sim_induction.specs.Advances.{Advances}
use Rattle.sim_induction.specs.PieceLaws.{StretchLaw, IsMeasure}
use Rattle.sim_induction.proofs.Follow.{booted_admits}
use Rattle.sim_induction.proofs.Passing.{not_suspended, kept_admits, same_clock}
use Rattle.sim_induction.proofs.Routes.{Entering, entering, touches_parted, begins_entered}
use Rattle.sim_induction.proofs.Schedule.{owned_at}
use Rattle.sim_induction.proofs.StretchPiece.{stretch_advances}
use Rattle.sim_induction.proofs.Traces.{lines_trace, early_touched}
use Rattle.sim_relation.specs.Build.{Build, HasFittingPlaces, with_passed}
use Rattle.sim_relation.specs.Placed.{setting_of}
use Rattle.sim_relation.specs.Progress.{passed_count_of, passed_count_by, progress_in}
use Rattle.sim_relation.specs.Stands.{Stands}
use Rattle.sim_relation.proofs.Arrive.{stands_arrived}
use Rattle.sim_relation.proofs.Choice.{taken_next}
use Rattle.sim_relation.proofs.Contexts.{passed_as}
use Rattle.sim_relation.proofs.Passed.{passed_by_word}
use Rattle.sim_relation.proofs.Placed.{placed_in, code_behind, active_by_word}
use Rattle.sim_routines.proofs.Raising.{active_bit, enabled_bit}
use Rattle.sim_routines.specs.TickSteps.{MayCount, HasTicked, TickStands}
use Rattle.sim_routines.proofs.Acting.{ActsOn}
use Rattle.sim_routines.proofs.Targets.{OnTarget, each_target, each_from, few_targets, length-alarms_from, target_acts}
use Rattle.sim_routines.proofs.Ticked.{each_acts, ticked_stands}
use Rattle.sim_routines.proofs.TickWord.{tick_stays}

-- lines other than this one arrive before or after it is taken
arrive_clear : (n line : ℕ) (lines pending : List ℕ) → n ≤ line → AllByRecursion (λ l. l < n) lines → arrive lines (set pending line 0) ≡ set (arrive lines pending) line 0
arrive_clear n line [] pending h below = refl
arrive_clear n line (l ∷ lines) pending h below =
    let own = below.0 in
    ap (arrive lines) (set_comm pending line l 0 1 (λ e. omega (arith, h, own, e))) ∙ arrive_clear n line lines (set pending l 1) h below.1

-- what holds of all lines that a stretch touches holds of those behind its first instruction
rest_touched : (P : ℕ → Type 0) (o : Option ℕ) (rest : List ℕ) → AllByRecursion P (lines_of o rest) → AllByRecursion P rest
rest_touched P None rest h = h
rest_touched P (Some line) rest h = h.1

-- a list contains its elements
pub contains_all : (lines : List ℕ) → AllByRecursion (Contains lines) lines
contains_all [] = tt
contains_all (x ∷ xs) = ((0, omega arith, refl), deeper xs (contains_all xs))
  where
    deeper : (ys : List ℕ) → AllByRecursion (Contains xs) ys → AllByRecursion (Contains (x ∷ xs)) ys
    deeper [] h = tt
    deeper (y ∷ ys) h = ((suc h.0.0, omega (arith, h.0.1), h.0.2), deeper ys h.1)

module _ (b : Build) (view : View) (arrivals : List Arrival) (setting : IsSetting (setting_of b view arrivals)) (fits : HasFittingPlaces b) (count : ℕ) (late_count : 0 < count)
    (state : State) (s : System) (stands : Stands b state s) (c : ℕ) (chosen : choose (state_with_arrivals arrivals count state).core ≡ Some (counter_line c))
    (may : MayCount b (state_with_arrivals arrivals count state) (with_admits (lines_at arrivals count) s) c) (tick : TickStands b c) where
  abbrev now : State
  now = state_with_arrivals arrivals count state

  abbrev found : System
  found = with_admits (lines_at arrivals count) s

  abbrev k : Stands b now found
  k = may.stands

  abbrev line : ℕ
  line = counter_line c

  abbrev max : ℕ
  max = (counter_declaration b.config c).max

  abbrev alarms : List NumberedAlarm
  alarms = counter_alarms b.config c

  few : length b.config.tasks ≤ task_limit
  few = fits.few_tasks

  number : c < counter_limit
  number = let f = fits.few_counters in let l = may.declared in omega (arith, f, l)

  taken : line_to_take now ≡ Some line
  taken = ap (λ v. cond v (choose now.core) None) k.fixed.open_to_lines ∙ chosen

  abbrev core : Core
  core = (take line now).core

  -- ---- the code may run

  told : (t : ℕ) → t < length b.config.tasks → AreTaskBits (ground core) t
  told t declared =
      let f = few in
      let bit = k.lines.bits t declared in
      let same = get_or-set_other now.core.pending line t 0 0 (λ e. omega (arith, f, declared, e)) in
      record {
        is_task = omega (arith, f, declared);
        active_bit = active_bit b now found k t declared;
        pending_bit = omega (arith, bit, same);
        enabled_bit = enabled_bit b now found k t declared;
      }

  are_tasks : AllByRecursion (λ t. t < length b.config.tasks) (targets alarms)
  are_tasks =
      each_target (λ t. t < length b.config.tasks) alarms
      (each_from (OnTarget (λ t. t < length b.config.tasks)) c 0 b.config.alarms (by b.config.alarms (each_acts b may.range)))
    where
      by : (ds : List AlarmDecl) → AllByRecursion (λ (d : AlarmDecl). ActsOn b d.action) ds → AllByRecursion (λ (d : AlarmDecl). OnTarget (λ t. t < length b.config.tasks) d.action) ds
      by [] h = tt
      by (d ∷ later) h = (target_acts b d.action h.0, by later h.1)

  all_told : AllByRecursion (AreTaskBits (ground core)) (targets alarms)
  all_told = by (targets alarms) are_tasks
    where
      by : (ts : List ℕ) → AllByRecursion (λ t. t < length b.config.tasks) ts → AllByRecursion (AreTaskBits (ground core)) ts
      by [] h = tt
      by (t ∷ ts) h = (told t h.0, by ts h.1)

  may_tick : MayTick tick.offset c alarms tick.code core
  may_tick =
      let f = k.fixed in
      record {
        can_run = record {
          controller = f.controller;
          registers = f.registers;
          zero = f.zero;
          lines = length-set now.core.pending line 0 ∙ f.pending;
          aligned = tick.placed.aligned;
          behind = code_behind b tick.offset tick.code fits (let l = tick.is_tick.size in omega (arith, l)) tick.placed;
          inside = tick.placed.inside;
          placed = placed_in b core.ram tick.offset tick.code f.code tick.placed;
        };
        masked = refl;
        previous = f.open_to_lines;
        bases = f.bases;
        jump = tick.jump;
        vector_word = placed_in b core.ram (vector line) _ f.code tick.vector_word;
        to_code = tick.to_code;
        told = all_told;
      }

  abbrev Effect : List ℕ → State → State → Type 0
  Effect = TickEffect c max alarms

  at_vector : offset_state (vector line) core ≡ execution_state now
  at_vector =
      let e : memory_base + vector line ≡ vectors_base + 4 * line = omega arith in
      ap (λ p. record { pc = p; core = core }) e ∙ sym (ap (λ o. entry_state o now) taken)

  abbrev most : ℕ
  most = length tick.code

  route : Entering arrivals most count state Effect
  route =
      entering arrivals most count state Effect (λ lines from last e. e.left.opened) (ap (λ o. (entry_state o now).core.mie) taken)
      (subst (λ x. Masked (suc most) x (WithArrivals Effect x)) at_vector
      (tick.is_tick.ticks tick.offset core may_tick))

  -- ---- what arrives inside

  abbrev all_touched : List ℕ
  all_touched = lines_of (touched (execution_state now)) (touched_lines route.trace)

  touched_is : all_touched ≡ targets alarms
  touched_is = route.effect.touches

  early_tasks : AreTasks (owners_in b.config) (early_arrivals route.trace)
  early_tasks =
      early_touched (λ l. l < length b.config.tasks) route.trace
      (rest_touched (λ l. l < length b.config.tasks) (touched (execution_state now)) (touched_lines route.trace)
      (subst (AllByRecursion (λ l. l < length b.config.tasks)) (sym touched_is) are_tasks))

  abbrev old : State
  old = state_arrive (early_arrivals route.trace) now

  abbrev then : System
  then = with_admits (early_arrivals route.trace) found

  same_start : state_arrive (early_arrivals route.trace) (take line now) ≡ take line old
  same_start =
      let f = few in
      ap (λ p. record (take line now) { core = record (take line now).core { pending = p } })
      (arrive_clear (length b.config.tasks) line (early_arrivals route.trace) now.core.pending (omega (arith, f)) early_tasks)

  effect : HasTicked b c all_touched old route.last
  effect =
      subst (λ x. Effect all_touched x route.last) same_start
      (subst (λ x. Effect all_touched (state_arrive (early_arrivals route.trace) x) route.last) (ap (λ o. entry_state o now) taken) route.effect)

  clock_same : then.clock ≡ found.clock
  clock_same = same_clock b.config (early_arrivals route.trace) found fits.few_tasks early_tasks

  may_then : MayCount b old then c
  may_then = record {
    range = may.range;
    declared = may.declared;
    stands = stands_arrived b (early_arrivals route.trace) now found fits.few_tasks (tasks_owned (owners_in b.config) (early_arrivals route.trace) early_tasks) k;
    value = subst (λ (x : Clock). (get_or x.counters c no_counter).value ≤ max) (sym clock_same) may.value;
    bytes = may.bytes;
  }

  next_then : IsNextTick b.config then c
  next_then =
      let n = taken_next b now found k c may.declared chosen in
      record {
        declared = n.declared;
        due = ap (λ (x : Clock). (get_or x.counters c no_counter).due) clock_same ∙ n.due;
        is_first = λ d l. ap (λ (x : Clock). (get_or x.counters d no_counter).due) clock_same ∙ n.is_first d l;
      }

  abbrev after : System
  after = settled_state (ticked_state b.config c then)

  ticks : Stands b route.last after
  ticks = ticked_stands b old route.last then c all_touched fits may_then effect

  -- ---- the stretch

  as_many : length alarms ≡ alarms_of b.config c
  as_many = length-alarms_from c 0 b.config.alarms

  kind_is : line_kind view.owners line ≡ line_of.Counter c
  kind_is = ap (λ o. line_kind o line) setting.owners ∙ kind_of_counter (owners_in b.config) c fits.few_tasks may.declared

  event_is : (last : Step) → stretch_event view (observed_step count now route.next) last ≡ event.Tick c
  event_is last =
      ap (λ v. cond v event.Boot (later_event (line_to_take now) view (observed_step count now route.next) last)) (ne_eqb count 0 (λ z. omega (arith, z, late_count)))
      ∙ ap (λ o. later_event o view (observed_step count now route.next) last) taken
      ∙ ap (entry_event line) kind_is

  touches : IfSome (touched (execution_state now)) (Contains (targets alarms)) × AllByRecursion (Contains (targets alarms)) (touched_lines route.trace)
  touches =
      touches_parted (targets alarms) (touched (execution_state now)) (touched_lines route.trace)
      (subst (AllByRecursion (Contains (targets alarms))) (sym touched_is) (contains_all (targets alarms)))

  -- ---- what goes on

  abbrev last_system : System
  last_system = with_admits (late_arrivals route.trace) after

  word_last : word_at route.last.core.ram cur ≡ word_at state.core.ram cur
  word_last = ap (λ r. word_at r cur) effect.left.ram ∙ tick_stays c max alarms (ground (take line old).core)

  word_end : word_at route.end.core.ram cur ≡ word_at state.core.ram cur
  word_end = ap (λ (x : State). word_at x.core.ram cur) route.late_behind ∙ word_last

  pc_end : route.end.pc ≡ state.pc
  pc_end = ap (λ (x : State). x.pc) route.late_behind ∙ effect.pc

  -- the task that runs stays where it stood in its code
  module _ (t : ℕ) (named : word_at state.core.ram cur ≡ t + 1) where
    active_first : (task s t).state ≡ mode.Active
    active_first = (active_by_word b state s t stands named).active

    same_found : task found t ≡ task s t
    same_found = kept_admits (lines_at arrivals count) t s (not_suspended (task s t).state active_first)

    same_then : task then t ≡ task found t
    same_then = kept_admits (early_arrivals route.trace) t found (not_suspended (task found t).state (ap (λ (v : Task). v.state) same_found ∙ active_first))

    ticked : SameFrames (task then t) (task after t)
    ticked = ticked_frames b.config then c may.declared t

    same_last : task last_system t ≡ task after t
    same_last = kept_admits (late_arrivals route.trace) t after (not_suspended (task after t).state (active_by_word b route.last after t ticks (word_last ∙ named)).active)

    measure_of : progress_in b state s ≤ progress_in b route.end last_system
    measure_of =
        let first = passed_by_word b state s t named in
        let last = passed_by_word b route.end last_system t (word_end ∙ named) in
        let owed = ap (λ (v : Task). v.owed) same_last ∙ ticked.owed ∙ ap (λ (v : Task). v.owed) (same_then ∙ same_found) in
        let frames = ap (λ (v : Task). v.frames) same_last ∙ ticked.frames ∙ ap (λ (v : Task). v.frames) (same_then ∙ same_found) in
        let same : passed_count_of b.app b.places route.end.pc (task last_system t) ≡ passed_count_of b.app b.places state.pc (task s t) =
        ap (λ v. passed_count_of b.app b.places v (task last_system t)) pc_end ∙ passed_as b state.pc (task s t) (task last_system t) owed frames in
        omega (arith, first, last, same)

  measure_end : progress_in b state s ≤ progress_in b route.end last_system
  measure_end = by (word_at state.core.ram cur) refl
    where
      by : (word : ℕ) → word_at state.core.ram cur ≡ word → progress_in b state s ≤ progress_in b route.end last_system
      by zero is = let none : progress_in b state s ≡ 0 = ap (passed_count_by b.app b.places state.pc s) is in omega (arith, none)
      by (suc t) is = measure_of t (omega (arith, is))

  -- It is the event Tick, and the states at its end are related.
  stretch : StretchLaw (setting_of b view arrivals) (Stands b) (progress_in b) b.passed b.passed count state s route.next route.trace route.end
  stretch =
      let in_range = lines_trace (IsOwned (owners_in b.config)) route.more (count + 1) (lines_at arrivals) route.next route.trace route.end (owned_at (setting_of b view arrivals) setting) route.steps in
      record {
        finds = stands.fixed.open_to_lines;
        goes = route.goes;
        starts = begins_entered count now route.next line taken;
        more = route.more;
        few =
            let f = route.few in
            let n = as_many in
            let size = tick.is_tick.size in
            let long = tick_long c max b.config.alarms in
            let short = tick_few c max alarms in
            let limit = counter_entry_limit b.config c fits.few_tasks may.declared in
            subst (λ o. suc route.more ≤ stretch_limit b.config (later_beginning o)) (sym taken) (omega (arith, f, n, size, long, short, limit));
        steps = route.steps;
        ends = route.ends;
        lines = targets alarms;
        few_lines =
            let f = few_targets alarms in
            let n = as_many in
            let limit = counter_touches b.config c fits.few_tasks may.declared in
            subst (λ o. length (targets alarms) ≤ touch_limit b.config (later_beginning o)) (sym taken) (omega (arith, f, n, limit));
        touches_first = touches.0;
        touches = touches.1;
        what = event.Tick c;
        named = tt;
        what_is = λ last p q. event_is last;
        after = after;
        within = let f = route.few in let size = tick.is_tick.size in omega (arith, f, size);
        step_is = (may_then.stands.tidy.booted, next_then, refl);
        passes = λ past h. tt;
        goes_on = (word_end, measure_end, refl);
        related = subst (λ x. Stands b x (with_admits (late_arrivals route.trace) after)) (sym route.late_behind)
            (stands_arrived b (late_arrivals route.trace) route.last after fits.few_tasks in_range.1 ticks);
      }

  pub stretches : (next : State) × (trace : Trace) × (end : State) × StretchLaw (setting_of b view arrivals) (Stands b) (progress_in b) b.passed b.passed count state s next trace end
  stretches = (route.next, route.trace, route.end, stretch)

  -- the run goes on from the taken line to where interrupts are open again
  pub tick_advances : IsMeasure (setting_of b view arrivals) (progress_in b) state s
      → Advances (setting_of b view arrivals) (λ p. Stands (with_passed b p)) (progress_in b) b.passed count state s
  tick_advances measure =
      let h = stretches in
      stretch_advances (setting_of b view arrivals) setting (λ p. Stands (with_passed b p)) (progress_in b) b.passed b.passed count late_count state s h.0 h.1 h.2 h.3
      stands.tidy.booted (sym (booted_admits (late_arrivals h.1) h.3.after) ∙ h.3.related.tidy.booted) measure
