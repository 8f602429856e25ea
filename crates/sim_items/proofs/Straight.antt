-- The last instruction of an item behind which the next one follows.
use Rattle.std.proofs.Common.{◌≡◌, ℕ, zero, suc, ◌+◌, ◌*◌, ◌<◌, List, [], ◌∷◌, length, set, refl, sym, ap, ◌∙◌, subst, arith, None, Bool}
use Rattle.std.specs.Prelude.{slice_index}
use Rattle.sloth_base.specs.declared.app.Op.{Op}
use Rattle.sloth_base.specs.Machine.{Core, State}
use Rattle.sloth_region.specs.Layout.{cur}
use Rattle.rv32_instr.specs.Encode.{Encode}
use Rattle.rv32_instr.specs.Execute.{Going, step, touched, with_register}
use Rattle.masked_code.specs.Place.{offset_state}
use Rattle.masked_code.proofs.Machine.{Here, step_at, touched_at, next_at}
use Rattle.rv32_expand.specs.Expansion.{item_address, is_long, expansion}
use Rattle.sloth_base.specs.Named.{operation, function}
use Rattle.sloth_base.specs.MemoryMap.{memory_base}
use Rattle.rv32_expand.specs.InPlace.{result_register}
use Rattle.osek_scheduler.specs.declared.state.TaskState.TheVariants as mode
use Rattle.osek_scheduler.specs.State.{Frame, Task, System, task}
use Rattle.observe.specs.Observe.{View}
use Rattle.osek_scheduler.specs.Priority.{IsTop}
use Rattle.osek_scheduler.specs.Meaning.{ItemMeaning}
use Rattle.osek_scheduler.specs.Meaning as meaning
use Rattle.osek_scheduler.specs.Steps.{IsAt, IsItemStep}
use Rattle.sim_relation.specs.Build.{Build, HasFittingPlaces}
use Rattle.sim_relation.specs.Position.{thread_of}
use Rattle.sim_relation.specs.Context.{IsContext}
use Rattle.sim_relation.specs.Stands.{Stands}
use Rattle.sim_relation.specs.Moves.{moved_system, TaskStep, SameMachine}
use Rattle.sim_relation.proofs.Framing.{word_kept}
use Rattle.sim_relation.proofs.AtItem.{position_first}
use Rattle.sim_relation.proofs.Placed.{first_by_word, active_by_word}
use Rattle.sim_relation.proofs.TaskSteps.{task_steps}
use Rattle.sim_items.specs.Place.{AtItem, HasInstruction, HasInstructions, HasNumbers, ItemStands, IsStraight}
use Rattle.sim_items.specs.ItemSteps.{RunsItem}
use Rattle.sim_items.proofs.InRam.{code_here, behind}
use Rattle.sim_items.proofs.Doing.{Does, does}
use Rattle.sim_items.proofs.Registers.{Wrote, wrote}

module _ (b : Build) (view : View) (state : State) (s : System) (t : ℕ) (fits : HasFittingPlaces b) (k : Stands b state s) (here : AtItem b state s t) (top : IsTop b.config s [] t)
    (numbers : HasNumbers b state s) (is : IsStraight b.app here.frame.func (operation b.app here.frame.func here.frame.item))
    (placed : ItemStands b view here.frame.func here.frame.item)
    (last : here.here.done + 1 ≡ length (expansion b.app b.places here.frame.func here.frame.item))
    (more : here.frame.item + 1 < length (function b.app here.frame.func).items) where
  abbrev frame : Frame
  frame = here.frame

  abbrev address : ℕ
  address = item_address b.places frame.func frame.item

  abbrev own : Task
  own = task s t

  abbrev this : Op
  this = operation b.app frame.func frame.item

  abbrev long : Bool
  long = is_long b.places frame.func frame.item

  done : Does b state s t here long this
  done = does b state s t fits k here numbers long this is here.here.scratch last

  -- the rest over the parts of this record
  module _ (v : Does b state s t here long this) where
    instruction : HasInstruction b (address + 4 * length v.before) v.kind
    instruction = behind b v.before v.kind [] address (subst (HasInstructions b address) v.expands placed.code)

    code : Here state.core.ram instruction.offset v.kind
    code = code_here b state s (address + 4 * length v.before) v.kind k instruction

    abbrev core_now : Core
    core_now = record (with_register state.core v.rd v.value) { ram = v.ram }

    abbrev next : State
    next = offset_state (instruction.offset + 4) core_now

    state_is : state ≡ offset_state instruction.offset state.core
    state_is =
        let p = here.here.pc in
        let l = v.last in
        let i = instruction.is in
        let e : state.pc ≡ memory_base + instruction.offset = omega arith in
        ap (λ a. record { pc = a; core = state.core }) e

    stepped : step state ≡ Going next
    stepped =
        ap step state_is ∙ step_at instruction.offset state.core v.kind code
        ∙ v.performs (Encode v.kind) (memory_base + instruction.offset)
        ∙ next_at instruction.offset core_now code.1

    untouched : touched state ≡ None
    untouched = ap touched state_is ∙ touched_at instruction.offset state.core v.kind code.0 ∙ v.quiet (memory_base + instruction.offset)

    w : Wrote state.core.registers own.registers v.rd v.value next.core.registers (meaning.with_register own.registers v.rd v.value)
    w = wrote state.core own.registers v.rd v.value k.fixed.registers k.fixed.zero (k.tidy.each t top.declared).registers here.context.registers v.is_own

    abbrev moved : Frame
    moved = record frame { item = frame.item + 1; words = v.words }

    abbrev own_now : Task
    own_now = record own { registers = meaning.with_register own.registers v.rd v.value; frames = moved ∷ here.outer }

    -- nothing but registers and RAM changes
    core_kept : (P : Core → Type 0) → ((rs : List ℕ) → P (record state.core { registers = rs; ram = v.ram })) → P next.core
    core_kept P h = by v.rd
      where
        by : (r : ℕ) → P (record (with_register state.core r v.value) { ram = v.ram })
        by zero = h state.core.registers
        by (suc r) = h (set state.core.registers (suc r) v.value)

    same_machine : SameMachine state next
    same_machine = record {
      ram = v.kept.long;
      registers = w.long ∙ sym k.fixed.registers;
      zero = w.zero;
      pending = core_kept (λ c. c.pending ≡ state.core.pending) (λ rs. refl);
      enabled = core_kept (λ c. c.enabled ≡ state.core.enabled) (λ rs. refl);
      levels = core_kept (λ c. c.levels ≡ state.core.levels) (λ rs. refl);
      controller = core_kept (λ c. c.controller ≡ state.core.controller) (λ rs. refl);
      open_to_lines = core_kept (λ c. c.mie ≡ state.core.mie) (λ rs. refl) ∙ k.fixed.open_to_lines;
      previous = core_kept (λ c. c.mpie ≡ state.core.mpie) (λ rs. refl) ∙ k.fixed.previous;
      same_level = core_kept (λ c. c.plevel ≡ c.ilevel) (λ rs. k.fixed.same_level);
      bases = (w.x3 ∙ k.fixed.bases.0, w.x4 ∙ k.fixed.bases.1);
    }

    next_pc : next.pc ≡ item_address b.places frame.func (frame.item + 1)
    next_pc =
        let i = instruction.is in
        let a = placed.adjacent more in
        let d = v.last in
        let l = last in
        omega arith

    context_now : IsContext b v.ram t own_now (thread_of next) here.place
    context_now = record {
      x2 = w.x2 ∙ here.context.x2;
      registers = w.same;
      position = position_first b v.ram t own_now (thread_of next) here.place moved here.outer refl here.free more next_pc v.stood;
      room = here.context.room;
      aligned = here.context.aligned;
    }

    active_is : (task s t).state ≡ mode.Active
    active_is = (active_by_word b state s t k here.current).active

    task_step : TaskStep b state next s t own_now v.symbols
    task_step = record {
      machine = same_machine;
      level = core_kept (λ c. c.ilevel ≡ state.core.ilevel) (λ rs. refl);
      low = v.kept.low;
      code = v.kept.code;
      others = v.kept.others;
      active = active_is;
      events = refl;
      held = refl;
      raised = refl;
      registers = w.own_long;
      place = here.place;
      context = context_now;
      data_stands = v.data_stands;
    }

    stands_now : Stands b next (moved_system s t own_now v.symbols)
    stands_now = let f = first_by_word b state s t k.stack k.running here.current in task_steps b state next s k fits t f.0 f.1 own_now v.symbols task_step

    abbrev meant : ItemMeaning
    meant = record {
      registers = meaning.with_register own.registers v.rd v.value;
      frames = moved ∷ here.outer;
      symbols = v.symbols;
      result = v.result;
    }

    abbrev is_at : IsAt b.app s t this
    is_at = record { active = active_is; free = here.free; frame = frame; outer = here.outer; frames = here.frames; inside = here.inside; next = refl }

    executes : IsItemStep b.config b.app t frame.func frame.item (slice_index next.core.registers (result_register this)) s (moved_system s t own_now v.symbols)
    executes = record {
      top = top;
      operation = this;
      at = is_at;
      in_function = refl;
      at_item = refl;
      meant = meant;
      means = v.means;
      shows = v.shows;
      is = refl;
    }

    runs_by : RunsItem b state s t frame.func frame.item
    runs_by = record {
      next = next;
      goes = stepped;
      untouched = untouched;
      after = moved_system s t own_now v.symbols;
      step_is = (k.tidy.booted, executes);
      stands = stands_now;
      current = word_kept state.core.ram next.core.ram 0 1024 cur v.kept.low (omega arith) (omega arith) ∙ here.current;
    }

  pub straight_run : RunsItem b state s t frame.func frame.item
  straight_run = runs_by done
