-- The last instruction of an item that changes nothing but where the task goes on.
use Rattle.std.proofs.Common.{◌≡◌, ℕ, ◌+◌, ◌<◌, List, [], ◌∷◌, length, refl, sym, ap, ◌∙◌, false, Some, None}
use Rattle.std.specs.Prelude.{slice_index}
use Rattle.sloth_base.specs.Machine.{State}
use Rattle.sloth_base.specs.Named.{operation, function}
use Rattle.sloth_base.specs.declared.app.Op.{Op}
use Rattle.sloth_region.specs.Layout.{cur}
use Rattle.rv32_instr.specs.Execute.{Going, step, touched}
use Rattle.rv32_instr.specs.Ram.{word_at}
use Rattle.rv32_expand.specs.Expansion.{item_address}
use Rattle.rv32_expand.specs.InPlace.{result_register}
use Rattle.osek_scheduler.specs.State.{Frame, Task, System, task}
use Rattle.osek_scheduler.specs.Meaning.{ItemMeaning, meaning}
use Rattle.osek_scheduler.specs.Priority.{IsTop}
use Rattle.osek_scheduler.specs.Steps.{IsAt, IsItemStep}
use Rattle.sim_relation.specs.Build.{Build, HasFittingPlaces}
use Rattle.sim_relation.specs.Context.{IsContext}
use Rattle.sim_relation.specs.Moves.{moved_system, TaskStep}
use Rattle.sim_relation.specs.Position.{AreFrames, thread_of}
use Rattle.sim_relation.specs.Stands.{Stands, IsActiveTask}
use Rattle.sim_relation.proofs.AtItem.{position_first}
use Rattle.sim_relation.proofs.Machines.{kept_machine}
use Rattle.sim_relation.proofs.Placed.{first_by_word, active_by_word}
use Rattle.sim_relation.proofs.TaskSteps.{task_steps}
use Rattle.sim_items.specs.ItemSteps.{RunsItem}

module _ (b : Build) (state : State) (s : System) (t : ℕ) (fits : HasFittingPlaces b) (k : Stands b state s) (current : word_at state.core.ram cur ≡ t + 1) (top : IsTop b.config s [] t)
    (free : (task s t).owed ≡ false) (frame : Frame) (outer : List Frame) (frames : (task s t).frames ≡ frame ∷ outer) (inside : frame.item < length (function b.app frame.func).items)
    (place : ℕ) (context : IsContext b state.core.ram t (task s t) (thread_of state) place) where
  abbrev own : Task
  own = task s t

  abbrev this : Op
  this = operation b.app frame.func frame.item

  active : IsActiveTask b s t
  active = active_by_word b state s t k current

  -- the frames that it leaves, with x2 where it stands
  abbrev pub turned : Frame → List Frame → ItemMeaning
  turned new rest = record { registers = own.registers; frames = new ∷ rest; symbols = s.symbols; result = 0 }

  module _ (new : Frame) (rest : List Frame) (exists : new.item < length (function b.app new.func).items) (stood : AreFrames b state.core.ram new rest place (b.top t))
      (means : meaning b.app this own.registers frame outer s.symbols ≡ Some (turned new rest)) (no_result : result_register this ≡ 0)
      (goes : step state ≡ Going (record { pc = item_address b.places new.func new.item; core = state.core })) (untouched : touched state ≡ None) where
    abbrev next : State
    next = record { pc = item_address b.places new.func new.item; core = state.core }

    abbrev own_now : Task
    own_now = record own { frames = new ∷ rest }

    task_step : TaskStep b state next s t own_now s.symbols
    task_step = record {
      machine = kept_machine b state k.fixed next.pc state.core.registers state.core.ram refl refl k.fixed.bases refl;
      level = refl;
      low = λ i x y. refl;
      code = λ i h. refl;
      others = λ u h m a i x y. refl;
      active = active.active;
      events = refl;
      held = refl;
      raised = refl;
      registers = (k.tidy.each t active.declared).registers;
      place = place;
      context = record {
        x2 = context.x2;
        registers = context.registers;
        position = position_first b state.core.ram t own_now (thread_of next) place new rest refl free exists refl stood;
        room = context.room;
        aligned = context.aligned;
      };
      data_stands = k.data_stands;
    }

    stands_now : Stands b next (moved_system s t own_now s.symbols)
    stands_now = let f = first_by_word b state s t k.stack k.running current in task_steps b state next s k fits t f.0 f.1 own_now s.symbols task_step

    abbrev is_at : IsAt b.app s t this
    is_at = record { active = active.active; free = free; frame = frame; outer = outer; frames = frames; inside = inside; next = refl }

    executes : IsItemStep b.config b.app t frame.func frame.item (slice_index next.core.registers (result_register this)) s (moved_system s t own_now s.symbols)
    executes = record {
      top = top;
      operation = this;
      at = is_at;
      in_function = refl;
      at_item = refl;
      meant = turned new rest;
      means = means;
      shows = sym (ap (λ r. slice_index state.core.registers r) no_result ∙ k.fixed.zero);
      is = refl;
    }

    pub turns : RunsItem b state s t frame.func frame.item
    turns = record {
      next = next;
      goes = goes;
      untouched = untouched;
      after = moved_system s t own_now s.symbols;
      step_is = (k.tidy.booted, executes);
      stands = stands_now;
      current = current;
    }
