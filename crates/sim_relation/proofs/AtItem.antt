-- A task before the first instruction of its next item.
use Rattle.std.proofs.Common.{◌≡◌, ℕ, ◌+◌, ◌<◌, List, ◌∷◌, length, ◌∙◌, arith, inl, false}
use Rattle.std.specs.Prelude.{slice_index}
use Rattle.rv32_instr.specs.Ram.{word_at}
use Rattle.rv32_expand.specs.Expansion.{item_address, is_long}
use Rattle.rv32_expand.proofs.Counts.{expanded_some}
use Rattle.sloth_base.specs.Named.{operation, function}
use Rattle.sloth_base.specs.MemoryMap.{memory_base}
use Rattle.osek_scheduler.specs.State.{Frame, Task}
use Rattle.sim_relation.specs.Build.{Build}
use Rattle.sim_relation.specs.Position.{Thread, AreFrames, InExpansion, IsPosition}
use Rattle.sim_relation.specs.Context.{IsContext, IsRested}
use Rattle.sim_relation.proofs.Framing.{scratch_first}

-- at the address of an item its expansion has not begun
pub at_first : (b : Build) (own : Task) (frame : Frame) (th : Thread) → th.pc ≡ item_address b.places frame.func frame.item → InExpansion b own frame th
at_first b own frame th e = record {
  done = 0;
  within = expanded_some b.app b.places frame.func (item_address b.places frame.func frame.item) (is_long b.places frame.func frame.item) (operation b.app frame.func frame.item);
  pc = omega arith;
  scratch = scratch_first b own.registers frame (operation b.app frame.func frame.item) th;
}

-- a task whose pc is that of its next item has its position there
pub position_first : (b : Build) (ram : List ℕ) (t : ℕ) (own : Task) (th : Thread) (place : ℕ) (frame : Frame) (outer : List Frame)
    → own.frames ≡ frame ∷ outer → own.owed ≡ false → frame.item < length (function b.app frame.func).items
    → th.pc ≡ item_address b.places frame.func frame.item → AreFrames b ram frame outer place (b.top t) → IsPosition b ram t own th place
position_first b ram t own th place frame outer e w l pc f = record {
  frame = frame;
  outer = outer;
  frames = e;
  inside = l;
  here = inl (record { free = w; frames = f; here = inl (at_first b own frame th pc) });
}

-- a task that goes on from its own context; its registers may have changed since
pub rested_context : (b : Build) (ram : List ℕ) (t : ℕ) (own new : Task) (frame : Frame) (outer : List Frame) (place : ℕ) (th : Thread)
    → IsRested b ram t own frame outer place → new.frames ≡ frame ∷ outer → new.owed ≡ false → th.pc ≡ word_at ram place → th.x2 ≡ memory_base + (place + 128)
    → ((i : ℕ) → i < 25 → slice_index new.registers i ≡ th.x (i + 5)) → IsContext b ram t new th (place + 128)
rested_context b ram t own new frame outer place th r e w pc x2 x =
    let room = r.room in
    let a = r.aligned in
    record {
      x2 = x2;
      registers = x;
      position = position_first b ram t new th (place + 128) frame outer e w r.inside (pc ∙ r.pc) r.frames;
      room = omega arith;
      aligned = omega arith;
    }
