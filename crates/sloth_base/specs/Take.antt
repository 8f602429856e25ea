-- The taking of an interrupt line, before an instruction.
use Rattle.std.specs.Prelude.{ℕ, ◌+◌, ◌*◌, Option, Some, None, false, if◌then◌else◌, slice_index, slice_set}
use Rattle.sloth_base.specs.Machine.{State}
use Rattle.sloth_base.specs.Lines.{Lines}
use Rattle.sloth_base.specs.Choose.{choose}
use Rattle.sloth_base.specs.MemoryMap.{vectors_base}

-- the bytes with the line no longer pending
abbrev pub without_pending : ℕ → Lines → Lines
without_pending line lines = record lines { pending = slice_set lines.pending line 0 }

-- the state after the entry of a line: its vector word is at 4 times its number behind the base of the vectors
abbrev pub take : ℕ → State → State
take line state = record {
  pc = vectors_base + 4 * line;
  core = record state.core {
    mepc = state.pc;
    plevel = state.core.ilevel;
    ilevel = slice_index state.core.levels line;
    mpie = state.core.mie;
    mie = false;
    pending = slice_set state.core.pending line 0;
  };
}

-- the line that is taken before the next instruction; where MIE is 0 there is none
abbrev pub line_to_take : State → Option ℕ
line_to_take state = if state.core.mie then choose state.core else None

-- the state after the entry of a line, if there is one
abbrev pub entry_state : Option ℕ → State → State
entry_state None state = state
entry_state (Some line) state = take line state

-- the state in which the next instruction is executed
abbrev pub execution_state : State → State
execution_state state = entry_state (line_to_take state) state
