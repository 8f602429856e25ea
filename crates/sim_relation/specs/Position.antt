-- Where a task stands: its pc, its frames and the registers that an expansion uses.
use Rattle.std.specs.Prelude.{ℕ, ◌+◌, ◌*◌, ◌<◌, ◌≤◌, ◌≡◌, ◌⊎◌, Bool, true, false, cond, List, [], ◌∷◌, length, slice_index, bit_and}
use Rattle.sloth_base.specs.Machine.{State}
use Rattle.sloth_base.specs.Arithmetic.{branch_holds, sum32, hi}
use Rattle.sloth_base.specs.declared.app.App.{App}
use Rattle.sloth_base.specs.declared.app.Call.{Call}
use Rattle.sloth_base.specs.declared.app.Op.{Op}
use Rattle.sloth_base.specs.declared.app.Op.TheVariants as op
use Rattle.sloth_region.specs.Layout.{context_bytes}
use Rattle.rv32_instr.specs.Ram.{word_at}
use Rattle.rv32_expand.specs.Expansion.{item_address, symbol_address, block_address, label_address, mask_of, expansion}
use Rattle.sloth_base.specs.Named.{operation, function}
use Rattle.sloth_base.specs.MemoryMap.{memory_base}
use Rattle.osek_scheduler.specs.State.{Frame, Task}
use Rattle.osek_scheduler.specs.Meaning.{register}
use Rattle.sim_relation.specs.Build.{Build, start_level}

-- what runs, or what a context holds: both look alike
pub record Thread : Type 0 where
  pub pc : ℕ
  pub x2 : ℕ
  pub x : ℕ → ℕ

-- that of a state
abbrev pub thread_of : State → Thread
thread_of state = record { pc = state.pc; x2 = slice_index state.core.registers 2; x = λ i. slice_index state.core.registers i }

-- of the context at an offset: x2 is not stored, for a context lies directly below it
abbrev pub thread_at : List ℕ → ℕ → Thread
thread_at ram place = record { pc = word_at ram place; x2 = memory_base + (place + context_bytes); x = λ i. word_at ram (place + 4 * i) }

-- ---- frames

-- these words stand one after the other
abbrev pub AreWords : List ℕ → ℕ → List ℕ → Type 0
AreWords ram place [] = Unit {0}
AreWords ram place (word ∷ words) = (word_at ram place ≡ word) × AreWords ram (place + 4) words

-- the words of the frame of a function that is called
abbrev pub called_words : App → Op → ℕ
called_words app (op.Invoke callee) = (function app callee).frame_words
called_words app operation = 0

-- the return address of the call at which a frame stands: that of its `auipc`
abbrev pub return_address : Build → Frame → ℕ
return_address b frame =
    item_address b.places frame.func frame.item + 4 * (called_words b.app (operation b.app frame.func frame.item) + 1)

-- the frames outside the innermost, from an offset up to the top: each a return address and its words
abbrev pub AreOuterFrames : Build → List ℕ → List Frame → (place top : ℕ) → Type 0
AreOuterFrames b ram [] place top = place ≡ top
AreOuterFrames b ram (frame ∷ outer) place top =
    (word_at ram place ≡ return_address b frame) × (length frame.words ≡ (function b.app frame.func).frame_words)
    × AreWords ram (place + 4) frame.words × AreOuterFrames b ram outer (place + 4 + 4 * length frame.words) top

-- the frames of a task stand from this place up to its top
abbrev pub AreFrames : Build → List ℕ → Frame → List Frame → (place top : ℕ) → Type 0
AreFrames b ram frame outer place top =
    (length frame.words ≡ (function b.app frame.func).frame_words)
    × AreWords ram place frame.words × AreOuterFrames b ram outer (place + 4 * length frame.words) top

-- ---- inside an expansion

-- the address of a masked index into a symbol, less the low part
pub record HasIndexed (address masked done : ℕ) (th : Thread) : Type 0 where
  pub index : 1 ≤ done → done ≤ 2 → th.x 31 ≡ masked
  pub upper : 2 ≤ done → th.x 30 ≡ hi address * 4096
  pub sum : 3 ≤ done → th.x 31 ≡ sum32 masked (hi address * 4096)

-- the same where the mask has no place in an instruction
pub record HasFarIndexed (mask address masked done : ℕ) (th : Thread) : Type 0 where
  pub upper_mask : done ≡ 1 → th.x 30 ≡ hi mask * 4096
  pub whole_mask : 2 ≤ done → done ≤ 3 → th.x 30 ≡ mask
  pub index : 3 ≤ done → done ≤ 4 → th.x 31 ≡ masked
  pub upper : 4 ≤ done → th.x 30 ≡ hi address * 4096
  pub sum : 5 ≤ done → th.x 31 ≡ sum32 masked (hi address * 4096)

-- either
abbrev pub HasAddress : (mask address masked done : ℕ) → Thread → Type 0
HasAddress mask address masked done th =
    (mask ≤ 2047 → HasIndexed address masked done th) × (2048 ≤ mask → HasFarIndexed mask address masked done th)

-- where a long branch goes on: at `next` where it is not taken
pub record HasTarget (holds : Bool) (next target done : ℕ) (th : Thread) : Type 0 where
  pub upper_next : done ≡ 1 → th.x 31 ≡ hi next * 4096
  pub next_one : 2 ≤ done → done ≤ 3 → th.x 31 ≡ next
  pub taken : 3 ≤ done → done ≤ 4 → holds ≡ true
  pub upper_target : done ≡ 4 → th.x 31 ≡ hi target * 4096
  pub chosen : done ≡ 5 → th.x 31 ≡ cond holds target next

-- the mask of a service
pub record HasMask (mask done : ℕ) (th : Thread) : Type 0 where
  pub upper : done ≡ 1 → th.x 30 ≡ hi mask * 4096
  pub whole : done ≡ 2 → th.x 30 ≡ mask

-- what x30 and x31 hold where so many instructions of the expansion are done, and x2 has not moved
abbrev pub HasScratch : Build → List ℕ → Frame → Op → ℕ → Thread → Type 0
HasScratch b x frame (op.Li rd value) done th = 1 ≤ done → th.x 31 ≡ hi value * 4096
HasScratch b x frame (op.Load width rd symbol offset) done th = 1 ≤ done → th.x 31 ≡ hi (symbol_address b.places symbol + offset) * 4096
HasScratch b x frame (op.Store width rs symbol offset) done th = 1 ≤ done → th.x 31 ≡ hi (symbol_address b.places symbol + offset) * 4096
HasScratch b x frame (op.LoadAt width rd symbol index mask) done th =
    HasAddress mask (symbol_address b.places symbol) (bit_and (register x index) mask) done th
HasScratch b x frame (op.StoreAt width rs symbol index mask) done th =
    HasAddress mask (symbol_address b.places symbol) (bit_and (register x index) mask) done th
HasScratch b x frame (op.Branch kind rs1 rs2 label) done th =
    HasTarget (branch_holds kind (register x rs1) (register x rs2)) (item_address b.places frame.func frame.item + 24)
    (label_address b.app b.places frame.func label) done th
HasScratch b x frame (op.Serve call) done th = HasMask call.mask done th
HasScratch b x frame (op.Alu kind rd rs1 rs2) done th = done ≡ 0
HasScratch b x frame (op.AluImm kind rd rs1 number) done th = done ≡ 0
HasScratch b x frame (op.Lui rd number) done th = done ≡ 0
HasScratch b x frame (op.FrameLoad rd word) done th = done ≡ 0
HasScratch b x frame (op.FrameStore rs word) done th = done ≡ 0
HasScratch b x frame (op.Jump label) done th = done ≡ 0
HasScratch b x frame (op.Invoke callee) done th = done ≡ 0
HasScratch b x frame op.Return done th = done ≡ 0

-- before an instruction of the next item's expansion, so many of which are done
pub record InExpansion (b : Build) (own : Task) (frame : Frame) (th : Thread) : Type 0 where
  pub done : ℕ
  pub within : done < length (expansion b.app b.places frame.func frame.item)
  pub pc : th.pc ≡ item_address b.places frame.func frame.item + 4 * done
  pub scratch : HasScratch b own.registers frame (operation b.app frame.func frame.item) done th

-- at the opening mark of the block of the next item's service
pub record AtBlock (b : Build) (frame : Frame) (th : Thread) : Type 0 where
  pub call : Call
  pub is : operation b.app frame.func frame.item ≡ op.Serve call
  pub pc : th.pc ≡ block_address b.places call.service call.object
  pub returns : th.x 31 ≡ item_address b.places frame.func frame.item + 4 * length (expansion b.app b.places frame.func frame.item)
  pub mask : length (mask_of call.service call.mask) ≡ 2 → th.x 30 ≡ call.mask

-- ---- positions; x2 stands at the offset `place`

-- at the next item or its service's block, with the frames from x2 on
pub record IsStanding (b : Build) (ram : List ℕ) (top : ℕ) (own : Task) (frame : Frame) (outer : List Frame) (th : Thread) (place : ℕ) : Type 0 where
  pub free : own.owed ≡ false
  pub frames : AreFrames b ram frame outer place top
  pub here : InExpansion b own frame th ⊎ AtBlock b frame th

-- behind Schedule, before the instruction that masks again
pub record IsOwing (b : Build) (ram : List ℕ) (t : ℕ) (own : Task) (frame : Frame) (outer : List Frame) (th : Thread) (place : ℕ) : Type 0 where
  pub owes : own.owed ≡ true
  pub frames : AreFrames b ram frame outer place (b.top t)
  pub pc : th.pc ≡ b.back
  pub returns : th.x 31 ≡ item_address b.places frame.func frame.item
  pub level : th.x 30 ≡ start_level b t

-- inside a call: x2 is lowered, and the first words of the new frame are stored
pub record IsCalling (b : Build) (ram : List ℕ) (top : ℕ) (own : Task) (frame : Frame) (outer : List Frame) (th : Thread) (place : ℕ) : Type 0 where
  pub free : own.owed ≡ false
  pub callee : ℕ
  pub is : operation b.app frame.func frame.item ≡ op.Invoke callee
  pub done : ℕ
  pub some : 1 ≤ done
  pub within : done ≤ (function b.app callee).frame_words + 3
  pub pc : th.pc ≡ item_address b.places frame.func frame.item + 4 * done
  pub frames : AreFrames b ram frame outer (place + 4 + 4 * (function b.app callee).frame_words) top
  pub zeros : (i : ℕ) → i < (function b.app callee).frame_words → i + 1 < done → word_at ram (place + 4 * i) ≡ 0
  pub linked : (function b.app callee).frame_words + 2 ≤ done → th.x 31 ≡ return_address b frame
  pub stored : (function b.app callee).frame_words + 3 ≤ done
      → word_at ram (place + 4 * (function b.app callee).frame_words) ≡ return_address b frame

-- inside a return: the address is loaded; behind the `addi` nothing is said of the frame that is left
pub record IsReturning (b : Build) (ram : List ℕ) (top : ℕ) (own : Task) (frame : Frame) (outer : List Frame) (th : Thread) (place : ℕ) : Type 0 where
  pub free : own.owed ≡ false
  pub is : operation b.app frame.func frame.item ≡ op.Return
  pub caller : Frame
  pub rest : List Frame
  pub called_by : outer ≡ caller ∷ rest
  pub linked : th.x 31 ≡ return_address b caller
  pub here : (th.pc ≡ item_address b.places frame.func frame.item + 4) × AreFrames b ram frame outer place top
      ⊎ (th.pc ≡ item_address b.places frame.func frame.item + 8) × AreFrames b ram caller rest place top

-- where a task is in its code
pub record IsPosition (b : Build) (ram : List ℕ) (t : ℕ) (own : Task) (th : Thread) (place : ℕ) : Type 0 where
  pub frame : Frame
  pub outer : List Frame
  pub frames : own.frames ≡ frame ∷ outer
  pub inside : frame.item < length (function b.app frame.func).items
  pub here : IsStanding b ram (b.top t) own frame outer th place
      ⊎ (IsOwing b ram t own frame outer th place
      ⊎ (IsCalling b ram (b.top t) own frame outer th place ⊎ IsReturning b ram (b.top t) own frame outer th place))
