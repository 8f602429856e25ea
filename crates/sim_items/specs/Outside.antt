-- Items and the idle loop as instructions of a run outside the stretches.
use Rattle.std.specs.Prelude.{ℕ, ◌+◌, ◌^◌, ◌<◌, ◌≤◌, ◌≡◌, ◌⊎◌, List, [], ◌∷◌, length, Some, None}
use Rattle.sloth_base.specs.declared.app.Call.{Call}
use Rattle.sloth_base.specs.declared.app.Op.TheVariants as op
use Rattle.sloth_base.specs.declared.service.Arrival.{Arrival}
use Rattle.sloth_base.specs.declared.image.Mark.{Mark}
use Rattle.sloth_base.specs.declared.image.MarkKind.TheVariants as kind
use Rattle.sloth_base.specs.Choose.{choose}
use Rattle.sloth_base.specs.Machine.{State}
use Rattle.sloth_region.specs.Layout.{cur}
use Rattle.rv32_instr.specs.declared.InstrKind.{InstrKind}
use Rattle.rv32_instr.specs.Ram.{word_at}
use Rattle.rv32_machine.specs.Run.{state_with_arrivals}
use Rattle.rv32_expand.specs.Expansion.{item_address, block_address, mask_of, number_in, expansion}
use Rattle.sloth_base.specs.Named.{operation, function}
use Rattle.sloth_base.specs.MemoryMap.{memory_base, memory_bytes}
use Rattle.observe.specs.Observe.{View, mark_at}
use Rattle.vector_gen.specs.Idle.{IsIdleCode}
use Rattle.osek_scheduler.specs.State.{Frame, System}
use Rattle.osek_scheduler.specs.Valid.{AreCalls}
use Rattle.sim_induction.specs.Admits.{IsSetting, lines_at, with_admits}
use Rattle.sim_induction.specs.PieceLaws.{OutsideLaw}
use Rattle.sim_relation.specs.Build.{Build, HasFittingPlaces}
use Rattle.sim_relation.specs.Stands.{Stands}
use Rattle.sim_relation.specs.Placed.{setting_of}
use Rattle.sim_relation.specs.Placed.{IsPlaced}
use Rattle.sim_items.specs.Place.{AtItem, InCall, InReturn, ItemStands, FunctionStands, IsStraight, IsFlow, IsCall, IsReturn, HasNumbers}
use Rattle.sim_items.specs.Progress.{progress_in}

-- a state at a count from 1 on, which stands
pub record StandsAt (b : Build) (view : View) (arrivals : List Arrival) (count : ℕ) (state : State) (s : System) : Type 0 where
  pub fits : HasFittingPlaces b
  pub setting : IsSetting (setting_of b view arrivals)
  pub after_boot : 0 < count
  pub stands : Stands b state s
  -- with the arrivals of the count no line is taken
  pub none : choose (state_with_arrivals arrivals count state).core ≡ None

-- the law of one instruction there
abbrev pub GoesOutside : Build → View → List Arrival → (State → System → ℕ) → ℕ → State → System → Type 0
GoesOutside b view arrivals progress count state s = (next : State) × OutsideLaw (setting_of b view arrivals) (Stands b) progress count state s next

-- ---- an item behind which the next one follows

-- its last instruction advances the run
abbrev pub StraightItemsGoOn : Type 0
StraightItemsGoOn = (b : Build) (view : View) (arrivals : List Arrival) (count : ℕ) (state : State) (s : System) (t : ℕ)
    → StandsAt b view arrivals count state s → (here : AtItem b (state_with_arrivals arrivals count state) (with_admits (lines_at arrivals count) s) t)
    → HasNumbers b (state_with_arrivals arrivals count state) (with_admits (lines_at arrivals count) s)
    → IsStraight b.app here.frame.func (operation b.app here.frame.func here.frame.item) → ItemStands b view here.frame.func here.frame.item
    → here.here.done + 1 ≡ length (expansion b.app b.places here.frame.func here.frame.item)
    → here.frame.item + 1 < length (function b.app here.frame.func).items
    → GoesOutside b view arrivals (progress_in b) count state s

-- an instruction before its last one shows nothing, and makes progress
abbrev pub ExpansionsGoOn : Type 0
ExpansionsGoOn = (b : Build) (view : View) (arrivals : List Arrival) (count : ℕ) (state : State) (s : System) (t : ℕ)
    → StandsAt b view arrivals count state s → (here : AtItem b (state_with_arrivals arrivals count state) (with_admits (lines_at arrivals count) s) t)
    → IsStraight b.app here.frame.func (operation b.app here.frame.func here.frame.item) → ItemStands b view here.frame.func here.frame.item
    → here.here.done + 1 < length (expansion b.app b.places here.frame.func here.frame.item)
    → GoesOutside b view arrivals (progress_in b) count state s

-- ---- a jump or a branch

-- each instruction of it advances the run: the last one shows its Run event
abbrev pub FlowingItemsGoOn : Type 0
FlowingItemsGoOn = (b : Build) (view : View) (arrivals : List Arrival) (count : ℕ) (state : State) (s : System) (t : ℕ)
    → StandsAt b view arrivals count state s → (here : AtItem b (state_with_arrivals arrivals count state) (with_admits (lines_at arrivals count) s) t)
    → IsFlow b.app here.frame.func here.frame.item (operation b.app here.frame.func here.frame.item) → FunctionStands b view here.frame.func
    → GoesOutside b view arrivals (progress_in b) count state s

-- ---- calls and returns

-- the first instruction of a call shows nothing, and makes progress; its task's frames are a chain of calls
abbrev pub CallsBegin : Type 0
CallsBegin = (b : Build) (view : View) (arrivals : List Arrival) (count : ℕ) (state : State) (s : System) (t callee : ℕ)
    → StandsAt b view arrivals count state s → (here : AtItem b (state_with_arrivals arrivals count state) (with_admits (lines_at arrivals count) s) t)
    → IsCall b view here.frame.func here.frame.item callee → AreCalls b.app t (here.frame ∷ here.outer)
    → GoesOutside b view arrivals (progress_in b) count state s

-- each further one advances the run: the last one shows its Run event
abbrev pub CallsGoOn : Type 0
CallsGoOn = (b : Build) (view : View) (arrivals : List Arrival) (count : ℕ) (state : State) (s : System) (t : ℕ)
    → StandsAt b view arrivals count state s → (here : InCall b (state_with_arrivals arrivals count state) (with_admits (lines_at arrivals count) s) t)
    → IsCall b view here.frame.func here.frame.item here.calling.callee → GoesOutside b view arrivals (progress_in b) count state s

-- the first instruction of a return to a caller
abbrev pub ReturnsBegin : Type 0
ReturnsBegin = (b : Build) (view : View) (arrivals : List Arrival) (count : ℕ) (state : State) (s : System) (t : ℕ) (caller : Frame) (rest : List Frame)
    → StandsAt b view arrivals count state s → (here : AtItem b (state_with_arrivals arrivals count state) (with_admits (lines_at arrivals count) s) t)
    → here.outer ≡ caller ∷ rest → IsReturn b view here.frame.func here.frame.item caller → GoesOutside b view arrivals (progress_in b) count state s

-- each further one: the last one shows its Run event
abbrev pub ReturnsGoOn : Type 0
ReturnsGoOn = (b : Build) (view : View) (arrivals : List Arrival) (count : ℕ) (state : State) (s : System) (t : ℕ)
    → StandsAt b view arrivals count state s → (here : InReturn b (state_with_arrivals arrivals count state) (with_admits (lines_at arrivals count) s) t)
    → IsReturn b view here.frame.func here.frame.item here.returning.caller → GoesOutside b view arrivals (progress_in b) count state s

-- ---- the jump to a service that has no mask

-- the item is a call without a mask; the block is in RAM, apart from the jump
pub record JumpsToService (b : Build) (func item : ℕ) : Type 0 where
  pub call : Call
  pub is : operation b.app func item ≡ op.Serve call
  pub no_mask : mask_of call.service call.mask ≡ []
  pub block : ℕ
  pub block_is : block_address b.places call.service call.object ≡ memory_base + block
  pub in_ram : block < memory_bytes
  pub apart : (memory_base + block < item_address b.places func item) ⊎ (item_address b.places func item + 4 ≤ memory_base + block)

-- It leads to the opening mark of the block, and makes progress.
abbrev pub ServiceJumpsGoOn : Type 0
ServiceJumpsGoOn = (b : Build) (view : View) (arrivals : List Arrival) (count : ℕ) (state : State) (s : System) (t : ℕ)
    → StandsAt b view arrivals count state s → (here : AtItem b (state_with_arrivals arrivals count state) (with_admits (lines_at arrivals count) s) t)
    → ItemStands b view here.frame.func here.frame.item → JumpsToService b here.frame.func here.frame.item
    → GoesOutside b view arrivals (progress_in b) count state s

-- ---- the same with a mask

-- the register of the mask of a service's events
abbrev pub mask_register : ℕ
mask_register = 30

-- the item is a call with a mask of events, a word; the block is in RAM, apart from the item
pub record JumpsWithMask (b : Build) (func item : ℕ) : Type 0 where
  pub call : Call
  pub is : operation b.app func item ≡ op.Serve call
  pub has_mask : mask_of call.service call.mask ≡ number_in mask_register call.mask
  pub is_word : call.mask < 2 ^ 32
  pub block : ℕ
  pub block_is : block_address b.places call.service call.object ≡ memory_base + block
  pub in_ram : block < memory_bytes
  pub apart : (memory_base + block < item_address b.places func item) ⊎ (item_address b.places func item + 12 ≤ memory_base + block)

-- Each instruction of it makes progress; the last one leads to the opening mark of the block, with the mask in its register.
abbrev pub MaskedJumpsGoOn : Type 0
MaskedJumpsGoOn = (b : Build) (view : View) (arrivals : List Arrival) (count : ℕ) (state : State) (s : System) (t : ℕ)
    → StandsAt b view arrivals count state s → (here : AtItem b (state_with_arrivals arrivals count state) (with_admits (lines_at arrivals count) s) t)
    → ItemStands b view here.frame.func here.frame.item → JumpsWithMask b here.frame.func here.frame.item
    → GoesOutside b view arrivals (progress_in b) count state s

-- ---- the idle loop

-- it stands in the image, with its mark
pub record HasIdle (b : Build) (view : View) : Type 0 where
  pub code : List InstrKind
  pub idles : IsIdleCode code
  pub offset : ℕ
  pub is : b.idle ≡ memory_base + offset
  pub placed : IsPlaced b offset code
  pub mark : Mark
  pub marked : mark_at view b.idle ≡ Some mark
  pub shows : mark.kind ≡ kind.Idle

-- an instruction of the idle loop advances the run
abbrev pub IdleGoesOn : Type 0
IdleGoesOn = (b : Build) (view : View) (arrivals : List Arrival) (count : ℕ) (state : State) (s : System)
    → StandsAt b view arrivals count state s → word_at state.core.ram cur ≡ 0 → HasIdle b view → GoesOutside b view arrivals (progress_in b) count state s
